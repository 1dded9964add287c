-- The chains of one leaf on their way.
use Rattle.std.proofs.Common.{◌≡◌, ℕ, ◌+◌, ◌-◌, ◌<◌, ◌≤◌, List, [], length, replicate, set, slice_index, refl, sym, subst, ap, ◌∙◌, arith, inl, inr, add-one}
use Rattle.std.specs.Prelude.{slice_set}
use Rattle.std.proofs.lemmas.Bool.{cases_lt}
use Rattle.std.proofs.lemmas.List.{get_or-replicate, get_or-set_same, get_or-set_other}
use Rattle.hash_signature_model.specs.Parameters.{chains, top}
use Rattle.hash_signature_model.specs.declared.set.Width.{Width}
use Rattle.hash_signature_model.specs.declared.set.Width.TheVariants.{W4, W8}
use Rattle.hash_signature_model.specs.OneTime.{chain, chain_step}
use Rattle.hash_signature_model.proofs.Chains.{chain_start, chain_on}
use Rattle.lms_core.specs.declared.walks.Walks.{Walks}
use Rattle.lms_core.specs.Fours.{AreLanes}
use Rattle.lms_core.specs.Kept.{at}
use Rattle.lms_core.specs.Walks.{HasGone, MayGo, end_in}

-- every width has a place for each of its chains
pub chains_fit : (w : Width) → chains w ≤ 67
chains_fit W4 = omega arith
chains_fit W8 = omega arith

pub top_fits : (w : Width) → top w ≤ 255
top_fits W4 = omega arith
top_fits W8 = omega arith

-- chains that all start at the first step, and chains that all end at the last
pub may_start : (w : Width) (values : List (List ℕ)) (to : List ℕ) → ((i : ℕ) → i < 68 → slice_index to i ≤ top w) → MayGo (record { values = values; from = replicate 68 0; to = to })
may_start w values to bound i lt = (subst (λ (n : ℕ). n ≤ slice_index to i) (sym (get_or-replicate 68 i 0 0 lt)) (omega arith), omega (arith, bound i lt, top_fits w))

pub may_end : (w : Width) (values : List (List ℕ)) (from : List ℕ) (most : ℕ) → most ≡ top w → ((i : ℕ) → i < 68 → slice_index from i ≤ top w) → MayGo (record { values = values; from = from; to = replicate 68 most })
may_end w values from most is bound i lt = subst (λ (n : ℕ). (slice_index from i ≤ n) × (n ≤ 255)) (sym (get_or-replicate 68 i most 0 lt ∙ is)) (bound i lt, top_fits w)

-- a chain's end, where all about the chain is known
pub end_is : (id begun : List ℕ) (leaf number : ℕ) (walks : Walks) (i a b : ℕ) (start : List ℕ) → id ≡ begun → leaf ≡ number → slice_index walks.from i ≡ a → slice_index walks.to i ≡ b → at walks.values i ≡ start
    → end_in id leaf walks i ≡ chain begun number i a (b - a) start
end_is id begun leaf number walks i a b start same_id same_leaf from to value = rw (same_id, same_leaf, from, to, value) refl

-- where one of four lanes gets another place
pub lane_written : (lanes : List ℕ) (lane place : ℕ) → length lanes ≡ 4 → lane < 4 → place < 68 → AreLanes lanes → AreLanes (slice_set lanes lane place)
lane_written lanes lane place four inside there are k lt = elim (cases_lt k lane) [
  | inl low ↦ rw (get_or-set_other lanes lane k place 0 (λ e. omega arith)) (are k lt)
  | inr high ↦ elim (cases_lt lane k) [
    | inl above ↦ rw (get_or-set_other lanes lane k place 0 (λ e. omega arith)) (are k lt)
    | inr same ↦
        let e : lane ≡ k = omega arith in
        subst (λ (j : ℕ). slice_index (slice_set lanes lane place) j < 68) e (rw (get_or-set_same lanes lane place 0 (omega arith)) there)
  ]
]

-- a chain that has not gone
pub chain_none : (id : List ℕ) (leaf i from : ℕ) (value : List ℕ) → value ≡ chain id leaf i from 0 value
unfolding chain
chain_none id leaf i from value = refl

-- a chain that goes one step on
pub chain_more : (id : List ℕ) (leaf i from n : ℕ) (value : List ℕ) → chain id leaf i from (n + 1) value ≡ chain_step id leaf i (from + n) (chain id leaf i from n value)
unfolding chain
chain_more id leaf i from n value = rw add-one refl

-- a chain that goes on from where it stood
pub chain_join : (id : List ℕ) (leaf i a b c : ℕ) (value : List ℕ) → a ≤ b → b ≤ c → chain id leaf i b (c - b) (chain id leaf i a (b - a) value) ≡ chain id leaf i a (c - a) value
chain_join id leaf i a b c value ab bc =
    let there : a + (b - a) ≡ b = omega arith in
    let all : b - a + (c - b) ≡ c - a = omega arith in
    rw (there, all) at (chain_on id leaf i a (b - a) (c - b) value)

-- where no chain has gone a step
pub stays : (id : List ℕ) (leaf : ℕ) (walks : Walks) → MayGo walks → HasGone id leaf walks walks
stays id leaf walks way = record {
  ends = refl;
  chains = λ i lt. record {
    forward = omega arith;
    inside = (way i lt).0;
    reached = sym (chain_start id leaf i (slice_index walks.from i) (at walks.values i));
  };
}

-- those that have gone may go on
pub may_go_on : (id : List ℕ) (leaf : ℕ) (before now : Walks) → MayGo before → HasGone id leaf before now → MayGo now
may_go_on id leaf before now may gone i lt = rw gone.ends ((gone.chains i lt).inside, (may i lt).1)

pub goes_on : (id : List ℕ) (leaf : ℕ) (a b c : Walks) → HasGone id leaf a b → HasGone id leaf b c → HasGone id leaf a c
goes_on id leaf a b c first next = record {
  ends = next.ends ∙ first.ends;
  chains = λ i lt.
      let f = first.chains i lt in
      let n = next.chains i lt in
      record {
        forward = omega (arith, f.forward, n.forward);
        inside = rw first.ends at n.inside;
        reached = n.reached ∙ (ap (λ (v : List ℕ). chain id leaf i (slice_index b.from i) (slice_index c.from i - slice_index b.from i) v) f.reached ∙ chain_join id leaf i _ _ _ _ f.forward n.forward);
      };
}

-- what holds of each place, of its value and of its number, where one value and one number are written
pub one_written : (P : ℕ → List ℕ → ℕ → Type 0) (values : List (List ℕ)) (from : List ℕ) (place : ℕ) (value : List ℕ) (number : ℕ) → place < length values → place < length from
    → P place value number → ((i : ℕ) → i < 68 → P i (at values i) (slice_index from i))
    → (i : ℕ) → i < 68 → P i (at (set values place value) i) (slice_index (slice_set from place number) i)
one_written P values from place value number inside there is known i lt = elim (cases_lt i place) [
  | inl low ↦ rw (get_or-set_other values place i value [] (λ e. omega arith), get_or-set_other from place i number 0 (λ e. omega arith)) (known i lt)
  | inr high ↦ elim (cases_lt place i) [
    | inl above ↦ rw (get_or-set_other values place i value [] (λ e. omega arith), get_or-set_other from place i number 0 (λ e. omega arith)) (known i lt)
    | inr same ↦
        let e : place ≡ i = omega arith in
        subst (λ (j : ℕ). P j (at (set values place value) j) (slice_index (slice_set from place number) j)) e
        (rw (get_or-set_same values place value [] inside, get_or-set_same from place number 0 there) is)
  ]
]

-- the value at the end is the same from where a chain has gone
pub same_end : (id : List ℕ) (leaf : ℕ) (before now : Walks) (i : ℕ) → HasGone id leaf before now → i < 68 → end_in id leaf now i ≡ end_in id leaf before i
same_end id leaf before now i gone lt =
    let way = gone.chains i lt in
    rw (gone.ends, way.reached) (chain_join id leaf i _ _ _ _ way.forward way.inside)
