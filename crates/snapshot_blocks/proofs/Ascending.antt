-- Entries ascend where each is below the next.
use Rattle.std.proofs.Common.{◌≡◌, ℕ, zero, suc, ◌<◌, Bool, true, false, ◌&&◌, List, [], ◌∷◌, length, get_or, refl, sym, ap, subst, arith, add-one}
use Rattle.std.specs.Prelude.{MatchBool}
use Rattle.std.specs.List.{IsAllAdjacentAnswer}
use Rattle.std.specs.Cmp.Lexicographic.{slice_cmp, nat_list_cmp_total}
use Rattle.std.specs.Ordering.{is_lt, nat_cmp}
use Rattle.std.specs.declared.cmp.Ordering.{Ordering}
use Rattle.std.specs.declared.cmp.Ordering.TheVariants.{Less, Equal, Greater}
use Rattle.std.specs.FinMap.Entries.{is_sorted, below_all}
use Rattle.tree_model.proofs.Sound.{both_true}
use Rattle.log_model.proofs.Lists.{both}
use Rattle.snapshot_model.specs.Blocks.{Ascend}
use Rattle.snapshot_blocks.specs.Parsed.{entries_of}
use Rattle.snapshot_blocks.specs.declared.entries.Entry.{Entry}

abbrev pub is_below : Entry → Entry → Bool
is_below a b = is_lt (slice_cmp nat_cmp a.name.now b.name.now)

less : (o : Ordering) → is_lt o ≡ true → o ≡ Less
less Less h = refl
less Equal h = cc
less Greater h = cc

below_trans : (a b c : Entry) → is_below a b ≡ true → is_below b c ≡ true → is_below a c ≡ true
below_trans a b c p q = ap is_lt (nat_list_cmp_total.trans a.name.now b.name.now c.name.now (less (slice_cmp nat_cmp a.name.now b.name.now) p) (less (slice_cmp nat_cmp b.name.now c.name.now) q))

abbrev all_behind : Entry → List Entry → Bool
all_behind a es = below_all (slice_cmp nat_cmp) a.name.now (entries_of es)

abbrev in_order : List Entry → Bool
in_order es = is_sorted (slice_cmp nat_cmp) (entries_of es)

behind_all : (a b : Entry) (cs : List Entry) → is_below a b ≡ true → all_behind b cs ≡ true → all_behind a cs ≡ true
behind_all a b [] p q = refl
behind_all a b (c ∷ cs) p q =
    let each = both_true (is_below b c) (all_behind b cs) q in
    both (is_below a c) (all_behind a cs) (below_trans a b c p each.0) (behind_all a b cs p each.1)

ascends : (es : List Entry) → ((k : ℕ) (d : Entry) → suc k < length es → true ≡ is_below (get_or es k d) (get_or es (suc k) d)) → in_order es ≡ true
ascends [] h = refl
ascends (a ∷ []) h = refl
ascends (a ∷ b ∷ cs) h =
    let rest : in_order (b ∷ cs) ≡ true = ascends (b ∷ cs) (λ k d within. h (suc k) d (omega arith)) in
    let first : is_below a b ≡ true = sym (h 0 a (omega arith)) in
    let after = both_true (all_behind b cs) (in_order cs) rest in
    both (is_below a b && all_behind a cs) (in_order (b ∷ cs)) (both (is_below a b) (all_behind a cs) first (behind_all a b cs first after.0)) rest

first_false : (a b : Bool) → a ≡ false → (a && b) ≡ false
first_false true b h = cc
first_false false b h = refl

second_false : (a b : Bool) → b ≡ false → (a && b) ≡ false
second_false true b h = h
second_false false b h = refl

falls : (es : List Entry) (k : ℕ) → suc k < length es → ((d : Entry) → false ≡ is_below (get_or es k d) (get_or es (suc k) d)) → in_order es ≡ false
falls [] k within h = absurd (omega (arith, within))
falls (a ∷ []) k within h = absurd (omega (arith, within))
falls (a ∷ b ∷ cs) zero within h =
    first_false (is_below a b && all_behind a cs) (in_order (b ∷ cs)) (first_false (is_below a b) (all_behind a cs) (sym (h a)))
falls (a ∷ b ∷ cs) (suc k) within h =
    second_false (is_below a b && all_behind a cs) (in_order (b ∷ cs)) (falls (b ∷ cs) k (omega (arith, within)) h)

-- what `is_sorted_by` answers
pub ascend_from : (es : List Entry) (r : Bool) → IsAllAdjacentAnswer (λ x y b. b ≡ is_below x y) es r → MatchBool r (Ascend (entries_of es)) (Ascend (entries_of es) → ⊥)
ascend_from es true h = ascends es (λ k d within. let R : ℕ → Type 0 = λ j. true ≡ is_below (get_or es k d) (get_or es j d) in subst R (add-one k) (h k d (omega arith)))
ascend_from es false h =
    let k = h.0 in
    let no = falls es k (omega (arith, h.1)) (λ d. let R : ℕ → Type 0 = λ j. false ≡ is_below (get_or es k d) (get_or es j d) in subst R (add-one k) (h.2 d)) in
    λ yes. absurd (cc (no, yes))
