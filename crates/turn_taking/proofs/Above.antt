-- When new records are above a basis: if the first of a chain is, then the later ones are.
use Rattle.std.proofs.Common.{◌≡◌, ⊎_elim, ℕ, zero, suc, ◌+◌, ◌-◌, ◌<◌, ◌≤◌, min, Bool, true, false, cond, ◌&&◌, List, [], ◌∷◌, length, drop, refl, sym, ap, ◌∙◌, subst, arith, Some, None, lt-ltb, ltb-true, le-leb, leb-true}
use Rattle.std.specs.Prelude.{nat_le, nat_lt}
use Rattle.std.specs.List.{list_all, slice_get}
use Rattle.ivy_base.specs.declared.key.Key.{Key}
use Rattle.ivy_base.specs.declared.key.PubKey.{PubKey}
use Rattle.ivy_base.specs.Naming.{head_key_of}
use Rattle.tree_model.specs.Tree.{same_key}
use Rattle.tree_model.proofs.Sound.{both_true}
use Rattle.log_model.specs.View.{View}
use Rattle.log_model.specs.Vector.{Vector, stamp_at, seq_of, Dominates}
use Rattle.log_model.specs.Record.{Record}
use Rattle.log_model.specs.Rank.{full_vector}
use Rattle.log_model.specs.Chain.{GoesOn, IsGood}
use Rattle.log_model.proofs.Later.{seq_with}
use Rattle.log_model.proofs.Lists.{both}
use Rattle.version_vectors.specs.declared.entry.Entry as kept_entry
use Rattle.version_vectors.specs.Entries.{vector_of}
use Rattle.log_records.specs.declared.record.Record as kept
use Rattle.log_model.specs.Fetched.{owner_of}
use Rattle.log_records.specs.Records.{record_of, records_of}
use Rattle.causal_order.specs.Available.{IsLinked}
use Rattle.agent_model.specs.Standing.{beyond, dominates}
use Rattle.turn_taking.specs.Chains.{AreNumbered, as_chain, is_over}
use Rattle.turn_taking.proofs.Counting.{counted}
use Rattle.turn_taking.proofs.Slices.{first_is}
use Rattle.turn_taking.proofs.There.{beyond_cases}

-- ---- one record

or_true : (b c : Bool) → c ≡ true → b ≡ (b && c)
or_true true c e = sym e
or_true false c e = refl

by_entries : (r : Record) (log : Key) (es : List kept_entry.Entry) → log ≡ head_key_of r.owner → stamp_at r.vector log ≡ None
    → list_all (λ e. nat_le e.seq (cond (same_key e.log log) r.seq (seq_of r.vector e.log))) es ≡ dominates (full_vector r) (vector_of es)
by_entries r log [] is none = refl
by_entries r log (e ∷ es) is none =
    (λ i. nat_le e.seq (each i) && by_entries r log es is none i)
  where
    each : cond (same_key e.log log) r.seq (seq_of r.vector e.log) ≡ seq_of (full_vector r) e.log
    each =
        ap (λ (k : Key). cond (same_key e.log k) r.seq (seq_of r.vector e.log)) is
        ∙ sym (seq_with r.vector r e.log (subst (λ (k : Key). stamp_at r.vector k ≡ None) is none))

pub over_is : (base : Vector) (r : Record) (log : Key) (es : List kept_entry.Entry) (m : ℕ) (b : Bool) → log ≡ head_key_of r.owner → stamp_at r.vector log ≡ None → vector_of es ≡ base → m ≡ seq_of base log → m < r.seq
    → b ≡ list_all (λ e. nat_le e.seq (cond (same_key e.log log) r.seq (seq_of r.vector e.log))) es → b ≡ is_over base r
over_is base r log es m b is none all reached less e =
    let at : m ≡ seq_of base (head_key_of r.owner) = reached ∙ ap (λ (k : Key). seq_of base k) is in
    e ∙ by_entries r log es is none ∙ ap (λ (v : Vector). dominates (full_vector r) v) all
    ∙ or_true (dominates (full_vector r) base) (nat_lt (seq_of base (head_key_of r.owner)) r.seq) (lt-ltb (seq_of base (head_key_of r.owner)) r.seq (omega (arith, at, less)))

-- ---- the later ones of a chain

further : (v w base : Vector) → Dominates w v → dominates v base ≡ true → dominates w base ≡ true
further v w [] grows h = refl
further v w (e ∷ base) grows h =
    let p = both_true (nat_le e.1.seq (seq_of v e.0)) (dominates v base) h in
    let le = leb-true e.1.seq (seq_of v e.0) p.0 in
    let more : seq_of v e.0 ≤ seq_of w e.0 = grows e.0 in
    both (nat_le e.1.seq (seq_of w e.0)) (dominates w base) (le-leb e.1.seq (seq_of w e.0) (omega (arith, le, more))) (further v w base grows p.1)

next_over : (base : Vector) (p r : Record) → r.owner ≡ p.owner → r.seq ≡ p.seq + 1 → Dominates (full_vector r) (full_vector p) → is_over base p ≡ true → is_over base r ≡ true
next_over base p r owned next grows h =
    let parts = both_true (dominates (full_vector p) base) (nat_lt (seq_of base (head_key_of p.owner)) p.seq) h in
    let low = ltb-true (seq_of base (head_key_of p.owner)) p.seq parts.1 in
    let same : seq_of base (head_key_of r.owner) ≡ seq_of base (head_key_of p.owner) = ap (λ (o : PubKey). seq_of base (head_key_of o)) owned in
    both (dominates (full_vector r) base) (nat_lt (seq_of base (head_key_of r.owner)) r.seq)
    (further (full_vector p) (full_vector r) base grows parts.0)
    (lt-ltb (seq_of base (head_key_of r.owner)) r.seq (omega (arith, low, same, next)))

after_over : (view : View) (owner : PubKey) (base : Vector) (p : Record) (rs : List Record) → p.owner ≡ owner → GoesOn view owner p rs → is_over base p ≡ true → list_all (is_over base) rs ≡ true
after_over view owner base p [] owned g h = refl
after_over view owner base p (r ∷ rs) owned g h =
    let over = next_over base p r (g.0.owned ∙ sym owned) g.1.seq g.1.grows h in
    both (is_over base r) (list_all (is_over base) rs) over (after_over view owner base r rs g.0.owned g.2 over)

first_tells : (view : View) (owner : PubKey) (base : Vector) (r : Record) (rs : List Record) → r.owner ≡ owner → GoesOn view owner r rs → is_over base r ≡ list_all (is_over base) (r ∷ rs)
first_tells view owner base r rs owned g = by (is_over base r) refl
  where
    by : (b : Bool) → is_over base r ≡ b → b ≡ (b && list_all (is_over base) rs)
    by true e = sym (after_over view owner base r rs owned g e)
    by false e = refl

-- ---- what is left of a chain after a number

dropped : (view : View) (owner : PubKey) (p : Record) (xs : List Record) (k : ℕ) (r : Record) (rs : List Record) → IsGood view owner p → GoesOn view owner p xs → drop k (p ∷ xs) ≡ r ∷ rs → IsGood view owner r × GoesOn view owner r rs
dropped view owner p xs zero r rs good g e =
    let first : p ≡ r = cc in
    let rest : xs ≡ rs = cc in
    (subst (λ (x : Record). IsGood view owner x) first good, subst (λ (x : Record). GoesOn view owner x rs) first (subst (λ (l : List Record). GoesOn view owner p l) rest g))
dropped view owner p [] (suc zero) r rs good g e = cc
dropped view owner p [] (suc (suc k)) r rs good g e = cc
dropped view owner p (x ∷ xs) (suc k) r rs good g e = dropped view owner x xs k r rs g.0 g.2 e

linked_drop : (view : View) (cs : List Record) (k : ℕ) (r : Record) (rs : List Record) → IsLinked view cs → drop k cs ≡ r ∷ rs → IsGood view (owner_of cs) r × GoesOn view (owner_of cs) r rs
linked_drop view [] k r rs h e = absurd h
linked_drop view (c ∷ cs) k r rs h e = dropped view c.owner c cs k r rs h.0 h.2 e

-- the new records of a chain go on from the first of them
pub new_go_on : (view : View) (front : Vector) (cs : List Record) (r : Record) (rs : List Record) → IsLinked view cs → AreNumbered cs → r ∷ rs ≡ beyond front (as_chain cs)
    → IsGood view (owner_of cs) r × GoesOn view (owner_of cs) r rs
new_go_on view front cs r rs linked numbered e = ⊎_elim
    (λ none. let both : r ∷ rs ≡ [] = e ∙ none in cc)
    (λ rest.
    let m = seq_of front (head_key_of (owner_of cs)) in
    let k = min (m - numbered.0) (length cs) in
    let drops : drop k cs ≡ r ∷ rs = sym (counted numbered.0 m cs numbered.1 k refl).1 ∙ sym rest ∙ sym e in
    linked_drop view cs k r rs linked drops)
    (beyond_cases (head_key_of (owner_of cs)) (record { seq = 0; name = head_key_of (owner_of cs) }) front cs)

-- ---- of a slice of them

module _ (view : View) (front : Vector) (cs : List Record) (linked : IsLinked view cs) (numbered : AreNumbered cs) (items records : List kept.Record) (new : List kept.Record) (first : kept.Record)
    (same : items ≡ records) (is : records_of records ≡ cs) (beyond_it : records_of new ≡ beyond front (as_chain (records_of items))) (at : Some first ≡ slice_get new 0) where
  goes : IsGood view (owner_of cs) (record_of first) × ((rest : List kept.Record) × (new ≡ first ∷ rest) × GoesOn view (owner_of cs) (record_of first) (records_of rest))
  goes =
      let w = first_is new first at in
      let all : record_of first ∷ records_of w.0 ≡ beyond front (as_chain cs) =
      ap (λ (xs : List kept.Record). records_of xs) (sym w.1) ∙ beyond_it ∙ ap (λ (xs : List kept.Record). beyond front (as_chain (records_of xs))) same ∙ ap (λ (l : List Record). beyond front (as_chain l)) is in
      let g = new_go_on view front cs (record_of first) (records_of w.0) linked numbered all in
      (g.0, (w.0, w.1, g.1))

  pub first_log : (log : Key) (owner : PubKey) → log ≡ head_key_of owner → owner_of cs ≡ owner → log ≡ head_key_of first.owner
  first_log log owner is_log mine = is_log ∙ ap (λ (o : PubKey). head_key_of o) (sym (goes.0.owned ∙ mine))

  pub first_others : (log : Key) (owner : PubKey) → log ≡ head_key_of owner → owner_of cs ≡ owner → stamp_at first.vector log ≡ None
  first_others log owner is_log mine = subst (λ (k : Key). stamp_at first.vector k ≡ None) (sym (first_log log owner is_log mine)) goes.0.spelled.of_others

  pub all_over : (base : Vector) (b : Bool) → b ≡ is_over base (record_of first) → b ≡ list_all (is_over base) (beyond front (as_chain cs))
  all_over base b e =
      let g = goes.1 in
      e ∙ first_tells view (owner_of cs) base (record_of first) (records_of g.0) goes.0.owned g.2
      ∙ ap (λ (l : List Record). list_all (is_over base) l)
      (ap (λ (xs : List kept.Record). records_of xs) (sym g.1) ∙ beyond_it ∙ ap (λ (xs : List kept.Record). beyond front (as_chain (records_of xs))) same ∙ ap (λ (l : List Record). beyond front (as_chain l)) is)
