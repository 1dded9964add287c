-- How far a record knows each log, and when it knows all that another one does.
use Rattle.std.proofs.Common.{◌≡◌, ◌↔◌, ℕ, ◌<◌, ◌≤◌, Bool, true, false, cond, List, Some, None, refl, sym, ap, ◌∙◌, subst, arith, IsTrue, nat_eq, leb-true}
use Rattle.std.specs.Prelude.{nat_le}
use Rattle.std.specs.Cmp.Lexicographic.{pointwise}
use Rattle.std.specs.List.{list_all}
use Rattle.std.specs.Ordering.{eq_by_cmp}
use Rattle.std.specs.FinMap.Entries.{is_sorted}
use Rattle.ivy_base.specs.declared.key.Key.{Key}
use Rattle.ivy_base.specs.Naming.{key_cmp, head_key_of}
use Rattle.tree_model.specs.Tree.{same_key}
use Rattle.tree_model.proofs.Keys.{same_key_is, same_key_itself}
use Rattle.tree_model.proofs.Same.{same_key_answer}
use Rattle.log_model.specs.Vector.{Vector, stamp_at, reach, seq_of, later_or, Dominates}
use Rattle.log_model.specs.Record.{Record}
use Rattle.log_model.specs.Rank.{own_entry, full_vector}
use Rattle.log_model.proofs.Vectors.{stamp_at-with_entry}
use Rattle.version_vectors.specs.declared.entry.Entry as kept
use Rattle.version_vectors.specs.Entries.{vector_of}
use Rattle.version_vectors.proofs.Domination.{dominates_by_entries}

full_reach : (r : Record) (log : Key) → stamp_at r.vector (head_key_of r.owner) ≡ None → seq_of (full_vector r) log ≡ cond (same_key log (head_key_of r.owner)) r.seq (seq_of r.vector log)
full_reach r log none = ap reach (stamp_at-with_entry r.vector (own_entry r) log) ∙ by (eq_by_cmp key_cmp log (head_key_of r.owner))
  where
    own : later_or (stamp_at r.vector (head_key_of r.owner)) (own_entry r).1 ≡ (own_entry r).1
    own = ap (λ o. later_or o (own_entry r).1) none

    by : (b : Bool) → reach (cond b (Some (later_or (stamp_at r.vector (head_key_of r.owner)) (own_entry r).1)) (stamp_at r.vector log)) ≡ cond b r.seq (seq_of r.vector log)
    by true = ap (λ s. s.seq) own
    by false = refl

-- its own log
pub reach_own : (r : Record) (key log : Key) → key ≡ head_key_of r.owner → stamp_at r.vector key ≡ None → pointwise nat_eq log.0 key.0 ≡ true → r.seq ≡ seq_of (full_vector r) log
reach_own r key log is none same =
    let tied : same_key log (head_key_of r.owner) ≡ true = subst (λ (k : Key). same_key log k ≡ true) is (same_key_answer log key ∙ same) in
    sym (full_reach r log (subst (λ (k : Key). stamp_at r.vector k ≡ None) is none) ∙ ap (λ b. cond b r.seq (seq_of r.vector log)) tied)

-- another one
pub reach_other : (r : Record) (key log : Key) → key ≡ head_key_of r.owner → stamp_at r.vector key ≡ None → pointwise nat_eq log.0 key.0 ≡ false → seq_of r.vector log ≡ seq_of (full_vector r) log
reach_other r key log is none other =
    let apart : same_key log (head_key_of r.owner) ≡ false = subst (λ (k : Key). same_key log k ≡ false) is (same_key_answer log key ∙ other) in
    sym (full_reach r log (subst (λ (k : Key). stamp_at r.vector k ≡ None) is none) ∙ ap (λ b. cond b r.seq (seq_of r.vector log)) apart)

-- the record knows all that the other one does: its own number there, and its vector
knows_all : (r c : Record) (key : Key) → key ≡ head_key_of c.owner → stamp_at c.vector key ≡ None
    → c.seq ≤ seq_of (full_vector r) key → Dominates (full_vector r) c.vector → Dominates (full_vector r) (full_vector c)
knows_all r c key is none own whole log =
    let own_there : c.seq ≤ seq_of (full_vector r) (head_key_of c.owner) = subst (λ (k : Key). c.seq ≤ seq_of (full_vector r) k) is own in
    by (same_key log (head_key_of c.owner)) refl (whole log) own_there
  where
    from : seq_of (full_vector c) log ≡ cond (same_key log (head_key_of c.owner)) c.seq (seq_of c.vector log)
    from = full_reach c log (subst (λ (k : Key). stamp_at c.vector k ≡ None) is none)

    by : (b : Bool) → same_key log (head_key_of c.owner) ≡ b → seq_of c.vector log ≤ seq_of (full_vector r) log → c.seq ≤ seq_of (full_vector r) (head_key_of c.owner) → seq_of (full_vector c) log ≤ seq_of (full_vector r) log
    by true e far near =
        let value : seq_of (full_vector c) log ≡ c.seq = from ∙ ap (λ b. cond b c.seq (seq_of c.vector log)) e in
        let at : c.seq ≤ seq_of (full_vector r) log = subst (λ (k : Key). c.seq ≤ seq_of (full_vector r) k) (sym (same_key_is log (head_key_of c.owner) e)) near in
        omega (arith, value, at)
    by false e far near = let value : seq_of (full_vector c) log ≡ seq_of c.vector log = from ∙ ap (λ b. cond b c.seq (seq_of c.vector log)) e in omega (arith, value, far)

-- and a record that does has both
pub own_known : (r c : Record) (key : Key) → key ≡ head_key_of c.owner → stamp_at c.vector key ≡ None → Dominates (full_vector r) (full_vector c) → c.seq ≤ seq_of (full_vector r) key
own_known r c key is none h =
    let value : seq_of (full_vector c) (head_key_of c.owner) ≡ c.seq = full_reach c (head_key_of c.owner) (subst (λ (k : Key). stamp_at c.vector k ≡ None) is none) ∙ ap (λ b. cond b c.seq (seq_of c.vector (head_key_of c.owner))) (same_key_itself (head_key_of c.owner)) in
    let there : c.seq ≤ seq_of (full_vector r) (head_key_of c.owner) = (let far = h (head_key_of c.owner) in omega (arith, value, far)) in
    subst (λ (k : Key). c.seq ≤ seq_of (full_vector r) k) (sym is) there

rest_known : (r c : Record) (key : Key) → key ≡ head_key_of c.owner → stamp_at c.vector key ≡ None → Dominates (full_vector r) (full_vector c) → Dominates (full_vector r) c.vector
rest_known r c key is none h log = by (same_key log (head_key_of c.owner)) refl (h log)
  where
    from : seq_of (full_vector c) log ≡ cond (same_key log (head_key_of c.owner)) c.seq (seq_of c.vector log)
    from = full_reach c log (subst (λ (k : Key). stamp_at c.vector k ≡ None) is none)

    by : (b : Bool) → same_key log (head_key_of c.owner) ≡ b → seq_of (full_vector c) log ≤ seq_of (full_vector r) log → seq_of c.vector log ≤ seq_of (full_vector r) log
    by true e far =
        let zero : seq_of c.vector log ≡ 0 = ap reach (subst (λ (k : Key). stamp_at c.vector k ≡ None) (is ∙ sym (same_key_is log (head_key_of c.owner) e)) none) in
        omega (arith, zero)
    by false e far = let value : seq_of (full_vector c) log ≡ seq_of c.vector log = from ∙ ap (λ b. cond b c.seq (seq_of c.vector log)) e in omega (arith, value, far)

-- by the entries of its vector, one after the other
module _ (r c : Record) (key : Key) (es : List kept.Entry) (is : key ≡ head_key_of c.owner) (none : stamp_at c.vector key ≡ None) (entries : vector_of es ≡ c.vector) (sorted : is_sorted key_cmp (vector_of es) ≡ true) where
  pub known_where : (b : Bool) → b ≡ list_all (λ (e : kept.Entry). nat_le e.seq (seq_of (full_vector r) e.log)) es → c.seq ≤ seq_of (full_vector r) key → IsTrue b ↔ Dominates (full_vector r) (full_vector c)
  known_where b value own =
      let far = dominates_by_entries (full_vector r) es b sorted value in (
        λ holds. knows_all r c key is none own (subst (λ (v : Vector). Dominates (full_vector r) v) entries (far.0 holds)),
        λ dom. far.1 (subst (λ (v : Vector). Dominates (full_vector r) v) (sym entries) (rest_known r c key is none dom)),
      )

pub unknown_where : (r c : Record) (key : Key) (n : ℕ) → key ≡ head_key_of c.owner → stamp_at c.vector key ≡ None → n ≡ seq_of (full_vector r) key → n < c.seq → IsTrue (nat_le c.seq n) ↔ Dominates (full_vector r) (full_vector c)
unknown_where r c key n is none value short = (
  λ holds. let le : c.seq ≤ n = leb-true c.seq n holds in absurd (omega (arith, le, short)),
  λ dom. let le = own_known r c key is none dom in absurd (omega (arith, le, value, short)),
)

-- a weight and what is known, tested one after the other
pub both_hold : (b : Bool) (n m : ℕ) (P : Type 0) → n < m → (IsTrue b ↔ P) → IsTrue b ↔ ((n < m) × P)
both_hold b n m P less h = (λ holds. (less, h.0 holds), λ p. h.1 p.1)
