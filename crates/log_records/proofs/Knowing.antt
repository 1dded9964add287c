-- What a record knows beside its own log, and what its full vector dominates.
use Rattle.std.proofs.Common.{◌≡◌, ℕ, ◌+◌, ◌≤◌, Bool, true, false, cond, List, Option, Some, None, refl, sym, ap, ◌∙◌, subst, arith}
use Rattle.std.specs.Prelude.{◌↔◌}
use Rattle.std.specs.Cmp.{Equal-is}
use Rattle.std.specs.Ordering.{eq_by_cmp}
use Rattle.std.proofs.lemmas.Map.Lookups.{exact_bytes}
use Rattle.ivy_base.specs.declared.key.Key.{Key}
use Rattle.ivy_base.specs.declared.key.PubKey.{PubKey}
use Rattle.ivy_base.specs.Naming.{key_cmp, head_key_of}
use Rattle.log_model.specs.Vector.{Stamp, Vector, stamp_at, reach, seq_of, Dominates, later_or, with_entry}
use Rattle.log_model.specs.Record.{Record}
use Rattle.log_model.specs.Spelling.{HasSpelling}
use Rattle.log_model.specs.Rank.{own_entry, full_vector}
use Rattle.log_model.proofs.Vectors.{stamp_at-with_entry}

reach_chosen : (b : Bool) (t : Stamp) (o : Option Stamp) → reach (cond b (Some t) o) ≡ cond b t.seq (reach o)
reach_chosen true t o = refl
reach_chosen false t o = refl

-- how far a vector goes with a stamp of a log that it doesn't cite
seq_with_stamp : (v : Vector) (k : Key) (t : Stamp) (log : Key) → stamp_at v k ≡ None → seq_of (with_entry v (k, t)) log ≡ cond (eq_by_cmp key_cmp log k) t.seq (seq_of v log)
seq_with_stamp v k t log none =
    ap reach (stamp_at-with_entry v (k, t) log)
    ∙ ap (λ (o : Option Stamp). reach (cond (eq_by_cmp key_cmp log k) (Some (later_or o t)) (stamp_at v log))) none
    ∙ reach_chosen (eq_by_cmp key_cmp log k) t (stamp_at v log)

both_grow : (b : Bool) (m n i j : ℕ) → m ≤ n → i ≤ j → cond b m i ≤ cond b n j
both_grow true m n i j h g = h
both_grow false m n i j h g = g

tied_keys : (a b : Key) → eq_by_cmp key_cmp a b ≡ true → a ≡ b
tied_keys a b h = ap (λ (bytes : List ℕ). record { 0 = bytes }) (exact_bytes a.0 b.0 ((Equal-is (key_cmp a b)).0 h))

-- a record's full vector dominates one with a stamp of its own log exactly where its vector dominates the rest
pub knows : (r : Record) (v : Vector) (t : Stamp) → HasSpelling r → stamp_at v (head_key_of r.owner) ≡ None → t.seq ≤ r.seq
    → Dominates r.vector v ↔ Dominates (full_vector r) (with_entry v (head_key_of r.owner, t))
knows r v t spelled none le = (
  λ dom log.
      let left = seq_with_stamp v own t log none in
      let right = seq_with_stamp r.vector own (own_entry r).1 log spelled.of_others in
      let step = both_grow (eq_by_cmp key_cmp log own) t.seq r.seq (seq_of v log) (seq_of r.vector log) le (dom log) in
      omega arith,
  λ dom log.
      let left = seq_with_stamp v own t log none in
      let right = seq_with_stamp r.vector own (own_entry r).1 log spelled.of_others in
      let le : seq_of (with_entry v (own, t)) log ≤ seq_of (full_vector r) log = dom log in
      by log (eq_by_cmp key_cmp log own) refl (omega arith),
)
  where
    own : Key
    own = head_key_of r.owner

    by : (log : Key) (b : Bool) → eq_by_cmp key_cmp log (head_key_of r.owner) ≡ b → cond b t.seq (seq_of v log) ≤ cond b r.seq (seq_of r.vector log) → seq_of v log ≤ seq_of r.vector log
    by log true tied h =
        let zero : seq_of v log ≡ 0 = ap reach (subst (λ (k : Key). stamp_at v k ≡ None) (sym (tied_keys log (head_key_of r.owner) tied)) none) in
        omega arith
    by log false apart h = h

-- and so it is of two records of one log
pub knows_before : (p r : Record) → HasSpelling p → HasSpelling r → p.owner ≡ r.owner → r.seq ≡ p.seq + 1
    → Dominates r.vector p.vector ↔ Dominates (full_vector r) (full_vector p)
knows_before p r spelled_p spelled_r same next =
    subst (λ (o : PubKey). Dominates r.vector p.vector ↔ Dominates (full_vector r) (with_entry p.vector (head_key_of o, (own_entry p).1))) (sym same)
    (knows r p.vector (own_entry p).1 spelled_r (subst (λ (o : PubKey). stamp_at p.vector (head_key_of o) ≡ None) same spelled_p.of_others) (omega arith))
