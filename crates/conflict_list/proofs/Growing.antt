-- When later records of a log know all that earlier ones know.
use Rattle.std.proofs.Common.{◌≡◌, ℕ, ◌+◌, ◌<◌, ◌≤◌, true, List, length, get_or, refl, sym, ap, ◌∙◌, subst, ⊎_elim, arith, Option, Some, None, leb-true, nat_eq}
use Rattle.std.specs.Prelude.{IfSome, IfNone}
use Rattle.std.specs.Cmp.Lexicographic.{pointwise}
use Rattle.std.proofs.lemmas.Bool.{le-leb, cases_lt}
use Rattle.std.proofs.lemmas.Bool.Decides.{Decides-eqb}
use Rattle.std.proofs.lemmas.Slice.Eq.{slice_eq-Decides}
use Rattle.ivy_base.specs.declared.key.PubKey.{PubKey}
use Rattle.ivy_base.specs.Naming.{head_key_of}
use Rattle.log_model.specs.Vector.{Dominates, stamp_at, seq_of, with_entry}
use Rattle.log_model.specs.Rank.{own_entry, full_vector}
use Rattle.log_model.specs.Spelling.{HasSpelling}
use Rattle.log_records.specs.declared.record.Record as kept
use Rattle.log_records.specs.Records.{record_of}
use Rattle.log_records.proofs.Knowing as knowing
use Rattle.conflict_list.specs.Tables.{Grow, Grows, GrowsAt}
use Rattle.conflict_list.proofs.Places.{at_one, at_some, below_or_at}

pub same_owner : (a b : PubKey) → pointwise nat_eq a.0 b.0 ≡ true → a ≡ b
same_owner a b h = ap (λ (bytes : List ℕ). record { 0 = bytes }) ((slice_eq-Decides Decides-eqb a.0 b.0 (pointwise nat_eq a.0 b.0) refl).0 h)

-- a record knows all that one of its log does that has no greater number and a vector that isn't ahead
pub grows : (r s : kept.Record) → HasSpelling (record_of r) → HasSpelling (record_of s) → r.owner ≡ s.owner → r.seq ≤ s.seq → Dominates s.vector r.vector → Grows r s
grows r s older newer same le dom x k =
    let none : stamp_at r.vector (head_key_of s.owner) ≡ None = subst (λ (o : PubKey). stamp_at r.vector (head_key_of o) ≡ None) same older.of_others in
    let whole : Dominates (full_vector (record_of s)) (with_entry r.vector (head_key_of s.owner, (own_entry (record_of r)).1)) = (knowing.knows (record_of s) r.vector (own_entry (record_of r)).1 newer none le).0 dom in
    let all : Dominates (full_vector (record_of s)) (full_vector (record_of r)) = subst (λ (o : PubKey). Dominates (full_vector (record_of s)) (with_entry r.vector (head_key_of o, (own_entry (record_of r)).1))) (sym same) whole in
    let key = head_key_of x.owner in
    let far : x.seq ≤ seq_of (full_vector (record_of r)) key = leb-true x.seq (seq_of (full_vector (record_of r)) key) k in
    let more : seq_of (full_vector (record_of r)) key ≤ seq_of (full_vector (record_of s)) key = all key in
    le-leb x.seq (seq_of (full_vector (record_of s)) key) (omega (arith, far, more))

-- ---- record by record

itself : (rs : List kept.Record) (j : ℕ) → GrowsAt rs j j
itself rs j r s h g x k = subst (λ (y : kept.Record). Grows r y) (at_one rs j r s h g) (λ z known. known) x k

further : (rs : List kept.Record) (i k j : ℕ) → k < length rs → GrowsAt rs i k → GrowsAt rs k j → GrowsAt rs i j
further rs i k j lt first second r s h g x known =
    let middle = at_some rs k lt in
    second middle.0 s middle.1 g x (first r middle.0 h middle.1 x known)

-- the record before it in its log is the last of this log, and it goes on from that
pub grow_more : (rs : List kept.Record) (of : List ℕ) (j : ℕ) (before : Option ℕ) → j < length rs → Grow rs of j
    → IfSome before (λ i. (i < j) × (get_or of i 0 ≡ get_or of j 0))
    → IfSome before (λ i. (k : ℕ) → i < k → k < j → get_or of k 0 ≡ get_or of j 0 → ⊥)
    → IfNone before ((k : ℕ) → k < j → get_or of k 0 ≡ get_or of j 0 → ⊥)
    → IfSome before (λ i. GrowsAt rs i j) → Grow rs of (j + 1)
grow_more rs of j before within so_far found last none step a b le lt same = ⊎_elim
    (λ less. so_far a b le less same)
    (λ here. subst (λ (n : ℕ). GrowsAt rs a n) (sym here) (to_j before found last none step (subst (λ (n : ℕ). get_or of a 0 ≡ get_or of n 0) here same) (subst (λ (n : ℕ). a ≤ n) here le)))
    (below_or_at b j lt)
  where
    to_j : (o : Option ℕ) → IfSome o (λ i. (i < j) × (get_or of i 0 ≡ get_or of j 0))
        → IfSome o (λ i. (k : ℕ) → i < k → k < j → get_or of k 0 ≡ get_or of j 0 → ⊥)
        → IfNone o ((k : ℕ) → k < j → get_or of k 0 ≡ get_or of j 0 → ⊥)
        → IfSome o (λ i. GrowsAt rs i j) → get_or of a 0 ≡ get_or of j 0 → a ≤ j → GrowsAt rs a j
    to_j None f l n s e up = ⊎_elim
        (λ less. absurd (n a less e))
        (λ ge. let here : a ≡ j = omega (arith, up, ge) in subst (λ (m : ℕ). GrowsAt rs m j) (sym here) (itself rs j))
        (cases_lt a j)
    to_j (Some i) f l n s e up = ⊎_elim
        (λ less. ⊎_elim
        (λ between. absurd (l a between less e))
        (λ low. further rs a i j (let lt = f.0 in omega (arith, lt, within)) (so_far a i low f.0 (e ∙ sym f.1)) s)
        (cases_lt i a))
        (λ ge. let here : a ≡ j = omega (arith, up, ge) in subst (λ (m : ℕ). GrowsAt rs m j) (sym here) (itself rs j))
        (cases_lt a j)
