-- What a change of the map makes of the pieces.
use Rattle.std.proofs.Common.{◌≡◌, ◌≢◌, ℕ, Bool, true, false, not, ◌<◌, List, [], Option, Some, None, refl, sym, ap, ◌∙◌, cond, inl, inr, arith}
use Rattle.std.proofs.lemmas.Bool.{cases_lt, cases_eq}
use Rattle.std.specs.declared.alloc.Global.{Global}
use Rattle.std.specs.declared.cmp.Ordering.TheVariants.{Less, Equal, Greater}
use Rattle.std.specs.declared.vec.Vec.{Vec}
use Rattle.std.specs.Option.{option_map_or}
use Rattle.std.specs.Ordering.{nat_cmp, is_eq, eq_by_cmp}
use Rattle.std.specs.Cmp.{IsTotalOrder, nat_cmp_total, nat_cmp_is}
use Rattle.std.proofs.lemmas.Cmp.{on_total}
use Rattle.std.specs.FinMap.Entries.{find as value_at, put, where_key, find-put, find-where_key}
use Rattle.inode_replay.specs.declared.number.PieceNumber.{PieceNumber}
use Rattle.inode_replay.specs.Numbers.{number_cmp}
use Rattle.inode_replay.specs.Pieces.{pieces_in, ChangesOne}

abbrev pub Entries : Type 0
Entries = List (PieceNumber × Vec ℕ Global)

total : IsTotalOrder number_cmp
total = on_total (λ n. n.0) nat_cmp_total

same_eq : (n : ℕ) → is_eq (nat_cmp n n) ≡ true
same_eq n = ap is_eq (sym (nat_cmp_is n n Equal refl))

apart_eq : (n k : ℕ) → n ≢ k → is_eq (nat_cmp n k) ≡ false
apart_eq n k h = elim (cases_lt n k) [
  | inl l ↦ ap is_eq (sym (nat_cmp_is n k Less l))
  | inr g ↦
      let above : k < n = omega arith in
      ap is_eq (sym (nat_cmp_is n k Greater above))
]

equal_is : (n k : ℕ) → nat_cmp n k ≡ Equal → n ≡ k
equal_is n k e = elim (cases_eq n k) [
  | inl same ↦ same
  | inr apart ↦ let no : is_eq (nat_cmp n k) ≡ false = apart_eq n k apart in let yes : is_eq (nat_cmp n k) ≡ true = ap is_eq e in absurd (cc)
]

bytes_found : Option (Vec ℕ Global) → List ℕ
bytes_found o = option_map_or (λ v. v.items) o []

module _ (k : ℕ) (es : Entries) where
  found : ℕ → Option (Vec ℕ Global)
  found n = value_at number_cmp (record { 0 = n }) es

  kept : PieceNumber → Bool
  kept x = not (is_eq (nat_cmp k x.0))

  after_put : (v : Vec ℕ Global) (n : ℕ) → pieces_in (put number_cmp (record { 0 = k }) v es) n ≡ bytes_found (cond (is_eq (nat_cmp n k)) (Some v) (found n))
  unfolding bytes_found found
  after_put v n = ap bytes_found (find-put number_cmp total (record { 0 = n }) (record { 0 = k }) v es)

  after_removal : (n : ℕ) → pieces_in (where_key number_cmp (λ x. not (eq_by_cmp number_cmp (record { 0 = k }) x)) es) n ≡ bytes_found (cond (not (is_eq (nat_cmp k n))) (found n) None)
  unfolding bytes_found found kept
  after_removal n = ap bytes_found (find-where_key number_cmp kept (record { 0 = n }) (λ x e. ap (λ m. not (is_eq (nat_cmp k m))) (sym (equal_is n x.0 e))) es)

  pub put_one : (v : Vec ℕ Global) → ChangesOne (pieces_in es) (pieces_in (put number_cmp (record { 0 = k }) v es)) k v.items
  unfolding bytes_found found
  put_one v = (
    after_put v k ∙ ap (λ b. bytes_found (cond b (Some v) (found k))) (same_eq k),
    λ n h. after_put v n ∙ ap (λ b. bytes_found (cond b (Some v) (found n))) (apart_eq n k h),
  )

  pub removed_one : ChangesOne (pieces_in es) (pieces_in (where_key number_cmp (λ x. not (eq_by_cmp number_cmp (record { 0 = k }) x)) es)) k []
  unfolding bytes_found found
  removed_one = (
    after_removal k ∙ ap (λ b. bytes_found (cond (not b) (found k) None)) (same_eq k),
    λ n h. after_removal n ∙ ap (λ b. bytes_found (cond (not b) (found n) None)) (apart_eq k n (λ e. h (sym e))),
  )
