-- Entries of which two values were changed, one after the other.
use Rattle.std.proofs.Common.{◌≡◌, T, List, ◌∷◌, ◌++◌, Result, Ok, Err, sym, subst}
use Rattle.std.specs.Prelude.{OnOk, OnErr}
use Rattle.std.specs.Cmp.{IsTotalOrder}
use Rattle.std.specs.declared.cmp.Ordering.{Ordering}
use Rattle.std.specs.declared.cmp.Ordering.TheVariants.{Less, Equal, Greater}
use Rattle.std.specs.FinMap.Entries.{is_sorted}
use Rattle.shared_map.specs.Edits.{IsEdited, IsAmended, AreEdited}
use Rattle.shared_map.proofs.Edited.{edited_left, edited_here, edited_right, edited_sorted}

-- one value is amended, where the keys ascend
module _ {K V : Type 0} (R : K → K → Ordering) (o : IsTotalOrder R) (amends : V → V → Type 0) (key : K) (xs ys : List (K × V)) (e : K × V) where
  amended_left : Less ≡ R key e.0 → (l : List (K × V)) → IsAmended R amends key xs l → T (is_sorted R (xs ++ e ∷ ys)) → IsAmended R amends key (xs ++ e ∷ ys) (l ++ e ∷ ys)
  amended_left lt l is sorted = edited_left R o (λ _ v _ w. amends v w) key tt tt xs ys e sorted (sym lt) l is

  amended_here : Equal ≡ R key e.0 → (w : V) → amends e.1 w → T (is_sorted R (xs ++ e ∷ ys)) → IsAmended R amends key (xs ++ e ∷ ys) (xs ++ (e.0, w) ∷ ys)
  amended_here eq w is sorted = edited_here R o (λ _ v _ w. amends v w) key tt tt xs ys e sorted (sym eq) w is

  amended_right : Greater ≡ R key e.0 → (l : List (K × V)) → IsAmended R amends key ys l → T (is_sorted R (xs ++ e ∷ ys)) → IsAmended R amends key (xs ++ e ∷ ys) (xs ++ e ∷ l)
  amended_right gt l is sorted = edited_right R o (λ _ v _ w. amends v w) key tt tt xs ys e sorted (sym gt) l is

module _ {S K V : Type 0} (R : K → K → Ordering) (o : IsTotalOrder R) (makes : S → V → S → V → Type 0) (amends : V → V → Type 0) (first second : K) (s t : S) where
  module _ (xs ys : List (K × V)) (e : K × V) (sorted : T (is_sorted R (xs ++ e ∷ ys))) where
    -- the edit leaves the keys in order, over which the other value is amended
    both : (between fs : List (K × V)) → IsEdited R makes first s t (xs ++ e ∷ ys) between → (T (is_sorted R between) → IsAmended R amends second between fs) → AreEdited R makes amends first second s t (xs ++ e ∷ ys) fs
    both between fs edited amended = (between, edited, amended (edited_sorted R o makes first s t (xs ++ e ∷ ys) between sorted edited))

    -- ---- where the first key stands beside the entry in the midst, and then where the second does

    pub left_left : Less ≡ R first e.0 → Less ≡ R second e.0 → (l : List (K × V)) → AreEdited R makes amends first second s t xs l → AreEdited R makes amends first second s t (xs ++ e ∷ ys) (l ++ e ∷ ys)
    left_left a b l is = both (is.0 ++ e ∷ ys) _ (edited_left R o makes first s t xs ys e sorted (sym a) is.0 is.1) (amended_left R o amends second is.0 ys e b l is.2)

    pub left_here : Less ≡ R first e.0 → Equal ≡ R second e.0 → (l : List (K × V)) (w : V) → IsEdited R makes first s t xs l × amends e.1 w → AreEdited R makes amends first second s t (xs ++ e ∷ ys) (l ++ (e.0, w) ∷ ys)
    left_here a b l w is = both (l ++ e ∷ ys) _ (edited_left R o makes first s t xs ys e sorted (sym a) l is.0) (amended_here R o amends second l ys e b w is.1)

    pub left_right : Less ≡ R first e.0 → Greater ≡ R second e.0 → (l r : List (K × V)) → IsEdited R makes first s t xs l × IsAmended R amends second ys r → AreEdited R makes amends first second s t (xs ++ e ∷ ys) (l ++ e ∷ r)
    left_right a b l r is = both (l ++ e ∷ ys) _ (edited_left R o makes first s t xs ys e sorted (sym a) l is.0) (amended_right R o amends second l ys e b r is.1)

    pub here_left : Equal ≡ R first e.0 → Less ≡ R second e.0 → (w : V) (l : List (K × V)) → makes s e.1 t w × IsAmended R amends second xs l → AreEdited R makes amends first second s t (xs ++ e ∷ ys) (l ++ (e.0, w) ∷ ys)
    here_left a b w l is = both (xs ++ (e.0, w) ∷ ys) _ (edited_here R o makes first s t xs ys e sorted (sym a) w is.0) (amended_left R o amends second xs ys (e.0, w) b l is.1)

    pub here_here : Equal ≡ R first e.0 → Equal ≡ R second e.0 → (w : V) → (v : V) × makes s e.1 t v × amends v w → AreEdited R makes amends first second s t (xs ++ e ∷ ys) (xs ++ (e.0, w) ∷ ys)
    here_here a b w is = both (xs ++ (e.0, is.0) ∷ ys) _ (edited_here R o makes first s t xs ys e sorted (sym a) is.0 is.1) (amended_here R o amends second xs ys (e.0, is.0) b w is.2)

    pub here_right : Equal ≡ R first e.0 → Greater ≡ R second e.0 → (w : V) (r : List (K × V)) → makes s e.1 t w × IsAmended R amends second ys r → AreEdited R makes amends first second s t (xs ++ e ∷ ys) (xs ++ (e.0, w) ∷ r)
    here_right a b w r is = both (xs ++ (e.0, w) ∷ ys) _ (edited_here R o makes first s t xs ys e sorted (sym a) w is.0) (amended_right R o amends second xs ys (e.0, w) b r is.1)

    pub right_left : Greater ≡ R first e.0 → Less ≡ R second e.0 → (r l : List (K × V)) → IsEdited R makes first s t ys r × IsAmended R amends second xs l → AreEdited R makes amends first second s t (xs ++ e ∷ ys) (l ++ e ∷ r)
    right_left a b r l is = both (xs ++ e ∷ r) _ (edited_right R o makes first s t xs ys e sorted (sym a) r is.0) (amended_left R o amends second xs r e b l is.1)

    pub right_here : Greater ≡ R first e.0 → Equal ≡ R second e.0 → (r : List (K × V)) (w : V) → IsEdited R makes first s t ys r × amends e.1 w → AreEdited R makes amends first second s t (xs ++ e ∷ ys) (xs ++ (e.0, w) ∷ r)
    right_here a b r w is = both (xs ++ e ∷ r) _ (edited_right R o makes first s t xs ys e sorted (sym a) r is.0) (amended_here R o amends second xs r e b w is.1)

    pub right_right : Greater ≡ R first e.0 → Greater ≡ R second e.0 → (r : List (K × V)) → AreEdited R makes amends first second s t ys r → AreEdited R makes amends first second s t (xs ++ e ∷ ys) (xs ++ e ∷ r)
    right_right a b r is = both (xs ++ e ∷ is.0) _ (edited_right R o makes first s t xs ys e sorted (sym a) is.0 is.1) (amended_right R o amends second xs is.0 e b r is.2)

  module _ (es fs : List (K × V)) (sorted : T (is_sorted R es)) where
    -- the keys ascend as before, whatever came of the two
    pub two_still_sorted : {A E : Type 0} (r : Result A E) → OnOk r (AreEdited R makes amends first second s t es fs) → OnErr r ((t ≡ s) × (fs ≡ es)) → T (is_sorted R fs)
    two_still_sorted (Ok a) ok err = edited_sorted R o (λ _ v _ w. amends v w) second tt tt ok.0 fs (edited_sorted R o makes first s t es ok.0 sorted ok.1) ok.2
    two_still_sorted (Err e) ok err = subst (λ l. T (is_sorted R l)) (sym err.1) sorted
