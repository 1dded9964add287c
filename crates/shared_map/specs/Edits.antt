-- What changes of values make of the entries of a map.
use Rattle.std.specs.Prelude.{◌≡◌, List, Option, Some, None}
use Rattle.std.specs.declared.cmp.Ordering.{Ordering}
use Rattle.std.specs.FinMap.Entries.{find as value_at, put}

module _ {S K V : Type 0} (order : K → K → Ordering) (makes : S → V → S → V → Type 0) (key : K) (edit after : S)
    (es fs : List (K × V)) where
  -- of the value under the key: without one nothing has changed
  abbrev pub IsEditedAt : Option V → Type 0
  IsEditedAt None = (after ≡ edit) × (fs ≡ es)
  IsEditedAt (Some v) = (w : V) × makes edit v after w × (fs ≡ put order key w es)

  -- the value under the key is what the edit made of it, and all else is as it was
  abbrev pub IsEdited : Type 0
  IsEdited = IsEditedAt (value_at order key es)

module _ {K V : Type 0} (order : K → K → Ordering) (amends : V → V → Type 0) (key : K) (es fs : List (K × V)) where
  -- the value under the key is amended, if there is one, and all else is as it was
  abbrev pub IsAmended : Type 0
  IsAmended = IsEdited {S = Unit {0}} order (λ _ v _ w. amends v w) key tt tt es fs

-- the value under the first key is edited, and then the one under the second amended
abbrev pub AreEdited : {S K V : Type 0} → (K → K → Ordering) → (S → V → S → V → Type 0) → (V → V → Type 0) → K → K → S → S → List (K × V)
    → List (K × V) → Type 0
AreEdited {S} {K} {V} order makes amends first second edit after es fs =
    (between : List (K × V)) × IsEdited order makes first edit after es between × IsAmended order amends second between fs
