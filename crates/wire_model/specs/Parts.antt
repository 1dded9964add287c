-- Parts that are read one after the other, by readers that keep in mind that a part was missed.
use Rattle.std.specs.Prelude.{◌≡◌, ℕ, List, Option, Some, None, IfSome}
use Rattle.wire_model.specs.OneReading.{IsFront, HasNoFront}

-- what is told of a part by the bytes that were left before it and those that are left after it: it stands at their front, or there is
-- none; and where a part was missed before, nothing
abbrev pub Told : {A : Type 0} → (A → Type 0) → (A → List ℕ) → Option (List ℕ) → A → Option (List ℕ) → Type 0
Told Fits spell None x now = now ≡ None
Told Fits spell (Some bytes) x None = HasNoFront Fits spell bytes
Told Fits spell (Some bytes) x (Some rest) = IsFront Fits spell bytes x rest

pub record Reads {A : Type 0} (Fits : A → Type 0) (spell : A → List ℕ) (before : Option (List ℕ)) (x : A)
    (now : Option (List ℕ)) : Type 0 where
  pub told : Told Fits spell before x now

-- where there is one, it is such
abbrev pub IsOptional : {A : Type 0} → (A → Type 0) → Option A → Type 0
IsOptional Fits o = IfSome o Fits

-- bytes as they stand
abbrev pub as_it_stands : List ℕ → List ℕ
as_it_stands bytes = bytes
