-- A spelling that can be read in one way only, and what may stand at the front of bytes.
use Rattle.std.specs.Prelude.{◌≡◌, ℕ, List, ◌++◌}

-- two fronts that are equal, whatever follows each, are the spelling of one value, and what follows is equal
pub record ReadsOne {A : Type 0} (Fits : A → Type 0) (spell : A → List ℕ) : Type 0 where
  pub one : (x y : A) (r s : List ℕ) → Fits x → Fits y → spell x ++ r ≡ spell y ++ s → (x ≡ y) × (r ≡ s)

-- the bytes begin with the spelling of this value, which fits, and the rest follows
pub record IsFront {A : Type 0} (Fits : A → Type 0) (spell : A → List ℕ) (bytes : List ℕ) (x : A) (rest : List ℕ) : Type 0 where
  pub fits : Fits x
  pub spelled : bytes ≡ spell x ++ rest

-- the bytes begin with the spelling of no value that fits
pub record HasNoFront {A : Type 0} (Fits : A → Type 0) (spell : A → List ℕ) (bytes : List ℕ) : Type 0 where
  pub none : (x : A) (rest : List ℕ) → IsFront Fits spell bytes x rest → ⊥
