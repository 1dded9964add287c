-- The chains of one leaf on their way.
use Rattle.std.specs.Prelude.{◌≡◌, ℕ, ◌-◌, ◌<◌, ◌≤◌, List, slice_index}
use Rattle.hash_signature_model.specs.OneTime.{chain}
use Rattle.lms_core.specs.declared.walks.Walks.{Walks}
use Rattle.lms_core.specs.Kept.{at}

-- no chain stands after its end, which is a byte
abbrev pub MayGo : Walks → Type 0
MayGo walks = (i : ℕ) → i < 68 → (slice_index walks.from i ≤ slice_index walks.to i) × (slice_index walks.to i ≤ 255)

-- the steps that a chain has to go
abbrev pub left_to : Walks → ℕ → ℕ
left_to walks i = slice_index walks.to i - slice_index walks.from i

-- the value that a chain has at its end
abbrev pub end_in : List ℕ → ℕ → Walks → ℕ → List ℕ
end_in id leaf walks i = chain id leaf i (slice_index walks.from i) (left_to walks i) (at walks.values i)

-- a chain has gone up to a number, and has that value there
pub record IsOnWay (id : List ℕ) (leaf : ℕ) (walks : Walks) (i : ℕ) (value : List ℕ) (number : ℕ) : Type 0 where
  pub forward : slice_index walks.from i ≤ number
  pub inside : number ≤ slice_index walks.to i
  pub reached : value ≡ chain id leaf i (slice_index walks.from i) (number - slice_index walks.from i) (at walks.values i)

-- each chain has gone some steps of its way, or none
pub record HasGone (id : List ℕ) (leaf : ℕ) (before now : Walks) : Type 0 where
  pub ends : now.to ≡ before.to
  pub chains : (i : ℕ) → i < 68 → IsOnWay id leaf before i (at now.values i) (slice_index now.from i)
