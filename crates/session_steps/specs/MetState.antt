-- Blocks that were met, as contracts see them, and the lists of the definitions that have the same.
use Rattle.std.specs.Prelude.{◌≡◌, ◌↔◌, ℕ, List, length, Option, Some}
use Rattle.std.specs.List.{slice_get, sum_by}
use Rattle.std.specs.Map.{lookup}
use Rattle.std.specs.Str.{bytes_eq}

-- each block with its place, which is how many were met before it, and how many bytes they have in all
pub record MetState : Type 0 where
  pub places : List (List ℕ × ℕ)
  pub bytes : ℕ

-- the place of the block, if it was met
abbrev pub place_in : List (List ℕ × ℕ) → List ℕ → Option ℕ
place_in places block = lookup (bytes_eq block) places

-- the list has the same blocks in the order in which they were met, and as many bytes
pub record AreMet (met : List (List ℕ)) (s : MetState) : Type 0 where
  pub placed : (block : List ℕ) (place : ℕ) → (place_in s.places block ≡ Some place) ↔ (slice_get met place ≡ Some block)
  pub as_many : length met ≡ length s.places
  pub as_long : sum_by (λ b. length b) met ≡ s.bytes
