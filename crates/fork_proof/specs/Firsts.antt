-- Which proof is the first: that of the first two heads, by their places, which blocks show as forked.
use Rattle.std.specs.Prelude.{◌≡◌, ◌⊎◌, ℕ, ◌<◌, List, Contains, Option, Some, None}
use Rattle.std.specs.List.{AllByRecursion, slice_get}
use Rattle.fork_proof.specs.Forms.{ForkProof, IsProof, bytes_of_head, proof_bytes}
use Rattle.fork_proof.specs.Checks.{IsShown}

-- two heads by their places, from 0 on
pub record Pair : Type 0 where
  pub first : ℕ
  pub second : ℕ

-- by the first place, and then by the second
abbrev pub IsEarlier : Pair → Pair → Type 0
IsEarlier a b = (a.first < b.first) ⊎ ((a.first ≡ b.first) × (a.second < b.second))

-- The heads of those places are the proof's. The one of the smaller number stands first in the proof, and of equal numbers the earlier one.
pub data AreHeadsAt (heads : List (List ℕ)) (at : Pair) (p : ForkProof) : Type 0 where
  in_order : slice_get heads at.first ≡ Some (bytes_of_head p.owner p.low) → slice_get heads at.second ≡ Some (bytes_of_head p.owner p.high)
      → AreHeadsAt heads at p
  turned : p.low.newest.seq < p.high.newest.seq → slice_get heads at.first ≡ Some (bytes_of_head p.owner p.high)
      → slice_get heads at.second ≡ Some (bytes_of_head p.owner p.low) → AreHeadsAt heads at p

-- by this proof, whose records are among the blocks, the heads of those places are shown as forked
pub record IsShownAt (heads blocks : List (List ℕ)) (at : Pair) (p : ForkProof) : Type 0 where
  pub two : at.first < at.second
  pub heads_are : AreHeadsAt heads at p
  pub fits : IsProof p
  pub shown : IsShown p
  pub among : AllByRecursion (Contains blocks) p.blocks

-- what is found is the proof of two heads that are shown as forked, of the first ones; nothing is found where no two are
abbrev pub IsFirst : List (List ℕ) → List (List ℕ) → Option (List ℕ) → Type 0
IsFirst heads blocks None = (at : Pair) (p : ForkProof) → IsShownAt heads blocks at p → ⊥
IsFirst heads blocks (Some bytes) =
    (at : Pair) × (p : ForkProof) × IsShownAt heads blocks at p × (bytes ≡ proof_bytes p)
    × ((other : Pair) (q : ForkProof) → IsShownAt heads blocks other q → IsEarlier other at → ⊥)
