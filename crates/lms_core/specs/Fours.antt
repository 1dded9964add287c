-- Four leaves side by side, from a leaf on, and four chains of one leaf.
use Rattle.std.specs.Prelude.{◌≡◌, ℕ, ◌+◌, ◌<◌, List, ◌++◌, slice_index}
use Rattle.hash_signature_model.specs.OneTime.{u32_string}
use Rattle.lms_core.specs.Kept.{at}

-- these are what the hashes of four leaves begin with: the identifier and the leaf's number
abbrev pub AreHeads : List ℕ → ℕ → List (List ℕ) → Type 0
AreHeads id first heads = (k : ℕ) → k < 4 → at heads k ≡ id ++ u32_string (first + k)

-- this is what each of four hashes of one leaf begins with
abbrev pub AreHeadsOf : List ℕ → ℕ → List (List ℕ) → Type 0
AreHeadsOf id leaf heads = (k : ℕ) → k < 4 → at heads k ≡ id ++ u32_string leaf

-- these four are places of chains
abbrev pub AreLanes : List ℕ → Type 0
AreLanes lanes = (k : ℕ) → k < 4 → slice_index lanes k < 68
