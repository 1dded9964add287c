-- When blocks that were read are an even list, determined by how many bytes each has.
use Rattle.std.specs.Prelude.{ℕ, zero, suc, Bool, true, ◌&&◌, nat_eq, nat_le, List, [], ◌∷◌, length}
use Rattle.snapshot_loading.specs.Picks.{Blocks, picked}

abbrev pub is_some : ℕ → ℕ → Bool
is_some size count = nat_le 1 count && nat_le count size

abbrev pub is_next : ℕ → ℕ → ℕ → Bool
is_next size before count = nat_eq before size && is_some size count

-- all have so many but the last, which has some and no more; the one before them had that many
abbrev pub full_after : {A : Type 0} → ℕ → ℕ → List (List A) → Bool
full_after size before [] = true
full_after size before (xs ∷ xss) = is_next size before (length xs) && full_after size (length xs) xss

abbrev pub are_full : {A : Type 0} → ℕ → List (List A) → Bool
are_full size xss = full_after size size xss

-- a list block of 512 names has 10,252 bytes: from that level down all have that many but the last of each level
abbrev pub full_down : Bool → ℕ → Blocks → Bool
full_down inodes zero blocks = true
full_down inodes (suc level) blocks = are_full 10252 (picked inodes (suc level) blocks) && full_down inodes level blocks

-- the first one has two names
abbrev pub has_two : Blocks → Bool
has_two [] = true
has_two (b ∷ blocks) = nat_le 52 (length b.1)

-- with a level less one block wouldn't be enough
abbrev pub is_least : ℕ → Blocks → Bool
is_least zero blocks = true
is_least (suc zero) blocks = true
is_least (suc (suc level)) blocks = has_two blocks

abbrev pub is_even : Bool → ℕ → Blocks → Bool
is_even inodes level blocks = full_down inodes level blocks && is_least level blocks
