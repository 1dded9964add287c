-- Bytes in pieces of one size: piece n has the places from c * n on, and places after a piece's end are zero.
use Rattle.std.specs.Prelude.{◌≡◌, ◌≢◌, ℕ, zero, suc, ◌+◌, ◌*◌, ◌-◌, ◌≤◌, List, [], ◌++◌, length, take, drop, replicate}
use Rattle.std.specs.Option.{option_map_or}
use Rattle.std.specs.FinMap.Entries.{find as value_at}
use Rattle.std.specs.declared.alloc.Global.{Global}
use Rattle.std.specs.declared.vec.Vec.{Vec}
use Rattle.inode_replay.specs.declared.number.PieceNumber.{PieceNumber}
use Rattle.inode_replay.specs.Numbers.{number_cmp}

-- how many places a piece has
abbrev pub piece_size : ℕ
piece_size = 8192

-- the bytes of each piece; none where there is no such piece
abbrev pub pieces_in : List (PieceNumber × Vec ℕ Global) → ℕ → List ℕ
pieces_in entries number = option_map_or (λ v. v.items) (value_at number_cmp (record { 0 = number }) entries) []

-- the bytes up to that length, with zeros where there are fewer
abbrev pub resized : ℕ → List ℕ → List ℕ
resized size bytes = take size bytes ++ replicate (size - length bytes) 0

-- the bytes with a part replaced, a gap filled with zeros
abbrev pub overwritten : List ℕ → ℕ → List ℕ → List ℕ
overwritten bytes start part = resized start bytes ++ part ++ drop (start + length part) bytes

-- at one number other bytes, and at the others the same
abbrev pub ChangesOne : (ℕ → List ℕ) → (ℕ → List ℕ) → ℕ → List ℕ → Type 0
ChangesOne old new number bytes = (new number ≡ bytes) × ((n : ℕ) → n ≢ number → new n ≡ old n)

-- c places, of which the first have these bytes and the others are zero
unfoldable pub padded : ℕ → List ℕ → List ℕ
padded c bytes = resized c bytes

-- the places of the first pieces in a row
unfoldable pub row : ℕ → (ℕ → List ℕ) → ℕ → List ℕ
row c pieces zero = []
row c pieces (suc n) = row c pieces n ++ padded c (pieces n)

-- the places below the size
unfoldable pub bytes_in : ℕ → (ℕ → List ℕ) → ℕ → List ℕ
bytes_in c pieces size = take size (row c pieces size)

-- no piece is longer than it may be or ends after the size
abbrev pub Fit : ℕ → (ℕ → List ℕ) → ℕ → Type 0
Fit c pieces size = (n : ℕ) → (length (pieces n) ≤ c) × (length (pieces n) ≤ size - c * n)
