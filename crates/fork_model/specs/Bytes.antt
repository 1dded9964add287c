-- The bytes of a fork proof.
use Rattle.std.specs.Prelude.{ℕ, List, [], ◌∷◌, ◌++◌}
use Rattle.wire_model.specs.Xdr.{opaque, array}

-- "IVF1"
abbrev pub proof_tag : List ℕ
proof_tag = 73 ∷ 86 ∷ 70 ∷ 49 ∷ []

-- so many blocks at most stand in a proof
abbrev pub most_blocks : ℕ
most_blocks = 1024

-- the head of the smaller number, the one of the greater, and blocks of records, the newest first
abbrev pub fork_bytes : List ℕ → List ℕ → List (List ℕ) → List ℕ
fork_bytes low high blocks = proof_tag ++ opaque low ++ opaque high ++ array opaque blocks
