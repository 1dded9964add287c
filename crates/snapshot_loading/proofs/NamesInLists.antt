-- Names in a list block.
use Rattle.std.proofs.Common.{◌≡◌, ℕ, List, [], ◌∷◌, map, refl}
use Rattle.snapshot_model.specs.Reading.{SnapshotPart}
use Rattle.snapshot_blocks.specs.Parsed.{keys_of}
use Rattle.snapshot_loading.specs.declared.role.Role.{Role}
use Rattle.snapshot_loading.specs.Roles.{blocks_of, part_of, parts_of}

pub parts_are : (one : Role) (part : SnapshotPart) → part_of one ≡ part → (keys : List (List ℕ)) → parts_of (blocks_of one keys) ≡ map (λ k. (part, k)) (keys_of keys)
parts_are one part is [] = refl
parts_are one part is (bytes ∷ keys) = rw (is, parts_are one part is keys) refl
