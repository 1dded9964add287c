use Rattle.std.proofs.Common.{◌≡◌, ◌-◌, ◌≤◌, length, take}
use Rattle.inode_replay.specs.Pieces.{overwritten}
use Rattle.inode_replay.proofs.bytes.SharedBytes.overwrite.Given as goal

abbrev pub invariant-pieces : goal.invariant-pieces
invariant-pieces l = record { within : l.written ≤ length l.bytes; so_far : l.changed ≡ overwritten l.fn.self l.offset (take l.written l.bytes) }

abbrev pub decreases-pieces : goal.decreases-pieces
decreases-pieces l = length l.bytes - l.written
