use Rattle.std.proofs.Common.{◌≡◌, length}
use Rattle.inode_replay.specs.Pieces.{resized}
use Rattle.inode_replay.proofs.bytes.SharedBytes.resize.Given as goal

abbrev pub invariant-pieces : goal.invariant-pieces
invariant-pieces l = resized l.size l.changed ≡ resized l.size l.fn.self

abbrev pub decreases-pieces : goal.decreases-pieces
decreases-pieces l = length l.changed
