use Rattle.std.proofs.Common.{◌≡◌, ◌-◌, ◌≤◌, take, drop}
use Rattle.inode_replay.proofs.bytes.SharedBytes.read.Given as goal

abbrev pub invariant-pieces : goal.invariant-pieces
invariant-pieces l = record { within : l.read ≤ l.count; so_far : l.bytes.items ≡ take l.read (drop l.offset l.self) }

abbrev pub decreases-pieces : goal.decreases-pieces
decreases-pieces l = l.count - l.read
