use Rattle.std.proofs.Common.{length}
use Rattle.snapshot_loading.specs.WholeLaws.{blocks_read}
use Rattle.snapshot_loading.proofs.Steps.{AreSoFar}
use Rattle.snapshot_loading.proofs.inodes.all_inodes.Given as goal

abbrev pub invariant-each : goal.invariant-each
invariant-each l = AreSoFar (blocks_read l.fn.read) (blocks_read l.left) l.all.items

abbrev pub decreases-each : goal.decreases-each
decreases-each l = length l.left
