use Rattle.std.proofs.Common.{◌≡◌}
use Rattle.snapshot_loading.specs.WholeLaws.{blocks_read}
use Rattle.snapshot_loading.specs.Evenness.{full_down}
use Rattle.snapshot_loading.proofs.evenness.full_down.Given as goal

abbrev pub invariant-levels : goal.invariant-levels
invariant-levels l = full_down l.inodes l.level (blocks_read l.read) ≡ full_down l.inodes l.left (blocks_read l.read)

abbrev pub decreases-levels : goal.decreases-levels
decreases-levels l = l.left
