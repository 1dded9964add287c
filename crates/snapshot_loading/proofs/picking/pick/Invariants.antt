use Rattle.std.proofs.Common.{◌≡◌, ◌++◌, map, drop}
use Rattle.snapshot_loading.specs.WholeLaws.{blocks_read}
use Rattle.snapshot_loading.specs.Picks.{picked}
use Rattle.snapshot_loading.proofs.picking.pick.Given as goal

abbrev pub invariant-each : goal.invariant-each
invariant-each l = picked l.inodes l.level (blocks_read l.read) ≡ map (λ b. b.now) l.blocks.items ++ picked l.inodes l.level (blocks_read (drop l.one-index l.read))
