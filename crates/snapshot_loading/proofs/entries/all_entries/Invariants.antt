use Rattle.std.proofs.Common.{map, take}
use Rattle.snapshot_loading.proofs.Runs.{AreDone}
use Rattle.snapshot_loading.proofs.entries.all_entries.Given as goal

abbrev pub invariant-each : goal.invariant-each
invariant-each l = AreDone (map (λ b. b.now) (take l.block-index l.blocks)) l.before l.all.items
