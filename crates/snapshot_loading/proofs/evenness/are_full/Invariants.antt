use Rattle.std.proofs.Common.{◌≡◌, map, drop}
use Rattle.snapshot_loading.specs.Evenness.{full_after}
use Rattle.snapshot_loading.proofs.evenness.are_full.Given as goal

abbrev pub invariant-each : goal.invariant-each
invariant-each l = full_after l.size l.size (map (λ b. b.now) l.blocks) ≡ full_after l.size l.before (map (λ b. b.now) (drop l.block-index l.blocks))
