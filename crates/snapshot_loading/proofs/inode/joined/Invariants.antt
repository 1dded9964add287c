use Rattle.std.proofs.Common.{◌≡◌, ◌++◌, map, drop}
use Rattle.snapshot_loading.specs.ShownInodes.{run_of}
use Rattle.snapshot_loading.proofs.inode.joined.Given as goal

abbrev pub invariant-each : goal.invariant-each
invariant-each l = run_of (map (λ b. b.now) l.pieces) ≡ l.bytes.items ++ run_of (map (λ b. b.now) (drop l.piece-index l.pieces))
