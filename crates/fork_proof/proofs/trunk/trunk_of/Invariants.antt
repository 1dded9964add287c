use Rattle.std.proofs.Common.{take}
use Rattle.std.specs.Prelude.{All}
use Rattle.fork_proof.specs.Trunks.{LeadsAlong}
use Rattle.fork_proof.proofs.trunk.trunk_of.Given as goal

abbrev pub invariant-walked : goal.invariant-walked
invariant-walked l = All (LeadsAlong l.blocks l.trunk) (take l.place l.tips)
