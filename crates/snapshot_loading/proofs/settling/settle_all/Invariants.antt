use Rattle.std.proofs.Common.{take}
use Rattle.snapshot_loading.proofs.Settled.{AreSettledTo}
use Rattle.snapshot_loading.proofs.settling.settle_all.Given as goal

abbrev pub invariant-parts : goal.invariant-parts
invariant-parts l = AreSettledTo (take l.part-index l.parts) l.parts l.initial.tree l.tree
