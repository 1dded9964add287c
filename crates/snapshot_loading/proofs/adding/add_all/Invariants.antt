use Rattle.std.proofs.Common.{take}
use Rattle.snapshot_loading.specs.Steps.{AreAdded}
use Rattle.snapshot_loading.proofs.adding.add_all.Given as goal

abbrev pub invariant-parts : goal.invariant-parts
invariant-parts l = AreAdded (take l.part-index l.parts) l.tree
