use Rattle.std.proofs.Common.{take}
use Rattle.view_blocks.specs.Owners.{AreHeads}
use Rattle.view_blocks.proofs.owners.Owners.of.Given as goal

abbrev pub invariant-loop-key : goal.invariant-loop-key
invariant-loop-key l = AreHeads l.heads.items (take l.key-index l.key-items)
