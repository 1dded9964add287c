use Rattle.std.proofs.Common.{◌≡◌, take}
use Rattle.plain_tree.proofs.names.copy.Given as goal

-- copied are those that were passed
abbrev pub invariant-loop-entry : goal.invariant-loop-entry
invariant-loop-entry l = l.copy.items ≡ take l.entry-index l.names
