use Rattle.std.proofs.Common.{◌≡◌, drop}
use Rattle.std.specs.FinMap.Entries.{find as value_at}
use Rattle.ivy_base.specs.Naming.{key_cmp}
use Rattle.plain_tree.proofs.inodes.find.Given as goal

-- what is left gives what all give
abbrev pub invariant-loop-entry : goal.invariant-loop-entry
invariant-loop-entry l = value_at key_cmp l.fn.ino (drop l.entry-index l.inodes) ≡ value_at key_cmp l.fn.ino l.inodes
