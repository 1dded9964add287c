use Rattle.ivy_base.specs.Naming.{key_cmp}
use Rattle.plain_tree.proofs.Put.{GoesBehind}
use Rattle.plain_tree.proofs.inodes.search.Given as goal

abbrev pub invariant-entries : goal.invariant-entries
invariant-entries l = GoesBehind key_cmp l.fn.ino l.inodes l.at
