use Rattle.tree_model.specs.Tree.{place_cmp}
use Rattle.plain_tree.proofs.Put.{GoesBehind}
use Rattle.plain_tree.proofs.names.search.Given as goal

abbrev pub invariant-entries : goal.invariant-entries
invariant-entries l = GoesBehind place_cmp (l.fn.dir, l.fn.name) l.names l.at
