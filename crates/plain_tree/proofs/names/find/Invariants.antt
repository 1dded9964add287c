use Rattle.std.proofs.Common.{◌≡◌, drop}
use Rattle.std.specs.FinMap.Entries.{find as value_at}
use Rattle.tree_model.specs.Tree.{place_cmp}
use Rattle.plain_tree.proofs.names.find.Given as goal

-- what is left gives what all give
abbrev pub invariant-loop-entry : goal.invariant-loop-entry
invariant-loop-entry l = value_at place_cmp (l.fn.dir, l.fn.name) (drop l.entry-index l.names) ≡ value_at place_cmp (l.fn.dir, l.fn.name) l.names
