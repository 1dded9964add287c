use Rattle.std.proofs.Common.{◌≡◌, ◌-◌, drop}
use Rattle.tree_model.specs.Tree.{parents_in}
use Rattle.plain_tree.proofs.Climbed.{all_end}
use Rattle.plain_tree.proofs.names.+climb_ends.Given as goal

abbrev pub decreases-climb_ends : goal.decreases-climb_ends
decreases-climb_ends l = l.most

-- what is left answers as all do
abbrev pub invariant-loop-entry : goal.invariant-loop-entry
invariant-loop-entry l = all_end l.names l.dir (l.most - 1) (parents_in (drop l.entry-index l.names) l.ino) ≡ all_end l.names l.dir (l.most - 1) (parents_in l.names l.ino)
