use Rattle.std.proofs.Common.{◌≡◌, true}
use Rattle.tree_model.specs.Tree.{inode_at, is_directory, is_inside}
use Rattle.tree_model.proofs.Parents.{height}
use Rattle.dir_replay.proofs.names.Names.is_inside.Given as goal

abbrev pub invariant-climb : goal.invariant-climb
invariant-climb l = record {
  directory : is_directory (inode_at l.self l.at) ≡ true;
  same : is_inside l.self l.at l.dir ≡ is_inside l.self l.fn.start l.dir;
}

-- how many directories lie above
abbrev pub decreases-climb : goal.decreases-climb
decreases-climb l = height l.self l.at
