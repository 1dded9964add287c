use Rattle.std.proofs.Common.{◌≡◌, true, refl, ◌∙◌}
use Rattle.tree_model.specs.Tree.{inode_at, is_directory}
use Rattle.dir_replay.proofs.Bare.{is_directory-bare}
use Rattle.nfs3_writes.proofs.naming.is_inside_moved.Goals as goal

pub returns-in-Some : goal.returns-in-Some
returns-in-Some c =
    let directory : is_directory (inode_at c.names.result.now c.args.dir.now) ≡ true = rw c.names.ensures (is_directory-bare c.args.tree.now c.args.dir.now ∙ c.requires) in
    rw (c.in-Some.is, c.inside.ensures.tested directory, c.names.ensures) refl
