use Rattle.std.proofs.Common.{◌∙◌}
use Rattle.fs_tree.proofs.Joined.{subdirectories}
use Rattle.fs_tree.proofs.tree.Tree.subdirs.Goals as goal

pub returns : goal.returns
returns c = rw (← c.self.view_is) (c.subdirs.ensures ∙ subdirectories c.self.inside.names c.self.inside.contents c.self.invariant c.args.dir.now)
