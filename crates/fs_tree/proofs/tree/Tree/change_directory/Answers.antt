use Rattle.std.proofs.Common.{ap}
use Rattle.fs_tree.specs.Changing.{IsDirectoryChanged}
use Rattle.fs_tree.proofs.Joined.{directory_left}
use Rattle.fs_tree.proofs.tree.Tree.change_directory.Goals as goal

pub invariant_of-self : goal.invariant_of-self
invariant_of-self c =
    (directory_left c.self.inside.names c.self.inside.contents c.self.invariant c.args.dir.now c.args.moment c.args.op.now c.requires IsDirectoryChanged _ c.update.new.edit c.update.new.edit.names.now c.update.new.self
    (λ e. ap (λ s. s.names.now) e) (λ k l m. (m.0.1 c.args.moment, m.1)) c.update.result c.update.ensures.ok c.update.ensures.err).1

pub returns-clause-ok : goal.returns-clause-ok
returns-clause-ok c =
    rw (← c.self.view_is)
    ((directory_left c.self.inside.names c.self.inside.contents c.self.invariant c.args.dir.now c.args.moment c.args.op.now c.requires IsDirectoryChanged _ c.update.new.edit c.update.new.edit.names.now c.update.new.self
    (λ e. ap (λ s. s.names.now) e) (λ k l m. (m.0.1 c.args.moment, m.1)) c.update.result c.update.ensures.ok c.update.ensures.err).0)
