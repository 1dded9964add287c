use Rattle.inode_replay.specs.Contents.{changed}
use Rattle.inode_replay.proofs.Applied.{kind-changed}
use Rattle.fs_tree.proofs.Joined.{content_left}
use Rattle.fs_tree.proofs.tree.Tree.change_content.Goals as goal

pub invariant_of-self : goal.invariant_of-self
invariant_of-self c =
    (content_left c.self.inside.names c.self.inside.contents c.self.invariant c.args.ino.now (changed c.args.moment c.args.op.now) (kind-changed c.args.moment c.args.op.now) c.change.result c.change.new.self c.change.ensures.ok c.change.ensures.err).1

pub returns-clause-ok : goal.returns-clause-ok
returns-clause-ok c =
    rw (← c.self.view_is) ((content_left c.self.inside.names c.self.inside.contents c.self.invariant c.args.ino.now (changed c.args.moment c.args.op.now) (kind-changed c.args.moment c.args.op.now) c.change.result c.change.new.self c.change.ensures.ok c.change.ensures.err).0)

pub returns-clause-order : goal.returns-clause-order
returns-clause-order c = rw (← c.self.view_is) c.self.invariant.sound.order
