use Rattle.std.proofs.Common.{ap}
use Rattle.fs_tree.proofs.Joined.{inode_left, is_free}
use Rattle.fs_tree.proofs.tree.Tree.add.Goals as goal

pub invariant_of-self : goal.invariant_of-self
invariant_of-self c =
    (inode_left c.self.inside.names c.self.inside.contents c.self.invariant c.args.moment c.in-Inode.ino c.in-Inode.kind c.in-Inode.mode c.in-Inode.uid c.in-Inode.gid c.in-Inode.target c.args.op.now c.in-Inode.is c.in_ok-content.content c.in_ok-content.ensures (is_free c.get.result _ c.get.ensures c.if-is_some.ensures) c.insert_with.new.rest.names.now c.insert_with.new.self
    (λ m. m.1 c.args.moment) (λ e. ap (λ s. s.names.now) e) c.insert_with.result c.insert_with.ensures.ok c.insert_with.ensures.err).1

pub returns-clause-ok : goal.returns-clause-ok
returns-clause-ok c =
    rw (← c.self.view_is)
    ((inode_left c.self.inside.names c.self.inside.contents c.self.invariant c.args.moment c.in-Inode.ino c.in-Inode.kind c.in-Inode.mode c.in-Inode.uid c.in-Inode.gid c.in-Inode.target c.args.op.now c.in-Inode.is c.in_ok-content.content c.in_ok-content.ensures (is_free c.get.result _ c.get.ensures c.if-is_some.ensures) c.insert_with.new.rest.names.now c.insert_with.new.self
    (λ m. m.1 c.args.moment) (λ e. ap (λ s. s.names.now) e) c.insert_with.result c.insert_with.ensures.ok c.insert_with.ensures.err).0)
