use Rattle.fs_tree.proofs.Joined.{written_is, attributes_are}
use Rattle.fs_tree.proofs.tree.Tree.apply.Goals as goal

pub returns-in-Write-clause-ok : goal.returns-in-Write-clause-ok
returns-in-Write-clause-ok c =
    written_is c.args.self.now c.change_content.ensures.order c.args.moment c.in-Write.ino c.args.op.now c.change_content.result c.change_content.new.self c.change_content.ensures.ok c.in-Write.offset c.in-Write.bytes c.in-Write.is

pub returns-in-SetAttrs-clause-ok : goal.returns-in-SetAttrs-clause-ok
returns-in-SetAttrs-clause-ok c =
    attributes_are c.args.self.now c.change_content-in-SetAttrs.ensures.order c.args.moment c.in-SetAttrs.ino c.args.op.now c.change_content-in-SetAttrs.result c.change_content-in-SetAttrs.new.self c.change_content-in-SetAttrs.ensures.ok c.in-SetAttrs.change c.in-SetAttrs.is
