use Rattle.plain_tree.proofs.Kept.{inode_set}
use Rattle.plain_tree.proofs.plain.Plain.set_inode.Goals as goal

pub returns : goal.returns
returns c = record {
  ok = inode_set c.self.inside.names.items c.self.inside.inodes.items c.args.self.now c.self.view_is c.args.ino.now c.put.result c.args.content c.put.new.inodes.items c.put.ensures.ok;
}
