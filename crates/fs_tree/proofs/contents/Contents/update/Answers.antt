use Rattle.fs_tree.proofs.Kept.{edited_inodes}
use Rattle.fs_tree.proofs.contents.Contents.update.Goals as goal

pub returns-clause-ok : goal.returns-clause-ok
returns-clause-ok g c = edited_inodes g.E.Edit.makes c.args.ino.now c.args.edit.now c.update.new.edit c.self.inside.map c.update.new.self c.args.self.now c.self.view_is c.in_ok-update.ensures.ok
