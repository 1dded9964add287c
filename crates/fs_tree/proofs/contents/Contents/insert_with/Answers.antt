use Rattle.fs_tree.proofs.Kept.{put_inodes}
use Rattle.fs_tree.proofs.contents.Contents.insert_with.Goals as goal

pub returns-clause-ok : goal.returns-clause-ok
returns-clause-ok g c = (put_inodes c.args.ino c.args.content c.self.inside.map c.insert_with.new.self c.args.self.now c.in_ok-insert_with.ensures.ok.0 c.self.view_is, c.in_ok-insert_with.ensures.ok.1)
