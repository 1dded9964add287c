use Rattle.fs_tree.proofs.Kept.{put_inodes}
use Rattle.fs_tree.proofs.contents.Contents.insert.Goals as goal

pub returns-clause-ok : goal.returns-clause-ok
returns-clause-ok c = put_inodes c.args.ino c.args.content c.self.inside.map c.insert.new.self c.args.self.now c.in_ok-insert.ensures.ok c.self.view_is
