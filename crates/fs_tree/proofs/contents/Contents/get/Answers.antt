use Rattle.std.specs.Option.{option_copied}
use Rattle.fs_tree.proofs.Kept.{found_inode}
use Rattle.fs_tree.proofs.contents.Contents.get.Goals as goal

pub returns : goal.returns
returns c = found_inode c.args.ino.now c.self.inside.map (option_copied c.get.result) c.args.self.now c.get.ensures.value c.self.view_is
