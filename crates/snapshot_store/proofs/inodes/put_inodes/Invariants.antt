use Rattle.std.proofs.Common.{map, take}
use Rattle.snapshot_model.specs.Spelling.{inode_made}
use Rattle.snapshot_store.specs.Levels.{IsOver}
use Rattle.snapshot_store.proofs.inodes.put_inodes.Given as goal

abbrev pub invariant-inodes : goal.invariant-inodes
invariant-inodes l = IsOver l.fn.blocks (map (inode_made l.tree) (take l.number-index l.tree.inodes)) l.blocks l.levels
