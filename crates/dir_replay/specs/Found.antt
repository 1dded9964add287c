-- What is kept of an inode that was found, and what is noted with a new name of it.
use Rattle.std.specs.Prelude.{◌≡◌, ℕ, List, Some, None, true, nat_lt, if◌then◌else◌}
use Rattle.std.specs.FinMap.Entries.{find as value_at}
use Rattle.ivy_base.specs.declared.key.Key.{Key}
use Rattle.tree_model.specs.Tree.{Tree, directory_kind, inode_at, entry, is_directory, has_name, name_count, subdirectory_count}
use Rattle.dir_replay.specs.declared.nodes.Node.{Node}
use Rattle.dir_replay.specs.declared.nodes.Linked.{Linked}
use Rattle.dir_replay.specs.Counts.{one_more_if}
use Rattle.dir_replay.specs.Entries.{name_cmp}

-- it is what the tree says of the inode
pub record IsKept (t : Tree) (ino : Key) (n : Node) : Type 0 where
  pub directory : directory_kind n.kind ≡ is_directory (inode_at t ino)
  pub names : n.names ≡ name_count t ino
  pub named : nat_lt 0 n.names ≡ has_name t ino
  pub subdirs : n.subdirs ≡ subdirectory_count t ino
  pub entries : (name : List ℕ) → value_at name_cmp name n.entries ≡ entry t ino name

-- a name more leads to the inode, from that directory
pub record IsLinked (t : Tree) (dir ino : Key) (l : Linked) : Type 0 where
  pub subdirs : l.subdirs ≡ one_more_if (subdirectory_count t dir) (is_directory (inode_at t ino))
  pub names : l.names ≡ one_more_if (name_count t ino) true
  pub parent : l.parent ≡ (if is_directory (inode_at t ino) then Some dir else None)
