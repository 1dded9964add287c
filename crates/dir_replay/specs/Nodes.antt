-- All inodes, in the order of their numbers.
use Rattle.std.specs.Prelude.{ℕ, List, Bool, true, not, Option, Some, None}
use Rattle.std.specs.Ordering.{eq_by_cmp}
use Rattle.std.specs.FinMap.Entries.{find as value_at, put, where_key}
use Rattle.ivy_base.specs.declared.key.Key.{Key}
use Rattle.ivy_base.specs.Naming.{key_cmp}
use Rattle.dir_replay.specs.declared.nodes.Node.{Node}
use Rattle.dir_replay.specs.declared.nodes.Count.{Count}
use Rattle.dir_replay.specs.declared.nodes.Count.TheVariants as count
use Rattle.dir_replay.specs.declared.nodes.Change.{Change}
use Rattle.dir_replay.specs.declared.nodes.Change.TheVariants as change
use Rattle.dir_replay.specs.Counts.{less_one_if}
use Rattle.dir_replay.specs.Entries.{name_cmp}

-- the inodes with that one changed, where it was found
abbrev pub changed_node : List (Key × Node) → Key → Option Node → (Node → Node) → List (Key × Node)
changed_node nodes ino None f = nodes
changed_node nodes ino (Some n) f = put key_cmp ino (f n) nodes

-- the inodes with the one of that number changed, where there is one
abbrev pub at_node : List (Key × Node) → Key → (Node → Node) → List (Key × Node)
at_node nodes ino f = changed_node nodes ino (value_at key_cmp ino nodes) f

-- the directory with the name in it, leading to that inode, and so many subdirectories
abbrev pub entered : List ℕ → Key → ℕ → Node → Node
entered name ino subdirs n = record n { subdirs = subdirs; entries = put name_cmp name ino n.entries }

-- the directory without the name, which may have led to a directory
abbrev pub left : List ℕ → Bool → Node → Node
left name directory n = record n {
  subdirs = less_one_if n.subdirs directory;
  entries = where_key name_cmp (λ m. not (eq_by_cmp name_cmp m name)) n.entries;
}

-- the inode with so many names
abbrev pub named : Option Key → ℕ → Node → Node
named parent names n = record n { parent = parent; names = names }

-- the inode with a name less
abbrev pub unnamed : Node → Node
unnamed n = record n { parent = None; names = less_one_if n.names true }

-- the inodes with a name less for that one, where one is given
abbrev pub any_unnamed : List (Key × Node) → Option Key → List (Key × Node)
any_unnamed nodes None = nodes
any_unnamed nodes (Some ino) = at_node nodes ino unnamed

-- the inode with its name in another directory
abbrev pub moved_to : Option Key → Node → Node
moved_to parent n = record n { parent = parent }

-- the inode with other names
abbrev pub counted : Count → Node → Node
counted (count.Are parent names) = named parent names
counted count.Less = unnamed

-- the inode after a change
abbrev pub changed : Change → Node → Node
changed (change.Enter name ino subdirs) = entered name.now ino subdirs
changed (change.Leave name directory) = left name.now directory
changed (change.Count c) = counted c
changed (change.Move parent) = moved_to parent
