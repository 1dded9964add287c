-- The bare tree that the inodes and their names stand for.
use Rattle.std.specs.Prelude.{ℕ, List, [], ◌∷◌, ◌++◌, map}
use Rattle.ivy_base.specs.declared.key.Key.{Key}
use Rattle.tree_model.specs.Tree.{Tree, Inode, Place}
use Rattle.dir_replay.specs.declared.nodes.Node.{Node}
use Rattle.dir_replay.specs.Bare.{bare_inode}

-- the names in a directory, with the directory
abbrev pub names_in : Key → List (List ℕ × Key) → List (Place × Key)
names_in dir names = map (λ e. ((dir, e.0), e.1)) names

-- the names in all directories, in the order of the directories' numbers
abbrev pub all_names : List (Key × Node) → List (Place × Key)
all_names [] = []
all_names (e ∷ es) = names_in e.0 e.1.entries ++ all_names es

-- all inodes, of which the kind is kept
abbrev pub all_inodes : List (Key × Node) → List (Key × Inode)
all_inodes nodes = map (λ e. (e.0, bare_inode e.1.kind)) nodes

abbrev pub tree_of : List (Key × Node) → Tree
tree_of nodes = record { names = all_names nodes; inodes = all_inodes nodes }
