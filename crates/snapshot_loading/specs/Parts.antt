-- The tree of given inodes and names.
use Rattle.std.specs.Prelude.{◌≡◌, ℕ, ◌≤◌, List, [], length, map, flat_map, replicate, Option, Some, None}
use Rattle.ivy_base.specs.declared.key.Key.{Key}
use Rattle.ivy_base.specs.declared.operation.Kind.{Kind}
use Rattle.ivy_base.specs.declared.operation.Kind.TheVariants.{Reg, Dir, Lnk}
use Rattle.tree_model.specs.Tree.{Tree, Inode, Place, file_kind, longest_file}
use Rattle.tree_model.specs.Sound.{IsSound}
use Rattle.dir_replay.specs.View.{names_in}
use Rattle.inode_replay.specs.Attributes.{attributes_of}
use Rattle.inode_replay.specs.Kept.{Kept}
use Rattle.snapshot_loading.specs.declared.parts.InodeParts.{InodeParts}

abbrev pub inode_of : InodeParts → Inode
inode_of p = record { kind = p.kind; attributes = attributes_of p.attributes; body = p.body }

-- with its places: each of a file is written, and none of anything else
abbrev pub kept_of : InodeParts → Kept
kept_of p = record { inode = inode_of p; written = replicate (length p.body) (file_kind p.kind) }

abbrev pub numbered : InodeParts → Key × Inode
numbered p = (p.number, inode_of p)

abbrev pub names_of : InodeParts → List (Place × Key)
names_of p = names_in p.number p.entries.items

-- these inodes, and all their names
abbrev pub tree_of : List InodeParts → Tree
tree_of parts = record { names = flat_map names_of parts; inodes = map numbered parts }

-- a file has a file's length, and a directory no bytes
abbrev pub IsBody : Kind → List ℕ → Type 0
IsBody Reg body = length body ≤ longest_file
IsBody Dir body = body ≡ []
IsBody Lnk body = Unit {0}

abbrev pub HasBody : InodeParts → Type 0
HasBody p = IsBody p.kind p.body

-- it is this tree, which is without contradictions; or the tree isn't
abbrev pub IsTreeOf : Tree → Option Tree → Type 0
IsTreeOf t (Some built) = (built ≡ t) × IsSound t
IsTreeOf t None = IsSound t → ⊥
