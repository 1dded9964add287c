-- A name that stands inside a directory.
use Rattle.std.specs.Prelude.{Bool, ◌&&◌}
use Rattle.std.specs.List.{list_any}
use Rattle.ivy_base.specs.declared.key.Key.{Key}
use Rattle.tree_model.specs.Tree.{Tree, Place, same_key, inode_at, is_directory, is_inside}
use Rattle.dir_replay.specs.declared.nodes.Node.{Node}

-- the name leads to x, and stands in the directory k or inside it
abbrev pub stands_inside : Tree → Key → Key → Place × Key → Bool
stands_inside t x k e = same_key x e.1 && is_inside t e.0.0 k

-- a name in the inode leads to x, and the inode is the directory k or one inside it
abbrev pub has_name_inside : Tree → Key → Key → Key × Node → Bool
has_name_inside t x k e = list_any (λ n. same_key x n.1) e.1.entries && (is_directory (inode_at t e.0) && is_inside t e.0 k)
