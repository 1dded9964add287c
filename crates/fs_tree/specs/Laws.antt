-- What of a tree hangs on which operations: a file on those on it alone, and names on those that change no content.
use Rattle.std.specs.Prelude.{◌≡◌, Bool, true, false, not, List, [], ◌∷◌, filter, Option, Some, None}
use Rattle.ivy_base.specs.declared.key.Key.{Key}
use Rattle.ivy_base.specs.declared.operation.Moment.{Moment}
use Rattle.ivy_base.specs.declared.operation.Op.{Op}
use Rattle.ivy_base.specs.declared.operation.Op.TheVariants as op
use Rattle.tree_model.specs.Tree.{Inode, directory_kind, inode_at, same_key}
use Rattle.tree_model.specs.Apply.{apply_all, empty_tree}
use Rattle.dir_replay.specs.Bare.{bare}
use Rattle.inode_replay.specs.Contents.{changed, made}

-- ---- a file

-- the operation makes that inode, or changes what it contains
abbrev pub is_on : Key → Op → Bool
is_on n (op.Inode number kind mode uid gid target) = same_key n number
is_on n (op.Write number offset bytes) = same_key n number
is_on n (op.SetAttrs number change) = same_key n number
is_on n _ = false

-- those of the operations that are on it
abbrev pub own_of : Key → List (Moment × Op) → List (Moment × Op)
own_of n ops = filter (λ o. is_on n o.1) ops

-- what these make of it, one after the other: the first one that makes an inode makes it, and each after it changes it
abbrev pub content_after : Option Inode → List (Moment × Op) → Option Inode
content_after i [] = i
content_after None (o ∷ ops) = content_after (made o.0 o.1) ops
content_after (Some i) (o ∷ ops) = content_after (Some (changed o.0 o.1 i)) ops

-- An inode that is no directory is what the operations on it make, from nothing. (A directory's times also hang on the names in it.)
abbrev pub FilesHangOnTheirOwn : Type 0
FilesHangOnTheirOwn = (ops : List (Moment × Op)) (n : Key) (i : Inode) → inode_at (apply_all empty_tree ops) n ≡ Some i
    → directory_kind i.kind ≡ false → content_after None (own_of n ops) ≡ Some i

-- ---- names

-- the operation changes what an inode contains, and neither names nor kinds
abbrev pub is_of_content : Op → Bool
is_of_content (op.Write number offset bytes) = true
is_of_content (op.SetAttrs number change) = true
is_of_content _ = false

-- Names, and the kinds of inodes, are what the operations make of them without those that change contents.
abbrev pub NamesHangOnNames : Type 0
NamesHangOnNames = (ops : List (Moment × Op))
    → bare (apply_all empty_tree ops) ≡ bare (apply_all empty_tree (filter (λ o. not (is_of_content o.1)) ops))
