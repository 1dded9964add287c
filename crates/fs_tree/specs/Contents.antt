-- The contents of all inodes, in the order of their numbers.
use Rattle.std.specs.Prelude.{◌≡◌, List, map, Option, Some, None}
use Rattle.std.specs.FinMap.Entries.{find as value_at, put}
use Rattle.ivy_base.specs.declared.key.Key.{Key}
use Rattle.ivy_base.specs.declared.operation.Moment.{Moment}
use Rattle.ivy_base.specs.Naming.{key_cmp}
use Rattle.tree_model.specs.Tree.{Inode}
use Rattle.inode_replay.specs.Contents.{touched_inode}
use Rattle.inode_replay.specs.Kept.{Kept}

-- the inodes as the definitions have them, without which places are written
abbrev pub inodes_of : List (Key × Kept) → List (Key × Inode)
inodes_of kept = map (λ e. (e.0, e.1.inode)) kept

-- the contents with that one changed, where it was found
abbrev pub changed_content : List (Key × Inode) → Key → Option Inode → (Inode → Inode) → List (Key × Inode)
changed_content contents ino None f = contents
changed_content contents ino (Some i) f = put key_cmp ino (f i) contents

-- the contents with the one of that number changed, where there is one
abbrev pub at_content : List (Key × Inode) → Key → (Inode → Inode) → List (Key × Inode)
at_content contents ino f = changed_content contents ino (value_at key_cmp ino contents) f

-- the contents after a change of the directory's entries, where one is given
abbrev pub touched_content : Moment → Option Key → List (Key × Inode) → List (Key × Inode)
touched_content now None contents = contents
touched_content now (Some dir) contents = at_content contents dir (touched_inode now)

module _ {S : Type 0} (makes : S → Kept → S → Kept → Type 0) (ino : Key) (edit after : S) (old new : List (Key × Inode)) where
  -- of the inode of that number: without one nothing has changed
  abbrev pub IsContentEditedAt : Option Inode → Type 0
  IsContentEditedAt None = (after ≡ edit) × (new ≡ old)
  IsContentEditedAt (Some i) = (k l : Kept) × (k.inode ≡ i) × makes edit k after l × (new ≡ put key_cmp ino l.inode old)

  -- the inode of that number is what the edit made of it, and all else is as it was
  abbrev pub IsContentEdited : Type 0
  IsContentEdited = IsContentEditedAt (value_at key_cmp ino old)
