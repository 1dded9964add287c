-- The effect of one operation, and of a list of operations in their order, starting from the root alone.
-- An operation that may not be done changes nothing. An inode is never removed.
use Rattle.std.specs.Prelude.{ℕ, ◌+◌, ◌-◌, Bool, true, false, ◌&&◌, ◌||◌, not, List, [], ◌∷◌, ◌++◌, length, take, drop, replicate, Option}
use Rattle.std.specs.Prelude.{Some, None, is_some, is_none, unwrap_or, if◌then◌else◌}
use Rattle.std.specs.Ordering.{eq_by_cmp}
use Rattle.std.specs.Option.{option_map_or}
use Rattle.std.specs.FinMap.Entries.{put, where_key}
use Rattle.ivy_base.specs.declared.key.Key.{Key}
use Rattle.ivy_base.specs.declared.operation.Kind.{Kind}
use Rattle.ivy_base.specs.declared.operation.Kind.TheVariants.{Dir}
use Rattle.ivy_base.specs.declared.operation.Moment.{Moment}
use Rattle.ivy_base.specs.declared.operation.Change.{Change}
use Rattle.ivy_base.specs.declared.operation.Op.{Op}
use Rattle.ivy_base.specs.declared.operation.Op.TheVariants as op
use Rattle.ivy_base.specs.Naming.{key_cmp, root_number}
use Rattle.tree_model.specs.Tree.{Tree, Inode, place_cmp, same_key, inode_at, entry, is_directory, is_file, has_name, is_empty_directory}
use Rattle.tree_model.specs.Tree.{is_inside}

-- the root alone, with mode 0777 and the times 0
abbrev pub empty_tree : Tree
empty_tree = record {
  names = [];
  inodes = (
    root_number,
    record {
      kind = Dir;
      attributes = record {
        mode = 511;
        uid = 0;
        gid = 0;
        atime = record { sec = 0; nsec = 0 };
        mtime = record { sec = 0; nsec = 0 };
        ctime = record { sec = 0; nsec = 0 };
      };
      body = [];
    },
  ) ∷ [];
}

-- with that inode under the number, in place of the one that was there
abbrev pub with_inode : Tree → Key → Inode → Tree
with_inode t number i = record t { inodes = put key_cmp number i t.inodes }

abbrev pub changed_inode : Tree → Key → Option Inode → (Inode → Inode) → Tree
changed_inode t number None f = t
changed_inode t number (Some i) f = with_inode t number (f i)

-- the inode's new content, where there is such an inode
abbrev pub at_inode : Tree → Key → (Inode → Inode) → Tree
at_inode t number f = changed_inode t number (inode_at t number) f

-- ---- inodes and what they contain

-- a new inode, whose three times are the moment; a number that is used keeps its inode
abbrev pub add_inode : Tree → Moment → Key → Kind → ℕ → ℕ → ℕ → List ℕ → Tree
add_inode t now number kind mode uid gid target =
    if is_some (inode_at t number) then t
    else with_inode t number (record {
      kind = kind;
      attributes = record { mode = mode; uid = uid; gid = gid; atime = now; mtime = now; ctime = now };
      body = target;
    })

-- the bytes up to that length, with zeros where there are fewer
abbrev pub resized : ℕ → List ℕ → List ℕ
resized size bytes = take size bytes ++ replicate (size - length bytes) 0

-- the bytes with a part replaced from the offset on, a gap filled with zeros
abbrev pub overwritten : List ℕ → ℕ → List ℕ → List ℕ
overwritten bytes offset part = resized offset bytes ++ part ++ drop (offset + length part) bytes

-- other bytes in a regular file, from that moment on; no other inode is written
abbrev pub write_file : Tree → Moment → Key → ℕ → List ℕ → Tree
write_file t now number offset bytes =
    if is_file (inode_at t number)
    then at_inode t number (λ i. record i {
      attributes = record i.attributes { mtime = now; ctime = now };
      body = overwritten i.body offset bytes;
    })
    else t

-- what is given, and the ctime; a size that is given changes the bytes, and so the mtime where none is given
abbrev pub set_attributes : Moment → Change → Inode → Inode
set_attributes now change i = record i {
  attributes = record {
    mode = unwrap_or change.mode i.attributes.mode;
    uid = unwrap_or change.uid i.attributes.uid;
    gid = unwrap_or change.gid i.attributes.gid;
    atime = unwrap_or change.atime i.attributes.atime;
    mtime = unwrap_or change.mtime (if is_some change.size then now else i.attributes.mtime);
    ctime = now;
  };
  body = resized (unwrap_or change.size (length i.body)) i.body;
}

-- other attributes of an inode; only a regular file takes a size
abbrev pub change_inode : Tree → Moment → Key → Change → Tree
change_inode t now number change =
    if is_some change.size && not (is_file (inode_at t number)) then t
    else at_inode t number (set_attributes now change)

-- ---- names

-- the directory's entries changed at that moment
abbrev pub touched : Moment → Key → Tree → Tree
touched now dir t = at_inode t dir (λ i. record i { attributes = record i.attributes { mtime = now; ctime = now } })

-- with the name in the directory, leading to that inode
abbrev pub with_name : Tree → Key → List ℕ → Key → Tree
with_name t dir name number = record t { names = put place_cmp (dir, name) number t.names }

-- without the name in the directory
abbrev pub without_name : Tree → Key → List ℕ → Tree
without_name t dir name = record t { names = where_key place_cmp (λ p. not (eq_by_cmp place_cmp p (dir, name))) t.names }

-- the directory and the inode are there, the name is free, and the inode isn't the root; a directory has no name yet,
-- and the place isn't the directory itself or inside it
abbrev pub may_link : Tree → Key → List ℕ → Key → Bool
may_link t dir name number =
    is_directory (inode_at t dir) && is_some (inode_at t number)
    && is_none (entry t dir name)
    && not (same_key number root_number)
    && not (is_directory (inode_at t number) && (has_name t number || is_inside t dir number))

-- a name more
abbrev pub link : Tree → Moment → Key → List ℕ → Key → Tree
link t now dir name number =
    if may_link t dir name number then touched now dir (with_name t dir name number) else t

-- the inode may lose its name: it isn't a directory with entries
abbrev pub may_lose_name : Tree → Key → Bool
may_lose_name t number = not (is_directory (inode_at t number)) || is_empty_directory t number

-- a name less, where it is there and may be lost
abbrev pub unlink : Tree → Moment → Key → List ℕ → Tree
unlink t now dir name =
    if option_map_or (may_lose_name t) (entry t dir name) false
    then touched now dir (without_name t dir name) else t

abbrev pub same_bool : Bool → Bool → Bool
same_bool a b = if a then b else not b

-- the moved inode may take the place of the one that has the target's name, where there is one: both or neither are
-- directories, the other one may lose its name, and they aren't the same
abbrev pub may_replace : Tree → Key → Option Key → Bool
may_replace t moved None = true
may_replace t moved (Some target) =
    same_bool (is_directory (inode_at t moved)) (is_directory (inode_at t target))
    && may_lose_name t target && not (same_key moved target)

-- the target is a place in a directory that isn't the moved inode or inside it, free or to be replaced
abbrev pub may_rename : Tree → Key → Key → List ℕ → Bool
may_rename t moved to_dir to_name =
    is_directory (inode_at t to_dir) && may_replace t moved (entry t to_dir to_name)
    && not (is_inside t to_dir moved)

-- the name moved to its new place, where the source is there; both directories changed
abbrev pub move : Tree → Moment → Key → List ℕ → Key → List ℕ → Option Key → Tree
move t now dir name to_dir to_name None = t
move t now dir name to_dir to_name (Some moved) =
    if may_rename t moved to_dir to_name
    then touched now to_dir (touched now dir (with_name (without_name t dir name) to_dir to_name moved)) else t

-- ---- one operation, and many

-- what the operation makes of the tree at that moment
abbrev pub apply : Tree → Moment → Op → Tree
apply t now (op.Inode number kind mode uid gid target) = add_inode t now number kind mode uid gid target
apply t now (op.Write number offset bytes) = write_file t now number offset bytes
apply t now (op.Link dir name number) = link t now dir name number
apply t now (op.Unlink dir name) = unlink t now dir name
apply t now (op.Rename dir name to_dir to_name) = move t now dir name to_dir to_name (entry t dir name)
apply t now (op.Prepare dir name verifier) = t
apply t now (op.Cancel seq) = t
apply t now (op.SetAttrs number change) = change_inode t now number change
apply t now op.End = t

-- the effect of operations in their order
abbrev pub apply_all : Tree → List (Moment × Op) → Tree
apply_all t [] = t
apply_all t (o ∷ os) = apply_all (apply t o.0 o.1) os
