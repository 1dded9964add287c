-- What an operation makes of one inode, whatever its number: the rules of `tree_model` without the tree.
use Rattle.std.specs.Prelude.{ℕ, ◌+◌, ◌≤◌, ◌&&◌, not, List, length, Option, Some, None, IfSome, is_some, if◌then◌else◌}
use Rattle.ivy_base.specs.declared.operation.Kind.{Kind}
use Rattle.ivy_base.specs.declared.operation.Moment.{Moment}
use Rattle.ivy_base.specs.declared.operation.Change.{Change}
use Rattle.ivy_base.specs.declared.operation.Op.{Op}
use Rattle.ivy_base.specs.declared.operation.Op.TheVariants as op
use Rattle.tree_model.specs.Tree.{Inode, file_kind, longest_file}
use Rattle.tree_model.specs.Apply.{overwritten, set_attributes}

-- ---- which operations

-- it adds an inode
abbrev pub MakesInode : Op → Type 0
MakesInode (op.Inode number kind mode uid gid target) = Unit {0}
MakesInode _ = ⊥

-- a Write or a SetAttrs, as a record's body may have it: no file ends past the limit
abbrev pub ChangesContent : Op → Type 0
ChangesContent (op.Write number offset bytes) = offset + length bytes ≤ longest_file
ChangesContent (op.SetAttrs number change) = IfSome change.size (λ size. size ≤ longest_file)
ChangesContent _ = ⊥

-- ---- what they make

-- a new inode, whose three times are the moment
abbrev pub new_inode : Moment → Kind → ℕ → ℕ → ℕ → List ℕ → Inode
new_inode now kind mode uid gid target = record {
  kind = kind;
  attributes = record { mode = mode; uid = uid; gid = gid; atime = now; mtime = now; ctime = now };
  body = target;
}

-- the inode that the operation adds
abbrev pub made : Moment → Op → Option Inode
made now (op.Inode number kind mode uid gid target) = Some (new_inode now kind mode uid gid target)
made now _ = None

-- the bytes, or a directory's entries, changed at that moment
abbrev pub touched_inode : Moment → Inode → Inode
touched_inode now i = record i { attributes = record i.attributes { mtime = now; ctime = now } }

-- with other bytes from the offset on
abbrev pub written : Moment → ℕ → List ℕ → Inode → Inode
written now offset bytes i = record (touched_inode now i) { body = overwritten i.body offset bytes }

-- with what is given, where the inode takes it: only a regular file takes a size
abbrev pub set_where_possible : Moment → Change → Inode → Inode
set_where_possible now change i = if is_some change.size && not (file_kind i.kind) then i else set_attributes now change i

-- what is left of an inode by an operation on it: a Write changes a regular file alone
abbrev pub changed : Moment → Op → Inode → Inode
changed now (op.Write number offset bytes) i = if file_kind i.kind then written now offset bytes i else i
changed now (op.SetAttrs number change) i = set_where_possible now change i
changed now _ i = i
