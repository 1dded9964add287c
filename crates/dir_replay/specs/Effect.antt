-- Which directories' entries an operation changes.
use Rattle.std.specs.Prelude.{Bool, false, Option, Some, None, if◌then◌else◌}
use Rattle.std.specs.Option.{option_map_or}
use Rattle.ivy_base.specs.declared.key.Key.{Key}
use Rattle.ivy_base.specs.declared.operation.Moment.{Moment}
use Rattle.ivy_base.specs.declared.operation.Op.{Op}
use Rattle.ivy_base.specs.declared.operation.Op.TheVariants as op
use Rattle.tree_model.specs.Tree.{Tree, same_key, entry}
use Rattle.tree_model.specs.Apply.{with_name, without_name, may_link, may_lose_name, may_rename, touched}
use Rattle.dir_replay.specs.declared.touched.Touched.{Touched}

abbrev pub none_touched : Touched
none_touched = record { first = None; second = None }

-- whether the operation changes names: a Link, an Unlink or a Rename that may be done
abbrev pub is_effective : Tree → Op → Bool
is_effective t (op.Link dir name number) = may_link t dir name number
is_effective t (op.Unlink dir name) = option_map_or (may_lose_name t) (entry t dir name) false
is_effective t (op.Rename dir name to_dir to_name) = option_map_or (λ moved. may_rename t moved to_dir to_name) (entry t dir name) false
is_effective t _ = false

-- the directories of its names, the second where it is another one
abbrev pub directories : Op → Touched
directories (op.Link dir name number) = record { first = Some dir; second = None }
directories (op.Unlink dir name) = record { first = Some dir; second = None }
directories (op.Rename dir name to_dir to_name) = record { first = Some dir; second = if same_key to_dir dir then None else Some to_dir }
directories _ = none_touched

-- the directories whose entries the operation changes
abbrev pub touched_by : Tree → Op → Touched
touched_by t o = if is_effective t o then directories o else none_touched

-- the tree with its names as the operation changes them, and everything else as it is
abbrev pub with_names_changed : Tree → Op → Tree
with_names_changed t (op.Link dir name number) = with_name t dir name number
with_names_changed t (op.Unlink dir name) = without_name t dir name
with_names_changed t (op.Rename dir name to_dir to_name) =
    option_map_or (λ moved. with_name (without_name t dir name) to_dir to_name moved) (entry t dir name) t
with_names_changed t _ = t

-- the same, where the operation may be done
abbrev pub names_after : Tree → Op → Tree
names_after t o = if is_effective t o then with_names_changed t o else t

-- a Link, an Unlink or a Rename
abbrev pub IsOfNames : Op → Type 0
IsOfNames (op.Link dir name number) = Unit {0}
IsOfNames (op.Unlink dir name) = Unit {0}
IsOfNames (op.Rename dir name to_dir to_name) = Unit {0}
IsOfNames _ = ⊥

-- the directory's entries changed at that moment, where there is a directory
abbrev pub touched_at : Moment → Option Key → Tree → Tree
touched_at now None t = t
touched_at now (Some dir) t = touched now dir t

-- the entries of all these changed at that moment
abbrev pub all_touched : Moment → Touched → Tree → Tree
all_touched now dirs t = touched_at now dirs.second (touched_at now dirs.first t)
