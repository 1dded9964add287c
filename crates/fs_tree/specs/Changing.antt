-- A change of the names that is made together with one of the contents.
use Rattle.std.specs.Prelude.{◌≡◌, is_some, if◌then◌else◌}
use Rattle.ivy_base.specs.declared.operation.Moment.{Moment}
use Rattle.tree_model.specs.Apply.{apply}
use Rattle.dir_replay.specs.Bare.{bare}
use Rattle.dir_replay.specs.Effect.{touched_by}
use Rattle.inode_replay.specs.Kept.{Kept, touched_kept}
use Rattle.fs_tree.specs.declared.changing.NamesChange.{NamesChange}

-- the names, of the same owner, are what the operation makes of them
abbrev pub AreNamesChanged : NamesChange → NamesChange → Type 0
AreNamesChanged s t = (t.names.ghost_name ≡ s.names.ghost_name) × ((now : Moment) → t.names.now ≡ bare (apply s.names.now now s.op.now))

-- and the content of the directory is touched, where its entries change
abbrev pub IsDirectoryChanged : NamesChange → Kept → NamesChange → Kept → Type 0
IsDirectoryChanged s k t l = AreNamesChanged s t
    × (l ≡ (if is_some (touched_by s.names.now s.op.now).first then touched_kept s.moment k else k))
