-- The checks of the procedures that `nfs_model` has in their plans, each as a list of its own: those of a place, and the
-- rest.
use Rattle.std.specs.Prelude.{ℕ, ◌+◌, nat_le, nat_lt, Bool, ◌||◌, ◌&&◌, not, List, [], ◌∷◌, ◌++◌, length, Option, is_some, ◌==◌}
use Rattle.ivy_base.specs.declared.key.Key.{Key}
use Rattle.wire_model.specs.Rpc.{Identity}
use Rattle.tree_model.specs.Tree.{Tree, is_file, is_directory, directory_kind, file_kind, name_count, longest_file}
use Rattle.nfs_model.specs.declared.arguments.SetWhat.{SetWhat}
use Rattle.nfs_model.specs.declared.replies.NfsStatus.TheVariants as status
use Rattle.nfs_model.specs.Checks.{Check, is_dot, is_dot_dot}
use Rattle.nfs_model.specs.Objects.{Object, may_write, is_owner}
use Rattle.nfs_model.specs.Changing.{directory_checks, name_checks, may_change, taken, invalid_times, too_large, inode_under}
use Rattle.nfs_model.specs.Changing.{is_empty_under, may_cut, taken_part}

-- of a directory and a name that is to be changed in it
abbrev pub place_checks : Identity → Object → List ℕ → List Check
place_checks who dir name = directory_checks who dir ++ name_checks name

-- of MKDIR
abbrev pub directory_made_rest : Tree → Object → List ℕ → SetWhat → List Check
directory_made_rest t dir name what = invalid_times what ∷ taken t dir name ∷ []

abbrev pub directory_made_checks : Tree → Identity → Object → List ℕ → SetWhat → List Check
directory_made_checks t who dir name what = place_checks who dir name ++ directory_made_rest t dir name what

-- of SYMLINK
abbrev pub link_made_rest : Tree → Object → List ℕ → SetWhat → List ℕ → List Check
link_made_rest t dir name what text =
    (nat_lt 1024 (length text), status.NameTooLong) ∷ (length text == 0, status.Inval)
    ∷ invalid_times what ∷ taken t dir name ∷ []

abbrev pub link_made_checks : Tree → Identity → Object → List ℕ → SetWhat → List ℕ → List Check
link_made_checks t who dir name what text = place_checks who dir name ++ link_made_rest t dir name what text

-- of CREATE with attributes, where the name leads to that inode or to none
abbrev pub file_made_rest : Tree → Identity → List ℕ → Option Key → Bool → SetWhat → List Check
file_made_rest t who name existing guarded what =
    invalid_times what ∷ too_large what.size
    ∷ (is_dot name || is_dot_dot name, status.Exist)
    ∷ (is_some existing && (guarded || not (is_file (inode_under t existing))), status.Exist)
    ∷ (is_some existing && is_some what.size && not (may_cut who (inode_under t existing)), status.Acces) ∷ []

abbrev pub file_made_checks : Tree → Identity → Object → List ℕ → Option Key → Bool → SetWhat → List Check
file_made_checks t who dir name existing guarded what = place_checks who dir name ++ file_made_rest t who name existing guarded what

-- of WRITE
abbrev pub write_checks : Identity → Object → ℕ → ℕ → List ℕ → List Check
write_checks who o offset count bytes =
    (not (file_kind o.inode.kind), status.Inval)
    ∷ (not (may_write who o.inode || is_owner who o.inode), status.Acces)
    ∷ (not (count == length bytes), status.Inval)
    ∷ (nat_lt longest_file (offset + length (taken_part bytes)), status.FBig) ∷ []

-- of REMOVE, where the name leads to that inode or to none
abbrev pub remove_rest : Tree → List ℕ → Option Key → List Check
remove_rest t name target =
    (is_dot name || is_dot_dot name, status.Inval) ∷ (not (is_some target), status.NoEnt)
    ∷ (is_directory (inode_under t target), status.IsDir) ∷ []

abbrev pub remove_checks : Tree → Identity → Object → List ℕ → Option Key → List Check
remove_checks t who dir name target = place_checks who dir name ++ remove_rest t name target

-- of RMDIR, where the name leads to that inode or to none
abbrev pub remove_directory_rest : Tree → List ℕ → Option Key → List Check
remove_directory_rest t name target =
    (is_dot name, status.Inval) ∷ (is_dot_dot name, status.Exist) ∷ (not (is_some target), status.NoEnt)
    ∷ (not (is_directory (inode_under t target)), status.NotDir) ∷ (not (is_empty_under t target), status.NotEmpty) ∷ []

abbrev pub remove_directory_checks : Tree → Identity → Object → List ℕ → Option Key → List Check
remove_directory_checks t who dir name target = place_checks who dir name ++ remove_directory_rest t name target

-- of the two places of a RENAME, where the first name leads to that inode or to none
abbrev pub both_directories_checks : Identity → Object → Object → List Check
both_directories_checks who dir to_dir =
    (not (directory_kind dir.inode.kind) || not (directory_kind to_dir.inode.kind), status.NotDir)
    ∷ (not (may_change who dir) || not (may_change who to_dir), status.Acces) ∷ []

abbrev pub rename_rest : List ℕ → List ℕ → Option Key → List Check
rename_rest name to_name moved =
    (is_dot name || is_dot_dot name || is_dot to_name || is_dot_dot to_name, status.Inval)
    ∷ (not (is_some moved), status.NoEnt) ∷ []

abbrev pub rename_checks : Identity → Object → List ℕ → Object → List ℕ → Option Key → List Check
rename_checks who dir name to_dir to_name moved =
    both_directories_checks who dir to_dir ++ name_checks name ++ name_checks to_name ++ rename_rest name to_name moved

-- of LINK
abbrev pub link_rest : Tree → Object → Object → List ℕ → List Check
link_rest t file dir name = taken t dir name ∷ (nat_le 1000 (name_count t file.number), status.MLink) ∷ []

abbrev pub link_checks : Tree → Identity → Object → Object → List ℕ → List Check
link_checks t who file dir name =
    (directory_kind file.inode.kind, status.Inval) ∷ directory_checks who dir ++ name_checks name ++ link_rest t file dir name
