-- Keepers over files.
use Rattle.std.specs.Prelude.{◌≡◌, ℕ, Bool, true, false, List, nat_eq, codes}
use Rattle.std.specs.List.{ends_with}
use Rattle.std.specs.Str.{IsUtf8}
use Rattle.ivy_base.specs.Naming.{IsFileName}
use Rattle.ivy_io.specs.Causes.{counted}
use Rattle.ivy_io.specs.declared.open_fault.OpenFault.{OpenFault}
use Rattle.ivy_io.specs.declared.open_fault.OpenFault.TheVariants.{Failed, Memory}

-- A file that a keeper has: its path, whether a save to it succeeded, and how many failed (a count that reached 2 ^ 64 - 1
-- stays there).
pub record FileState : Type 0 where
  pub path : List ℕ
  pub is_saved : Bool
  pub faults : ℕ

-- a file that was only made
abbrev pub claimed : List ℕ → FileState
claimed path = record { path = path; is_saved = false; faults = 0 }

-- the file after a save, by whether it failed
abbrev pub file_after : Bool → FileState → FileState
file_after true file = record file { faults = counted file.faults }
file_after false file = record file { is_saved = true }

-- the file that a save writes first: what ends so is no keeper's name, or two keepers would share a file
abbrev pub is_beside : List ℕ → Bool
is_beside name = ends_with nat_eq name (codes ".new")

-- a name of an entry of the folder itself, and of no file that a save writes first
abbrev pub IsPlain : List ℕ → Type 0
IsPlain name = IsFileName name × (is_beside name ≡ false)

-- a name under which a keeper may be had: a plain one, and text, since the host's paths are
abbrev pub IsKeeperName : List ℕ → Type 0
IsKeeperName name = IsUtf8 name × IsPlain name

-- the count of faults after a refusal: running out of memory isn't counted
abbrev pub count_after : OpenFault → ℕ → ℕ
count_after Failed faults = counted faults
count_after Memory faults = faults
