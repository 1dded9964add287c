-- Why loading a snapshot comes to no basis: exactly one of three causes, by the block that ended it.
use Rattle.std.specs.Prelude.{◌≡◌, ℕ, List, Option, Some, None, Result, Ok, Err}
use Rattle.ivy_base.specs.declared.key.Key.{Key}
use Rattle.dhash_model.specs.declared.miss.Miss.{Miss}
use Rattle.dhash_model.specs.declared.miss.Miss.TheVariants as miss
use Rattle.session_model.specs.Refreshing.{Loaded}
use Rattle.fs_tree.specs.Bases.{basis_of}
use Rattle.fs_tree.specs.declared.basis.Basis.{Basis as Kept}
use Rattle.snapshot_loading.specs.declared.load.Failure.{Failure}
use Rattle.snapshot_loading.specs.declared.load.LoadMiss.{LoadMiss}
use Rattle.snapshot_loading.specs.declared.load.LoadMiss.TheVariants as cause
use Rattle.snapshot_loading.specs.Loading.{ComesTo, Loading}

-- the get of that block ended so: without a route to an owner, without an owner that has it, or with a block that isn't the key's
abbrev pub cause_of_miss : Key → Miss → LoadMiss
cause_of_miss key (miss.NoRoute k) = cause.Missing key
cause_of_miss key (miss.Missing k asked) = cause.Missing key
cause_of_miss key (miss.Damaged k node) = cause.Damaged key

-- a block that came, and ended loading, isn't what it was to be
abbrev pub cause_of_came : Key → Result (List ℕ) Miss → LoadMiss
cause_of_came key (Ok bytes) = cause.Malformed
cause_of_came key (Err why) = cause_of_miss key why

abbrev pub cause_of : Failure → LoadMiss
cause_of f = cause_of_came f.key f.came

-- by what ended it; where nothing did, all was read and is no snapshot
abbrev pub cause_in : Option Failure → LoadMiss
cause_in None = cause.Malformed
cause_in (Some f) = cause_of f

-- loading has come to no basis, by that cause
abbrev pub FailedBy : Loading → LoadMiss → Type 0
FailedBy l why = ComesTo l (Loaded None) × (why ≡ cause_in l.failed)

-- loading has come to that basis, or to none by that cause
abbrev pub EndsSo : Loading → Result Kept LoadMiss → Type 0
EndsSo l (Ok basis) = ComesTo l (Loaded (Some (basis_of basis)))
EndsSo l (Err why) = FailedBy l why
