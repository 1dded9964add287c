-- When a reader of arguments refuses, and what its parts read.
use Rattle.std.specs.Prelude.{◌≡◌, ℕ, List, ◌⊎◌}
use Rattle.nfs_model.specs.declared.arguments.Args.{Args}
use Rattle.nfs_model.specs.Arguments.{nfs_program, mount_program, AreArguments}
use Rattle.nfs_model.specs.Laws.{AreOf}
use Rattle.nfs_model.specs.declared.fault.ArgsFault.{ArgsFault}
use Rattle.nfs_model.specs.declared.fault.ArgsFault.TheVariants.{Garbage, Memory}

-- the bytes are no arguments of the procedure
pub record AreNoArguments (program procedure : ℕ) (bytes : List ℕ) : Type 0 where
  pub none : (args : Args) → AreArguments program procedure bytes args → ⊥

-- arguments are refused where the bytes are none; running out of memory tells nothing of them
abbrev pub RefusesArguments : ℕ → ℕ → List ℕ → ArgsFault → Type 0
RefusesArguments program procedure bytes Garbage = AreNoArguments program procedure bytes
RefusesArguments program procedure bytes Memory = Unit {0}

abbrev pub AreNfs : ℕ → Args → Type 0
AreNfs procedure args = AreOf nfs_program procedure args

abbrev pub AreMount : ℕ → Args → Type 0
AreMount procedure args = AreOf mount_program procedure args

-- procedures whose arguments are a handle, and perhaps numbers, attributes and a time, but no other string
abbrev pub IsOfHandle : ℕ → Type 0
IsOfHandle p = (p ≡ 1) ⊎ (p ≡ 2) ⊎ (p ≡ 4) ⊎ (p ≡ 5) ⊎ (p ≡ 6) ⊎ (p ≡ 16) ⊎ (p ≡ 17) ⊎ (p ≡ 18) ⊎ (p ≡ 19) ⊎ (p ≡ 20) ⊎ (p ≡ 21)

-- procedures whose arguments are a name in a directory, and perhaps what is to be made there, but no other string
abbrev pub IsOfPlace : ℕ → Type 0
IsOfPlace p = (p ≡ 3) ⊎ (p ≡ 8) ⊎ (p ≡ 9) ⊎ (p ≡ 11) ⊎ (p ≡ 12) ⊎ (p ≡ 13)
