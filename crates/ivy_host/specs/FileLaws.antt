-- What a save leaves of a keeper over a file. `Keeper` asks this of each kind of keepers, so the proofs stand here and not in proofs/.
use Rattle.std.proofs.Common.{◌≡◌, ℕ, Bool, true, false, List, None, refl}
use Rattle.ivy_io.specs.Keepers.{KeepsAfter, after_try}
use Rattle.ivy_host.specs.Files.{FileState, file_after}

counts_try : (fails : Bool) (file : FileState) → (file_after fails file).faults ≡ after_try fails file.faults
counts_try true file = refl
counts_try false file = refl

module _ (before after : FileState) (bytes : List ℕ) (fails : Bool) (saved : after ≡ file_after fails before) where
  pub file_counts : after.faults ≡ after_try fails before.faults
  file_counts = rw saved (counts_try fails before)

  pub file_keeps : KeepsAfter None bytes fails None
  file_keeps = refl
