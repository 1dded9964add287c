-- Refusals of keepers and of ports, and their counts.
use Rattle.std.specs.Prelude.{◌≡◌, ◌==◌, ℕ, Option, None, Result, Ok, if◌then◌else◌}
use Rattle.ivy_io.specs.Causes.{counted, Rose}
use Rattle.ivy_io.specs.declared.open_fault.OpenFault.{OpenFault}
use Rattle.ivy_io.specs.declared.open_fault.OpenFault.TheVariants.{Failed, Memory}

-- what a refusal says: the count of faults rose, or memory ran out and nothing has changed
abbrev pub Refuses : {S : Type 0} → (S → ℕ) → S → S → OpenFault → Type 0
Refuses faults old new Failed = Rose (faults old) (faults new)
Refuses faults old new Memory = new ≡ old

-- the count of faults after a keeper was taken back that has failed so often
abbrev pub after_return : ℕ → ℕ → ℕ
after_return failed faults = if failed == 0 then faults else counted faults

-- the count of ends rises exactly where there is no further link
abbrev pub EndsCount : {Link : Type 0} → ℕ → ℕ → Result (Option Link) OpenFault → Type 0
EndsCount old new (Ok None) = new ≡ counted old
EndsCount old new _ = new ≡ old
