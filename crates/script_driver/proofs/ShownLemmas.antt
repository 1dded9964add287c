-- A machine that stores all that its definitions speak of: it stands for itself alone.
use Rattle.std.proofs.Common.{◌≡◌, ℕ, List, Ok, Err, refl}
use Rattle.std.specs.Prelude.{IfOk}
use Rattle.std.specs.declared.result.Result.{Result}
use Rattle.script_driver.specs.declared.machine.Taken.{Taken}
use Rattle.script_driver.specs.Machine.{outcome_told}
use Rattle.script_driver.specs.Run.{Outcome, Goes, Ends, Refuses, Exceeds}
use Rattle.script_driver.specs.Shown.{IsSeenAs}

seen_itself : {World : Type 0} (outcome : Outcome World) → IsSeenAs (λ state whole. state ≡ whole) outcome outcome
seen_itself (Goes next output) = (refl, refl)
seen_itself Ends = tt
seen_itself Refuses = tt
seen_itself Exceeds = tt

-- what it has to say of a line that it took
pub taken_itself : {World E : Type 0} (keeps : World → Type 0) (step : World → List ℕ → Outcome World → Type 0) (result : Result Taken E) (old new : World) (line : List ℕ) → IfOk result (λ taken. step old line (outcome_told taken new))
    → IfOk result (λ taken. (whole : World) → old ≡ whole → keeps whole → (outcome : Outcome World) × step whole line outcome × IsSeenAs (λ state seen. state ≡ seen) (outcome_told taken new) outcome)
taken_itself keeps step (Ok taken) old new line does = λ whole same kept. (outcome_told taken new, rw (← same) does, seen_itself (outcome_told taken new))
taken_itself keeps step (Err fault) old new line does = tt
