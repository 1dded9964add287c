-- A line that was taken as an outcome tells.
use Rattle.std.proofs.Common.{◌≡◌, sym, subst}
use Rattle.script_driver.specs.declared.machine.Taken.{Taken}
use Rattle.script_driver.specs.declared.machine.Taken.TheVariants.{Went, Ended, Refused, Exceeded}
use Rattle.script_driver.specs.Machine.{outcome_told}
use Rattle.script_driver.specs.Run.{Outcome, Refuses}
use Rattle.script_world.specs.PartsState.{IsTaken}

module _ {W : Type 0} (Then : W → Type 0) (Does : Outcome W → Type 0) where
  pub taken_as : (how : Taken) (next : W) (outcome : Outcome W) → outcome_told how next ≡ outcome → Does outcome → Then next → IsTaken Then Does how
  taken_as (Went output) next outcome told does so = (next, subst Does (sym told) does, so)
  taken_as Ended next outcome told does so = subst Does (sym told) does
  taken_as Refused next outcome told does so = subst Does (sym told) does
  taken_as Exceeded next outcome told does so = subst Does (sym told) does

  pub refused_as : (how : Taken) (w : W) → outcome_told how w ≡ Refuses → Does Refuses → IsTaken Then Does how
  refused_as (Went output) w told does = absurd cc
  refused_as Ended w told does = absurd cc
  refused_as Refused w told does = does
  refused_as Exceeded w told does = absurd cc
