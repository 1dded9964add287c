-- What was played is the one full run, or tells why it isn't.
use Rattle.std.proofs.Common.{◌≡◌, ◌⊎◌, inl, inr, ℕ, List, Option, Some, None, refl, ap}
use Rattle.std.specs.Prelude.{IfSome}
use Rattle.script_driver.specs.Run.{Ran, Ending}
use Rattle.script_driver.specs.Told.{ran_of, TellsAll}
use Rattle.script_driver.proofs.RunLaws.{runs_without_law}
use Rattle.stage_laws.specs.Promise.{Promise}
use Rattle.world_model.specs.Step.{IvyStep}
use Rattle.world_laws.proofs.FirstWorld.{empty_keeps}
use Rattle.world_laws.proofs.FullScripts.{full_starts}
use Rattle.stage_laws.specs.Stage.{KeepsAll}
use Rattle.stage_laws.proofs.FullRuns.{runs_tell_of_memory}
use Rattle.stage_laws.proofs.Lines.{first_keeps_all}
use Rattle.ivy_play.specs.Status.{status_of}
use Rattle.ivy_play.specs.Playing.{initial_world, ivy_runs, script_lines, IsPlayed, RunsFully}

pub begins : KeepsAll initial_world
begins = first_keeps_all

-- a run that was told whole ends as each run does
pub ends_alike : (given : Ending) (left held holds : Option (List ℕ)) (A B : Type 0) → TellsAll given (ivy_runs left) held holds
    → (ending : Ending) → ((ran : Ran) → ivy_runs left ran → ran.ending ≡ ending) → A → B → (status_of given ≡ status_of ending) ⊎ (status_of given ≡ 6)
ends_alike given left held holds A B t ending each a b = inl (ap status_of (each (ran_of t.told given) t.run))

-- each script has its one full run, or names clash
pub runs_fully : (left : Option (List ℕ)) → IfSome left RunsFully
runs_fully None = tt
runs_fully (Some script) = full_starts 1 (script_lines script)

-- what was reported is a run, which is the full one or tells why it isn't
pub played : (ending : Ending) (left held holds : Option (List ℕ)) (A B : Type 0) → TellsAll ending (ivy_runs left) held holds
    → IfSome left (λ script. A → B → IsPlayed script (status_of ending) held holds)
played ending None held holds A B t = tt
played ending (Some script) held holds A B t = λ a b.
    let runs = runs_without_law IvyStep Promise initial_world 1 (script_lines script) (ran_of t.told ending) t.run in
    inl (ran_of t.told ending, runs_tell_of_memory initial_world 1 (script_lines script) (ran_of t.told ending) empty_keeps runs, refl, t.sink)

-- where a count rose nothing more is said; and the player may run out of memory
pub read_rose : (left held holds : Option (List ℕ)) (status : ℕ) (Read Write : Type 0) → Read → IfSome left (λ script. (Read → ⊥) → (Write → ⊥) → IsPlayed script status held holds)
read_rose None held holds status Read Write rose = tt
read_rose (Some script) held holds status Read Write rose = λ no_read no_write. absurd (no_read rose)

pub write_rose : (left held holds : Option (List ℕ)) (status : ℕ) (Read Write : Type 0) → Write → IfSome left (λ script. (Read → ⊥) → (Write → ⊥) → IsPlayed script status held holds)
write_rose None held holds status Read Write rose = tt
write_rose (Some script) held holds status Read Write rose = λ no_read no_write. absurd (no_write rose)

pub lacked : (left held holds : Option (List ℕ)) (Read Write : Type 0) → IfSome left (λ script. (Read → ⊥) → (Write → ⊥) → IsPlayed script 6 held holds)
lacked None held holds Read Write = tt
lacked (Some script) held holds Read Write = λ no_read no_write. inr refl
