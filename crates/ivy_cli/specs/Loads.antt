-- What a generated load tells its sink.
use Rattle.std.specs.Prelude.{◌≡◌, ◌⊎◌, ◌≤◌, ℕ, List, [], Option, Some}
use Rattle.ivy_io.specs.Causes.{Rose}
use Rattle.ivy_io.specs.Known.{then}
use Rattle.script_driver.specs.Run.{Ran, Ending, Ended, RefusedAt, LimitAt}
use Rattle.script_driver.specs.Told.{ran_of, TellsAll, TellsFront, TellsLess}
use Rattle.ivy_play.specs.Playing.{ivy_runs, IsFullOrTells}
use Rattle.ivy_play.specs.Status.{status_of}
use Rattle.ivy_cli.specs.Generator.{script_of}
use Rattle.ivy_cli.specs.Summary.{summary_text}

-- what is told of a text: its summary where the script was played to its line `end`, and else nothing
abbrev pub told_of : ℕ → List ℕ → Ending → List ℕ
told_of calls text Ended = summary_text calls text
told_of calls text (RefusedAt number) = []
told_of calls text (LimitAt number) = []

-- a run of the script, as a load tells it
abbrev pub told_run : ℕ → Ran → Ran
told_run calls ran = record { text = told_of calls ran.text ran.ending; ending = ran.ending }

-- the runs of the generated script, as a load tells them
abbrev pub load_runs : ℕ → ℕ → Ran → Type 0
load_runs seed calls told = (ran : Ran) × ivy_runs (Some (script_of seed calls)) ran × (told ≡ told_run calls ran)

-- The status and what was reported are those of a run in which memory is always there, or which comes to a line where it ran out for a
-- call, or where names clash; or the player ran out of memory.
abbrev pub IsLoaded : ℕ → ℕ → ℕ → Option (List ℕ) → Option (List ℕ) → Type 0
IsLoaded seed calls status held holds =
    ((ran : Ran) × IsFullOrTells (script_of seed calls) ran × (status ≡ status_of ran.ending)
    × (holds ≡ then held (told_of calls ran.text ran.ending)))
    ⊎ (status ≡ 6)

-- what comes before anything is reported: the summary of the text that a run shows which ends by its line `end`
pub record GivesSummary (seed calls : ℕ) (summary : List ℕ) : Type 0 where
  pub text : List ℕ
  pub run : ivy_runs (Some (script_of seed calls)) (ran_of text Ended)
  pub is : summary ≡ summary_text calls text
  pub full : (ran : Ran) × IsFullOrTells (script_of seed calls) ran × (ran.ending ≡ Ended) × (summary ≡ summary_text calls ran.text)

-- or the status in its place
pub record GivesNone (seed calls status : ℕ) : Type 0 where
  pub statuses : (status ≡ 3) ⊎ (status ≡ 6) ⊎ (status ≡ 7)
  pub refused : status ≡ 3 → (n : ℕ) × (text : List ℕ) × ivy_runs (Some (script_of seed calls)) (ran_of text (RefusedAt n))
  pub limited : status ≡ 7 → (n : ℕ) × (text : List ℕ) × ivy_runs (Some (script_of seed calls)) (ran_of text (LimitAt n))
  pub full : ((ran : Ran) × IsFullOrTells (script_of seed calls) ran × (status ≡ status_of ran.ending)) ⊎ (status ≡ 6)

-- a load of that seed and of so many calls ended with this status, and left the sink and its count of faults so
pub record IsLoad (seed calls status : ℕ) (held holds : Option (List ℕ)) (wrote writes : ℕ) : Type 0 where
  pub statuses : (status ≡ 0) ⊎ (status ≡ 3) ⊎ (status ≡ 5) ⊎ (status ≡ 6) ⊎ (status ≡ 7)
  -- 0: the script was played to its line `end`, and the summary of all that it showed was told
  pub ended : status ≡ 0 → TellsAll Ended (load_runs seed calls) held holds
  -- 3 and 7: a line was refused, or met a limit, and nothing was reported
  pub refused : status ≡ 3 → (n : ℕ) × TellsAll (RefusedAt n) (load_runs seed calls) held holds
  pub limited : status ≡ 7 → (n : ℕ) × TellsAll (LimitAt n) (load_runs seed calls) held holds
  -- 5: only where the sink's count rose, and then less than a summary was reported
  pub write_fault : status ≡ 5 → Rose wrote writes
  pub less : status ≡ 5 → TellsLess (load_runs seed calls) held holds
  -- in each case nothing was reported, or a front of a summary
  pub front : (holds ≡ held) ⊎ TellsFront (load_runs seed calls) held holds
  pub complete : ¬ Rose wrote writes → IsLoaded seed calls status held holds
  pub later : wrote ≤ writes
