-- What a machine's answer to a line makes of the runs from a world that it stood for.
use Rattle.std.proofs.Common.{◌≡◌, ℕ, ◌+◌, ◌<◌, ◌≤◌, List, [], ◌∷◌, ◌++◌, length, Option, refl, ap}
use Rattle.std.specs.Prelude.{IfSome}
use Rattle.std.specs.Option.{option_map}
use Rattle.script_driver.specs.declared.machine.Taken.{Taken}
use Rattle.script_driver.specs.declared.machine.Taken.TheVariants as taken
use Rattle.script_driver.specs.declared.script.Script.{Script}
use Rattle.script_driver.specs.Lines.{ShowsFirst, HasNoNewline}
use Rattle.script_driver.specs.Machine.{outcome_told}
use Rattle.script_driver.specs.Run.{line_limit, Outcome, Goes, Ends, Refuses, Exceeds, Ran, behind, ended_run, refused, limited}
use Rattle.script_driver.specs.Script.{lines_ahead, Takes}
use Rattle.script_driver.specs.Shown.{IsSeenAs}
use Rattle.script_driver.specs.Told.{run_on, Turns, Advances}
use Rattle.script_driver.proofs.ReadLemmas.{one_line}
use Rattle.script_driver.proofs.RunLemmas.{IsKept, line_run, long_run}

module _ {State World : Type 0} (Represents : State → World → Type 0) (keeps : World → Type 0) (step : World → List ℕ → Outcome World → Type 0) where
  -- a line that isn't too long was taken
  pub line_turns : (world : World) (state : State) (number : ℕ) (line : List ℕ) → length line ≤ line_limit → (answer : Taken) (outcome : Outcome World) (old new : Script) (before left : Option (List ℕ)) → IsKept keeps step → keeps world
      → lines_ahead old before ≡ option_map (λ lines. line ∷ lines) (lines_ahead new left) → (0 < new.budget → Takes (line ++ 10 ∷ []) old new before left × HasNoNewline line)
      → step world line outcome → IsSeenAs Represents (outcome_told answer state) outcome
      → Turns answer number (Advances step world (λ next. Represents state next × keeps next) (λ next. run_on step next (number + 1) (lines_ahead new left)) old new before left) (run_on step world number (lines_ahead old before))
  line_turns world state number line short (taken.Went output) (Goes next words) old new before left kept ok first took does seen = record {
    last = next;
    is_last = (seen.0, kept world next line words ok does);
    run = λ ran later. line_run step world number line short (Goes next words) (lines_ahead old before) (lines_ahead new left) (behind output.items ran) first does (ran, later, ap (λ (t : List ℕ). behind t ran) seen.1);
    obeyed = λ more. one_line step world next line output.items short old new before left (rw seen.1 does) (took more);
  }
  line_turns world state number line short taken.Ended Ends old new before left kept ok first took does seen = line_run step world number line short Ends (lines_ahead old before) (lines_ahead new left) ended_run first does refl
  line_turns world state number line short taken.Refused Refuses old new before left kept ok first took does seen = line_run step world number line short Refuses (lines_ahead old before) (lines_ahead new left) (refused number) first does refl
  line_turns world state number line short taken.Exceeded Exceeds old new before left kept ok first took does seen = line_run step world number line short Exceeds (lines_ahead old before) (lines_ahead new left) (limited number) first does refl
  line_turns world state number line short _ _ old new before left kept ok first took does seen = absurd seen

  -- the step was shown the front of a line that is too long
  pub long_turns : (world : World) (state : State) (number : ℕ) (front : List ℕ) → length front ≡ line_limit + 1 → (answer : Taken) (outcome : Outcome World) (lines : Option (List (List ℕ))) (goes : (Ran → Type 0) → List ℕ → Type 0) → IfSome lines (ShowsFirst front)
      → ((next : World) (output : List ℕ) → step world front (Goes next output) → ⊥) → step world front outcome → IsSeenAs Represents (outcome_told answer state) outcome → Turns answer number goes (run_on step world number lines)
  long_turns world state number front long (taken.Went output) (Goes next words) lines goes first stops does seen = absurd (stops next words does)
  long_turns world state number front long taken.Ended Ends lines goes first stops does seen = long_run step world number front long Ends lines ended_run first does (λ others. refl)
  long_turns world state number front long taken.Refused Refuses lines goes first stops does seen = long_run step world number front long Refuses lines (refused number) first does (λ others. refl)
  long_turns world state number front long taken.Exceeded Exceeds lines goes first stops does seen = long_run step world number front long Exceeds lines (limited number) first does (λ others. refl)
  long_turns world state number front long _ _ lines goes first stops does seen = absurd seen
