-- The promise holds of each line, so the step with its promise does what the step does.
use Rattle.std.proofs.Common.{◌≡◌, ℕ, List, subst}
use Rattle.script_driver.specs.Run.{Goes, Outcome}
use Rattle.world_model.specs.Logs.{Played}
use Rattle.world_model.specs.Step.{IvyStep}
use Rattle.calm_laws.proofs.CalmLines.{lines_are_served}
use Rattle.stage_laws.specs.Promise.{LinesPromise, PromisedIsTotal, PromisedKeeps, PromisedLongLinesStop}
use Rattle.stage_laws.specs.Stage.{KeepsAll}
use Rattle.stage_laws.proofs.Given.{refreshes_are_complete}
use Rattle.stage_laws.proofs.Lines.{lines_are_total, lines_keep_all, long_lines_stop}
use Rattle.stage_laws.proofs.Outputs.{statuses_are_told}
use Rattle.stage_laws.proofs.Replies.{lines_have_headline}
use Rattle.stage_laws.proofs.Stands.{all_stands}

-- a line that goes on does so by the step, and leaves such a world
goes_on : (w : Played) (line : List ℕ) (outcome : Outcome Played) → IvyStep w line outcome → (next : Played) (output : List ℕ) → outcome ≡ Goes next output → IvyStep w line (Goes next output)
goes_on w line outcome step next output is = subst (λ o. IvyStep w line o) is step

then_keeps : (w : Played) (line : List ℕ) (outcome : Outcome Played) → KeepsAll w → IvyStep w line outcome → (next : Played) (output : List ℕ) → outcome ≡ Goes next output → KeepsAll next
then_keeps w line outcome keeps step next output is = lines_keep_all w next line output keeps (goes_on w line outcome step next output is)

pub each_promises : LinesPromise
each_promises w line outcome keeps step = record {
  headline = lines_have_headline w line outcome keeps step;
  calm = lines_are_served w line outcome (goes_on w line outcome step);
  statuses = statuses_are_told w line outcome keeps.0 (lines_have_headline w line outcome keeps step) (lines_are_served w line outcome (goes_on w line outcome step));
  complete = refreshes_are_complete w line outcome keeps.1 (λ next output is. (then_keeps w line outcome keeps step next output is).1);
  before = all_stands w keeps.0;
  after = λ next output is. all_stands next (then_keeps w line outcome keeps step next output is).0;
}

pub promised_keeps : PromisedKeeps
promised_keeps w next line output keeps step = lines_keep_all w next line output keeps step.0

pub promised_is_total : PromisedIsTotal
promised_is_total w line keeps = (let does = lines_are_total w line keeps in (does.0, (does.1, each_promises w line does.0 keeps does.1)))

pub promised_long_lines_stop : PromisedLongLinesStop
promised_long_lines_stop w line next output keeps long step = long_lines_stop w next line output long step.0
