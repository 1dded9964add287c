-- The headline holds of each line, and of each line of a run.
use Rattle.script_driver.proofs.RunLaws.{runs_with_law}
use Rattle.world_model.specs.Step.{IvyStep}
use Rattle.world_laws.specs.Headline.{Headline}
use Rattle.world_laws.proofs.HeadlineOfLines.{headline_holds}
use Rattle.stage_laws.specs.Stage.{KeepsAll}
use Rattle.stage_laws.specs.Laws.{LinesHaveHeadline, RunsHaveHeadline}
use Rattle.stage_laws.proofs.Lines.{lines_keep_all}

pub lines_have_headline : LinesHaveHeadline
lines_have_headline w line outcome keeps step = headline_holds w line outcome keeps.0 step

pub runs_have_headline : RunsHaveHeadline
runs_have_headline w number script ran keeps runs = runs_with_law IvyStep Headline KeepsAll lines_have_headline lines_keep_all w number script ran keeps runs
