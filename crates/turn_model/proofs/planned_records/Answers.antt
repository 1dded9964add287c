use Rattle.turn_model.proofs.Plans.{plan_may_be_written}
use Rattle.turn_model.proofs.planned_records.Goals as goal

pub returns : goal.returns
returns c = plan_may_be_written
