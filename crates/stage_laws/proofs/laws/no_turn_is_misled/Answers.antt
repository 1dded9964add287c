use Rattle.stage_laws.proofs.Misled as misled
use Rattle.stage_laws.proofs.laws.no_turn_is_misled.Goals as goal

pub returns : goal.returns
returns c = misled.no_turn_is_misled
