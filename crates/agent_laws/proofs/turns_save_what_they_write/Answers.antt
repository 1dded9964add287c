use Rattle.agent_laws.proofs.Plans.{is_to_save}
use Rattle.agent_laws.proofs.turns_save_what_they_write.Goals as goal

pub returns : goal.returns
returns c = is_to_save
