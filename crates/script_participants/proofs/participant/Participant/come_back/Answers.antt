use Rattle.script_participants.proofs.Returned.{lost_so}
use Rattle.script_participants.proofs.participant.Participant.come_back.Goals as goal

pub returns-in-Err-clause-returned : goal.returns-in-Err-clause-returned
returns-in-Err-clause-returned c = lost_so _ c.start_again.new.self c.args.self.now c.self.view_is c.in-Err.fault c.lost_for.result c.in-Err.ensures c.lost_for.ensures
