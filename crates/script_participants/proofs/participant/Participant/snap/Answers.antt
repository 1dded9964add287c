use Rattle.script_participants.proofs.Snapped.{lost_here, made_here}
use Rattle.script_participants.proofs.participant.Participant.snap.Goals as goal

pub returns-in-Ok-clause-snapped : goal.returns-in-Ok-clause-snapped
returns-in-Ok-clause-snapped c = made_here _ c.snap.new.self c.args.self.now c.self.view_is c.in-Ok.root c.in-Ok.ensures.snaps

pub returns-in-Err-Keeper-clause-snapped : goal.returns-in-Err-Keeper-clause-snapped
returns-in-Err-Keeper-clause-snapped c = lost_here _ c.snap.new.self c.args.self.now c.self.view_is (rw c.in-Err-Keeper.field-0-is at c.in-Err-Keeper.ensures.snaps)
