use Rattle.std.proofs.Common.{Ok, Err}
use Rattle.log_fetch.specs.Standings.{asked_of, refresh_of}
use Rattle.script_participants.proofs.Turned.{turned_here}
use Rattle.script_participants.proofs.participant.Participant.turn.Goals as goal

pub returns-in-Ok-clause-turn : goal.returns-in-Ok-clause-turn
returns-in-Ok-clause-turn g c = turned_here (refresh_of c.args.refresh) (asked_of c.args.asked.now) c.args.now _ c.turn.new.self c.args.self.now c.self.view_is (Ok c.in-Ok.turned) c.in-Ok.ensures.turn

pub returns-in-Err-clause-turn : goal.returns-in-Err-clause-turn
returns-in-Err-clause-turn g c = turned_here (refresh_of c.args.refresh) (asked_of c.args.asked.now) c.args.now _ c.turn.new.self c.args.self.now c.self.view_is (Err c.in-Err.fault) c.in-Err.ensures.turn
