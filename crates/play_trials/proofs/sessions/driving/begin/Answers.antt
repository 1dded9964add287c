use Rattle.log_fetch.specs.Standings.{standing_of}
use Rattle.play_trials.specs.InProgress.{judges}
use Rattle.play_trials.proofs.InProgress.{begun_in_progress}
use Rattle.play_trials.proofs.sessions.driving.begin.Goals as goal

pub begin-requires : goal.begin-requires
begin-requires g c = λ some. c.in_ok-standing.ensures.named

pub returns-clause-goes_on : goal.returns-clause-goes_on
returns-clause-goes_on g c = begun_in_progress judges (g.T.Turns.view c.args.turns.now c.standing.new.pass) c.args.message.now (standing_of c.in_ok-standing.standing) c.in-Ok.session c.in_ok-standing.ensures.view c.in-Ok.ensures.begun
    c.in-Ok.ensures.turning
