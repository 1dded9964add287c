use Rattle.std.proofs.Common.{◌∙◌}
use Rattle.play_trials.proofs.InProgress.{standing_viewed}
use Rattle.play_trials.proofs.sessions.driving.standing.Goals as goal

pub returns-clause-view : goal.returns-clause-view
returns-clause-view g c = c.standing.ensures.view ∙ standing_viewed (g.T.Turns.view c.args.turns.now c.args.pass.now) c.in-Ok.standing c.standing.result c.in-Ok.is c.requires.entered c.standing.ensures.stands
