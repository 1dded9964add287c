use Rattle.play_trials.specs.InProgress.{GoesOn, judges}
use Rattle.play_trials.proofs.sessions.driving.drive.Given as goal

abbrev pub invariant-steps : goal.invariant-steps
invariant-steps g l = record { fits : g.T.Turns.fits l.turns l.pass; goes_on : GoesOn judges (g.T.Turns.view l.turns l.pass) l.session }
