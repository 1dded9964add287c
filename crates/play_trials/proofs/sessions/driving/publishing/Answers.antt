use Rattle.play_trials.specs.InProgress.{judges}
use Rattle.play_trials.proofs.InProgress.{published_in_progress}
use Rattle.play_trials.proofs.sessions.driving.publishing.Goals as goal

pub returns : goal.returns
returns c = λ view some. published_in_progress judges c.args.pending.now c.in-Ok.session view some c.in-Ok.ensures.begun c.in-Ok.ensures.turning
