use Rattle.play_trials.specs.InProgress.{judges}
use Rattle.play_trials.proofs.InProgress.{heard_in_progress}
use Rattle.play_trials.proofs.sessions.driving.ask.Goals as goal

pub returns : goal.returns
returns c = λ view may. record {
  in_progress = heard_in_progress judges view c.args.session.now c.heard.new.self may.in_progress c.args.cache.now c.heard.new.cache c.answer-answer.result may.waits c.heard.ensures.heard;
  no_turn = c.heard.ensures.turning;
}
