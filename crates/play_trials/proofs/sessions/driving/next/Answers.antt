use Rattle.play_trials.specs.InProgress.{judges}
use Rattle.play_trials.proofs.InProgress.{next_may_want, not_told}
use Rattle.play_trials.proofs.sessions.driving.next.Goals as goal

pub next-requires-clause-turning : goal.next-requires-clause-turning
next-requires-clause-turning c = c.requires.1.no_turn

pub next-requires-clause-told : goal.next-requires-clause-told
next-requires-clause-told c = not_told judges c.requires.0 c.args.session.now c.requires.1.in_progress

pub returns : goal.returns
returns c = λ view goes. next_may_want judges view c.args.session.now c.next.new.self goes.in_progress c.args.cache.now c.next.new.cache c.next.result c.next.ensures.wanted
