use Rattle.session_steps.proofs.TurnSteps.{replies_are_read}
use Rattle.session_steps.proofs.laws.replies_are_read.Goals as goal

pub returns : goal.returns
returns g c = replies_are_read c.answers_are_replies.ensures.answers c.answers_are_replies.ensures.plans c.answers_are_replies.ensures.finishes c.answers_are_replies.ensures.sets
