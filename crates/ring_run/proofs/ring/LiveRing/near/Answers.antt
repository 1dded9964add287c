use Rattle.std.proofs.lemmas.Result.{IfOk-weaker}
use Rattle.ring_run.proofs.Giving.{near_form}
use Rattle.ring_run.proofs.ring.LiveRing.near.Goals as goal

pub returns : goal.returns
returns g c = IfOk-weaker c.ask.result _ _ near_form c.ask.ensures.form
