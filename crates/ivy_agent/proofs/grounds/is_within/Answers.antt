use Rattle.turn_taking.proofs.Dominating.{answers}
use Rattle.ivy_agent.proofs.grounds.is_within.Goals as goal

pub returns : goal.returns
returns c = answers c.args.floor.now c.args.front.now c.dominates.result c.len.ensures.fits.in_order c.dominates.ensures
