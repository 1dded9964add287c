use Rattle.std.proofs.Common.{refl}
use Rattle.ivy_agent.proofs.single.SingleTurns.standing.Goals as goal

pub returns-clause-stands : goal.returns-clause-stands
returns-clause-stands g c = record { found = c.args.pass.now; came = refl; left = refl; in_view = refl; stands = c.standing.ensures.stands }
