use Rattle.std.proofs.Common.{refl, sym, ap}
use Rattle.ivy_agent.proofs.single.SingleTurns.settle.Goals as goal

pub returns-clause-settles : goal.returns-clause-settles
returns-clause-settles g c = record { found = c.args.pass.now; came = refl; left = sym c.settle.ensures }

pub returns-clause-view : goal.returns-clause-view
returns-clause-view g c = ap (λ h. h.agent.view) c.settle.ensures
