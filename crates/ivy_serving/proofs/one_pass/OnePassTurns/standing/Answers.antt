use Rattle.agent_gate.specs.Taking.{kind_of}
use Rattle.agent_gate.proofs.Passing.{stands}
use Rattle.ivy_serving.proofs.Passing.{saw_on}
use Rattle.ivy_serving.proofs.one_pass.OnePassTurns.standing.Goals as goal

pub returns-clause-stands : goal.returns-clause-stands
returns-clause-stands g c = stands (kind_of g.S.Signs.signing g.S.Signs.is_whole g.K.Keeper.saves) c.args.self.now.gate.now c.args.pass.now c.standing.new.pass c.standing.result c.standing.ensures.saw c.standing.ensures.shows

pub returns-clause-fits : goal.returns-clause-fits
returns-clause-fits g c = saw_on (kind_of g.S.Signs.signing g.S.Signs.is_whole g.K.Keeper.saves) c.args.self.now.gate.now c.args.self.now.first.value c.args.pass.now c.standing.new.pass c.requires.fits c.standing.ensures.saw
