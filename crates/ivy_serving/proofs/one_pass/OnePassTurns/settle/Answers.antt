use Rattle.agent_gate.specs.Taking.{kind_of}
use Rattle.agent_gate.proofs.Passing.{settles}
use Rattle.ivy_serving.proofs.Passing.{saw_on}
use Rattle.ivy_serving.proofs.one_pass.OnePassTurns.settle.Goals as goal

pub returns-clause-settles : goal.returns-clause-settles
returns-clause-settles g c = settles (kind_of g.S.Signs.signing g.S.Signs.is_whole g.K.Keeper.saves) c.args.self.now.gate.now c.args.pass.now c.settle.new.pass c.args.acks.now c.settle.ensures.saw c.settle.ensures.settles

pub returns-clause-fits : goal.returns-clause-fits
returns-clause-fits g c = saw_on (kind_of g.S.Signs.signing g.S.Signs.is_whole g.K.Keeper.saves) c.args.self.now.gate.now c.args.self.now.first.value c.args.pass.now c.settle.new.pass c.requires.fits c.settle.ensures.saw
