use Rattle.agent_gate.specs.Taking.{kind_of}
use Rattle.agent_gate.proofs.Passing.{settles}
use Rattle.agent_gate.proofs.gate.GateTurns.settle.Goals as goal

pub returns-clause-settles : goal.returns-clause-settles
returns-clause-settles g c = settles (kind_of g.S.Signs.signing g.S.Signs.is_whole g.K.Keeper.saves) c.args.self.now c.args.pass.now c.settle.new.pass c.args.acks.now c.settle.ensures.saw c.settle.ensures.settles
