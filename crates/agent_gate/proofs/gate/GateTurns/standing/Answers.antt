use Rattle.agent_gate.specs.Taking.{kind_of}
use Rattle.agent_gate.proofs.Passing.{stands}
use Rattle.agent_gate.proofs.gate.GateTurns.standing.Goals as goal

pub returns-clause-stands : goal.returns-clause-stands
returns-clause-stands g c = stands (kind_of g.S.Signs.signing g.S.Signs.is_whole g.K.Keeper.saves) c.args.self.now c.args.pass.now c.standing.new.pass c.standing.result c.standing.ensures.saw c.standing.ensures.shows
