use Rattle.agent_gate.specs.Taking.{kind_of}
use Rattle.agent_gate.proofs.Histories.{fresh_stays_fresh}
use Rattle.agent_gate.proofs.laws.fresh.Goals as goal

pub returns : goal.returns
returns g c = fresh_stays_fresh (kind_of g.S.Signs.signing g.S.Signs.is_whole g.K.Keeper.saves)
