use Rattle.agent_gate.specs.Taking.{kind_of}
use Rattle.agent_gate.proofs.Folds.{holds_what_is_known}
use Rattle.agent_gate.proofs.laws.holds_what_is_known.Goals as goal

pub returns : goal.returns
returns g c = holds_what_is_known (kind_of g.S.Signs.signing g.S.Signs.is_whole g.K.Keeper.saves)
