use Rattle.agent_gate.specs.Taking.{kind_of}
use Rattle.agent_gate.proofs.Folds.{histories_fold}
use Rattle.agent_gate.proofs.laws.histories_fold.Goals as goal

pub returns : goal.returns
returns g c = histories_fold (kind_of g.S.Signs.signing g.S.Signs.is_whole g.K.Keeper.saves)
