use Rattle.agent_gate.specs.Taking.{kind_of}
use Rattle.history_laws.proofs.Starts.{new_histories_fold}
use Rattle.history_laws.proofs.new_histories_fold.Goals as goal

pub returns : goal.returns
returns g c = new_histories_fold (kind_of g.S.Signs.signing g.S.Signs.is_whole g.K.Keeper.saves)
