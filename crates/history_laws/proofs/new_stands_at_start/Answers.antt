use Rattle.agent_gate.specs.Taking.{kind_of}
use Rattle.history_laws.proofs.Starts.{new_stands_at_start}
use Rattle.history_laws.proofs.new_stands_at_start.Goals as goal

pub returns : goal.returns
returns g c = new_stands_at_start (kind_of g.S.Signs.signing g.S.Signs.is_whole g.K.Keeper.saves)
