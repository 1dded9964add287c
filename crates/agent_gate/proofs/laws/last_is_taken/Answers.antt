use Rattle.agent_gate.specs.Taking.{kind_of}
use Rattle.agent_gate.proofs.Histories.{key_stays, last_is_taken, stays_in_view}
use Rattle.agent_gate.proofs.laws.last_is_taken.Goals as goal

pub returns-clause-last : goal.returns-clause-last
returns-clause-last g c = last_is_taken (kind_of g.S.Signs.signing g.S.Signs.is_whole g.K.Keeper.saves)

pub returns-clause-view : goal.returns-clause-view
returns-clause-view g c = stays_in_view (kind_of g.S.Signs.signing g.S.Signs.is_whole g.K.Keeper.saves)

pub returns-clause-key : goal.returns-clause-key
returns-clause-key g c = key_stays (kind_of g.S.Signs.signing g.S.Signs.is_whole g.K.Keeper.saves)
