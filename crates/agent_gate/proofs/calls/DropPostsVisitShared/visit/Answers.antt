use Rattle.std.proofs.Common.{subst}
use Rattle.value_gate.specs.Histories.{Stays}
use Rattle.agent_gate.specs.Taking.{HasTaken, kind_of}
use Rattle.agent_gate.proofs.Turning.{settled_stays}
use Rattle.agent_gate.proofs.calls.DropPostsVisitShared.visit.Goals as goal

pub returns-clause-stays : goal.returns-clause-stays
returns-clause-stays g c =
    subst (λ a. Stays (HasTaken (kind_of g.S.Signs.signing g.S.Signs.is_whole g.K.Keeper.saves)) a c.settle.new.self) c.value.view_is
    (settled_stays (kind_of g.S.Signs.signing g.S.Signs.is_whole g.K.Keeper.saves) c.value.inside.agent c.settle.new.self c.args.self.acks.now c.settle.ensures)
