use Rattle.std.proofs.Common.{subst}
use Rattle.value_gate.specs.Passes.{FoundAndLeft}
use Rattle.agent_gate.specs.Asking.{DropsPosts}
use Rattle.agent_gate.specs.Taking.{HasTaken, kind_of}
use Rattle.agent_gate.proofs.gate.Gate.settle.Goals as goal

pub returns-clause-settles : goal.returns-clause-settles
returns-clause-settles g c =
    subst (λ x. FoundAndLeft (HasTaken (kind_of g.S.Signs.signing g.S.Signs.is_whole g.K.Keeper.saves)) x.opening c.visit.new.pass.history (DropsPosts c.args.acks.now)) c.self.view_is c.visit.ensures.sees
