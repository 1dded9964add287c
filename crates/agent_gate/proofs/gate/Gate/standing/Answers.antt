use Rattle.std.proofs.Common.{subst}
use Rattle.value_gate.specs.Passes.{Found}
use Rattle.agent_gate.specs.Asking.{ShowsStanding}
use Rattle.agent_gate.specs.Taking.{HasTaken, kind_of}
use Rattle.agent_gate.proofs.Passing.{shows_itself}
use Rattle.agent_gate.proofs.gate.Gate.standing.Goals as goal

pub returns-clause-shows : goal.returns-clause-shows
returns-clause-shows g c =
    subst (λ x. Found (HasTaken (kind_of g.S.Signs.signing g.S.Signs.is_whole g.K.Keeper.saves)) x.opening c.visit.new.pass.history (λ found. ShowsStanding (kind_of g.S.Signs.signing g.S.Signs.is_whole g.K.Keeper.saves) found c.visit.result found)) c.self.view_is
    (shows_itself (kind_of g.S.Signs.signing g.S.Signs.is_whole g.K.Keeper.saves) c.self.inside.gate.opening c.visit.new.pass.history c.visit.result c.visit.ensures.sees)
