use Rattle.std.proofs.Common.{sym, subst}
use Rattle.value_gate.specs.Passes.{IsWhole}
use Rattle.agent_gate.specs.Taking.{HasTaken, kind_of}
use Rattle.agent_gate.proofs.gate.Gate.close.Goals as goal

pub returns-in-Ok-clause-closed : goal.returns-in-Ok-clause-closed
returns-in-Ok-clause-closed g c =
    let whole = subst (λ x. IsWhole (HasTaken (kind_of g.S.Signs.signing g.S.Signs.is_whole g.K.Keeper.saves)) x.opening c.args.passes.items c.in-Ok.field-0.value c.in-Ok.field-0.turns) c.self.view_is c.in-Ok.ensures.closed.1 in
    (c.in-Ok.ensures.closed.0, subst (λ a. IsWhole (HasTaken (kind_of g.S.Signs.signing g.S.Signs.is_whole g.K.Keeper.saves)) c.args.self.opening c.args.passes.items a c.in-Ok.field-0.turns) (sym c.value.view_is) whole)
