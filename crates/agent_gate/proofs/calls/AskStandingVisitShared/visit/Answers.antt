use Rattle.std.proofs.Common.{sym, subst}
use Rattle.agent_gate.specs.Asking.{MayVisit}
use Rattle.agent_gate.specs.Taking.{kind_of}
use Rattle.agent_gate.proofs.Turning.{may_visit}
use Rattle.agent_gate.proofs.calls.AskStandingVisitShared.visit.Goals as goal

pub standing-requires : goal.standing-requires
standing-requires g c = subst MayVisit (sym c.value.view_is) (may_visit (kind_of g.S.Signs.signing g.S.Signs.is_whole g.K.Keeper.saves) c.args.value.now c.requires)
