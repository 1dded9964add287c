use Rattle.std.proofs.Common.{sym, subst}
use Rattle.std.specs.Prelude.{IfErr, IfOk, OnErr}
use Rattle.value_gate.specs.Histories.{GoesOn, Stays}
use Rattle.agent_gate.specs.declared.request.TurnRequest.{TurnRequest}
use Rattle.agent_gate.specs.Asking.{MayAsk, Refuses}
use Rattle.agent_gate.specs.Taking.{HasTaken, kind_of}
use Rattle.agent_gate.proofs.Turning.{it_goes_on, it_refuses, it_stays, may_turn}
use Rattle.agent_gate.proofs.calls.TakeTurnTurnShared.take.Goals as goal

pub turn_alone-requires-clause-batch : goal.turn_alone-requires-clause-batch
turn_alone-requires-clause-batch g c =
    let asked : TurnRequest = record { refresh = c.args.self.refresh; asked = c.args.self.asked.now; now = c.args.self.now } in
    (subst (λ a. MayAsk a asked) (sym c.value.view_is) (may_turn (kind_of g.S.Signs.signing g.S.Signs.is_whole g.K.Keeper.saves) c.args.value.now asked c.requires)).batch

pub returns-clause-taken : goal.returns-clause-taken
returns-clause-taken g c =
    let asked : TurnRequest = record { refresh = c.args.self.refresh; asked = c.args.self.asked.now; now = c.args.self.now } in
    let may = subst (λ a. MayAsk a asked) (sym c.value.view_is) (may_turn (kind_of g.S.Signs.signing g.S.Signs.is_whole g.K.Keeper.saves) c.args.value.now asked c.requires) in
    subst (λ a. IfOk c.turn_alone.result (λ t. GoesOn (HasTaken (kind_of g.S.Signs.signing g.S.Signs.is_whole g.K.Keeper.saves)) a c.turn_alone.new.agent (asked, t))) c.value.view_is
    (it_goes_on (kind_of g.S.Signs.signing g.S.Signs.is_whole g.K.Keeper.saves) c.value.inside.agent c.turn_alone.new.agent asked c.turn_alone.result may c.turn_alone.ensures.turn c.turn_alone.ensures.short)

pub returns-clause-fault : goal.returns-clause-fault
returns-clause-fault g c =
    let asked : TurnRequest = record { refresh = c.args.self.refresh; asked = c.args.self.asked.now; now = c.args.self.now } in
    let may = subst (λ a. MayAsk a asked) (sym c.value.view_is) (may_turn (kind_of g.S.Signs.signing g.S.Signs.is_whole g.K.Keeper.saves) c.args.value.now asked c.requires) in
    subst (λ a. OnErr c.turn_alone.result (Stays (HasTaken (kind_of g.S.Signs.signing g.S.Signs.is_whole g.K.Keeper.saves)) a c.turn_alone.new.agent)) c.value.view_is
    (it_stays (kind_of g.S.Signs.signing g.S.Signs.is_whole g.K.Keeper.saves) c.value.inside.agent c.turn_alone.new.agent asked c.turn_alone.result may c.turn_alone.ensures.turn)

pub returns-clause-why : goal.returns-clause-why
returns-clause-why g c =
    let asked : TurnRequest = record { refresh = c.args.self.refresh; asked = c.args.self.asked.now; now = c.args.self.now } in
    let may = subst (λ a. MayAsk a asked) (sym c.value.view_is) (may_turn (kind_of g.S.Signs.signing g.S.Signs.is_whole g.K.Keeper.saves) c.args.value.now asked c.requires) in
    subst (λ a. IfErr c.turn_alone.result (Refuses (kind_of g.S.Signs.signing g.S.Signs.is_whole g.K.Keeper.saves) asked a)) c.value.view_is
    (it_refuses (kind_of g.S.Signs.signing g.S.Signs.is_whole g.K.Keeper.saves) c.value.inside.agent c.turn_alone.new.agent asked c.turn_alone.result may c.turn_alone.ensures.turn)
