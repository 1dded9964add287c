use Rattle.std.proofs.Common.{subst}
use Rattle.std.specs.Prelude.{IfErr}
use Rattle.value_gate.specs.Passes.{Found}
use Rattle.agent_gate.specs.declared.request.TurnRequest.{TurnRequest}
use Rattle.agent_gate.specs.Asking.{Refuses}
use Rattle.agent_gate.specs.Taking.{HasTaken, kind_of}
use Rattle.agent_gate.proofs.Passing.{all_answers}
use Rattle.agent_gate.proofs.gate.Gate.take_turn.Goals as goal

pub returns-clause-answers : goal.returns-clause-answers
returns-clause-answers g c =
    let asked : TurnRequest = record { refresh = c.args.refresh; asked = c.args.asked.now; now = c.args.now } in
    all_answers (kind_of g.S.Signs.signing g.S.Signs.is_whole g.K.Keeper.saves) c.args.self.now c.args.pass.now c.take_turn.new.pass asked c.take_turn.result c.requires.pass c.take_turn.ensures.taken c.take_turn.ensures.legal

pub returns-clause-why : goal.returns-clause-why
returns-clause-why g c =
    let asked : TurnRequest = record { refresh = c.args.refresh; asked = c.args.asked.now; now = c.args.now } in
    subst (λ x. IfErr c.take_turn.result (λ fault. Found (HasTaken (kind_of g.S.Signs.signing g.S.Signs.is_whole g.K.Keeper.saves)) x.opening c.take_turn.new.pass.history (λ found. Refuses (kind_of g.S.Signs.signing g.S.Signs.is_whole g.K.Keeper.saves) asked found fault))) c.self.view_is c.take_turn.ensures.why
