use Rattle.std.proofs.Common.{◌∙◌, subst}
use Rattle.value_gate.specs.Passes.{pass_view, TookTurn}
use Rattle.value_gate.proofs.Meets.{took}
use Rattle.value_gate.proofs.gate.Gate.take_turn.Goals as goal

pub returns-in-Ok-clause-taken : goal.returns-in-Ok-clause-taken
returns-in-Ok-clause-taken g c =
    let inside = c.enter-word.ensures.inside in
    subst (λ turn. TookTurn c.args.pass.now (g.T.Turn.asks turn, c.in-Ok.reply) (pass_view c.leave.new.seat.table_id c.leave.new.seat.me.0)) c.of-noted.ensures
    (took c.pass.inside.seat.table_id c.leave.new.seat.table_id c.pass.inside.seat.me c.enter-word.new.seat.me c.leave.new.seat.me _ c.args.pass.now (g.T.Turn.asks c.of-noted.result.value, c.in-Ok.reply)
    c.pass.view_is (c.leave.ensures.gate ∙ c.enter-word.ensures.gate.0) inside.0 inside.1 c.leave.ensures.outside)
