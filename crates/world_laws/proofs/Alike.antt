-- Turns of equal inputs answer alike.
use Rattle.std.proofs.Common.{sym, ap, ◌∙◌, ◌||◌}
use Rattle.turn_model.specs.Turn.{Turned, turn_on}
use Rattle.world_laws.specs.Laws.{AlikeTurnsAnswerAlike}

pub alike_turns : AlikeTurnsAnswerAlike
alike_turns g h one other view taken owned left failed fails asked now =
    ap (λ (t : Turned). t.reply) one.is_answer
    ∙ (λ i. (turn_on (record { view = view i; own = owned i; leaves = left i; has_failed = failed i || fails i }) (taken i) (asked i) (now i)).reply)
    ∙ sym (ap (λ (t : Turned). t.reply) other.is_answer)
