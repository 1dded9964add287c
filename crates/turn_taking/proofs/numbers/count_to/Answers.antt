use Rattle.std.proofs.Common.{min, ap, ◌∙◌, length}
use Rattle.turn_taking.proofs.Slices.{counted_items}
use Rattle.turn_taking.proofs.numbers.count_to.Goals as goal

pub returns-in-Some-clause-front : goal.returns-in-Some-clause-front
returns-in-Some-clause-front c = (counted_items c.args.records.now c.in-Some.first.now c.args.number c.min.result c.requires c.in-Some.ensures.value
    (c.min.ensures ∙ ap (λ n. min n (length c.args.records.now)) c.saturating_sub.ensures)).0

pub returns-in-Some-clause-rest : goal.returns-in-Some-clause-rest
returns-in-Some-clause-rest c = (counted_items c.args.records.now c.in-Some.first.now c.args.number c.min.result c.requires c.in-Some.ensures.value
    (c.min.ensures ∙ ap (λ n. min n (length c.args.records.now)) c.saturating_sub.ensures)).1
