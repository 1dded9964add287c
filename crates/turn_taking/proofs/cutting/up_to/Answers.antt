use Rattle.std.proofs.Common.{List, take, ap, ◌∙◌, ◌<◌, arith}
use Rattle.log_records.specs.declared.record.Record.{Record}
use Rattle.turn_taking.proofs.Within.{row_of}
use Rattle.turn_taking.proofs.cutting.up_to.Goals as goal

pub returns : goal.returns
returns c =
    let k = c.count_to-count.result in
    let some : 0 < c.count_to-count.result = omega (arith, c.if-count-eq0.false) in
    row_of c.args.chain _ c.args.number k c.as_slice.result.now c.of.result c.requires c.as_slice.ensures
    (c.of.ensures ∙ c.truncate.ensures.items ∙ ap (λ (xs : List Record). take k xs) c.into_vec-records.ensures)
    c.count_to-count.ensures.front some c.count_to-count.ensures.within c.name_at.ensures
