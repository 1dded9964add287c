use Rattle.std.proofs.Common.{true, false, List, drop, filter, ap, sym, ◌∙◌}
use Rattle.std.proofs.lemmas.List.{take_rest}
use Rattle.log_records.specs.Records.{records_of}
use Rattle.log_records.specs.declared.record.Record.{Record}
use Rattle.turn_taking.proofs.Counting.{behind}
use Rattle.turn_taking.proofs.Slices.{beyond_is, goes_is, records_drop}
use Rattle.turn_taking.proofs.beyond.beyond.Goals as goal

pub returns-then-go_on_from : goal.returns-then-go_on_from
returns-then-go_on_from c =
    let items = c.args.records.now in
    let k = c.count_to.result in
    ap (λ (xs : List Record). records_of xs) (take_rest items k) ∙ records_drop k items
    ∙ beyond_is c.args.front.now c.args.log.now (records_of items) (drop k (records_of items)) true c.requires.log
    (ap (λ n. filter (behind n) (records_of items)) (sym c.seq_of.ensures) ∙ c.count_to.ensures.rest)
    (sym c.if-go_on_from.true ∙ goes_is c.args.front.now c.args.log.now items k c.get.result c.go_on_from.result c.get.ensures c.go_on_from.ensures)

pub returns-else-go_on_from : goal.returns-else-go_on_from
returns-else-go_on_from c =
    let items = c.args.records.now in
    let k = c.count_to.result in
    beyond_is c.args.front.now c.args.log.now (records_of items) (drop k (records_of items)) false c.requires.log
    (ap (λ n. filter (behind n) (records_of items)) (sym c.seq_of.ensures) ∙ c.count_to.ensures.rest)
    (sym c.if-go_on_from.false ∙ goes_is c.args.front.now c.args.log.now items k c.get.result c.go_on_from.result c.get.ensures c.go_on_from.ensures)
