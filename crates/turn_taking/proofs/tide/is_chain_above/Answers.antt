use Rattle.std.proofs.Common.{refl}
use Rattle.log_records.specs.Records.{records_of}
use Rattle.turn_taking.proofs.Above.{all_over, first_log, first_others}
use Rattle.turn_taking.proofs.Slices.{owner_is}
use Rattle.turn_taking.proofs.tide.is_chain_above.Goals as goal

pub is_above-requires-clause-log : goal.is_above-requires-clause-log
is_above-requires-clause-log c =
    let chain = c.args.chain.now in
    first_log c.args.held.now.view.now c.args.held.now.front.now (records_of chain.records) c.requires.linked c.requires.row.numbered c.as_slice-records.result.now chain.records c.beyond.result.now c.in-Some.first.now
    c.as_slice-records.ensures refl c.beyond.ensures c.in-Some.ensures.value
    c.head_key-log.result _ c.head_key-log.ensures (owner_is c.as_slice-records.result.now chain.records c.index-records-0.result chain.head.name c.as_slice-records.ensures c.requires.row.named)

pub is_above-requires-clause-others : goal.is_above-requires-clause-others
is_above-requires-clause-others c =
    let chain = c.args.chain.now in
    first_others c.args.held.now.view.now c.args.held.now.front.now (records_of chain.records) c.requires.linked c.requires.row.numbered c.as_slice-records.result.now chain.records c.beyond.result.now c.in-Some.first.now
    c.as_slice-records.ensures refl c.beyond.ensures c.in-Some.ensures.value
    c.head_key-log.result _ c.head_key-log.ensures (owner_is c.as_slice-records.result.now chain.records c.index-records-0.result chain.head.name c.as_slice-records.ensures c.requires.row.named)

pub returns-in-Some : goal.returns-in-Some
returns-in-Some c =
    let chain = c.args.chain.now in
    all_over c.args.held.now.view.now c.args.held.now.front.now (records_of chain.records) c.requires.linked c.requires.row.numbered c.as_slice-records.result.now chain.records c.beyond.result.now c.in-Some.first.now
    c.as_slice-records.ensures refl c.beyond.ensures c.in-Some.ensures.value
    c.args.held.now.base.now c.is_above.result c.is_above.ensures
