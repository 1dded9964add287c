use Rattle.std.proofs.Common.{sym, ap, ◌∙◌}
use Rattle.log_records.specs.declared.record.Record.{Record}
use Rattle.turn_taking.proofs.NameLemmas.{all_named, numbered_from, one_more, some_named}
use Rattle.turn_taking.proofs.Slices.{owner_is}
use Rattle.turn_taking.proofs.names.names_in.Goals as goal

pub records-preserved : goal.records-preserved
records-preserved c = c.in_ok-push.ensures.items ∙ one_more c.as_slice-records.result.now c.args.chain.now.records c.records.i c.index-records-0.result c.records.names.items c.name_at.result
    c.as_slice-records.ensures c.records-test.true c.records.invariant c.name_at.ensures

pub returns : goal.returns
returns c =
    let items = c.as_slice-records.result.now in
    let records = c.args.chain.now.records in
    let head = c.args.chain.now.head.name in
    let first = numbered_from items records c.index-records-0.result c.as_slice-records.ensures (some_named items records head c.as_slice-records.ensures c.requires.named) c.requires.numbered in
    record {
      owner = ap (λ (x : Record). x.owner) c.index-records-0.is ∙ sym (owner_is items records c.index-records-0.result head c.as_slice-records.ensures c.requires.named);
      log = c.head_key.ensures;
      first = (first.0, ap (λ (x : Record). x.seq) c.index-records-0.is ∙ first.1, first.2);
      names = all_named items records c.records.names.items c.records.i c.as_slice-records.ensures c.records-test.false c.records.invariant;
    }
