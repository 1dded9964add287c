use Rattle.std.proofs.Common.{refl}
use Rattle.turn_taking.proofs.There.{has_at, has_high, has_low}
use Rattle.version_vectors.specs.Entries.{stamped}
use Rattle.turn_taking.proofs.lacking.has_record.Goals as goal

pub returns-then-entry-first : goal.returns-then-entry-first
returns-then-entry-first c = has_low c.args.entry.now.log (stamped c.args.entry.now).1 c.as_slice-records.result.now c.args.chain.now.records c.index-records-0.result c.as_slice-records.ensures c.requires.row.numbered c.if-entry-first.true

pub returns-then-at-records : goal.returns-then-at-records
returns-then-at-records c = has_at c.args.entry.now.log (stamped c.args.entry.now).1 c.as_slice-records.result.now c.args.chain.now.records c.index-records-0.result c.name_at.result c.is_same.result c.as_slice-records.ensures
    c.requires.row.numbered c.requires.log c.if-entry-first.false c.if-at-records.true c.name_at.ensures c.is_same.ensures

pub returns-else-at-records : goal.returns-else-at-records
returns-else-at-records c = has_high c.args.entry.now.log (stamped c.args.entry.now).1 c.as_slice-records.result.now c.args.chain.now.records c.index-records-0.result _ c.as_slice-records.ensures c.requires.row.numbered
    c.if-entry-first.false c.if-at-records.false refl
