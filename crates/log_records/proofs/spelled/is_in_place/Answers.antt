use Rattle.log_records.specs.Records.{record_of}
use Rattle.log_records.proofs.Fitting.{first_in_place, no_end_first}
use Rattle.log_records.proofs.spelled.is_in_place.Goals as goal

pub returns-then-is_end : goal.returns-then-is_end
returns-then-is_end c = first_in_place (record_of c.args.record.now) c.if-record-eq1.true (c.is_end.ensures.0 c.if-is_end.true) c.opens.ensures

pub returns-else-is_end : goal.returns-else-is_end
returns-else-is_end c = no_end_first (record_of c.args.record.now) c.if-record-eq1.true c.if-is_end.false c.is_end.ensures
