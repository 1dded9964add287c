use Rattle.log_records.proofs.Fitting.{is_end, is_not_end}
use Rattle.log_records.proofs.record.is_end.Goals as goal

pub returns-in-End : goal.returns-in-End
returns-in-End c = is_end c.in-End.is

pub returns-in_default : goal.returns-in_default
returns-in_default c = is_not_end c.in_default.not-End
