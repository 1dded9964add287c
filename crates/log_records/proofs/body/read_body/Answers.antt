use Rattle.log_records.proofs.Operations.{read_as, end_read}
use Rattle.log_records.proofs.body.read_body.Goals as goal

pub returns-in-7 : goal.returns-in-7
returns-in-7 c = read_as c.in-7.is c.read_cancel.ensures

pub returns-in-8 : goal.returns-in-8
returns-in-8 c = read_as c.in-8.is c.read_set_attrs.ensures

pub returns-in-9 : goal.returns-in-9
returns-in-9 c = read_as c.in-9.is end_read
