use Rattle.log_records.proofs.ReadParts.{moment_read}
use Rattle.log_records.proofs.parts.read_moment.Goals as goal

pub returns : goal.returns
returns c = moment_read c.u32-sec.ensures c.u32-nsec.ensures
