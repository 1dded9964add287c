use Rattle.log_records.proofs.ReadParts.{format_read, no_format_read}
use Rattle.log_records.proofs.parts.read_format.Goals as goal

pub returns-in-Some : goal.returns-in-Some
returns-in-Some c = format_read (rw c.in-Some.is at c.format_of.ensures) c.u32.ensures

pub returns-in-None : goal.returns-in-None
returns-in-None c = no_format_read (rw c.in-None.is at c.format_of.ensures) c.miss.ensures c.u32.ensures
