use Rattle.log_records.proofs.ReadParts.{kind_read, no_kind_read}
use Rattle.log_records.proofs.parts.read_kind.Goals as goal

pub returns-in-Some : goal.returns-in-Some
returns-in-Some c = kind_read (rw c.in-Some.is at c.kind_of.ensures) c.u32.ensures

pub returns-in-None : goal.returns-in-None
returns-in-None c = no_kind_read (rw c.in-None.is at c.kind_of.ensures) c.miss.ensures c.u32.ensures
