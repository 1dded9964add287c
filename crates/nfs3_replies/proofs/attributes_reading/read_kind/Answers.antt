use Rattle.log_model.specs.Spelling.{kind_number}
use Rattle.nfs3_replies.proofs.ReadAttributes.{kind_below, kind_spelled}
use Rattle.wire_model.proofs.PartByPart.{number_read, number_missed}
use Rattle.nfs3_replies.proofs.attributes_reading.read_kind.Goals as goal

pub returns-in-Some : goal.returns-in-Some
returns-in-Some c = number_read kind_number kind_below kind_spelled c.u32.ensures (rw c.in-Some.is at c.kind_of.ensures)

pub returns-in-None : goal.returns-in-None
returns-in-None c = number_missed kind_number kind_below kind_spelled c.u32.ensures (rw c.in-None.is at c.kind_of.ensures) c.miss.ensures
