use Rattle.wire_model.proofs.OneReading.{one_word}
use Rattle.log_records.proofs.ReadParts.{same_read, other_read}
use Rattle.log_records.proofs.parts.read_tag.Goals as goal

pub returns-then-u32-tag : goal.returns-then-u32-tag
returns-then-u32-tag c = other_read c.check_word.ensures one_word c.if-u32-tag.true c.miss.ensures c.u32.ensures

pub returns-else-u32-tag : goal.returns-else-u32-tag
returns-else-u32-tag c = same_read c.check_word.ensures c.if-u32-tag.false c.u32.ensures
