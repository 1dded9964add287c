use Rattle.std.proofs.Common.{arith}
use Rattle.wire_model.proofs.OneReading.{one_word}
use Rattle.log_records.proofs.ReadParts.{same_read, other_read}
use Rattle.fork_proof.proofs.form.read_tag.Goals as goal

pub returns-then-u32-ne-TAG : goal.returns-then-u32-ne-TAG
returns-then-u32-ne-TAG c = other_read {y = 1230390833} (omega arith) one_word c.if-u32-ne-TAG.true c.miss.ensures c.u32.ensures

pub returns-else-u32-ne-TAG : goal.returns-else-u32-ne-TAG
returns-else-u32-ne-TAG c = same_read {y = 1230390833} (omega arith) c.if-u32-ne-TAG.false c.u32.ensures
