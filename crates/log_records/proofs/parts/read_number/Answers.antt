use Rattle.std.proofs.Common.{◌≡◌, true, false}
use Rattle.log_records.proofs.ReadParts.{some_number_read, no_number_read}
use Rattle.log_records.proofs.parts.read_number.Goals as goal

pub returns-then-not-is_number : goal.returns-then-not-is_number
returns-then-not-is_number c = no_number_read (λ f. let no : false ≡ true = c.if-not-is_number.ensures.1 f in absurd (cc no)) c.miss.ensures c.u32-seq.ensures

pub returns-else-not-is_number : goal.returns-else-not-is_number
returns-else-not-is_number c = some_number_read (c.is_number.ensures.0 c.if-not-is_number.false) c.u32-seq.ensures
