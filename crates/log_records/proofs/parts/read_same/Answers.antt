use Rattle.std.proofs.Common.{◌≡◌, true, false}
use Rattle.log_records.proofs.ReadParts.{same_key_read, other_key_read}
use Rattle.log_records.proofs.parts.read_same.Goals as goal

pub returns-then-not-is_same : goal.returns-then-not-is_same
returns-then-not-is_same c = other_key_read c.check_block.ensures (λ e. let no : false ≡ true = c.if-not-is_same.ensures.1 e in absurd (cc no)) c.miss.ensures c.read_key.ensures

pub returns-else-not-is_same : goal.returns-else-not-is_same
returns-else-not-is_same c = same_key_read c.check_block.ensures (c.is_same.ensures.0 c.if-not-is_same.false) c.read_key.ensures
