use Rattle.wire_model.proofs.PartByPart.{no_optional, some_optional}
use Rattle.log_records.proofs.change.read_optional_moment.Goals as goal

pub returns-then-boolean : goal.returns-then-boolean
returns-then-boolean c = some_optional c.boolean.ensures.reads c.if-boolean.true c.read_moment.ensures

pub returns-else-boolean : goal.returns-else-boolean
returns-else-boolean c = no_optional c.boolean.ensures.reads c.if-boolean.false
