use Rattle.wire_model.proofs.PartByPart.{no_optional, some_optional}
use Rattle.nfs3_replies.proofs.attributes_reading.read_optional_before.Goals as goal

pub returns-then-boolean : goal.returns-then-boolean
returns-then-boolean c = some_optional c.boolean.ensures.reads c.if-boolean.true c.read_before.ensures

pub returns-else-boolean : goal.returns-else-boolean
returns-else-boolean c = no_optional c.boolean.ensures.reads c.if-boolean.false
