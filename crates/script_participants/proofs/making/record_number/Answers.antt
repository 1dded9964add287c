use Rattle.std.proofs.Common.{◌∙◌}
use Rattle.script_participants.proofs.Numbers.{number_read}
use Rattle.script_participants.proofs.making.record_number.Goals as goal

pub returns : goal.returns
returns c = c.from_be_bytes.ensures ∙ number_read c.args.block.now c.byte_at.result c.byte_at-2.result c.byte_at-3.result c.byte_at-4.result c.byte_at.ensures c.byte_at-2.ensures c.byte_at-3.ensures c.byte_at-4.ensures
