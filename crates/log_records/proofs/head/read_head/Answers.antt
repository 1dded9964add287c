use Rattle.log_records.proofs.OneHead.{head_read}
use Rattle.log_records.proofs.head.read_head.Goals as goal

pub returns : goal.returns
returns c = head_read c.check_block.ensures c.check_block-2.ensures c.read_tag.ensures c.bytes.ensures c.read_number-seq.ensures c.read_key-name.ensures c.opaque-signature.ensures
