use Rattle.block_parts.proofs.Bytes.{counted}
use Rattle.block_parts.proofs.reading.check_block.Goals as goal

pub returns : goal.returns
returns g c = counted g.row.N c.args.bytes.now c.as_slice.result.now c.told-bytes c.as_slice.ensures c.check_bytes.ensures
