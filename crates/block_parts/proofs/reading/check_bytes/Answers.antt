use Rattle.std.proofs.Common.{length, refl, arith}
use Rattle.block_parts.proofs.Bytes.{block}
use Rattle.block_parts.proofs.reading.check_bytes.Goals as goal

pub returns : goal.returns
returns c = block (length c.args.bytes.now) c.args.bytes.now refl (λ i. omega (arith, c.type_inv.bytes i))
