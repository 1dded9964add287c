use Rattle.std.proofs.Common.{arith}
use Rattle.block_parts.proofs.Bytes.{is_block}
use Rattle.block_parts.proofs.reading.block_of.Goals as goal

pub returns-clause-fits : goal.returns-clause-fits
returns-clause-fits g c = is_block g.row.N c.args.item.now c.copy_from_slice.new.self c.requires c.copy_from_slice.ensures.after (λ i. omega (arith, c.type_inv.item i))
