use Rattle.block_parts.proofs.Tested.{not_same}
use Rattle.block_parts.proofs.Constants.{other_constant}
use Rattle.block_parts.proofs.reading.read_constant.Goals as goal

pub returns-then-ne-clause-err : goal.returns-then-ne-clause-err
returns-then-ne-clause-err g c = other_constant g.row.N c.requires c.told-constant c.in_ok-fixed.ensures.ok (not_same c.in_ok-fixed.field-0.now c.as_slice.result.now c.args.constant.now c.ne.result c.ne.ensures c.if-ne.true c.as_slice.ensures)
