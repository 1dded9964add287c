use Rattle.wire_model.proofs.Dependent.{on_err}
use Rattle.block_parts.proofs.Blocks.{blocks_front, no_blocks}
use Rattle.block_parts.proofs.reading.read_blocks.Goals as goal

pub returns-in_err-item-clause-err : goal.returns-in_err-item-clause-err
returns-in_err-item-clause-err g c = on_err c.from_residual.result (no_blocks c.args.count g.row.N c.requires.words c.in_err-item.ensures.none)

pub returns-clause-ok : goal.returns-clause-ok
returns-clause-ok g c = rw c.as_chunks.ensures.front (blocks_front c.args.count g.row.N c.requires.some c.requires.words c.in_ok-item.ensures.ok c.check_bytes.ensures)
