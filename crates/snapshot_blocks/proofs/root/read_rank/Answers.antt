use Rattle.wire_model.proofs.Dependent.{on_err}
use Rattle.snapshot_blocks.proofs.RootReading.{no_weight, no_owner, no_seq, rank_front}
use Rattle.snapshot_blocks.proofs.root.read_rank.Goals as goal

pub returns-in_err-weight-clause-err : goal.returns-in_err-weight-clause-err
returns-in_err-weight-clause-err c = on_err c.from_residual.result (no_weight c.in_err-weight.ensures.none)

pub returns-in_err-read_block-clause-err : goal.returns-in_err-read_block-clause-err
returns-in_err-read_block-clause-err c = on_err c.from_residual-in_err-read_block.result (no_owner c.in_ok-weight.ensures.ok c.in_err-read_block.ensures.err)

pub returns-in_err-seq-clause-err : goal.returns-in_err-seq-clause-err
returns-in_err-seq-clause-err c = on_err c.from_residual-in_err-seq.result (no_seq c.in_ok-weight.ensures.ok c.in_ok-read_block.ensures.ok c.in_err-seq.ensures.none)

pub returns-clause-ok : goal.returns-clause-ok
returns-clause-ok c = rank_front c.in_ok-weight.ensures.ok c.in_ok-read_block.ensures.ok c.in_ok-seq.ensures.ok
