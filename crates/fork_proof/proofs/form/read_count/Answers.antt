use Rattle.std.proofs.Common.{arith}
use Rattle.fork_proof.proofs.Reading.{few_read, many_read}
use Rattle.fork_proof.proofs.form.read_count.Goals as goal

pub returns-then-count-le-MOST_BLOCKS-clause-reads : goal.returns-then-count-le-MOST_BLOCKS-clause-reads
returns-then-count-le-MOST_BLOCKS-clause-reads c = few_read (omega arith) c.u32-count.ensures

pub returns-else-count-le-MOST_BLOCKS-clause-reads : goal.returns-else-count-le-MOST_BLOCKS-clause-reads
returns-else-count-le-MOST_BLOCKS-clause-reads c = many_read 0 (λ few. omega (arith, few)) c.miss.ensures c.u32-count.ensures
