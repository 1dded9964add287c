use Rattle.std.proofs.Common.{arith, rules}
use Rattle.fork_proof.proofs.Reading.{block_read, all_read}
use Rattle.fork_proof.proofs.form.read_so_many.Goals as goal

pub blocks-2-preserved : goal.blocks-2-preserved
blocks-2-preserved c = record {
  reads = block_read (λ b. b.now) c.blocks-2.blocks.items c.push.new.self.items _ c.in_ok-push.ensures.items c.blocks-2.invariant.reads c.opaque.ensures;
  size = search rules;
}

pub returns-clause-reads : goal.returns-clause-reads
returns-clause-reads c = all_read c.blocks-2._place c.args.count (omega arith) c.blocks-2.invariant.reads
