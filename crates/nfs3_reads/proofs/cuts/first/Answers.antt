use Rattle.nfs3_reads.proofs.Runs.{first_of}
use Rattle.nfs3_reads.proofs.cuts.first.Goals as goal

pub returns : goal.returns
returns c = first_of c.args.entries.now.before c.args.count c.args.entries.now.pairs.now
