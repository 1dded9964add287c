use Rattle.nfs3_reads.proofs.Runs.{behind_cookie}
use Rattle.nfs3_reads.proofs.cuts.behind.Goals as goal

pub returns : goal.returns
returns c = behind_cookie c.args.all.now c.args.cookie _ c.min-before.ensures
