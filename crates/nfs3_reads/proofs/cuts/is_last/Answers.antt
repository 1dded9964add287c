use Rattle.nfs3_reads.proofs.Runs.{same_end}
use Rattle.nfs3_reads.proofs.cuts.is_last.Goals as goal

pub returns : goal.returns
returns c =
    let page = c.args.page.now in
    let left = c.args.left.now in
    same_end page.before left.before page.pairs.now left.pairs.now
