use Rattle.std.proofs.Common.{sym, ◌∙◌}
use Rattle.nfs3_reads.specs.Places.{places}
use Rattle.nfs3_reads.proofs.Runs.{some_fit, some_there}
use Rattle.nfs3_reads.proofs.cuts.at_least_one.Goals as goal

pub returns-else-is_empty : goal.returns-else-is_empty
returns-else-is_empty c =
    some_fit (places c.args.entries.now) c.args.fit.now.before c.args.fit.now.pairs.now
    (some_there _ (sym c.is_empty.ensures ∙ c.if-is_empty.false))
