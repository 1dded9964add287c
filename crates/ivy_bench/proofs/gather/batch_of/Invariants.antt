use Rattle.ivy_bench.specs.Gathered.{IsGathered}
use Rattle.ivy_bench.proofs.gather.batch_of.Given as goal

-- the logs so far are in the batch
abbrev pub invariant-logs : goal.invariant-logs
invariant-logs l = IsGathered l.view l.owners.items l.batch
