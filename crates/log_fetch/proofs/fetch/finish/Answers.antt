use Rattle.log_fetch.proofs.Stepping.{finishes}
use Rattle.log_fetch.proofs.fetch.finish.Goals as goal

pub returns : goal.returns
returns c = finishes c.args.gather c.in_ok-batch.ensures.legal c.requires c.in_ok-batch.batch c.in_ok-batch.notes c.in_ok-batch.ensures.given.0 c.in_ok-batch.ensures.given.1
