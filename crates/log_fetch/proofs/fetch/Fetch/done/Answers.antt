use Rattle.log_fetch.proofs.Fetching.{wants_end}
use Rattle.log_fetch.proofs.fetch.Fetch.done.Goals as goal

pub returns : goal.returns
returns g c = let f = c.args.self.now in wants_end g.J.Judge.judges f.judge f.replicas f.entries c.args.gather c.in_ok-finish.field-0 f.gets c.requires c.in_ok-finish.ensures
