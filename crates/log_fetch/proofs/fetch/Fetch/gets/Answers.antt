use Rattle.std.proofs.Common.{subst}
use Rattle.log_fetch.specs.Fetching.{Fetching, HasFewGets}
use Rattle.log_fetch.proofs.Fetching.{few_gets}
use Rattle.log_fetch.proofs.fetch.Fetch.gets.Goals as goal

pub returns-clause-few : goal.returns-clause-few
returns-clause-few g c =
    let i = c.self.inside in
    subst (λ (f : Fetching g.row.J.Denot). HasFewGets f i.gets) c.self.view_is (few_gets (record { judge = i.judge; replicas = i.replicas; entries = i.entries; state = i.state; gets = i.gets }))
