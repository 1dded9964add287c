use Rattle.std.proofs.Common.{subst}
use Rattle.log_fetch.specs.Stepping.{GetsFor}
use Rattle.log_fetch.proofs.Fetching.{begins}
use Rattle.log_fetch.proofs.fetch.Fetch.first.Goals as goal

pub returns-in_ok-go_on-in-Some : goal.returns-in_ok-go_on-in-Some
returns-in_ok-go_on-in-Some g c =
    let f = c.args.self.now in
    begins g.J.Judge.judges f.judge f.replicas f.entries c.args.gather.now.stage c.in-Some.get (subst (GetsFor g.J.Judge.judges f.judge f.replicas f.entries c.args.gather.now.stage) c.in-Some.is c.in_ok-get.ensures) c.in_ok-go_on-in-Some.field-0
    c.in_ok-go_on-in-Some.ensures
