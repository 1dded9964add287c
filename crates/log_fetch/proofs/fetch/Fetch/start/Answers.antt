use Rattle.std.proofs.Common.{ap}
use Rattle.log_fetch.specs.Gathering.{gets_in, seen}
use Rattle.log_fetch.specs.Standings.{standing_of}
use Rattle.log_fetch.proofs.Falling.{first_left}
use Rattle.log_fetch.proofs.Fetching.{first_state}
use Rattle.log_fetch.proofs.fetch.Fetch.start.Goals as goal

pub returns-clause-started : goal.returns-clause-started
returns-clause-started g c =
    first_state g.J.Judge.judges c.args.judge c.args.replicas c.args.entries (standing_of c.args.standing.now) c.args.standing.now.held c.in_ok-start.field-0 (ap seen c.in_ok-start.ensures.known) c.in_ok-start.ensures.started

pub returns-clause-left : goal.returns-clause-left
returns-clause-left g c = first_left (gets_in c.in_ok-start.field-0) c.in_ok-start.ensures.left
