use Rattle.std.proofs.Common.{◌∙◌}
use Rattle.log_fetch.specs.Standings.{standing_of}
use Rattle.ivy_session.proofs.Begins.{begun_with}
use Rattle.ivy_session.proofs.session.Session.begin.Goals as goal

pub returns-clause-begun : goal.returns-clause-begun
returns-clause-begun g c =
    begun_with g.J.Judge.judges c.args.judge c.args.replicas c.args.entries c.args.message.now (standing_of c.args.standing) c.of.result c.in_ok-stage.stage (c.of.ensures ∙ c.new.ensures.items) c.in_ok-stage.ensures.begun
