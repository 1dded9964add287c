use Rattle.std.proofs.lemmas.Result.{IfOk-weaker}
use Rattle.view_refresh.proofs.Starting.{given_is_free}
use Rattle.view_refresh.proofs.refresh.ViewRefresh.loads_on.Goals as goal

pub returns : goal.returns
returns g c =
    let r = c.args.self.now in
    IfOk-weaker c.goes_from.result _ _ (given_is_free g.J.Judge.judges r.judge r.replicas r.entries c.args.loading c.args.came c.give.new.self c.in_ok-give.ensures.given) c.goes_from.ensures
