use Rattle.std.proofs.Common.{IfOk, subst}
use Rattle.view_refresh.specs.Parts.{BeginsGet}
use Rattle.view_refresh.specs.States.{Refreshing}
use Rattle.view_refresh.proofs.Beginning.{begins_get}
use Rattle.view_refresh.proofs.refresh.ViewRefresh.first.Goals as goal

pub returns : goal.returns
returns g c =
    let i = c.self.inside in
    subst (λ (r : Refreshing g.row.J.Denot). IfOk c.go_on.result (BeginsGet g.J.Judge.judges r.replicas r.entries c.args.key)) c.self.view_is
    (begins_get g.J.Judge.judges i.replicas i.entries c.args.key c.in_ok-get.get c.in_ok-get.ensures c.go_on.result c.go_on.ensures)
