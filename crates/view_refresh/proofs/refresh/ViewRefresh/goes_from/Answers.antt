use Rattle.std.proofs.Common.{sym}
use Rattle.view_refresh.proofs.Starting.{load_is_free}
use Rattle.view_refresh.proofs.refresh.ViewRefresh.goes_from.Goals as goal

pub returns-in-Some : goal.returns-in-Some
returns-in-Some g c =
    let r = c.args.self.now in
    load_is_free g.J.Judge.judges r.judge r.replicas r.entries c.args.loading (record { key = c.in-Some.field-0; wanted = sym c.in-Some.ensures.value; comes = c.in-Some.ensures.wants })
