use Rattle.std.proofs.Common.{sym, ◌∙◌}
use Rattle.view_refresh.proofs.Beginning.{begins_wanted}
use Rattle.view_refresh.proofs.refresh.ViewRefresh.begin.Goals as goal

pub begun-requires : goal.begun-requires
begun-requires g c =
    let r = c.args.self.now in
    record { wants = c.requires; begins = begins_wanted g.J.Judge.judges r.replicas r.entries c.unwrap-key.result c.args.loading (sym c.wanted.ensures.value ∙ c.unwrap-key.ensures) c.in_ok-first.first c.in_ok-first.ensures }
