use Rattle.std.proofs.Common.{◌≡◌, false, sym, subst}
use Rattle.log_fetch.specs.Fetching.{Fetching, HasFailed, failed_in, is_failed}
use Rattle.log_fetch.proofs.Fetching.{has_failed, not_failed}
use Rattle.log_fetch.proofs.fetch.Fetch.failed.Goals as goal

pub returns-in_default-clause-value : goal.returns-in_default-clause-value
returns-in_default-clause-value g c =
    let i = c.self.inside in
    subst (λ (f : Fetching g.row.J.Denot). false ≡ is_failed f) c.self.view_is (sym (not_failed g.J.Judge.judges i.judge i.replicas i.entries i.state c.in_default.not-Ended))

pub returns-in_default-clause-ended : goal.returns-in_default-clause-ended
returns-in_default-clause-ended g c =
    let i = c.self.inside in
    subst (HasFailed g.J.Judge.judges c.args.self.now) (not_failed g.J.Judge.judges i.judge i.replicas i.entries i.state c.in_default.not-Ended)
    (subst (λ (f : Fetching g.row.J.Denot). HasFailed g.J.Judge.judges f (failed_in i.state)) c.self.view_is (has_failed g.J.Judge.judges i.judge i.replicas i.entries i.state i.gets c.self.invariant))
