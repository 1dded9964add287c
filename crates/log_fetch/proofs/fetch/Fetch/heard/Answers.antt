use Rattle.std.proofs.Common.{◌∙◌, sym, ap, subst}
use Rattle.log_fetch.specs.declared.fetch.State.{State}
use Rattle.log_fetch.specs.Fetching.{Fetching, FetchHasHeard}
use Rattle.log_fetch.proofs.fetch.Fetch.heard.Goals as goal

pub returns-clause-heard : goal.returns-clause-heard
returns-clause-heard g c =
    let i = c.self.inside in
    subst (λ (st : State g.row.J.Denot). FetchHasHeard g.J.Judge.judges c.args.self.now (record { judge = i.judge; replicas = i.replicas; entries = i.entries; state = st; gets = i.gets }) c.args.answer c.in_ok-state.block) (sym c.come_to.ensures)
    (subst (λ (f : Fetching g.row.J.Denot). FetchHasHeard g.J.Judge.judges f (record { judge = i.judge; replicas = i.replicas; entries = i.entries; state = c.in_ok-state.state; gets = i.gets }) c.args.answer c.in_ok-state.block)
    (ap (λ (st : State g.row.J.Denot). record { judge = i.judge; replicas = i.replicas; entries = i.entries; state = st; gets = i.gets }) c.replace-state.ensures.value ∙ c.self.view_is) c.in_ok-state.ensures.0)
