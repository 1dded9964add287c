use Rattle.std.proofs.Common.{None, sym, subst}
use Rattle.std.specs.Prelude.{◌≢◌}
use Rattle.view_refresh.specs.States.{Refreshing, refresh_awaited}
use Rattle.view_refresh.proofs.Placing.{from_so, hears_placed, sound_so, still_holds}
use Rattle.view_refresh.proofs.refresh.ViewRefresh.heard.Goals as goal

pub hear-requires : goal.hear-requires
hear-requires g c =
    let i = c.self.inside in
    record {
      sound = sound_so g.J.Judge.judges i.judge i.replicas i.entries i.pending i.state c.replace-state.result c.replace-state.ensures.value c.self.invariant;
      awaited = subst (λ (r : Refreshing g.row.J.Denot). refresh_awaited r ≢ None) (sym (from_so g.J.Judge.judges i.judge i.replicas i.entries i.pending i.state c.replace-state.result c.replace-state.ensures.value c.args.self.now c.self.view_is)) c.requires;
    }

pub invariant_of-self-2 : goal.invariant_of-self-2
invariant_of-self-2 g c = let i = c.self.inside in still_holds g.J.Judge.judges i.judge i.replicas i.entries i.pending i.state c.replace-state.result c.replace-state.ensures.value c.in_ok-state.state c.come_to.new.state c.come_to.ensures c.self.invariant c.in_ok-state.ensures.1

pub returns-clause-heard : goal.returns-clause-heard
returns-clause-heard g c =
    let i = c.self.inside in
    (hears_placed g.J.Judge.judges i.judge i.replicas i.entries i.pending i.state c.replace-state.result c.replace-state.ensures.value c.in_ok-state.state c.come_to.new.state c.come_to.ensures c.args.self.now c.self.view_is c.args.answer c.in_ok-state.block c.in_ok-state.ensures).0

pub returns-clause-left : goal.returns-clause-left
returns-clause-left g c =
    let i = c.self.inside in
    (hears_placed g.J.Judge.judges i.judge i.replicas i.entries i.pending i.state c.replace-state.result c.replace-state.ensures.value c.in_ok-state.state c.come_to.new.state c.come_to.ensures c.args.self.now c.self.view_is c.args.answer c.in_ok-state.block c.in_ok-state.ensures).1
