use Rattle.std.proofs.Common.{◌≡◌, Some, None, true, sym, subst}
use Rattle.std.specs.Prelude.{◌≢◌}
use Rattle.ivy_base.specs.Naming.{name}
use Rattle.view_refresh.specs.States.{Refreshing, is_loading, refresh_wanted}
use Rattle.view_refresh.proofs.Placing.{from_so, gives_placed, sound_so, still_holds}
use Rattle.view_refresh.proofs.refresh.ViewRefresh.give.Goals as goal

pub give_to-requires : goal.give_to-requires
give_to-requires g c =
    let i = c.self.inside in
    let is = sym (from_so g.J.Judge.judges i.judge i.replicas i.entries i.pending i.state c.replace-state.result c.replace-state.ensures.value c.args.self.now c.self.view_is) in
    record {
      sound = sound_so g.J.Judge.judges i.judge i.replicas i.entries i.pending i.state c.replace-state.result c.replace-state.ensures.value c.self.invariant;
      wanted = subst (λ (r : Refreshing g.row.J.Denot). refresh_wanted r ≢ None) is c.requires.wanted;
      named = subst (λ (r : Refreshing g.row.J.Denot). is_loading r ≡ true → refresh_wanted r ≡ Some (name c.args.bytes.now)) is c.requires.named;
    }

pub invariant_of-self-2 : goal.invariant_of-self-2
invariant_of-self-2 g c = let i = c.self.inside in still_holds g.J.Judge.judges i.judge i.replicas i.entries i.pending i.state c.replace-state.result c.replace-state.ensures.value c.in_ok-state.state c.come_to.new.state c.come_to.ensures c.self.invariant c.in_ok-state.ensures.1

pub returns-clause-given : goal.returns-clause-given
returns-clause-given g c =
    let i = c.self.inside in
    (gives_placed g.J.Judge.judges i.judge i.replicas i.entries i.pending i.state c.replace-state.result c.replace-state.ensures.value c.in_ok-state.state c.come_to.new.state c.come_to.ensures c.args.self.now c.self.view_is c.args.bytes.now c.in_ok-state.ensures).0

pub returns-clause-left : goal.returns-clause-left
returns-clause-left g c =
    let i = c.self.inside in
    (gives_placed g.J.Judge.judges i.judge i.replicas i.entries i.pending i.state c.replace-state.result c.replace-state.ensures.value c.in_ok-state.state c.come_to.new.state c.come_to.ensures c.args.self.now c.self.view_is c.args.bytes.now c.in_ok-state.ensures).1
