use Rattle.view_refresh.proofs.Placing.{sound_so, still_holds, wants_placed}
use Rattle.view_refresh.proofs.refresh.ViewRefresh.next.Goals as goal

pub go_on-requires : goal.go_on-requires
go_on-requires g c = let i = c.self.inside in sound_so g.J.Judge.judges i.judge i.replicas i.entries i.pending i.state c.replace-state.result c.replace-state.ensures.value c.self.invariant

pub invariant_of-self-2 : goal.invariant_of-self-2
invariant_of-self-2 g c = let i = c.self.inside in still_holds g.J.Judge.judges i.judge i.replicas i.entries i.pending i.state c.replace-state.result c.replace-state.ensures.value c.in_ok-state.state c.come_to.new.state c.come_to.ensures c.self.invariant c.in_ok-state.ensures.1

pub returns-clause-wanted : goal.returns-clause-wanted
returns-clause-wanted g c =
    let i = c.self.inside in
    (wants_placed g.J.Judge.judges i.judge i.replicas i.entries i.pending i.state c.replace-state.result c.replace-state.ensures.value c.in_ok-state.state c.come_to.new.state c.come_to.ensures c.args.self.now c.self.view_is c.in_ok-state.want c.in_ok-state.ensures).0

pub returns-clause-left : goal.returns-clause-left
returns-clause-left g c =
    let i = c.self.inside in
    (wants_placed g.J.Judge.judges i.judge i.replicas i.entries i.pending i.state c.replace-state.result c.replace-state.ensures.value c.in_ok-state.state c.come_to.new.state c.come_to.ensures c.args.self.now c.self.view_is c.in_ok-state.want c.in_ok-state.ensures).1
