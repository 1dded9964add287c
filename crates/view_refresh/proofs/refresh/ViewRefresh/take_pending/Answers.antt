use Rattle.view_refresh.proofs.Placing.{named_so, sound_so, take_holds, takes_placed}
use Rattle.view_refresh.proofs.refresh.ViewRefresh.take_pending.Goals as goal

pub give_pending-requires : goal.give_pending-requires
give_pending-requires g c = let i = c.self.inside in record { sound = sound_so g.J.Judge.judges i.judge i.replicas i.entries i.pending i.state c.replace-state.result c.replace-state.ensures.value c.self.invariant; named = named_so g.J.Judge.judges i.judge i.replicas i.entries i.pending i.state c.replace-state.result c.replace-state.ensures.value c.self.invariant }

pub invariant_of-self-2 : goal.invariant_of-self-2
invariant_of-self-2 g c = let i = c.self.inside in take_holds g.J.Judge.judges i.judge i.replicas i.entries i.pending i.state c.replace-state.result c.replace-state.ensures.value c.in_ok-state.state c.come_to.new.state c.come_to.ensures c.in_ok-state.taken c.in_ok-state.ensures c.self.invariant

pub returns-clause-taken : goal.returns-clause-taken
returns-clause-taken g c =
    let i = c.self.inside in
    (takes_placed g.J.Judge.judges i.judge i.replicas i.entries i.pending i.state c.replace-state.result c.replace-state.ensures.value c.in_ok-state.state c.come_to.new.state c.come_to.ensures c.args.self.now c.self.view_is c.in_ok-state.taken c.in_ok-state.ensures).0

pub returns-clause-left : goal.returns-clause-left
returns-clause-left g c =
    let i = c.self.inside in
    (takes_placed g.J.Judge.judges i.judge i.replicas i.entries i.pending i.state c.replace-state.result c.replace-state.ensures.value c.in_ok-state.state c.come_to.new.state c.come_to.ensures c.args.self.now c.self.view_is c.in_ok-state.taken c.in_ok-state.ensures).1
