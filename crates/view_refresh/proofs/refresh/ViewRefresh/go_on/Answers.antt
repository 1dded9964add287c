use Rattle.std.proofs.Common.{IfOk, sym, subst}
use Rattle.std.proofs.lemmas.Result.{IfOk-weaker}
use Rattle.dht_ids.specs.declared.ask.Want.TheVariants as next
use Rattle.view_refresh.specs.declared.refresh.State.{State}
use Rattle.view_refresh.specs.declared.refresh.State.TheVariants as state
use Rattle.view_refresh.specs.States.{IsSound}
use Rattle.view_refresh.specs.Parts.{WantsNext}
use Rattle.view_refresh.proofs.Wanting.{wants_again, wants_as}
use Rattle.view_refresh.proofs.refresh.ViewRefresh.go_on.Goals as goal

pub begin-requires : goal.begin-requires
begin-requires g c = let r = c.args.self.now in subst (IsSound r.judge r.replicas r.entries) c.in-Loading.is c.requires

pub ask-requires : goal.ask-requires
ask-requires g c = let r = c.args.self.now in let sound = subst (IsSound r.judge r.replicas r.entries) c.in-Asking.is c.requires in sound.kept

pub returns-in-Loading : goal.returns-in-Loading
returns-in-Loading g c = subst (λ (st : State g.row.J.Denot). IfOk c.begin.result (WantsNext g.J.Judge.judges c.args.self.now st)) (sym c.in-Loading.is) c.begin.ensures

pub returns-in-Asking : goal.returns-in-Asking
returns-in-Asking g c =
    let r = c.args.self.now in
    let sound = subst (IsSound r.judge r.replicas r.entries) c.in-Asking.is c.requires in
    subst (λ (st : State g.row.J.Denot). WantsNext g.J.Judge.judges r st c.ask.result) (sym c.in-Asking.is)
    (wants_as g.J.Judge.judges r (state.Asking c.in-Asking.loading c.in-Asking.waiting) c.ask.result (state.Asking c.in-Asking.loading c.in-Asking.waiting, next.Ask c.in-Asking.waiting.node c.in-Asking.waiting.question) c.ask.ensures (wants_again g.J.Judge.judges r c.in-Asking.loading c.in-Asking.waiting sound))

pub returns-in-Fetching : goal.returns-in-Fetching
returns-in-Fetching g c =
    let r = c.args.self.now in
    subst (λ (st : State g.row.J.Denot). IfOk c.fetch_on.result (WantsNext g.J.Judge.judges r st)) (sym c.in-Fetching.is)
    (IfOk-weaker c.fetch_on.result _ _ (λ given wants. wants r (subst (IsSound r.judge r.replicas r.entries) c.in-Fetching.is c.requires)) c.fetch_on.ensures)
