use Rattle.std.proofs.Common.{IfOk, sym, subst}
use Rattle.dht_ids.specs.declared.ask.Want.TheVariants as next
use Rattle.log_fetch.specs.declared.fetch.State.{State}
use Rattle.log_fetch.specs.declared.fetch.State.TheVariants as state
use Rattle.log_fetch.specs.Fetching.{IsSound}
use Rattle.log_fetch.specs.Stepping.{WantsNext}
use Rattle.log_fetch.proofs.Fetching.{wants_again, wants_told}
use Rattle.log_fetch.proofs.fetch.Fetch.go_on.Goals as goal

pub ask-requires : goal.ask-requires
ask-requires g c = let f = c.args.self.now in let sound = subst (IsSound f.judge f.replicas) c.in-Asking.is c.requires in sound.1

pub returns-in-Free : goal.returns-in-Free
returns-in-Free g c = subst (λ (st : State g.row.J.Denot). IfOk c.begin.result (WantsNext g.J.Judge.judges c.args.self.now st)) (sym c.in-Free.is) c.begin.ensures

pub returns-in-Asking : goal.returns-in-Asking
returns-in-Asking g c =
    let f = c.args.self.now in
    let sound = subst (IsSound f.judge f.replicas) c.in-Asking.is c.requires in
    subst (λ (st : State g.row.J.Denot). WantsNext g.J.Judge.judges f st c.ask.result) (sym c.in-Asking.is)
    (subst (λ w. WantsNext g.J.Judge.judges f (state.Asking c.in-Asking.gather c.in-Asking.waiting) w) (sym c.ask.ensures) (wants_again g.J.Judge.judges f.judge f.replicas f.entries c.in-Asking.gather c.in-Asking.waiting f.gets sound))

pub returns-in-Ended : goal.returns-in-Ended
returns-in-Ended g c =
    let f = c.args.self.now in
    subst (λ (st : State g.row.J.Denot). WantsNext g.J.Judge.judges f st (state.Over, next.Done c.in-Ended.fetched)) (sym c.in-Ended.is) (wants_told g.J.Judge.judges f.judge f.replicas f.entries c.in-Ended.fetched f.gets)
