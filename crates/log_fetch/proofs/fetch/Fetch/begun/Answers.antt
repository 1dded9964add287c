use Rattle.std.proofs.Common.{Some, sym, subst}
use Rattle.log_fetch.specs.declared.fetch.State.TheVariants as state
use Rattle.log_fetch.specs.declared.get.Progress.{Progress}
use Rattle.log_fetch.specs.Stepping.{BeginsFor, WantsNext}
use Rattle.log_fetch.proofs.Fetching.{wants_first, wants_nothing}
use Rattle.log_fetch.proofs.fetch.Fetch.begun.Goals as goal

pub ask-requires : goal.ask-requires
ask-requires g c = let f = c.args.self.now in let b = subst (λ (p : Progress g.row.J.Denot). BeginsFor g.J.Judge.judges f.judge f.replicas f.entries c.args.gather.stage (Some p)) c.in-Waits.is c.requires in b.2

pub miss_in-requires : goal.miss_in-requires
miss_in-requires g c = let f = c.args.self.now in let b = subst (λ (p : Progress g.row.J.Denot). BeginsFor g.J.Judge.judges f.judge f.replicas f.entries c.args.gather.stage (Some p)) c.in-Comes.is c.requires in b.0

pub returns-in-Waits : goal.returns-in-Waits
returns-in-Waits g c =
    let f = c.args.self.now in
    let b = subst (λ (p : Progress g.row.J.Denot). BeginsFor g.J.Judge.judges f.judge f.replicas f.entries c.args.gather.stage (Some p)) c.in-Waits.is c.requires in
    subst (λ w. WantsNext g.J.Judge.judges f (state.Free c.args.gather) w) (sym c.ask.ensures) (wants_first g.J.Judge.judges f.judge f.replicas f.entries c.args.gather c.in-Waits.waiting f.gets b)

pub returns-in_ok-fetched-in-Comes : goal.returns-in_ok-fetched-in-Comes
returns-in_ok-fetched-in-Comes g c =
    let f = c.args.self.now in
    let b = subst (λ (p : Progress g.row.J.Denot). BeginsFor g.J.Judge.judges f.judge f.replicas f.entries c.args.gather.stage (Some p)) c.in-Comes.is c.requires in
    wants_nothing g.J.Judge.judges f.judge f.replicas f.entries c.args.gather c.in-Comes.came c.miss_in.result c.in_ok-fetched-in-Comes.fetched f.gets b c.miss_in.ensures c.in_ok-fetched-in-Comes.ensures
