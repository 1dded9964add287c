use Rattle.std.proofs.Common.{subst}
use Rattle.dht_ids.specs.declared.ask.Want.TheVariants as next
use Rattle.log_fetch.specs.declared.get.Progress.{Progress}
use Rattle.view_refresh.specs.declared.refresh.State.TheVariants as state
use Rattle.view_refresh.specs.Parts.{BeginsWanted}
use Rattle.view_refresh.proofs.Wanting.{wants_as, wants_first, wants_nothing}
use Rattle.view_refresh.proofs.refresh.ViewRefresh.begun.Goals as goal

pub ask-requires : goal.ask-requires
ask-requires g c =
    let r = c.args.self.now in
    let b = subst (λ (p : Progress g.row.J.Denot). BeginsWanted g.J.Judge.judges r.replicas r.entries c.args.loading p) c.in-Waits.is c.requires.begins c.requires.wants.key c.requires.wants.wanted in
    b.2

pub unrouted-requires : goal.unrouted-requires
unrouted-requires g c =
    let r = c.args.self.now in
    let b = subst (λ (p : Progress g.row.J.Denot). BeginsWanted g.J.Judge.judges r.replicas r.entries c.args.loading p) c.in-Comes.is c.requires.begins c.requires.wants.key c.requires.wants.wanted in
    b.0

pub returns-in-Waits : goal.returns-in-Waits
returns-in-Waits g c =
    let r = c.args.self.now in
    let b = subst (λ (p : Progress g.row.J.Denot). BeginsWanted g.J.Judge.judges r.replicas r.entries c.args.loading p) c.in-Waits.is c.requires.begins c.requires.wants.key c.requires.wants.wanted in
    wants_as g.J.Judge.judges r (state.Loading c.args.loading) c.ask.result (state.Asking c.args.loading c.in-Waits.waiting, next.Ask c.in-Waits.waiting.node c.in-Waits.waiting.question) c.ask.ensures (wants_first g.J.Judge.judges r c.args.loading c.requires.wants c.in-Waits.waiting b)

pub returns-in_ok-given-in-Comes : goal.returns-in_ok-given-in-Comes
returns-in_ok-given-in-Comes g c =
    let r = c.args.self.now in
    let b = subst (λ (p : Progress g.row.J.Denot). BeginsWanted g.J.Judge.judges r.replicas r.entries c.args.loading p) c.in-Comes.is c.requires.begins c.requires.wants.key c.requires.wants.wanted in
    wants_nothing g.J.Judge.judges r c.args.loading c.requires.wants c.in-Comes.came b c.in_ok-given-in-Comes.given c.in_ok-given-in-Comes.ensures
