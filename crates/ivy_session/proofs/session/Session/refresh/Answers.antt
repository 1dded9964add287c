use Rattle.std.proofs.Common.{◌≡◌, Ok, true, ap, subst, sym, ◌∙◌}
use Rattle.ivy_session.specs.declared.served.Served.{Served}
use Rattle.dht_ids.specs.declared.ask.Want.{Want}
use Rattle.view_refresh.specs.declared.refresh.Refreshed.{Refreshed}
use Rattle.ivy_session.specs.States.{SessionState}
use Rattle.ivy_session.specs.declared.session.Next.TheVariants as next
use Rattle.ivy_session.specs.Stepping.{IsNext}
use Rattle.ivy_session.specs.InPlace.{RefreshWants}
use Rattle.ivy_session.proofs.Refreshed.{refresh_asks, refresh_concludes, refresh_lacks, wants_call}
use Rattle.ivy_session.specs.Left.{LeavesNoMore}
use Rattle.ivy_session.specs.InPlace.{is_refreshing}
use Rattle.ivy_session.proofs.Falling.{concludes_next, told_next}
use Rattle.ivy_session.proofs.Cutting.{concludes_whole, refresh_wants_whole}
use Rattle.ivy_session.proofs.session.Session.refresh.Goals as goal

pub take_call-requires : goal.take_call-requires
take_call-requires g c =
    let i = c.self.inside in
    wants_call g.J.Judge.judges i.stage c.refresh_wants.new.stage c.args.cache.now c.refresh_wants.new.cache c.refresh_wants.result c.refresh_wants.ensures.wanted

pub take_call-call-requires : goal.take_call-call-requires
take_call-call-requires g c =
    let i = c.self.inside in
    wants_call g.J.Judge.judges i.stage c.refresh_wants.new.stage c.args.cache.now c.refresh_wants.new.cache c.refresh_wants.result c.refresh_wants.ensures.wanted

pub returns-in-Ok-Ask-clause-wanted : goal.returns-in-Ok-Ask-clause-wanted
returns-in-Ok-Ask-clause-wanted g c =
    let i = c.self.inside in
    let st : SessionState g.row.J.Denot = record { judge = i.judge; replicas = i.replicas; entries = i.entries; starts = i.starts; notes = i.notes; is_cut = i.is_cut; stage = i.stage } in
    let wants = subst (λ (w : Want Refreshed). RefreshWants g.J.Judge.judges i.stage c.refresh_wants.new.stage c.args.cache.now c.refresh_wants.new.cache (Ok w)) c.in-Ok-Ask.field-0-is c.in-Ok-Ask.ensures.wanted in
    subst (λ (x : SessionState g.row.J.Denot). IsNext g.J.Judge.judges x (record st { stage = c.refresh_wants.new.stage }) c.args.cache.now c.refresh_wants.new.cache (next.Ask c.in-Ok-Ask.node c.in-Ok-Ask.question)) c.self.view_is
    (refresh_asks g.J.Judge.judges st c.args.cache.now c.refresh_wants.new.cache c.in-Ok-Ask.node c.in-Ok-Ask.question i.stage c.refresh_wants.new.stage wants)

pub returns-in-Ok-Done-clause-wanted : goal.returns-in-Ok-Done-clause-wanted
returns-in-Ok-Done-clause-wanted g c =
    let i = c.self.inside in
    let st : SessionState g.row.J.Denot = record { judge = i.judge; replicas = i.replicas; entries = i.entries; starts = i.starts; notes = i.notes; is_cut = i.is_cut; stage = i.stage } in
    let wants = subst (λ (w : Want Refreshed). RefreshWants g.J.Judge.judges i.stage c.refresh_wants.new.stage c.args.cache.now c.refresh_wants.new.cache (Ok w)) c.in-Ok-Done.field-0-is c.in-Ok-Done.ensures.wanted in
    subst (λ (x : SessionState g.row.J.Denot). IsNext g.J.Judge.judges x c.conclude.new.self c.args.cache.now c.refresh_wants.new.cache c.conclude.result) c.self.view_is
    (refresh_concludes g.J.Judge.judges st c.args.cache.now c.refresh_wants.new.cache c.in-Ok-Done.refreshed c.take_call-call.result c.conclude.result i.stage c.refresh_wants.new.stage c.take_call-call.new.stage c.conclude.new.self wants c.take_call-call.ensures.call c.conclude.ensures)

pub returns-in-Err-clause-wanted : goal.returns-in-Err-clause-wanted
returns-in-Err-clause-wanted g c =
    let i = c.self.inside in
    let st : SessionState g.row.J.Denot = record { judge = i.judge; replicas = i.replicas; entries = i.entries; starts = i.starts; notes = i.notes; is_cut = i.is_cut; stage = i.stage } in
    let next_is = subst (λ (x : Served). IsNext g.J.Judge.judges (record st { stage = i.stage }) (record st { stage = c.take_call.new.stage }) c.args.cache.now c.refresh_wants.new.cache (next.Done x)) (sym c.no_memory.ensures)
    (refresh_lacks g.J.Judge.judges st c.args.cache.now c.refresh_wants.new.cache c.in-Err.field-0 c.take_call.result i.stage c.refresh_wants.new.stage c.take_call.new.stage c.in-Err.ensures.wanted c.take_call.ensures.call) in
    subst (λ (x : SessionState g.row.J.Denot). IsNext g.J.Judge.judges x (record st { stage = c.take_call.new.stage }) c.args.cache.now c.refresh_wants.new.cache (next.Done c.no_memory.result)) c.self.view_is next_is

pub returns-in-Ok-Ask-clause-left : goal.returns-in-Ok-Ask-clause-left
returns-in-Ok-Ask-clause-left g c =
    let i = c.self.inside in
    let st : SessionState g.row.J.Denot = record { judge = i.judge; replicas = i.replicas; entries = i.entries; starts = i.starts; notes = i.notes; is_cut = i.is_cut; stage = i.stage } in
    subst (λ (x : SessionState g.row.J.Denot). LeavesNoMore x (record st { stage = c.refresh_wants.new.stage }) (next.Ask c.in-Ok-Ask.node c.in-Ok-Ask.question)) c.self.view_is (c.in-Ok-Ask.ensures.left i.starts)

pub returns-in-Ok-Done-clause-left : goal.returns-in-Ok-Done-clause-left
returns-in-Ok-Done-clause-left g c =
    let i = c.self.inside in
    let st : SessionState g.row.J.Denot = record { judge = i.judge; replicas = i.replicas; entries = i.entries; starts = i.starts; notes = i.notes; is_cut = i.is_cut; stage = i.stage } in
    let refreshing = subst (λ (x : SessionState g.row.J.Denot). is_refreshing x.stage ≡ true) (sym c.self.view_is) c.requires in
    subst (λ (x : SessionState g.row.J.Denot). LeavesNoMore x c.conclude.new.self c.conclude.result) c.self.view_is
    (concludes_next st i.stage c.take_call-call.new.stage c.conclude.new.self c.take_call-call.result c.in-Ok-Done.refreshed c.conclude.result refreshing c.take_call-call.ensures.told c.conclude.ensures)

pub returns-in-Err-clause-left : goal.returns-in-Err-clause-left
returns-in-Err-clause-left g c =
    let i = c.self.inside in
    let st : SessionState g.row.J.Denot = record { judge = i.judge; replicas = i.replicas; entries = i.entries; starts = i.starts; notes = i.notes; is_cut = i.is_cut; stage = i.stage } in
    told_next c.args.self.now (record st { stage = c.take_call.new.stage }) c.no_memory.result c.take_call.ensures.told

pub returns-in-Ok-Ask-clause-cut : goal.returns-in-Ok-Ask-clause-cut
returns-in-Ok-Ask-clause-cut g c =
    let i = c.self.inside in
    let st : SessionState g.row.J.Denot = record { judge = i.judge; replicas = i.replicas; entries = i.entries; starts = i.starts; notes = i.notes; is_cut = i.is_cut; stage = i.stage } in
    refresh_wants_whole c.args.self.now (record st { stage = c.refresh_wants.new.stage }) (next.Ask c.in-Ok-Ask.node c.in-Ok-Ask.question) c.requires (ap (λ (x : SessionState g.row.J.Denot). x.is_cut) c.self.view_is)

pub returns-in-Ok-Done-clause-cut : goal.returns-in-Ok-Done-clause-cut
returns-in-Ok-Done-clause-cut g c =
    let i = c.self.inside in
    let st : SessionState g.row.J.Denot = record { judge = i.judge; replicas = i.replicas; entries = i.entries; starts = i.starts; notes = i.notes; is_cut = i.is_cut; stage = i.stage } in
    refresh_wants_whole c.args.self.now c.conclude.new.self c.conclude.result c.requires
    (concludes_whole (record st { stage = c.take_call-call.new.stage }) c.conclude.new.self c.take_call-call.result c.in-Ok-Done.refreshed c.conclude.result c.conclude.ensures ∙ ap (λ (x : SessionState g.row.J.Denot). x.is_cut) c.self.view_is)

pub returns-in-Err-clause-cut : goal.returns-in-Err-clause-cut
returns-in-Err-clause-cut g c =
    let i = c.self.inside in
    let st : SessionState g.row.J.Denot = record { judge = i.judge; replicas = i.replicas; entries = i.entries; starts = i.starts; notes = i.notes; is_cut = i.is_cut; stage = i.stage } in
    refresh_wants_whole c.args.self.now (record st { stage = c.take_call.new.stage }) (next.Done c.no_memory.result) c.requires (ap (λ (x : SessionState g.row.J.Denot). x.is_cut) c.self.view_is)
