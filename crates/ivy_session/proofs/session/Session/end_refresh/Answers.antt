use Rattle.std.proofs.Common.{sym, subst}
use Rattle.ivy_session.specs.States.{SessionState}
use Rattle.ivy_session.specs.InPlace.{EndsRefresh, TellsWhy}
use Rattle.ivy_session.proofs.Refreshed.{failure_call, ends_refresh}
use Rattle.ivy_session.proofs.session.Session.end_refresh.Goals as goal

pub take_call-call-requires : goal.take_call-call-requires
take_call-call-requires g c = failure_call g.J.Judge.judges c.self.inside.stage c.failure_at-why.new.stage c.failure_at-why.result c.failure_at-why.ensures

pub returns : goal.returns
returns g c =
    let i = c.self.inside in
    let m = c.self-2.inside in
    let st : SessionState g.row.J.Denot = record { judge = i.judge; replicas = i.replicas; entries = i.entries; starts = i.starts; notes = i.notes; is_cut = i.is_cut; stage = i.stage } in
    let mid : SessionState g.row.J.Denot = record { judge = m.judge; replicas = m.replicas; entries = m.entries; starts = m.starts; notes = m.notes; is_cut = m.is_cut; stage = m.stage } in
    let tells = subst (λ (x : SessionState g.row.J.Denot). TellsWhy (record st { stage = c.take_call-call.new.stage }) x c.take_call-call.result c.failure_at-why.result c.tell-told.result) (sym c.self-2.view_is) c.tell-told.ensures in
    subst (λ (x : SessionState g.row.J.Denot). EndsRefresh g.J.Judge.judges x (record mid { stage = c.go_to.new.stage })) c.self.view_is
    (ends_refresh g.J.Judge.judges st i.stage c.failure_at-why.new.stage c.take_call-call.new.stage c.failure_at-why.result c.take_call-call.result c.tell-told.result mid c.go_to.new.stage c.failure_at-why.ensures c.take_call-call.ensures.call c.take_call-call.ensures.told tells c.go_to.ensures)
