use Rattle.std.proofs.Common.{Ok, true, ap, refl, subst}
use Rattle.dht_ids.specs.declared.ask.Want.{Want}
use Rattle.dht_ids.specs.declared.post.Ack.{Ack}
use Rattle.std.proofs.Common.{List}
use Rattle.ivy_session.specs.States.{SessionState}
use Rattle.ivy_session.specs.declared.session.Next.TheVariants as next
use Rattle.ivy_session.specs.Stepping.{IsNext}
use Rattle.ivy_session.specs.InPlace.{PutWants}
use Rattle.ivy_session.proofs.InPlace.{put_asks, put_is_cut, put_settles}
use Rattle.ivy_session.specs.Left.{LeavesNoMore}
use Rattle.ivy_session.proofs.Falling.{settles_next, told_next}
use Rattle.ivy_session.proofs.Cutting.{done_cut, more_whole}
use Rattle.ivy_session.proofs.session.Session.put.Goals as goal

pub returns-in-Ok-Ask-clause-wanted : goal.returns-in-Ok-Ask-clause-wanted
returns-in-Ok-Ask-clause-wanted g c =
    let i = c.self.inside in
    let st : SessionState g.row.J.Denot = record { judge = i.judge; replicas = i.replicas; entries = i.entries; starts = i.starts; notes = i.notes; is_cut = i.is_cut; stage = i.stage } in
    let wants = subst (λ (w : Want (List Ack)). PutWants i.stage c.put_wants.new.stage (Ok w)) c.in-Ok-Ask.field-0-is c.in-Ok-Ask.ensures.wanted in
    λ cache. subst (λ (x : SessionState g.row.J.Denot). IsNext g.J.Judge.judges x (record st { stage = c.put_wants.new.stage }) cache cache (next.Ask c.in-Ok-Ask.node c.in-Ok-Ask.question)) c.self.view_is
    (put_asks g.J.Judge.judges st cache c.in-Ok-Ask.node c.in-Ok-Ask.question i.stage c.put_wants.new.stage wants)

pub returns-in-Ok-Done-clause-wanted : goal.returns-in-Ok-Done-clause-wanted
returns-in-Ok-Done-clause-wanted g c =
    let i = c.self.inside in
    let st : SessionState g.row.J.Denot = record { judge = i.judge; replicas = i.replicas; entries = i.entries; starts = i.starts; notes = i.notes; is_cut = i.is_cut; stage = i.stage } in
    let wants = subst (λ (w : Want (List Ack)). PutWants i.stage c.put_wants.new.stage (Ok w)) c.in-Ok-Done.field-0-is c.in-Ok-Done.ensures.wanted in
    λ cache. subst (λ (x : SessionState g.row.J.Denot). IsNext g.J.Judge.judges x (record st { stage = c.end.new.stage }) cache cache (next.Settle c.in-Ok-Done.acks)) c.self.view_is
    (put_settles g.J.Judge.judges st cache c.in-Ok-Done.acks i.stage c.put_wants.new.stage c.end.new.stage wants c.end.ensures)

pub returns-in-Err-clause-wanted : goal.returns-in-Err-clause-wanted
returns-in-Err-clause-wanted g c =
    let i = c.self.inside in
    let st : SessionState g.row.J.Denot = record { judge = i.judge; replicas = i.replicas; entries = i.entries; starts = i.starts; notes = i.notes; is_cut = i.is_cut; stage = i.stage } in
    λ cache. subst (λ (x : SessionState g.row.J.Denot). IsNext g.J.Judge.judges x (record st { is_cut = true; stage = c.take_told.new.stage }) cache cache (next.Done c.take_told.result)) c.self.view_is
    (put_is_cut g.J.Judge.judges st cache c.in-Err.field-0 c.take_told.result i.stage c.put_wants.new.stage c.take_told.new.stage c.in-Err.ensures.wanted c.take_told.ensures.served)

pub returns-in-Ok-Ask-clause-left : goal.returns-in-Ok-Ask-clause-left
returns-in-Ok-Ask-clause-left g c =
    let i = c.self.inside in
    let st : SessionState g.row.J.Denot = record { judge = i.judge; replicas = i.replicas; entries = i.entries; starts = i.starts; notes = i.notes; is_cut = i.is_cut; stage = i.stage } in
    subst (λ (x : SessionState g.row.J.Denot). LeavesNoMore x (record st { stage = c.put_wants.new.stage }) (next.Ask c.in-Ok-Ask.node c.in-Ok-Ask.question)) c.self.view_is (c.in-Ok-Ask.ensures.left i.starts)

pub returns-in-Ok-Done-clause-left : goal.returns-in-Ok-Done-clause-left
returns-in-Ok-Done-clause-left g c =
    let i = c.self.inside in
    let st : SessionState g.row.J.Denot = record { judge = i.judge; replicas = i.replicas; entries = i.entries; starts = i.starts; notes = i.notes; is_cut = i.is_cut; stage = i.stage } in
    subst (λ (x : SessionState g.row.J.Denot). LeavesNoMore x (record st { stage = c.end.new.stage }) (next.Settle c.in-Ok-Done.acks)) c.self.view_is
    (settles_next st i.stage c.put_wants.new.stage c.end.new.stage c.in-Ok-Done.field-0 c.in-Ok-Done.ensures.wanted c.end.ensures)

pub returns-in-Err-clause-left : goal.returns-in-Err-clause-left
returns-in-Err-clause-left g c =
    let i = c.self.inside in
    let st : SessionState g.row.J.Denot = record { judge = i.judge; replicas = i.replicas; entries = i.entries; starts = i.starts; notes = i.notes; is_cut = i.is_cut; stage = i.stage } in
    told_next c.args.self.now (record st { is_cut = true; stage = c.take_told.new.stage }) c.take_told.result c.take_told.ensures.told

pub returns-in-Ok-Ask-clause-cut : goal.returns-in-Ok-Ask-clause-cut
returns-in-Ok-Ask-clause-cut g c =
    let i = c.self.inside in
    let st : SessionState g.row.J.Denot = record { judge = i.judge; replicas = i.replicas; entries = i.entries; starts = i.starts; notes = i.notes; is_cut = i.is_cut; stage = i.stage } in
    more_whole c.args.self.now (record st { stage = c.put_wants.new.stage }) (next.Ask c.in-Ok-Ask.node c.in-Ok-Ask.question) refl (ap (λ (x : SessionState g.row.J.Denot). x.is_cut) c.self.view_is)

pub returns-in-Ok-Done-clause-cut : goal.returns-in-Ok-Done-clause-cut
returns-in-Ok-Done-clause-cut g c =
    let i = c.self.inside in
    let st : SessionState g.row.J.Denot = record { judge = i.judge; replicas = i.replicas; entries = i.entries; starts = i.starts; notes = i.notes; is_cut = i.is_cut; stage = i.stage } in
    more_whole c.args.self.now (record st { stage = c.end.new.stage }) (next.Settle c.in-Ok-Done.acks) refl (ap (λ (x : SessionState g.row.J.Denot). x.is_cut) c.self.view_is)

pub returns-in-Err-clause-cut : goal.returns-in-Err-clause-cut
returns-in-Err-clause-cut g c =
    let i = c.self.inside in
    let st : SessionState g.row.J.Denot = record { judge = i.judge; replicas = i.replicas; entries = i.entries; starts = i.starts; notes = i.notes; is_cut = i.is_cut; stage = i.stage } in
    done_cut c.args.self.now (record st { is_cut = true; stage = c.take_told.new.stage }) (next.Done c.take_told.result) c.requires refl refl
