use Rattle.std.proofs.Common.{true, subst}
use Rattle.ivy_session.specs.States.{SessionState}
use Rattle.ivy_session.specs.Stepping.{IsHeard}
use Rattle.ivy_session.specs.Cutting.{IsCutAsHeard}
use Rattle.ivy_session.proofs.InPlace.{put_ends, put_is_heard}
use Rattle.ivy_session.proofs.Falling.{Falls, put_ends as put_lacks, put_falls}
use Rattle.ivy_session.proofs.Cutting.{put_heard_cut, put_heard_whole}
use Rattle.ivy_session.proofs.session.Session.hear_put.Goals as goal

pub returns-in-Ok-clause-heard : goal.returns-in-Ok-clause-heard
returns-in-Ok-clause-heard g c =
    let i = c.self.inside in
    let st : SessionState g.row.J.Denot = record { judge = i.judge; replicas = i.replicas; entries = i.entries; starts = i.starts; notes = i.notes; is_cut = i.is_cut; stage = i.stage } in
    λ cache. subst (λ (x : SessionState g.row.J.Denot). IsHeard g.J.Judge.judges x (record st { stage = c.put_heard.new.stage }) cache cache c.args.answer) c.self.view_is
    (put_is_heard g.J.Judge.judges st cache c.args.answer i.stage c.put_heard.new.stage c.in-Ok.ensures.heard)

pub returns-in-Err-clause-heard : goal.returns-in-Err-clause-heard
returns-in-Err-clause-heard g c =
    let i = c.self.inside in
    let st : SessionState g.row.J.Denot = record { judge = i.judge; replicas = i.replicas; entries = i.entries; starts = i.starts; notes = i.notes; is_cut = i.is_cut; stage = i.stage } in
    λ cache. subst (λ (x : SessionState g.row.J.Denot). IsHeard g.J.Judge.judges x (record st { is_cut = true; stage = c.end.new.stage }) cache cache c.args.answer) c.self.view_is
    (put_ends g.J.Judge.judges st cache c.args.answer c.in-Err.field-0 i.stage c.put_heard.new.stage c.end.new.stage c.in-Err.ensures.heard c.end.ensures)

pub returns-in-Ok-clause-turning : goal.returns-in-Ok-clause-turning
returns-in-Ok-clause-turning g c =
    let i = c.self.inside in
    let st : SessionState g.row.J.Denot = record { judge = i.judge; replicas = i.replicas; entries = i.entries; starts = i.starts; notes = i.notes; is_cut = i.is_cut; stage = i.stage } in
    (subst (λ (x : SessionState g.row.J.Denot). Falls x (record st { stage = c.put_heard.new.stage })) c.self.view_is
    (put_falls st i.stage c.put_heard.new.stage c.args.answer c.put_heard.result c.put_heard.ensures.heard c.in-Ok.ensures.left)).0

pub returns-in-Ok-clause-left : goal.returns-in-Ok-clause-left
returns-in-Ok-clause-left g c =
    let i = c.self.inside in
    let st : SessionState g.row.J.Denot = record { judge = i.judge; replicas = i.replicas; entries = i.entries; starts = i.starts; notes = i.notes; is_cut = i.is_cut; stage = i.stage } in
    (subst (λ (x : SessionState g.row.J.Denot). Falls x (record st { stage = c.put_heard.new.stage })) c.self.view_is
    (put_falls st i.stage c.put_heard.new.stage c.args.answer c.put_heard.result c.put_heard.ensures.heard c.in-Ok.ensures.left)).1

pub returns-in-Err-clause-turning : goal.returns-in-Err-clause-turning
returns-in-Err-clause-turning g c =
    let i = c.self.inside in
    let st : SessionState g.row.J.Denot = record { judge = i.judge; replicas = i.replicas; entries = i.entries; starts = i.starts; notes = i.notes; is_cut = i.is_cut; stage = i.stage } in
    (subst (λ (x : SessionState g.row.J.Denot). Falls x (record st { is_cut = true; stage = c.end.new.stage })) c.self.view_is
    (put_lacks st i.stage c.put_heard.new.stage c.end.new.stage c.args.answer c.put_heard.result c.put_heard.ensures.heard c.end.ensures)).0

pub returns-in-Err-clause-left : goal.returns-in-Err-clause-left
returns-in-Err-clause-left g c =
    let i = c.self.inside in
    let st : SessionState g.row.J.Denot = record { judge = i.judge; replicas = i.replicas; entries = i.entries; starts = i.starts; notes = i.notes; is_cut = i.is_cut; stage = i.stage } in
    (subst (λ (x : SessionState g.row.J.Denot). Falls x (record st { is_cut = true; stage = c.end.new.stage })) c.self.view_is
    (put_lacks st i.stage c.put_heard.new.stage c.end.new.stage c.args.answer c.put_heard.result c.put_heard.ensures.heard c.end.ensures)).1

pub returns-in-Ok-clause-cut : goal.returns-in-Ok-clause-cut
returns-in-Ok-clause-cut g c =
    let i = c.self.inside in
    let st : SessionState g.row.J.Denot = record { judge = i.judge; replicas = i.replicas; entries = i.entries; starts = i.starts; notes = i.notes; is_cut = i.is_cut; stage = i.stage } in
    subst (λ (x : SessionState g.row.J.Denot). IsCutAsHeard x (record st { stage = c.put_heard.new.stage })) c.self.view_is
    (put_heard_whole st i.stage c.put_heard.new.stage c.args.answer c.put_heard.result c.put_heard.ensures.heard)

pub returns-in-Err-clause-cut : goal.returns-in-Err-clause-cut
returns-in-Err-clause-cut g c =
    let i = c.self.inside in
    let st : SessionState g.row.J.Denot = record { judge = i.judge; replicas = i.replicas; entries = i.entries; starts = i.starts; notes = i.notes; is_cut = i.is_cut; stage = i.stage } in
    subst (λ (x : SessionState g.row.J.Denot). IsCutAsHeard x (record st { is_cut = true; stage = c.end.new.stage })) c.self.view_is
    (put_heard_cut st i.stage c.put_heard.new.stage c.args.answer c.put_heard.result c.end.new.stage c.put_heard.ensures.heard c.end.ensures)
