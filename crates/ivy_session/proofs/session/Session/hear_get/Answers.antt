use Rattle.std.proofs.Common.{Ok, ap, subst, ◌∙◌}
use Rattle.ivy_session.specs.States.{SessionState}
use Rattle.ivy_session.specs.Stepping.{IsHeard}
use Rattle.ivy_session.specs.InPlace.{RefreshHeard}
use Rattle.ivy_session.proofs.Refreshed.{refresh_ends, refresh_goes_on, refresh_hears_nothing, heard_call}
use Rattle.ivy_session.proofs.Falling.{Falls, get_ends, get_falls, get_lacks}
use Rattle.ivy_session.proofs.Cutting.{ends_whole, get_heard_whole}
use Rattle.ivy_session.proofs.session.Session.hear_get.Goals as goal

pub end_refresh-requires : goal.end_refresh-requires
end_refresh-requires g c =
    let i = c.self.inside in
    (heard_call g.J.Judge.judges i.stage c.refresh_heard.new.stage c.args.cache.now c.refresh_heard.new.cache c.args.answer c.refresh_heard.result c.refresh_heard.ensures.heard).0

pub lack-requires : goal.lack-requires
lack-requires g c =
    let i = c.self.inside in
    (heard_call g.J.Judge.judges i.stage c.refresh_heard.new.stage c.args.cache.now c.refresh_heard.new.cache c.args.answer c.refresh_heard.result c.refresh_heard.ensures.heard).1

pub returns-in-Ok-false-clause-heard : goal.returns-in-Ok-false-clause-heard
returns-in-Ok-false-clause-heard g c =
    let i = c.self.inside in
    let st : SessionState g.row.J.Denot = record { judge = i.judge; replicas = i.replicas; entries = i.entries; starts = i.starts; notes = i.notes; is_cut = i.is_cut; stage = i.stage } in
    let heard = subst (λ failed. RefreshHeard g.J.Judge.judges i.stage c.refresh_heard.new.stage c.args.cache.now c.refresh_heard.new.cache c.args.answer (Ok failed)) c.in-Ok-false.field-0-test c.in-Ok-false.ensures.heard in
    subst (λ (x : SessionState g.row.J.Denot). IsHeard g.J.Judge.judges x (record st { stage = c.refresh_heard.new.stage }) c.args.cache.now c.refresh_heard.new.cache c.args.answer) c.self.view_is
    (refresh_goes_on g.J.Judge.judges st c.args.cache.now c.refresh_heard.new.cache c.args.answer i.stage c.refresh_heard.new.stage heard)

pub returns-in-Ok-true-clause-heard : goal.returns-in-Ok-true-clause-heard
returns-in-Ok-true-clause-heard g c =
    let i = c.self.inside in
    let st : SessionState g.row.J.Denot = record { judge = i.judge; replicas = i.replicas; entries = i.entries; starts = i.starts; notes = i.notes; is_cut = i.is_cut; stage = i.stage } in
    let heard = subst (λ failed. RefreshHeard g.J.Judge.judges i.stage c.refresh_heard.new.stage c.args.cache.now c.refresh_heard.new.cache c.args.answer (Ok failed)) c.in-Ok-true.field-0-test c.in-Ok-true.ensures.heard in
    subst (λ (x : SessionState g.row.J.Denot). IsHeard g.J.Judge.judges x c.end_refresh.new.self c.args.cache.now c.refresh_heard.new.cache c.args.answer) c.self.view_is
    (refresh_ends g.J.Judge.judges st c.args.cache.now c.refresh_heard.new.cache c.args.answer i.stage c.refresh_heard.new.stage c.end_refresh.new.self heard c.end_refresh.ensures)

pub returns-in-Err-clause-heard : goal.returns-in-Err-clause-heard
returns-in-Err-clause-heard g c =
    let i = c.self.inside in
    let st : SessionState g.row.J.Denot = record { judge = i.judge; replicas = i.replicas; entries = i.entries; starts = i.starts; notes = i.notes; is_cut = i.is_cut; stage = i.stage } in
    subst (λ (x : SessionState g.row.J.Denot). IsHeard g.J.Judge.judges x (record st { stage = c.lack.new.stage }) c.args.cache.now c.refresh_heard.new.cache c.args.answer) c.self.view_is
    (refresh_hears_nothing g.J.Judge.judges st c.args.cache.now c.refresh_heard.new.cache c.args.answer c.in-Err.field-0 i.stage c.refresh_heard.new.stage c.lack.new.stage c.in-Err.ensures.heard c.lack.ensures)

pub returns-in-Ok-false-clause-turning : goal.returns-in-Ok-false-clause-turning
returns-in-Ok-false-clause-turning g c =
    let i = c.self.inside in
    let st : SessionState g.row.J.Denot = record { judge = i.judge; replicas = i.replicas; entries = i.entries; starts = i.starts; notes = i.notes; is_cut = i.is_cut; stage = i.stage } in
    (subst (λ (x : SessionState g.row.J.Denot). Falls x (record st { stage = c.refresh_heard.new.stage })) c.self.view_is
    (get_falls st g.J.Judge.judges c.args.cache.now c.refresh_heard.new.cache c.args.answer c.refresh_heard.result i.stage c.refresh_heard.new.stage c.refresh_heard.ensures.heard c.in-Ok-false.ensures.left)).0

pub returns-in-Ok-false-clause-left : goal.returns-in-Ok-false-clause-left
returns-in-Ok-false-clause-left g c =
    let i = c.self.inside in
    let st : SessionState g.row.J.Denot = record { judge = i.judge; replicas = i.replicas; entries = i.entries; starts = i.starts; notes = i.notes; is_cut = i.is_cut; stage = i.stage } in
    (subst (λ (x : SessionState g.row.J.Denot). Falls x (record st { stage = c.refresh_heard.new.stage })) c.self.view_is
    (get_falls st g.J.Judge.judges c.args.cache.now c.refresh_heard.new.cache c.args.answer c.refresh_heard.result i.stage c.refresh_heard.new.stage c.refresh_heard.ensures.heard c.in-Ok-false.ensures.left)).1

pub returns-in-Ok-true-clause-turning : goal.returns-in-Ok-true-clause-turning
returns-in-Ok-true-clause-turning g c =
    let i = c.self.inside in
    let st : SessionState g.row.J.Denot = record { judge = i.judge; replicas = i.replicas; entries = i.entries; starts = i.starts; notes = i.notes; is_cut = i.is_cut; stage = i.stage } in
    (subst (λ (x : SessionState g.row.J.Denot). Falls x c.end_refresh.new.self) c.self.view_is
    (get_ends st g.J.Judge.judges c.args.cache.now c.refresh_heard.new.cache c.args.answer c.refresh_heard.result i.stage c.refresh_heard.new.stage c.end_refresh.new.self c.refresh_heard.ensures.heard c.end_refresh.ensures)).0

pub returns-in-Ok-true-clause-left : goal.returns-in-Ok-true-clause-left
returns-in-Ok-true-clause-left g c =
    let i = c.self.inside in
    let st : SessionState g.row.J.Denot = record { judge = i.judge; replicas = i.replicas; entries = i.entries; starts = i.starts; notes = i.notes; is_cut = i.is_cut; stage = i.stage } in
    (subst (λ (x : SessionState g.row.J.Denot). Falls x c.end_refresh.new.self) c.self.view_is
    (get_ends st g.J.Judge.judges c.args.cache.now c.refresh_heard.new.cache c.args.answer c.refresh_heard.result i.stage c.refresh_heard.new.stage c.end_refresh.new.self c.refresh_heard.ensures.heard c.end_refresh.ensures)).1

pub returns-in-Err-clause-turning : goal.returns-in-Err-clause-turning
returns-in-Err-clause-turning g c =
    let i = c.self.inside in
    let st : SessionState g.row.J.Denot = record { judge = i.judge; replicas = i.replicas; entries = i.entries; starts = i.starts; notes = i.notes; is_cut = i.is_cut; stage = i.stage } in
    (subst (λ (x : SessionState g.row.J.Denot). Falls x (record st { stage = c.lack.new.stage })) c.self.view_is
    (get_lacks st g.J.Judge.judges c.args.cache.now c.refresh_heard.new.cache c.args.answer c.refresh_heard.result i.stage c.refresh_heard.new.stage c.lack.new.stage c.refresh_heard.ensures.heard c.lack.ensures)).0

pub returns-in-Err-clause-left : goal.returns-in-Err-clause-left
returns-in-Err-clause-left g c =
    let i = c.self.inside in
    let st : SessionState g.row.J.Denot = record { judge = i.judge; replicas = i.replicas; entries = i.entries; starts = i.starts; notes = i.notes; is_cut = i.is_cut; stage = i.stage } in
    (subst (λ (x : SessionState g.row.J.Denot). Falls x (record st { stage = c.lack.new.stage })) c.self.view_is
    (get_lacks st g.J.Judge.judges c.args.cache.now c.refresh_heard.new.cache c.args.answer c.refresh_heard.result i.stage c.refresh_heard.new.stage c.lack.new.stage c.refresh_heard.ensures.heard c.lack.ensures)).1

pub returns-in-Ok-false-clause-cut : goal.returns-in-Ok-false-clause-cut
returns-in-Ok-false-clause-cut g c =
    let i = c.self.inside in
    let st : SessionState g.row.J.Denot = record { judge = i.judge; replicas = i.replicas; entries = i.entries; starts = i.starts; notes = i.notes; is_cut = i.is_cut; stage = i.stage } in
    get_heard_whole c.args.self.now (record st { stage = c.refresh_heard.new.stage }) c.requires.refreshing (ap (λ (x : SessionState g.row.J.Denot). x.is_cut) c.self.view_is)

pub returns-in-Ok-true-clause-cut : goal.returns-in-Ok-true-clause-cut
returns-in-Ok-true-clause-cut g c =
    let i = c.self.inside in
    let st : SessionState g.row.J.Denot = record { judge = i.judge; replicas = i.replicas; entries = i.entries; starts = i.starts; notes = i.notes; is_cut = i.is_cut; stage = i.stage } in
    get_heard_whole c.args.self.now c.end_refresh.new.self c.requires.refreshing
    (ends_whole g.J.Judge.judges st c.refresh_heard.new.stage c.end_refresh.new.self
    (heard_call g.J.Judge.judges i.stage c.refresh_heard.new.stage c.args.cache.now c.refresh_heard.new.cache c.args.answer c.refresh_heard.result c.refresh_heard.ensures.heard).0 c.end_refresh.ensures
    ∙ ap (λ (x : SessionState g.row.J.Denot). x.is_cut) c.self.view_is)

pub returns-in-Err-clause-cut : goal.returns-in-Err-clause-cut
returns-in-Err-clause-cut g c =
    let i = c.self.inside in
    let st : SessionState g.row.J.Denot = record { judge = i.judge; replicas = i.replicas; entries = i.entries; starts = i.starts; notes = i.notes; is_cut = i.is_cut; stage = i.stage } in
    get_heard_whole c.args.self.now (record st { stage = c.lack.new.stage }) c.requires.refreshing (ap (λ (x : SessionState g.row.J.Denot). x.is_cut) c.self.view_is)
