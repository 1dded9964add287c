use Rattle.std.proofs.Common.{◌≡◌, Ok, true, ap, refl, sym, subst}
use Rattle.ivy_session.specs.States.{SessionState, is_turning}
use Rattle.ivy_session.specs.Stepping.{IsTurned}
use Rattle.ivy_session.proofs.TurnsInPlace.{is_answered, is_answered_alone, turning_call}
use Rattle.ivy_session.proofs.Falling.{Falls, answer_falls, turn_ends}
use Rattle.ivy_session.proofs.Cutting.{answered_cut, answered_whole}
use Rattle.ivy_session.proofs.session.Session.answer.Goals as goal

pub take_call-call-requires : goal.take_call-call-requires
take_call-call-requires g c = turning_call c.self.inside.stage (subst (λ (x : SessionState g.row.J.Denot). is_turning x.stage ≡ true) (sym c.self.view_is) c.requires.turning)

pub returns-in-Ok-clause-turned : goal.returns-in-Ok-clause-turned
returns-in-Ok-clause-turned g c =
    let i = c.self.inside in
    let st : SessionState g.row.J.Denot = record { judge = i.judge; replicas = i.replicas; entries = i.entries; starts = i.starts; notes = i.notes; is_cut = i.is_cut; stage = i.stage } in
    subst (λ (x : SessionState g.row.J.Denot). IsTurned g.J.Judge.judges x (record st { stage = c.go_to.new.stage }) (Ok c.args.turned.now)) c.self.view_is
    (is_answered g.J.Judge.judges st i.stage c.take_call-call.result (subst (λ (x : SessionState g.row.J.Denot). is_turning x.stage ≡ true) (sym c.self.view_is) c.requires.turning) c.take_call-call.ensures.call c.args.turned.now c.as_slice.result.now c.reply_of-told.result c.in-Ok.publishing c.go_to.new.stage c.as_slice.ensures c.reply_of-told.ensures c.in-Ok.ensures.begun c.go_to.ensures)

pub returns-in-Err-clause-turned : goal.returns-in-Err-clause-turned
returns-in-Err-clause-turned g c =
    let i = c.self.inside in
    let st : SessionState g.row.J.Denot = record { judge = i.judge; replicas = i.replicas; entries = i.entries; starts = i.starts; notes = i.notes; is_cut = i.is_cut; stage = i.stage } in
    subst (λ (x : SessionState g.row.J.Denot). IsTurned g.J.Judge.judges x (record st { is_cut = true; stage = c.go_to-in-Err.new.stage }) (Ok c.args.turned.now)) c.self.view_is
    (is_answered_alone g.J.Judge.judges st i.stage c.take_call-call.result (subst (λ (x : SessionState g.row.J.Denot). is_turning x.stage ≡ true) (sym c.self.view_is) c.requires.turning) c.take_call-call.ensures.call c.args.turned.now c.as_slice.result.now c.reply_of-told.result c.go_to-in-Err.new.stage c.as_slice.ensures c.reply_of-told.ensures c.go_to-in-Err.ensures)

pub returns-in-Ok-clause-turning : goal.returns-in-Ok-clause-turning
returns-in-Ok-clause-turning g c =
    let i = c.self.inside in
    let st : SessionState g.row.J.Denot = record { judge = i.judge; replicas = i.replicas; entries = i.entries; starts = i.starts; notes = i.notes; is_cut = i.is_cut; stage = i.stage } in
    (subst (λ (x : SessionState g.row.J.Denot). Falls x (record st { stage = c.go_to.new.stage })) c.self.view_is
    (answer_falls st i.stage (subst (λ (x : SessionState g.row.J.Denot). is_turning x.stage ≡ true) (sym c.self.view_is) c.requires.turning) c.take_call-call.result c.take_call-call.ensures.call c.reply_of-told.result c.in-Ok.publishing c.go_to.new.stage c.in-Ok.ensures.left c.go_to.ensures)).0

pub returns-in-Ok-clause-left : goal.returns-in-Ok-clause-left
returns-in-Ok-clause-left g c =
    let i = c.self.inside in
    let st : SessionState g.row.J.Denot = record { judge = i.judge; replicas = i.replicas; entries = i.entries; starts = i.starts; notes = i.notes; is_cut = i.is_cut; stage = i.stage } in
    (subst (λ (x : SessionState g.row.J.Denot). Falls x (record st { stage = c.go_to.new.stage })) c.self.view_is
    (answer_falls st i.stage (subst (λ (x : SessionState g.row.J.Denot). is_turning x.stage ≡ true) (sym c.self.view_is) c.requires.turning) c.take_call-call.result c.take_call-call.ensures.call c.reply_of-told.result c.in-Ok.publishing c.go_to.new.stage c.in-Ok.ensures.left c.go_to.ensures)).1

pub returns-in-Err-clause-turning : goal.returns-in-Err-clause-turning
returns-in-Err-clause-turning g c =
    let i = c.self.inside in
    let st : SessionState g.row.J.Denot = record { judge = i.judge; replicas = i.replicas; entries = i.entries; starts = i.starts; notes = i.notes; is_cut = i.is_cut; stage = i.stage } in
    (subst (λ (x : SessionState g.row.J.Denot). Falls x (record st { is_cut = true; stage = c.go_to-in-Err.new.stage })) c.self.view_is
    (turn_ends st i.stage (subst (λ (x : SessionState g.row.J.Denot). is_turning x.stage ≡ true) (sym c.self.view_is) c.requires.turning) (record st { is_cut = true; stage = c.go_to-in-Err.new.stage }) c.reply_of-told.result c.go_to-in-Err.ensures)).0

pub returns-in-Err-clause-left : goal.returns-in-Err-clause-left
returns-in-Err-clause-left g c =
    let i = c.self.inside in
    let st : SessionState g.row.J.Denot = record { judge = i.judge; replicas = i.replicas; entries = i.entries; starts = i.starts; notes = i.notes; is_cut = i.is_cut; stage = i.stage } in
    (subst (λ (x : SessionState g.row.J.Denot). Falls x (record st { is_cut = true; stage = c.go_to-in-Err.new.stage })) c.self.view_is
    (turn_ends st i.stage (subst (λ (x : SessionState g.row.J.Denot). is_turning x.stage ≡ true) (sym c.self.view_is) c.requires.turning) (record st { is_cut = true; stage = c.go_to-in-Err.new.stage }) c.reply_of-told.result c.go_to-in-Err.ensures)).1

pub returns-in-Ok-clause-cut : goal.returns-in-Ok-clause-cut
returns-in-Ok-clause-cut g c =
    let i = c.self.inside in
    let st : SessionState g.row.J.Denot = record { judge = i.judge; replicas = i.replicas; entries = i.entries; starts = i.starts; notes = i.notes; is_cut = i.is_cut; stage = i.stage } in
    answered_whole c.args.self.now (record st { stage = c.go_to.new.stage }) c.args.turned.now c.reply_of-told.result c.in-Ok.publishing c.go_to.ensures (ap (λ (x : SessionState g.row.J.Denot). x.is_cut) c.self.view_is)

pub returns-in-Err-clause-cut : goal.returns-in-Err-clause-cut
returns-in-Err-clause-cut g c =
    let i = c.self.inside in
    let st : SessionState g.row.J.Denot = record { judge = i.judge; replicas = i.replicas; entries = i.entries; starts = i.starts; notes = i.notes; is_cut = i.is_cut; stage = i.stage } in
    answered_cut c.args.self.now (record st { is_cut = true; stage = c.go_to-in-Err.new.stage }) c.args.turned.now c.reply_of-told.result c.go_to-in-Err.ensures refl
