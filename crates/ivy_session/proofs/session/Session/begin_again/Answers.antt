use Rattle.std.proofs.Common.{◌≡◌, Err, Some, None, true, ap, sym, subst, ◌∙◌}
use Rattle.log_fetch.specs.declared.turned.TurnFault.TheVariants as fault
use Rattle.ivy_session.specs.States.{SessionState, is_turning}
use Rattle.ivy_session.specs.Stepping.{IsTurned}
use Rattle.ivy_session.specs.Ending.{BeginsAgain}
use Rattle.ivy_session.proofs.TurnsInPlace.{end_anew, refresh_anew, turning_call}
use Rattle.ivy_session.proofs.Falling.{Falls, anew_is_less, turn_ends}
use Rattle.ivy_session.proofs.Cutting.{anew_whole}
use Rattle.ivy_session.proofs.session.Session.begin_again.Goals as goal

pub take_call-call-requires : goal.take_call-call-requires
take_call-call-requires g c = turning_call c.self.inside.stage (subst (λ (x : SessionState g.row.J.Denot). is_turning x.stage ≡ true) (sym c.self.view_is) c.requires.turning)

pub returns-in-Some-clause-turned : goal.returns-in-Some-clause-turned
returns-in-Some-clause-turned g c =
    let i = c.self.inside in
    let m = c.self-2.inside in
    let st : SessionState g.row.J.Denot = record { judge = i.judge; replicas = i.replicas; entries = i.entries; starts = i.starts; notes = i.notes; is_cut = i.is_cut; stage = i.stage } in
    let mid : SessionState g.row.J.Denot = record { judge = m.judge; replicas = m.replicas; entries = m.entries; starts = m.starts; notes = m.notes; is_cut = m.is_cut; stage = m.stage } in
    let begun = subst (λ (x : SessionState g.row.J.Denot). BeginsAgain g.J.Judge.judges (record st { stage = c.take_call-call.new.stage }) x c.args.standing (Some c.in-Some.refresh)) (sym c.self-2.view_is) c.in-Some.ensures in
    subst (λ (x : SessionState g.row.J.Denot). IsTurned g.J.Judge.judges x (record mid { stage = c.go_to.new.stage }) (Err (fault.Behind c.args.standing))) c.self.view_is
    (refresh_anew g.J.Judge.judges st i.stage c.take_call-call.result (subst (λ (x : SessionState g.row.J.Denot). is_turning x.stage ≡ true) (sym c.self.view_is) c.requires.turning) c.take_call-call.ensures.call c.take_call-call.new.stage c.args.standing mid c.in-Some.refresh c.go_to.new.stage begun c.go_to.ensures)

pub returns-in-None-clause-turned : goal.returns-in-None-clause-turned
returns-in-None-clause-turned g c =
    let i = c.self.inside in
    let m = c.self-2.inside in
    let st : SessionState g.row.J.Denot = record { judge = i.judge; replicas = i.replicas; entries = i.entries; starts = i.starts; notes = i.notes; is_cut = i.is_cut; stage = i.stage } in
    let mid : SessionState g.row.J.Denot = record { judge = m.judge; replicas = m.replicas; entries = m.entries; starts = m.starts; notes = m.notes; is_cut = m.is_cut; stage = m.stage } in
    let begun = subst (λ (x : SessionState g.row.J.Denot). BeginsAgain g.J.Judge.judges (record st { stage = c.take_call-call.new.stage }) x c.args.standing None) (sym c.self-2.view_is) c.in-None.ensures in
    subst (λ (x : SessionState g.row.J.Denot). IsTurned g.J.Judge.judges x (record mid { stage = c.go_to-in-None.new.stage }) (Err (fault.Behind c.args.standing))) c.self.view_is
    (end_anew g.J.Judge.judges st i.stage c.take_call-call.result (subst (λ (x : SessionState g.row.J.Denot). is_turning x.stage ≡ true) (sym c.self.view_is) c.requires.turning) c.take_call-call.ensures.call c.take_call-call.new.stage c.args.standing mid c.no_memory.result c.go_to-in-None.new.stage begun c.no_memory.ensures c.go_to-in-None.ensures)

pub returns-in-Some-clause-turning : goal.returns-in-Some-clause-turning
returns-in-Some-clause-turning g c =
    let i = c.self.inside in
    let st : SessionState g.row.J.Denot = record { judge = i.judge; replicas = i.replicas; entries = i.entries; starts = i.starts; notes = i.notes; is_cut = i.is_cut; stage = i.stage } in
    let m = c.self-2.inside in
    let mid : SessionState g.row.J.Denot = record { judge = m.judge; replicas = m.replicas; entries = m.entries; starts = m.starts; notes = m.notes; is_cut = m.is_cut; stage = m.stage } in
    let begun = subst (λ (x : SessionState g.row.J.Denot). BeginsAgain g.J.Judge.judges (record st { stage = c.take_call-call.new.stage }) x c.args.standing (Some c.in-Some.refresh)) (sym c.self-2.view_is) c.in-Some.ensures in
    (subst (λ (x : SessionState g.row.J.Denot). Falls x (record mid { stage = c.go_to.new.stage })) c.self.view_is
    (anew_is_less st i.stage (subst (λ (x : SessionState g.row.J.Denot). is_turning x.stage ≡ true) (sym c.self.view_is) c.requires.turning) c.take_call-call.result c.take_call-call.ensures.call g.J.Judge.judges c.take_call-call.new.stage c.args.standing mid c.in-Some.refresh c.go_to.new.stage begun c.go_to.ensures)).0

pub returns-in-Some-clause-left : goal.returns-in-Some-clause-left
returns-in-Some-clause-left g c =
    let i = c.self.inside in
    let st : SessionState g.row.J.Denot = record { judge = i.judge; replicas = i.replicas; entries = i.entries; starts = i.starts; notes = i.notes; is_cut = i.is_cut; stage = i.stage } in
    let m = c.self-2.inside in
    let mid : SessionState g.row.J.Denot = record { judge = m.judge; replicas = m.replicas; entries = m.entries; starts = m.starts; notes = m.notes; is_cut = m.is_cut; stage = m.stage } in
    let begun = subst (λ (x : SessionState g.row.J.Denot). BeginsAgain g.J.Judge.judges (record st { stage = c.take_call-call.new.stage }) x c.args.standing (Some c.in-Some.refresh)) (sym c.self-2.view_is) c.in-Some.ensures in
    (subst (λ (x : SessionState g.row.J.Denot). Falls x (record mid { stage = c.go_to.new.stage })) c.self.view_is
    (anew_is_less st i.stage (subst (λ (x : SessionState g.row.J.Denot). is_turning x.stage ≡ true) (sym c.self.view_is) c.requires.turning) c.take_call-call.result c.take_call-call.ensures.call g.J.Judge.judges c.take_call-call.new.stage c.args.standing mid c.in-Some.refresh c.go_to.new.stage begun c.go_to.ensures)).1

pub returns-in-None-clause-turning : goal.returns-in-None-clause-turning
returns-in-None-clause-turning g c =
    let i = c.self.inside in
    let st : SessionState g.row.J.Denot = record { judge = i.judge; replicas = i.replicas; entries = i.entries; starts = i.starts; notes = i.notes; is_cut = i.is_cut; stage = i.stage } in
    let m = c.self-2.inside in
    let mid : SessionState g.row.J.Denot = record { judge = m.judge; replicas = m.replicas; entries = m.entries; starts = m.starts; notes = m.notes; is_cut = m.is_cut; stage = m.stage } in
    (subst (λ (x : SessionState g.row.J.Denot). Falls x (record mid { stage = c.go_to-in-None.new.stage })) c.self.view_is
    (turn_ends st i.stage (subst (λ (x : SessionState g.row.J.Denot). is_turning x.stage ≡ true) (sym c.self.view_is) c.requires.turning) (record mid { stage = c.go_to-in-None.new.stage }) c.no_memory.result c.go_to-in-None.ensures)).0

pub returns-in-None-clause-left : goal.returns-in-None-clause-left
returns-in-None-clause-left g c =
    let i = c.self.inside in
    let st : SessionState g.row.J.Denot = record { judge = i.judge; replicas = i.replicas; entries = i.entries; starts = i.starts; notes = i.notes; is_cut = i.is_cut; stage = i.stage } in
    let m = c.self-2.inside in
    let mid : SessionState g.row.J.Denot = record { judge = m.judge; replicas = m.replicas; entries = m.entries; starts = m.starts; notes = m.notes; is_cut = m.is_cut; stage = m.stage } in
    (subst (λ (x : SessionState g.row.J.Denot). Falls x (record mid { stage = c.go_to-in-None.new.stage })) c.self.view_is
    (turn_ends st i.stage (subst (λ (x : SessionState g.row.J.Denot). is_turning x.stage ≡ true) (sym c.self.view_is) c.requires.turning) (record mid { stage = c.go_to-in-None.new.stage }) c.no_memory.result c.go_to-in-None.ensures)).1

pub returns-in-Some-clause-cut : goal.returns-in-Some-clause-cut
returns-in-Some-clause-cut g c =
    let i = c.self.inside in
    let st : SessionState g.row.J.Denot = record { judge = i.judge; replicas = i.replicas; entries = i.entries; starts = i.starts; notes = i.notes; is_cut = i.is_cut; stage = i.stage } in
    let m = c.self-2.inside in
    let mid : SessionState g.row.J.Denot = record { judge = m.judge; replicas = m.replicas; entries = m.entries; starts = m.starts; notes = m.notes; is_cut = m.is_cut; stage = m.stage } in
    let begun = subst (λ (x : SessionState g.row.J.Denot). BeginsAgain g.J.Judge.judges (record st { stage = c.take_call-call.new.stage }) x c.args.standing (Some c.in-Some.refresh)) (sym c.self-2.view_is) c.in-Some.ensures in
    anew_whole (record st { stage = c.take_call-call.new.stage }) mid g.J.Judge.judges c.args.standing (Some c.in-Some.refresh) begun ∙ ap (λ (x : SessionState g.row.J.Denot). x.is_cut) c.self.view_is

pub returns-in-None-clause-cut : goal.returns-in-None-clause-cut
returns-in-None-clause-cut g c =
    let i = c.self.inside in
    let st : SessionState g.row.J.Denot = record { judge = i.judge; replicas = i.replicas; entries = i.entries; starts = i.starts; notes = i.notes; is_cut = i.is_cut; stage = i.stage } in
    let m = c.self-2.inside in
    let mid : SessionState g.row.J.Denot = record { judge = m.judge; replicas = m.replicas; entries = m.entries; starts = m.starts; notes = m.notes; is_cut = m.is_cut; stage = m.stage } in
    let begun = subst (λ (x : SessionState g.row.J.Denot). BeginsAgain g.J.Judge.judges (record st { stage = c.take_call-call.new.stage }) x c.args.standing None) (sym c.self-2.view_is) c.in-None.ensures in
    anew_whole (record st { stage = c.take_call-call.new.stage }) mid g.J.Judge.judges c.args.standing None begun ∙ ap (λ (x : SessionState g.row.J.Denot). x.is_cut) c.self.view_is
