use Rattle.std.proofs.Common.{◌≡◌, true, ap, sym, subst}
use Rattle.ivy_session.specs.States.{SessionState, is_turning}
use Rattle.ivy_session.specs.Stepping.{IsTurned}
use Rattle.ivy_session.specs.Cutting.{IsCutAsTurned}
use Rattle.ivy_session.proofs.TurnsInPlace.{lack_at_turn, turned_behind, turned_below, turning_call}
use Rattle.ivy_session.proofs.Falling.{Falls, turn_lacks}
use Rattle.ivy_session.proofs.Cutting.{refused_whole}
use Rattle.ivy_session.proofs.session.Session.turned.Goals as goal

pub lack-requires : goal.lack-requires
lack-requires g c = turning_call c.self.inside.stage (subst (λ (x : SessionState g.row.J.Denot). is_turning x.stage ≡ true) (sym c.self.view_is) c.requires.turning)

pub returns-in-Ok-clause-turned : goal.returns-in-Ok-clause-turned
returns-in-Ok-clause-turned g c = subst (IsTurned g.J.Judge.judges c.args.self.now c.answer.new.self) (sym c.in-Ok.is) c.answer.ensures.turned

pub returns-in-Err-Memory-clause-turned : goal.returns-in-Err-Memory-clause-turned
returns-in-Err-Memory-clause-turned g c =
    let i = c.self.inside in
    let st : SessionState g.row.J.Denot = record { judge = i.judge; replicas = i.replicas; entries = i.entries; starts = i.starts; notes = i.notes; is_cut = i.is_cut; stage = i.stage } in
    subst (λ (x : SessionState g.row.J.Denot). IsTurned g.J.Judge.judges x (record st { stage = c.lack.new.stage }) c.args.turned) c.self.view_is
    (lack_at_turn g.J.Judge.judges st i.stage c.lack.new.stage c.args.turned c.in-Err-Memory.field-0 (subst (λ (x : SessionState g.row.J.Denot). is_turning x.stage ≡ true) (sym c.self.view_is) c.requires.turning) c.in-Err-Memory.is c.in-Err-Memory.field-0-is c.lack.ensures)

pub returns-in-Err-Behind-clause-turned : goal.returns-in-Err-Behind-clause-turned
returns-in-Err-Behind-clause-turned g c =
    turned_behind g.J.Judge.judges c.args.self.now c.begin_again.new.self c.args.turned c.in-Err-Behind.field-0 c.in-Err-Behind.standing c.in-Err-Behind.is c.in-Err-Behind.field-0-is c.begin_again.ensures.turned

pub returns-in-Err-BelowTide-clause-turned : goal.returns-in-Err-BelowTide-clause-turned
returns-in-Err-BelowTide-clause-turned g c =
    turned_below g.J.Judge.judges c.args.self.now c.begin_again-in-Err-BelowTide.new.self c.args.turned c.in-Err-BelowTide.field-0 c.in-Err-BelowTide.standing c.in-Err-BelowTide.is c.in-Err-BelowTide.field-0-is
    c.begin_again-in-Err-BelowTide.ensures.turned

pub returns-in-Err-Memory-clause-turning : goal.returns-in-Err-Memory-clause-turning
returns-in-Err-Memory-clause-turning g c =
    let i = c.self.inside in
    let st : SessionState g.row.J.Denot = record { judge = i.judge; replicas = i.replicas; entries = i.entries; starts = i.starts; notes = i.notes; is_cut = i.is_cut; stage = i.stage } in
    (subst (λ (x : SessionState g.row.J.Denot). Falls x (record st { stage = c.lack.new.stage })) c.self.view_is
    (turn_lacks st i.stage (subst (λ (x : SessionState g.row.J.Denot). is_turning x.stage ≡ true) (sym c.self.view_is) c.requires.turning) c.lack.new.stage c.lack.ensures)).0

pub returns-in-Err-Memory-clause-left : goal.returns-in-Err-Memory-clause-left
returns-in-Err-Memory-clause-left g c =
    let i = c.self.inside in
    let st : SessionState g.row.J.Denot = record { judge = i.judge; replicas = i.replicas; entries = i.entries; starts = i.starts; notes = i.notes; is_cut = i.is_cut; stage = i.stage } in
    (subst (λ (x : SessionState g.row.J.Denot). Falls x (record st { stage = c.lack.new.stage })) c.self.view_is
    (turn_lacks st i.stage (subst (λ (x : SessionState g.row.J.Denot). is_turning x.stage ≡ true) (sym c.self.view_is) c.requires.turning) c.lack.new.stage c.lack.ensures)).1

pub returns-in-Ok-clause-cut : goal.returns-in-Ok-clause-cut
returns-in-Ok-clause-cut g c = subst (IsCutAsTurned c.args.self.now c.answer.new.self) (sym c.in-Ok.is) c.answer.ensures.cut

pub returns-in-Err-Memory-clause-cut : goal.returns-in-Err-Memory-clause-cut
returns-in-Err-Memory-clause-cut g c =
    let i = c.self.inside in
    let st : SessionState g.row.J.Denot = record { judge = i.judge; replicas = i.replicas; entries = i.entries; starts = i.starts; notes = i.notes; is_cut = i.is_cut; stage = i.stage } in
    refused_whole c.args.self.now (record st { stage = c.lack.new.stage }) c.args.turned c.in-Err-Memory.field-0 c.in-Err-Memory.is (ap (λ (x : SessionState g.row.J.Denot). x.is_cut) c.self.view_is)

pub returns-in-Err-Behind-clause-cut : goal.returns-in-Err-Behind-clause-cut
returns-in-Err-Behind-clause-cut g c = refused_whole c.args.self.now c.begin_again.new.self c.args.turned c.in-Err-Behind.field-0 c.in-Err-Behind.is c.begin_again.ensures.cut

pub returns-in-Err-BelowTide-clause-cut : goal.returns-in-Err-BelowTide-clause-cut
returns-in-Err-BelowTide-clause-cut g c =
    refused_whole c.args.self.now c.begin_again-in-Err-BelowTide.new.self c.args.turned c.in-Err-BelowTide.field-0 c.in-Err-BelowTide.is c.begin_again-in-Err-BelowTide.ensures.cut
