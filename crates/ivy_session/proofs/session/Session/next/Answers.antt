use Rattle.std.proofs.Common.{◌≡◌, false, refl, sym, subst}
use Rattle.ivy_session.specs.States.{SessionState, is_told, is_turning}
use Rattle.ivy_session.specs.declared.session.Next.TheVariants as next
use Rattle.ivy_session.specs.Stepping.{IsNext}
use Rattle.ivy_session.specs.Cutting.{IsCutAsWanted}
use Rattle.ivy_session.proofs.TurnsInPlace.{is_to_tell, is_told_next}
use Rattle.ivy_session.proofs.Falling.{told_next}
use Rattle.ivy_session.proofs.Cutting.{told_whole}
use Rattle.ivy_session.proofs.session.Session.next.Goals as goal

pub take_told-requires : goal.take_told-requires
take_told-requires g c =
    let i = c.self.inside in
    let st : SessionState g.row.J.Denot = record { judge = i.judge; replicas = i.replicas; entries = i.entries; starts = i.starts; notes = i.notes; is_cut = i.is_cut; stage = i.stage } in
    is_to_tell g.J.Judge.judges st i.stage c.in_default.not-Refreshing (subst (λ (x : SessionState g.row.J.Denot). is_turning x.stage ≡ false) (sym c.self.view_is) c.requires.turning)
    (subst (λ (x : SessionState g.row.J.Denot). is_told x.stage ≡ false) (sym c.self.view_is) c.requires.told)

pub returns-in_default-clause-wanted : goal.returns-in_default-clause-wanted
returns-in_default-clause-wanted g c =
    let i = c.self.inside in
    let st : SessionState g.row.J.Denot = record { judge = i.judge; replicas = i.replicas; entries = i.entries; starts = i.starts; notes = i.notes; is_cut = i.is_cut; stage = i.stage } in
    subst (λ (x : SessionState g.row.J.Denot). IsNext g.J.Judge.judges x (record st { stage = c.take_told.new.stage }) c.args.cache.now c.args.cache.now (next.Done c.take_told.result)) c.self.view_is
    (is_told_next g.J.Judge.judges st c.args.cache.now c.take_told.result i.stage c.take_told.new.stage c.in_default.not-Refreshing c.in_default.not-Publishing c.take_told.ensures.served)

pub returns-in-Publishing-clause-wanted : goal.returns-in-Publishing-clause-wanted
returns-in-Publishing-clause-wanted g c = c.put.ensures.wanted c.args.cache.now

pub returns-in_default-clause-left : goal.returns-in_default-clause-left
returns-in_default-clause-left g c =
    let i = c.self.inside in
    let st : SessionState g.row.J.Denot = record { judge = i.judge; replicas = i.replicas; entries = i.entries; starts = i.starts; notes = i.notes; is_cut = i.is_cut; stage = i.stage } in
    told_next c.args.self.now (record st { stage = c.take_told.new.stage }) c.take_told.result c.take_told.ensures.told

pub returns-in-Refreshing-clause-cut : goal.returns-in-Refreshing-clause-cut
returns-in-Refreshing-clause-cut g c = c.refresh.ensures.cut

pub returns-in-Publishing-clause-cut : goal.returns-in-Publishing-clause-cut
returns-in-Publishing-clause-cut g c = c.put.ensures.cut

pub returns-in_default-clause-cut : goal.returns-in_default-clause-cut
returns-in_default-clause-cut g c =
    let i = c.self.inside in
    let st : SessionState g.row.J.Denot = record { judge = i.judge; replicas = i.replicas; entries = i.entries; starts = i.starts; notes = i.notes; is_cut = i.is_cut; stage = i.stage } in
    subst (λ (x : SessionState g.row.J.Denot). IsCutAsWanted x (record st { stage = c.take_told.new.stage }) (next.Done c.take_told.result)) c.self.view_is
    (told_whole st (record st { stage = c.take_told.new.stage }) (next.Done c.take_told.result) c.in_default.not-Publishing refl)
