use Rattle.std.proofs.Common.{sym, ap, ◌∙◌, subst}
use Rattle.script_world.specs.PartsState.{HasParts, PartsState}
use Rattle.script_world.proofs.Making.{nobody_yet}
use Rattle.script_world.proofs.parts.Parts.make_view.Goals as goal

pub returns-in_default : goal.returns-in_default
returns-in_default g c = λ w has.
    nobody_yet (g.J.Judge.judges c.args.judge.now) w _ (subst (HasParts w.0) (sym c.self.view_is) has) c.args.name c.args.members.now c.args.former.now c.requires c.in_default.is c.self.invariant

pub returns-in-Refused : goal.returns-in-Refused
returns-in-Refused g c =
    let its = rw (c.in-Refused.is, c.as_slice.ensures) at c.in_ok-view_of.ensures in
    λ w has. its w has (g.J.Judge.judges c.args.judge.now)

pub returns-in-TooMany : goal.returns-in-TooMany
returns-in-TooMany g c =
    let its = rw (c.in-TooMany.is, c.as_slice.ensures) at c.in_ok-view_of.ensures in
    λ w has. its w has (g.J.Judge.judges c.args.judge.now)

pub returns-in_ok-put_view-in-View : goal.returns-in_ok-put_view-in-View
returns-in_ok-put_view-in-View g c =
    let its = rw (c.in-View.is, c.as_slice.ensures) at c.in_ok-view_of.ensures in
    λ w has.
    its w has (g.J.Judge.judges c.args.judge.now) c.in-Some.replicas c.put_view.new.self c.new.result.items (ap (λ (s : PartsState). s.replicas) (sym c.self.view_is) ∙ c.in-Some.is) c.in_ok-put_view-in-View.ensures
    c.new.ensures.items
