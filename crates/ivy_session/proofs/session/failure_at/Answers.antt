use Rattle.std.proofs.Common.{refl, sym, subst}
use Rattle.ivy_session.specs.declared.session.Stage.{Stage}
use Rattle.ivy_session.specs.declared.session.Stage.TheVariants as stage
use Rattle.ivy_session.specs.InPlace.{FailureAt}
use Rattle.ivy_session.proofs.session.failure_at.Goals as goal

pub returns : goal.returns
returns g c =
    subst (λ (at : Stage g.row.J.Denot). FailureAt g.J.Judge.judges at (stage.Refreshing c.in-Refreshing.field-0 c.failure.new.refresh) c.failure.result) (sym c.in-Refreshing.is) (c.failure.new.refresh, refl, c.failure.ensures)
