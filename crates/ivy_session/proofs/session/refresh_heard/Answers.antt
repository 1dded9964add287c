use Rattle.std.proofs.Common.{refl, sym, subst}
use Rattle.ivy_session.specs.declared.session.Stage.{Stage}
use Rattle.ivy_session.specs.declared.session.Stage.TheVariants as stage
use Rattle.std.specs.Result.{IfOk}
use Rattle.ivy_session.specs.InPlace.{RefreshHeard}
use Rattle.ivy_session.specs.Left.{FallsLeft}
use Rattle.ivy_session.proofs.Falling.{refresh_falls}
use Rattle.ivy_session.proofs.session.refresh_heard.Goals as goal

pub returns-clause-heard : goal.returns-clause-heard
returns-clause-heard g c =
    subst (λ (at : Stage g.row.J.Denot). RefreshHeard g.J.Judge.judges at (stage.Refreshing c.in-Refreshing.field-0 c.hear.new.refresh) c.args.cache.now c.hear.new.cache c.args.answer c.hear.result) (sym c.in-Refreshing.is)
    (c.hear.new.refresh, refl, c.hear.ensures.heard)

pub returns-clause-left : goal.returns-clause-left
returns-clause-left g c =
    subst (λ (at : Stage g.row.J.Denot). IfOk c.hear.result (λ _. FallsLeft at (stage.Refreshing c.in-Refreshing.field-0 c.hear.new.refresh))) (sym c.in-Refreshing.is)
    (refresh_falls c.in-Refreshing.field-0 c.in-Refreshing.refresh c.hear.new.refresh c.hear.result c.hear.ensures.left)
