use Rattle.std.proofs.Common.{refl, sym, subst}
use Rattle.ivy_session.specs.declared.session.Stage.{Stage}
use Rattle.ivy_session.specs.declared.session.Stage.TheVariants as stage
use Rattle.std.specs.Result.{IfOk}
use Rattle.ivy_session.specs.InPlace.{RefreshWants}
use Rattle.ivy_session.specs.Left.{StaysLeft}
use Rattle.ivy_session.proofs.Falling.{refresh_stays}
use Rattle.ivy_session.proofs.session.refresh_wants.Goals as goal

pub returns-clause-wanted : goal.returns-clause-wanted
returns-clause-wanted g c =
    subst (λ (at : Stage g.row.J.Denot). RefreshWants g.J.Judge.judges at (stage.Refreshing c.in-Refreshing.field-0 c.advance.new.refresh) c.args.cache.now c.advance.new.cache c.advance.result) (sym c.in-Refreshing.is)
    (c.advance.new.refresh, refl, c.advance.ensures.wanted)

pub returns-clause-left : goal.returns-clause-left
returns-clause-left g c =
    subst (λ (at : Stage g.row.J.Denot). IfOk c.advance.result (λ _. StaysLeft at (stage.Refreshing c.in-Refreshing.field-0 c.advance.new.refresh))) (sym c.in-Refreshing.is)
    (refresh_stays c.in-Refreshing.field-0 c.in-Refreshing.refresh c.advance.new.refresh c.advance.result c.advance.ensures.left)
