use Rattle.std.proofs.Common.{refl, sym, subst}
use Rattle.ivy_session.specs.declared.session.Stage.{Stage}
use Rattle.ivy_session.specs.declared.session.Stage.TheVariants as stage
use Rattle.std.specs.Result.{IfOk}
use Rattle.ivy_session.specs.InPlace.{PutHeard}
use Rattle.ivy_session.specs.Left.{FallsLeft}
use Rattle.ivy_session.proofs.Falling.{publishing_falls}
use Rattle.ivy_session.proofs.session.put_heard.Goals as goal

pub returns-clause-heard : goal.returns-clause-heard
returns-clause-heard g c =
    subst (λ (at : Stage g.row.J.Denot). PutHeard at (stage.Publishing c.in-Publishing.field-0 c.put_hears.new.publishing) c.args.answer c.put_hears.result) (sym c.in-Publishing.is) (c.put_hears.new.publishing, refl, c.put_hears.ensures.heard)

pub returns-clause-left : goal.returns-clause-left
returns-clause-left g c =
    subst (λ (at : Stage g.row.J.Denot). IfOk c.put_hears.result (λ _. FallsLeft at (stage.Publishing c.in-Publishing.field-0 c.put_hears.new.publishing))) (sym c.in-Publishing.is)
    (publishing_falls g.row.J.Denot c.in-Publishing.field-0 c.in-Publishing.publishing c.put_hears.new.publishing c.put_hears.result c.put_hears.ensures.left)
