use Rattle.std.proofs.Common.{None, sym, ap, ◌∙◌, subst}
use Rattle.session_model.specs.Refreshing.{Loaded}
use Rattle.snapshot_loading.specs.Loading.{Loading, ComesTo, IsReadWhole, wanted_of}
use Rattle.snapshot_loading.specs.Causes.{cause_in}
use Rattle.snapshot_loading.proofs.Loads.{has_failed, read_whole, is_held}
use Rattle.snapshot_loading.proofs.load.Load.into_read.Goals as goal

pub returns-in-Some-clause-failed : goal.returns-in-Some-clause-failed
returns-in-Some-clause-failed c = (
  subst (λ (l : Loading). ComesTo l (Loaded None)) c.self.view_is (has_failed _ c.self.invariant (is_held c.self.inside.failed c.in-Some.failure c.in-Some.is)),
  c.cause.ensures ∙ ap cause_in (sym c.in-Some.is) ∙ ap (λ (l : Loading). cause_in l.failed) c.self.view_is,
)

pub returns-clause-read : goal.returns-clause-read
returns-clause-read c =
    subst (λ (l : Loading). IsReadWhole l c.self.inside.read.items) c.self.view_is
    (read_whole _ c.self.invariant (ap wanted_of c.self.view_is ∙ c.requires) c.in_default.is)
