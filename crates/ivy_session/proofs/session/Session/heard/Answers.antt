use Rattle.std.proofs.Common.{◌≡◌, ◌≢◌, None, true, sym, subst}
use Rattle.ivy_session.specs.States.{SessionState, session_awaited}
use Rattle.ivy_session.specs.InPlace.{is_publishing}
use Rattle.ivy_session.proofs.TurnsInPlace.{is_to_put}
use Rattle.ivy_session.proofs.session.Session.heard.Goals as goal

pub hear_put-requires-clause-publishing : goal.hear_put-requires-clause-publishing
hear_put-requires-clause-publishing g c =
    subst (λ (x : SessionState g.row.J.Denot). is_publishing x.stage ≡ true) c.self.view_is
    (is_to_put c.self.inside.stage c.in_default.not-Refreshing (subst (λ (x : SessionState g.row.J.Denot). session_awaited x ≢ None) (sym c.self.view_is) c.requires))

pub returns-in_default-clause-heard : goal.returns-in_default-clause-heard
returns-in_default-clause-heard g c = c.hear_put.ensures.heard c.args.cache.now

pub returns-in-Refreshing-clause-cut : goal.returns-in-Refreshing-clause-cut
returns-in-Refreshing-clause-cut g c = c.hear_get.ensures.cut

pub returns-in_default-clause-cut : goal.returns-in_default-clause-cut
returns-in_default-clause-cut g c = c.hear_put.ensures.cut
