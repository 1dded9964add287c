use Rattle.std.proofs.Common.{IfOk, refl, subst}
use Rattle.ivy_session.specs.Putting.{Putting, PuttingHasHeard}
use Rattle.ivy_session.proofs.Putting.{putting_hears}
use Rattle.ivy_session.proofs.put.Put.heard.Goals as goal

pub returns-clause-heard : goal.returns-clause-heard
returns-clause-heard c =
    let old : Putting = record { kind = c.self.inside.kind; ack = c.self.inside.ack; put = c.self.inside.machine } in
    let new : Putting = record { kind = c.self.inside.kind; ack = c.self.inside.ack; put = c.heard.new.self } in
    subst (λ s. IfOk c.heard.result (λ _. PuttingHasHeard s new c.args.answer)) c.self.view_is (putting_hears old new refl refl c.args.answer c.heard.result c.heard.ensures.heard)
