use Rattle.std.proofs.Common.{Option, OnOk, sym, ap, ◌∙◌, subst}
use Rattle.ivy_session.specs.Putting.{Putting}
use Rattle.ivy_session.specs.Publishing.{PublishingState, PutGoesOn}
use Rattle.ivy_session.proofs.Steps.{state_hears, state_less}
use Rattle.ivy_session.proofs.publishing.Publishing.heard.Goals as goal

pub returns-in_ok-put-in-Some-clause-heard : goal.returns-in_ok-put-in-Some-clause-heard
returns-in_ok-put-in-Some-clause-heard c =
    let with_put : Option Putting → PublishingState = λ put. record { replicas = c.self.inside.replicas; entries = c.self.inside.entries; put = put; left = c.self.inside.left.items; acks = c.self.inside.acks.items } in
    state_hears c.self.inside.replicas c.self.inside.entries c.self.inside.left.items c.self.inside.acks.items c.args.self.now c.in-Some.put c.in_ok-put-in-Some.put (ap with_put (sym c.in-Some.is ∙ c.take.ensures.value) ∙ c.self.view_is)
    c.args.answer c.in_ok-put-in-Some.ensures.heard c.go_on.new.self c.go_on.result
    (subst (λ (put : Option Putting). OnOk c.go_on.result (PutGoesOn c.in_ok-put-in-Some.put (with_put put) c.go_on.new.self)) c.take.ensures.after c.go_on.ensures)

pub returns-in_ok-put-in-Some-clause-left : goal.returns-in_ok-put-in-Some-clause-left
returns-in_ok-put-in-Some-clause-left c =
    let with_put : Option Putting → PublishingState = λ put. record { replicas = c.self.inside.replicas; entries = c.self.inside.entries; put = put; left = c.self.inside.left.items; acks = c.self.inside.acks.items } in
    state_less c.self.inside.replicas c.self.inside.entries c.self.inside.left.items c.self.inside.acks.items c.args.self.now c.in-Some.put c.in_ok-put-in-Some.put (ap with_put (sym c.in-Some.is ∙ c.take.ensures.value) ∙ c.self.view_is)
    c.in_ok-put-in-Some.ensures.left c.go_on.new.self c.go_on.result
    (subst (λ (put : Option Putting). OnOk c.go_on.result (PutGoesOn c.in_ok-put-in-Some.put (with_put put) c.go_on.new.self)) c.take.ensures.after c.go_on.ensures)
