use Rattle.std.proofs.Common.{rules, refl, ◌∙◌}
use Rattle.dhash_client.proofs.Asks.{heard_route, heard_silence, no_route}
use Rattle.dhash_client.proofs.lookup.Lookup.heard.Goals as goal

pub returns-in-Route-clause-heard : goal.returns-in-Route-clause-heard
returns-in-Route-clause-heard c =
    heard_route c.self.inside.key c.self.inside.asked.items c.push.new.self.items c.self.inside.last c.self.inside.rest.items c.from.result.items c.in-Route.nearer c.in-Route.owners c.self.inside.waiting c.take.new.self c.in-Some.node c.args.answer c.args.self.now c.match-self.self
    (search rules) c.self.invariant.0 (search rules) c.in_ok-push.ensures.items c.in-Route.is (c.from.ensures.0 ∙ c.into_vec.ensures) c.self.view_is
    (search rules)

pub returns-in_default-answer-clause-heard : goal.returns-in_default-answer-clause-heard
returns-in_default-answer-clause-heard c =
    heard_silence c.self.inside.key c.self.inside.asked.items c.push.new.self.items c.self.inside.last c.self.inside.rest.items c.self.inside.waiting c.take.new.self c.in-Some.node c.args.answer c.args.self.now _
    (search rules) c.self.invariant.0 (search rules) c.in_ok-push.ensures.items (no_route c.args.answer c.in_default-answer.not-Route) c.self.view_is refl
