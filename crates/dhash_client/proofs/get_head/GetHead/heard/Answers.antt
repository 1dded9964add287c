use Rattle.std.proofs.Common.{subst}
use Rattle.dhash_client.specs.Execution.{Hears}
use Rattle.dhash_client.specs.GetHead.{HeadState, HeadHasHeard}
use Rattle.dhash_client.proofs.HeadGets.{head_heard_route, head_heard_owner}
use Rattle.dhash_client.proofs.get_head.GetHead.heard.Goals as goal

pub returns-in_ok-take-clause-heard : goal.returns-in_ok-take-clause-heard
returns-in_ok-take-clause-heard g c =
    subst (λ s. HeadHasHeard g.J.Judge.judges s c.take.new.self c.args.answer) c.self.view_is
    (head_heard_owner g.J.Judge.judges c.self.inside.execution c.heard.new.self c.self.inside.judge c.self.inside.heads.items c.self.inside.wrong c.take.new.self c.in-Some.node c.args.answer c.in-Some.answer c.answers_get-counts.result
    (subst (λ x. Hears c.self.inside.execution c.heard.new.self c.args.answer c.answers_get-counts.result x) c.in-Some.is c.in_ok-node.ensures.hears) c.answers_get-counts.ensures c.in_ok-take.ensures.execution c.in_ok-take.ensures.judge c.in_ok-take.ensures.takes)

pub returns-in_default-clause-heard : goal.returns-in_default-clause-heard
returns-in_default-clause-heard g c =
    let last : HeadState _ = record { execution = c.heard.new.self; judge = c.self.inside.judge; heads = c.self.inside.heads.items; wrong = c.self.inside.wrong } in
    subst (λ s. HeadHasHeard g.J.Judge.judges s last c.args.answer) c.self.view_is
    (head_heard_route g.J.Judge.judges c.self.inside.execution c.heard.new.self c.self.inside.judge c.self.inside.heads.items c.self.inside.wrong c.args.answer c.answers_get-counts.result
    (subst (λ x. Hears c.self.inside.execution c.heard.new.self c.args.answer c.answers_get-counts.result x) c.in_default.is c.in_ok-node.ensures.hears))
