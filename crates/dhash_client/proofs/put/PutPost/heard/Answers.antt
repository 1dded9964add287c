use Rattle.std.proofs.Common.{subst}
use Rattle.dhash_client.specs.Execution.{Hears}
use Rattle.dhash_client.specs.Puts.{PutState, PutHasHeard}
use Rattle.dhash_client.proofs.Puts.{put_heard_route, put_heard_owner}
use Rattle.dhash_client.proofs.put.PutPost.heard.Goals as goal

pub returns-in-Some-clause-heard : goal.returns-in-Some-clause-heard
returns-in-Some-clause-heard c =
    subst (λ s. PutHasHeard s c.take.new.self c.args.answer) c.self.view_is
    (put_heard_owner c.self.inside.execution c.heard.new.self c.self.inside.what c.self.inside.bytes c.self.inside.holders c.take.new.self c.in-Some.field-0-0 c.args.answer c.in-Some.answer c.answers_put-counts.result
    (subst (λ x. Hears c.self.inside.execution c.heard.new.self c.args.answer c.answers_put-counts.result x) c.in-Some.is c.in_ok-answer.ensures.hears) c.answers_put-counts.ensures c.take.ensures.execution c.take.ensures.what c.take.ensures.bytes c.take.ensures.holders)

pub returns-in_default-clause-heard : goal.returns-in_default-clause-heard
returns-in_default-clause-heard c =
    let last : PutState = record { what = c.self.inside.what; execution = c.heard.new.self; bytes = c.self.inside.bytes; holders = c.self.inside.holders } in
    subst (λ s. PutHasHeard s last c.args.answer) c.self.view_is
    (put_heard_route c.self.inside.execution c.heard.new.self c.self.inside.what c.self.inside.bytes c.self.inside.holders c.args.answer c.answers_put-counts.result
    (subst (λ x. Hears c.self.inside.execution c.heard.new.self c.args.answer c.answers_put-counts.result x) c.in_default.is c.in_ok-answer.ensures.hears))
