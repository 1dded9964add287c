use Rattle.std.proofs.Common.{subst}
use Rattle.dhash_client.specs.Execution.{Goes}
use Rattle.dhash_client.specs.Puts.{PutIsWanted}
use Rattle.dhash_client.proofs.Puts.{put_wants_route, put_wants_owner, put_wants_nothing, put_wants_over}
use Rattle.dhash_client.proofs.put.PutPost.next.Goals as goal
use Rattle.dhash_client.proofs.put.PutPost.next.Goals.{in-Route, in-Owner+in_ok-question-in-Owner, in-NoRoute, in-Over}

pub returns-clause-wanted : goal.returns-clause-wanted
returns-clause-wanted c =
    subst (λ s. PutIsWanted s c.match-step.self c.match-step.result) c.self.view_is
    (elim c.match-step.branch [
      | in-Route w ↦ rw (w.result-is, w.self-is) (put_wants_route c.self.inside.execution c.next.new.self c.self.inside.what c.self.inside.bytes c.self.inside.holders w.in-Route.node c.key-key.result c.key-key.ensures (subst (λ x. Goes c.self.inside.execution c.next.new.self x) w.in-Route.is c.in_ok-step.ensures.goes))
      | in-Owner+in_ok-question-in-Owner w ↦ rw (w.result-is, w.self-is) (put_wants_owner c.self.inside.execution c.next.new.self c.self.inside.what c.self.inside.bytes c.self.inside.holders w.in-Owner.node c.key-key.result w.in_ok-question-in-Owner.field-0 c.key-key.ensures w.in_ok-question-in-Owner.ensures (subst (λ x. Goes c.self.inside.execution c.next.new.self x) w.in-Owner.is c.in_ok-step.ensures.goes))
      | in-NoRoute w ↦ rw w.result-is (put_wants_nothing c.self.inside.execution c.next.new.self c.self.inside.what c.self.inside.bytes c.self.inside.holders c.match-step.self c.key-key.result c.key-key.ensures (subst (λ x. Goes c.self.inside.execution c.next.new.self x) w.in-NoRoute.is c.in_ok-step.ensures.goes))
      | in-Over w ↦ rw w.result-is (put_wants_over c.self.inside.execution c.next.new.self c.self.inside.what c.self.inside.bytes c.self.inside.holders c.match-step.self w.are_holders.result w.are_holders.ensures.word w.are_holders.ensures.holders (subst (λ x. Goes c.self.inside.execution c.next.new.self x) w.in-Over.is c.in_ok-step.ensures.goes))
    ])
