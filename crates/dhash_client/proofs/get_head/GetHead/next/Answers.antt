use Rattle.std.proofs.Common.{subst}
use Rattle.dhash_client.specs.Execution.{Goes}
use Rattle.dhash_client.specs.GetHead.{HeadIsWanted}
use Rattle.dhash_client.proofs.HeadGets.{head_wants_route, head_wants_owner, head_wants_nothing, head_wants_over}
use Rattle.dhash_client.proofs.get_head.GetHead.next.Goals as goal
use Rattle.dhash_client.proofs.get_head.GetHead.next.Goals.{in-Route, in-Owner, in-NoRoute, in-Over+in_ok-result-in-Over}

pub returns-clause-wanted : goal.returns-clause-wanted
returns-clause-wanted g c =
    subst (λ s. HeadIsWanted g.J.Judge.judges s c.match-step.self c.match-step.result) c.self.view_is
    (elim c.match-step.branch [
      | in-Route w ↦ rw (w.result-is, w.self-is) (head_wants_route g.J.Judge.judges c.self.inside.execution c.next.new.self c.self.inside.judge c.self.inside.heads.items c.self.inside.wrong w.in-Route.node c.key-key.result c.key-key.ensures (subst (λ x. Goes c.self.inside.execution c.next.new.self x) w.in-Route.is c.in_ok-step.ensures.goes))
      | in-Owner w ↦ rw (w.result-is, w.self-is) (head_wants_owner g.J.Judge.judges c.self.inside.execution c.next.new.self c.self.inside.judge c.self.inside.heads.items c.self.inside.wrong w.in-Owner.node c.key-key.result c.key-key.ensures (subst (λ x. Goes c.self.inside.execution c.next.new.self x) w.in-Owner.is c.in_ok-step.ensures.goes))
      | in-NoRoute w ↦ rw w.result-is (head_wants_nothing g.J.Judge.judges c.self.inside.execution c.next.new.self c.self.inside.judge c.self.inside.heads.items c.self.inside.wrong c.match-step.self c.key-key.result c.key-key.ensures (subst (λ x. Goes c.self.inside.execution c.next.new.self x) w.in-NoRoute.is c.in_ok-step.ensures.goes))
      | in-Over+in_ok-result-in-Over w ↦ rw w.result-is (head_wants_over g.J.Judge.judges c.self.inside.execution c.next.new.self c.self.inside.judge c.self.inside.heads.items c.self.inside.wrong c.match-step.self w.in_ok-result-in-Over.field-0 w.in_ok-result-in-Over.ensures.given (subst (λ x. Goes c.self.inside.execution c.next.new.self x) w.in-Over.is c.in_ok-step.ensures.goes))
    ])
