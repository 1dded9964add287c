use Rattle.std.proofs.Common.{sym, ◌∙◌, subst, Ok}
use Rattle.dht_ids.specs.declared.ask.Want.TheVariants as want
use Rattle.dhash_client.specs.Execution.{Goes}
use Rattle.dhash_client.specs.GetBlock.{BlockState, BlockIsWanted}
use Rattle.dhash_client.proofs.BlockGets.{wants_route, wants_owner, wants_nothing, wants_over, wants_bytes}
use Rattle.dhash_client.proofs.get_block.GetBlock.next.Goals as goal
use Rattle.dhash_client.proofs.get_block.GetBlock.next.Goals.{in-Route, in-Owner, in-NoRoute, in-Over+in_ok-miss-in-Over}

pub returns-in-Some-clause-wanted : goal.returns-in-Some-clause-wanted
returns-in-Some-clause-wanted c =
    subst (λ s. BlockIsWanted s c.args.self.now (want.Done (Ok c.in-Some.bytes))) c.self.view_is
    (wants_bytes c.self.inside.execution c.self.inside.found c.self.inside.wrong c.args.self.now c.in-Some.bytes (sym c.take.ensures.value ∙ c.in-Some.is))

pub returns-clause-wanted : goal.returns-clause-wanted
returns-clause-wanted c =
    let last : BlockState = record { execution = c.next.new.self; found = c.take.new.self; wrong = c.self.inside.wrong } in
    subst (λ s. BlockIsWanted s last c.match-step.result) c.self.view_is
    (elim c.match-step.branch [
      | in-Route w ↦ rw w.result-is (wants_route c.self.inside.execution c.next.new.self c.self.inside.found c.take.new.self c.self.inside.wrong w.in-Route.node c.key-key.result (sym c.take.ensures.value ∙ c.in_default.is) c.take.ensures.after c.key-key.ensures (subst (λ x. Goes c.self.inside.execution c.next.new.self x) w.in-Route.is c.in_ok-step.ensures.goes))
      | in-Owner w ↦ rw w.result-is (wants_owner c.self.inside.execution c.next.new.self c.self.inside.found c.take.new.self c.self.inside.wrong w.in-Owner.node c.key-key.result (sym c.take.ensures.value ∙ c.in_default.is) c.take.ensures.after c.key-key.ensures (subst (λ x. Goes c.self.inside.execution c.next.new.self x) w.in-Owner.is c.in_ok-step.ensures.goes))
      | in-NoRoute w ↦ rw w.result-is (wants_nothing c.self.inside.execution c.next.new.self c.self.inside.found c.self.inside.wrong last c.key-key.result c.key-key.ensures (subst (λ x. Goes c.self.inside.execution c.next.new.self x) w.in-NoRoute.is c.in_ok-step.ensures.goes))
      | in-Over+in_ok-miss-in-Over w ↦ rw w.result-is (wants_over c.self.inside.execution c.next.new.self c.self.inside.found c.self.inside.wrong last w.in_ok-miss-in-Over.field-0 (sym c.take.ensures.value ∙ c.in_default.is) w.in_ok-miss-in-Over.ensures (subst (λ x. Goes c.self.inside.execution c.next.new.self x) w.in-Over.is c.in_ok-step.ensures.goes))
    ])
