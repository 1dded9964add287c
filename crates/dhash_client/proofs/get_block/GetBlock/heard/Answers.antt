use Rattle.std.proofs.Common.{subst}
use Rattle.dhash_client.specs.Execution.{Hears}
use Rattle.dhash_client.specs.GetBlock.{BlockState, BlockHasHeard}
use Rattle.dhash_client.proofs.BlockGets.{block_heard_route, block_heard_owner}
use Rattle.dhash_client.proofs.get_block.GetBlock.heard.Goals as goal

pub returns-in-Some-clause-heard : goal.returns-in-Some-clause-heard
returns-in-Some-clause-heard c =
    subst (λ s. BlockHasHeard s c.take.new.self c.args.answer) c.self.view_is
    (block_heard_owner c.self.inside.execution c.heard.new.self c.self.inside.found c.self.inside.wrong c.take.new.self c.in-Some.node c.args.answer c.in-Some.answer c.answers_get-counts.result
    (subst (λ x. Hears c.self.inside.execution c.heard.new.self c.args.answer c.answers_get-counts.result x) c.in-Some.is c.in_ok-node.ensures.hears) c.answers_get-counts.ensures c.take.ensures.execution c.take.ensures.takes)

pub returns-in_default-clause-heard : goal.returns-in_default-clause-heard
returns-in_default-clause-heard c =
    let last : BlockState = record { execution = c.heard.new.self; found = c.self.inside.found; wrong = c.self.inside.wrong } in
    subst (λ s. BlockHasHeard s last c.args.answer) c.self.view_is
    (block_heard_route c.self.inside.execution c.heard.new.self c.self.inside.found c.self.inside.wrong c.args.answer c.answers_get-counts.result
    (subst (λ x. Hears c.self.inside.execution c.heard.new.self c.args.answer c.answers_get-counts.result x) c.in_default.is c.in_ok-node.ensures.hears))
