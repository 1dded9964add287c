use Rattle.std.proofs.Common.{◌≡◌, ◌∙◌}
use Rattle.fork_proof.proofs.WaysDown.{ok_more, step_found}
use Rattle.fork_proof.proofs.ways.step_down.Goals as goal

pub returns-in-Some : goal.returns-in-Some
returns-in-Some c =
    ok_more (λ found h before tells. h before tells ∙ step_found before c.args.blocks.now c.args.owner.now c.args.seq c.args.name.now c.in-Some.block.now c.in-Some.ensures) c.step_by.result c.step_by.ensures
