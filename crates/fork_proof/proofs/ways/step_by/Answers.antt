use Rattle.std.proofs.Common.{◌≡◌, List, ℕ, Some, Option, option_map, ap}
use Rattle.ivy_base.specs.declared.key.Key.{Key}
use Rattle.fork_proof.proofs.WaysDown.{told}
use Rattle.fork_proof.proofs.ways.step_by.Goals as goal

pub returns-in-Some : goal.returns-in-Some
returns-in-Some c = λ before tells.
    ap (option_map (λ (prev : Key). (c.args.block.now, prev))) (told before tells c.args.owner.now c.args.seq c.args.block.now (Some c.in-Some.prev) (rw c.in-Some.is at c.in_ok-prev.ensures))
