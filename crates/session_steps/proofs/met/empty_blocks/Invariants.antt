use Rattle.std.proofs.Common.{◌≡◌, length}
use Rattle.session_steps.proofs.met.empty_blocks.Given as goal

abbrev pub invariant-slots : goal.invariant-slots
invariant-slots l = length l.blocks.items ≡ l.counter
