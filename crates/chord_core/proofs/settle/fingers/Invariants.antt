use Rattle.dhash_model.specs.Settled.{AreFingers}
use Rattle.chord_core.proofs.settle.fingers.Given as goal

abbrev pub invariant-loop-bit : goal.invariant-loop-bit
invariant-loop-bit l = AreFingers l.live l.me l.bit l.fingers.items
