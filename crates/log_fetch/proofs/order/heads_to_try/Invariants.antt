use Rattle.std.proofs.Common.{◌≡◌, map, take}
use Rattle.log_model.specs.Vector.{seq_of}
use Rattle.session_model.specs.Brought.{stamp_of}
use Rattle.session_model.specs.Walks.{AreTried}
use Rattle.log_fetch.proofs.order.heads_to_try.Given as goal

-- of the heads so far those that go further are in their order
abbrev pub invariant-heads : goal.invariant-heads
invariant-heads l = record {
  reached : l.reached ≡ seq_of l.floor l.log;
  tried : AreTried l.reached (map stamp_of (take l.head-index l.heads)) (map stamp_of l.tried.items);
}
