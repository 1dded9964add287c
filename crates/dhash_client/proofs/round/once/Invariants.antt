use Rattle.std.proofs.Common.{[], take}
use Rattle.ring_model.specs.Gets.{AreFirsts}
use Rattle.dhash_client.proofs.round.once.Given as goal

abbrev pub invariant-loop-peer : goal.invariant-loop-peer
invariant-loop-peer l = AreFirsts [] (take l.peer-index l.peers) l.once.items
