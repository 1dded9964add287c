use Rattle.std.proofs.Common.{length, reverse}
use Rattle.dhash_client.specs.Machine.{IsRest}
use Rattle.dhash_client.proofs.lookup.next_of.Given as goal

abbrev pub invariant-loop-node : goal.invariant-loop-node
invariant-loop-node l = IsRest (reverse l.asked) l.initial.rest.items l.rest.items

abbrev pub decreases-loop-node : goal.decreases-loop-node
decreases-loop-node l = length l.rest.items
