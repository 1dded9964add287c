use Rattle.std.proofs.Common.{◌≡◌, map, take}
use Rattle.ring_nodes.proofs.repairing.keys_of.Given as goal

-- the keys of those that were passed
abbrev pub invariant-acks : goal.invariant-acks
invariant-acks l = l.keys.items ≡ map (λ a. a.key) (take l.ack-index l.acks)
