use Rattle.std.proofs.Common.{◌≡◌, ◌++◌, take, filter, nat_lt, not}
use Rattle.ring_model.specs.Circle.{number}
use Rattle.dht_ids.specs.Peers.{place}
use Rattle.ring_nodes.proofs.order.from_key.Given as goal

-- those after the key so far
abbrev pub invariant-behind : goal.invariant-behind
invariant-behind l = l.peers.items ≡ filter (λ m. not (nat_lt (place m) (number l.key))) (take l.peer-index l.live)

-- all of them, and those before it so far
abbrev pub invariant-front : goal.invariant-front
invariant-front l = l.peers.items ≡ filter (λ m. not (nat_lt (place m) (number l.key))) l.live ++ filter (λ m. nat_lt (place m) (number l.key)) (take l.peer-index l.live)
