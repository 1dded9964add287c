use Rattle.std.proofs.Common.{◌≡◌, map, take}
use Rattle.ring_run.proofs.seat.peers_of.Given as goal

-- the peers so far
abbrev pub invariant-seats : goal.invariant-seats
invariant-seats l = l.peers.items ≡ map (λ s. s.peer) (take l.seat-index l.seats)
