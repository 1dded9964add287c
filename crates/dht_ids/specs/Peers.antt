-- Where nodes stand.
use Rattle.std.specs.Prelude.{ℕ}
use Rattle.ring_model.specs.Circle.{number}
use Rattle.dht_ids.specs.declared.peer.Peer.{Peer}

-- a node's place on the circle is the number of its identifier
abbrev pub place : Peer → ℕ
place peer = number peer.id
