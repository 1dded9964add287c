-- Steps of the parts of a round.
use Rattle.std.specs.Prelude.{◌≡◌, ℕ, List, Option, Some, None, Result, Ok, Err}
use Rattle.ivy_base.specs.declared.key.Key.{Key}
use Rattle.ring_model.specs.Members.{first}
use Rattle.dht_ids.specs.declared.judge.Judged.{Judged}
use Rattle.dht_ids.specs.declared.peer.Peer.{Peer}
use Rattle.dhash_model.specs.declared.miss.Miss.{Miss}
use Rattle.world_model.specs.Nodes.{Node}
use Rattle.world_model.specs.World.{World, node_at}
use Rattle.world_model.specs.Rounds.{Notifies}

-- the first of the list of the peer's node is notified of the peer
abbrev pub NotifiesFirst : (Key → List ℕ → Option Judged) → Peer → World → World → Type 0
NotifiesFirst judged p w next = (n : Node) × (node_at w p.id ≡ Some n) × Notifies judged p w n.ring.links.list next

-- the first owner that was found
abbrev pub first_found : Result (List Peer) Miss → Option Peer
first_found (Ok owners) = first owners
first_found (Err miss) = None
