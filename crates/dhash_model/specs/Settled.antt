-- A node of a settled ring.
use Rattle.std.specs.Prelude.{◌≡◌, ℕ, ◌*◌, ◌<◌, List, length, take, None}
use Rattle.std.specs.List.{last_or}
use Rattle.dht_ids.specs.declared.peer.Peer.{Peer}
use Rattle.dht_ids.specs.Peers.{place}
use Rattle.ring_model.specs.Circle.{identifier_bits}
use Rattle.ring_model.specs.Members.{following}
use Rattle.ring_model.specs.Ring.{IsFinger}
use Rattle.dhash_model.specs.State.{State}

-- that many fingers of the node are right, among members that ascend by place
pub record AreFingers (live : List Peer) (me : Peer) (count : ℕ) (fingers : List Peer) : Type 0 where
  pub sized : length fingers ≡ count
  pub right : (k : ℕ) → k < count → IsFinger place identifier_bits live me k fingers

-- what the node `me` knows in a settled ring of these members, which ascend by place: the next 2r members, the
-- member before it, where there is another, and its fingers, one for each bit
pub record IsSettledNode (live : List Peer) (me : Peer) (r : ℕ) (node : State) : Type 0 where
  pub itself : node.me ≡ me
  pub replicas : node.replicas ≡ r
  pub list : node.links.list ≡ take (2 * r) (following place live me)
  pub before : node.links.before ≡ last_or None (following place live me)
  pub fingers : AreFingers live me identifier_bits node.links.fingers
