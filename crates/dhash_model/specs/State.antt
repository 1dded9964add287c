-- What a node of the ring keeps, and what it makes of what it hears.
use Rattle.std.specs.Prelude.{ℕ, ◌*◌, List, [], ◌∷◌, take, filter, replicate, None}
use Rattle.dht_ids.specs.declared.ask.Answer.{Answer}
use Rattle.dht_ids.specs.declared.ask.Answer.TheVariants as answer
use Rattle.dht_ids.specs.declared.peer.Peer.{Peer}
use Rattle.dht_ids.specs.Peers.{place}
use Rattle.ring_model.specs.Circle.{identifier_bits}
use Rattle.ring_model.specs.Members.{is_other}
use Rattle.ring_model.specs.Ring.{Links}
use Rattle.ring_model.specs.Pass.{renewed}

-- a node: itself, how many nodes own a key, and what it knows of others
pub record State : Type 0 where
  pub me : Peer
  pub replicas : ℕ
  pub links : Links Peer

-- the node, which knows this of others now
abbrev pub with_links : State → Links Peer → State
with_links node links = record node { links = links }

-- the node with that list of its next members
abbrev pub with_list : State → List Peer → State
with_list node list = record node { links = record node.links { list = list } }

-- a node that knows of nobody: each of its fingers is itself
abbrev pub alone_node : Peer → ℕ → State
alone_node me replicas = record {
  me = me;
  replicas = replicas;
  links = record { list = []; before = None; fingers = replicate identifier_bits me };
}

-- the first list of a joining node: the entries that stand elsewhere, at most 2r
abbrev pub adopted : State → List Peer → List Peer
adopted node list = take (2 * node.replicas) (filter (is_other place node.me) list)

-- the list of a node after the first entry of its list answered so, or didn't
abbrev pub stabilised : State → List Peer → Answer → List Peer
stabilised node [] heard = []
stabilised node (first ∷ rest) (answer.Near before list) = renewed place node.replicas node.me first before list
stabilised node (first ∷ rest) answer.Silent = rest
stabilised node (first ∷ rest) (answer.Route nearer owners) = first ∷ rest
stabilised node (first ∷ rest) (answer.Found bytes) = first ∷ rest
stabilised node (first ∷ rest) answer.Nothing = first ∷ rest
stabilised node (first ∷ rest) answer.Stored = first ∷ rest
stabilised node (first ∷ rest) (answer.Refused fault) = first ∷ rest
stabilised node (first ∷ rest) answer.Noted = first ∷ rest
