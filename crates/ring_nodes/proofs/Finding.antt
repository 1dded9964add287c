-- Nodes that are found, and their peers.
use Rattle.std.proofs.Common.{◌≡◌, inl, inr, ℕ, Bool, true, false, cond, List, [], ◌∷◌, map, find, get_or, refl, sym, ap, ◌∙◌, subst, Option, Some, None}
use Rattle.std.specs.List.{position}
use Rattle.ivy_base.specs.declared.key.Key.{Key}
use Rattle.ring_model.specs.Members.{IsAmong}
use Rattle.ring_model.proofs.Lists.{none_some, some_same}
use Rattle.dht_ids.specs.declared.peer.Peer.{Peer}
use Rattle.world_model.specs.Nodes.{Node}
use Rattle.world_model.specs.World.{peer_of}
use Rattle.round_laws.specs.RingOf.{AreApart}
use Rattle.round_laws.proofs.Rounding.{at_own}
use Rattle.ring_nodes.specs.NodesState.{NodesState, IsPeerOf, held_by, node_of}
use Rattle.ring_nodes.proofs.Places.{found_at, has_id, none_found}

found_among : (p : Node → Bool) (nodes : List Node) (n : Node) → find p nodes ≡ Some n → IsAmong n nodes
found_among p [] n e = absurd (none_some n e)
found_among p (m ∷ nodes) n e = by (p m) e (λ f. found_among p nodes n f)
  where
    by : (t : Bool) → cond t (Some m) (find p nodes) ≡ Some n → (find p nodes ≡ Some n → IsAmong n nodes) → IsAmong n (m ∷ nodes)
    by true f later = inl (some_same m n f)
    by false f later = inr (later f)

pub peer_found : (s : NodesState) (p : Node → Bool) (n : Node) → AreApart (map peer_of s.nodes) → find p s.nodes ≡ Some n → IsPeerOf s (find p s.nodes) (Some (peer_of n))
peer_found s p n apart e = subst (λ o. IsPeerOf s o (Some (peer_of n))) (sym e) (refl, at_own s.nodes n apart (found_among p s.nodes n e))

pub no_peer : (s : NodesState) (o : Option Node) (result : Option Peer) → o ≡ None → result ≡ None → IsPeerOf s o result
no_peer s o result e none = subst (λ x. IsPeerOf s x result) (sym e) none

-- the node that a walk found
pub found_node : (s : NodesState) (id : Key) (i : ℕ) (old : Node) → position (has_id id) s.nodes ≡ Some i → old ≡ get_or s.nodes i old → Some old ≡ node_of s id
found_node s id i old found is = ap (λ (n : Node). Some n) is ∙ sym (found_at (has_id id) s.nodes i old found)

pub no_node : (s : NodesState) (id : Key) → position (has_id id) s.nodes ≡ None → None ≡ held_by (node_of s id)
no_node s id none = ap held_by (sym (none_found (has_id id) s.nodes none))
