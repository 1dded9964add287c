-- What a line names.
use Rattle.std.proofs.Common.{◌≡◌, ℕ, ◌-◌, suc, zero, Bool, true, false, cond, List, [], ◌∷◌, inl, inr, map, drop, refl, sym, ap, ◌∙◌, subst, Option, Some, None}
use Rattle.std.specs.Prelude.{◌==◌, filter, find, nat_lt, option_map, IfOk, Result, Ok, Err}
use Rattle.ivy_base.specs.declared.memory.Memory.{Memory}
use Rattle.ivy_base.specs.declared.key.Key.{Key}
use Rattle.dht_ids.specs.declared.peer.Peer.{Peer}
use Rattle.dht_ids.specs.Peers.{place}
use Rattle.ring_model.specs.Circle.{number}
use Rattle.ring_model.specs.Members.{IsAmong, first, from_place, owners}
use Rattle.ring_model.proofs.Lists.{among-cases, among_filtered, among_take, first_among, none_some, some_same}
use Rattle.round_laws.proofs.Nodes.{at_made}
use Rattle.round_laws.proofs.Order.{fold_among}
use Rattle.script_model.specs.declared.command.KeyWord.{KeyWord}
use Rattle.script_model.specs.declared.command.NodeWord.TheVariants as node
use Rattle.script_model.specs.Words.{◌>>=◌}
use Rattle.world_model.specs.Faults.{key_named, node_named, owner_of_key}
use Rattle.world_model.specs.Nodes.{Node}
use Rattle.world_model.specs.Ring.{live_in_order}
use Rattle.world_model.specs.World.{Participant, World, live_peers, node_at, peer_of}
use Rattle.ring_nodes.specs.NodesState.{AreSound, IsNodesOf, IsPeerOf, NodesState, node_of}
use Rattle.script_participants.specs.ParticipantState.{ParticipantState, state_of}
use Rattle.script_world.specs.PartsState.{HasParts, PartsState, record_by}

-- ---- a node and its peer

pub peer_is : (s : NodesState) (named : Option Node) (p : Peer) → IsPeerOf s named (Some p) → named ≡ node_of s p.id
peer_is s None p is = absurd (none_some p (sym is))
peer_is s (Some n) p is = sym is.1 ∙ ap (λ (q : Peer). node_of s q.id) (sym (some_same p (peer_of n) is.0))

-- ---- a key's owners were made

among_drop : {X : Type 0} (k : ℕ) (x : X) (xs : List X) → IsAmong x (drop k xs) → IsAmong x xs
among_drop zero x xs is = is
among_drop (suc k) x [] is = is
among_drop (suc k) x (y ∷ xs) is = inr (among_drop k x xs is)

live_made : (p : Peer) (nodes : List Node) → IsAmong p (map peer_of (filter (λ (n : Node). n.is_live) nodes)) → IsAmong p (map peer_of nodes)
live_made p nodes is = mapped (filter (λ (n : Node). n.is_live) nodes) nodes (λ n among. among_filtered (λ (n : Node). n.is_live) n nodes among) is
  where
    there : (n : Node) (ns : List Node) → IsAmong n ns → IsAmong (peer_of n) (map peer_of ns)
    there n [] is = is
    there n (m ∷ ns) (inl same) = inl (ap peer_of same)
    there n (m ∷ ns) (inr is) = inr (there n ns is)

    mapped : (ms ns : List Node) → ((n : Node) → IsAmong n ms → IsAmong n ns) → IsAmong p (map peer_of ms) → IsAmong p (map peer_of ns)
    mapped [] ns all is = absurd is
    mapped (m ∷ ms) ns all (inl same) = subst (λ (q : Peer). IsAmong q (map peer_of ns)) same (there m ns (all m (inl refl)))
    mapped (m ∷ ms) ns all (inr is) = mapped ms ns (λ n among. all n (inr among)) is

owner_made : (w : World) (r count : ℕ) (k : Key) (p : Peer) → owner_of_key w r count k ≡ Some p → IsAmong p (map peer_of w.nodes)
owner_made w r count k p is = live_made p w.nodes (by (nat_lt 0 count) is)
  where
    ordered : IsAmong p (live_in_order w) → IsAmong p (live_peers w)
    ordered among = elim (fold_among p [] (live_peers w) among) [
      | inl nobody ↦ absurd nobody
      | inr is ↦ is
    ]

    placed : IsAmong p (from_place place (live_in_order w) (number k)) → IsAmong p (live_in_order w)
    placed among = elim (among-cases p (filter _ (live_in_order w)) (filter _ (live_in_order w)) among) [
      | inl is ↦ among_filtered _ p (live_in_order w) is
      | inr is ↦ among_filtered _ p (live_in_order w) is
    ]

    by : (t : Bool) → cond t (first (drop (count - 1) (owners place r (live_in_order w) (number k)))) None ≡ Some p → IsAmong p (live_peers w)
    by true e = ordered (placed (among_take r p _ (among_drop (count - 1) p _ (first_among _ p e))))
    by false e = absurd (none_some p e)

module _ (w : World) (s : PartsState) (has : HasParts w s) where
  named_by : (count : ℕ) (word : KeyWord) (r : ℕ) (k : Key) → s.replicas ≡ Some r → Some k ≡ key_named w word
      → node_named w (node.OwnerOf count word) ≡ (owner_of_key w r count k >>= λ p. node_at w p.id)
  named_by count word r k ring key =
      ap (λ (o : Option ℕ). o >>= λ r. key_named w word >>= λ k. owner_of_key w r count k >>= λ p. node_at w p.id) (has.replicas ∙ ring)
      ∙ ap (λ (o : Option Key). o >>= λ k. owner_of_key w r count k >>= λ p. node_at w p.id) (sym key)

  owned : (r count : ℕ) (k : Key) (p : Option Peer) → AreSound s.nodes.nodes → p ≡ owner_of_key w r count k → IsPeerOf s.nodes (p >>= λ p. node_at w p.id) p
  owned r count k None sound is = refl
  owned r count k (Some p) sound is =
      let made : IsAmong p (map peer_of s.nodes.nodes) = subst (λ (ns : List Node). IsAmong p (map peer_of ns)) has.nodes.0 (owner_made w r count k p (sym is)) in
      let its = at_made s.nodes.nodes p sound.apart made in
      let there : node_at w p.id ≡ Some its.0 = ap (λ (ns : List Node). node_of (record s.nodes { nodes = ns }) p.id) has.nodes.0 ∙ its.1 in
      subst (λ (o : Option Node). IsPeerOf s.nodes o (Some p)) (sym there) (ap (λ (q : Peer). Some q) (sym its.2), ap (λ (q : Peer). node_of s.nodes q.id) its.2 ∙ its.1)

  pub owner_in : (count : ℕ) (word : KeyWord) (r : ℕ) (k : Key) (p : Option Peer) → s.replicas ≡ Some r → Some k ≡ key_named w word → AreSound s.nodes.nodes → p ≡ owner_of_key w r count k
      → IsPeerOf s.nodes (node_named w (node.OwnerOf count word)) p
  owner_in count word r k p ring key sound is =
      subst (λ (o : Option Node). IsPeerOf s.nodes o p) (sym (named_by count word r k ring key ∙ ap (λ (o : Option Peer). o >>= λ p. node_at w p.id) (sym is)))
      (owned r count k p sound is)

-- ---- a record that a log's agent made

pub record_in : (seq : ℕ) (o : Option Participant) (x : ParticipantState) (found : Option Key) → Some x ≡ option_map state_of o → found ≡ option_map (λ (m : ℕ × Key). m.1) (find (λ (m : ℕ × Key). m.0 == seq) x.made) → found ≡ record_by seq o
record_in seq None x found e is = absurd (none_some x (sym e))
record_in seq (Some p) x found e is = is ∙ ap (λ (y : ParticipantState). option_map (λ (m : ℕ × Key). m.1) (find (λ (m : ℕ × Key). m.0 == seq) y.made)) (some_same x (state_of p) e)

-- ---- whatever the error is

pub owners_in : (s : PartsState) (count : ℕ) (word : KeyWord) (r : ℕ) (k : Key) (result : Result (Option Peer) Memory) → s.replicas ≡ Some r → ((w : World) → HasParts w s → Some k ≡ key_named w word) → AreSound s.nodes.nodes
    → IfOk result (λ (p : Option Peer). (w : World) → IsNodesOf w s.nodes → p ≡ owner_of_key w r count k) → IfOk result (λ (p : Option Peer). (w : World) → HasParts w s → IsPeerOf s.nodes (node_named w (node.OwnerOf count word)) p)
owners_in s count word r k (Ok p) ring key sound told = λ w has. owner_in w s has count word r k p ring (key w has) sound (told w has.nodes)
owners_in s count word r k (Err e) ring key sound told = tt
