-- An ask for data leaves a world's nodes as they should be, and its answer gives what was met and names who was made.
use Rattle.std.proofs.Common.{◌≡◌, inl, inr, ℕ, ◌+◌, ◌≤◌, Bool, true, false, cond, List, [], ◌∷◌, map, Option, Some, None, refl, sym, ap, ◌∙◌, subst, arith, Contains}
use Rattle.std.specs.Prelude.{IfSome, option_map}
use Rattle.std.specs.List.{AllByRecursion}
use Rattle.std.specs.Option.{option_map_or}
use Rattle.std.specs.Ordering.{eq_by_cmp}
use Rattle.std.specs.FinMap.Entries.{find as value_at, put}
use Rattle.ivy_base.specs.declared.key.Key.{Key}
use Rattle.ivy_base.specs.Naming.{key_cmp}
use Rattle.ring_model.specs.Circle.{number}
use Rattle.ring_model.specs.Members.{IsAmong}
use Rattle.ring_model.specs.Route.{nearer_part, owners_part}
use Rattle.ring_model.proofs.Lists.{all-among, all_weaker, all-both}
use Rattle.log_model.proofs.Lists.{here, there}
use Rattle.dht_ids.specs.Asked.{IsForData}
use Rattle.dht_ids.specs.Peers.{place}
use Rattle.dht_ids.specs.declared.ask.Answer.{Answer}
use Rattle.dht_ids.specs.declared.ask.Answer.TheVariants as answer
use Rattle.dht_ids.specs.declared.ask.Ask.{Ask}
use Rattle.dht_ids.specs.declared.ask.Ask.TheVariants as ask
use Rattle.dht_ids.specs.declared.ask.StoreFault.{StoreFault}
use Rattle.dht_ids.specs.declared.judge.Judged.{Judged}
use Rattle.dht_ids.specs.declared.peer.Peer.{Peer}
use Rattle.dhash_model.specs.Stores.{Block, Blocks, bytes_at, bytes_held, store_capacity, content, content_fault, head, head_fault}
use Rattle.dhash_model.specs.declared.kind.BlockKind.TheVariants.{Content, Head}
use Rattle.node_store.specs.Stores.{IsStore}
use Rattle.world_model.specs.Nodes.{Node, answered, stored}
use Rattle.world_model.specs.World.{World, node_at, peer_of, with_node}
use Rattle.world_model.specs.Fates.{FateOf, ask_counted}
use Rattle.world_model.specs.Fates.FateOf.{lost, stopped, answers}
use Rattle.round_laws.specs.RingOf.{AreNodes}
use Rattle.round_laws.proofs.Nodes.{at_among, at_id, made_by, made_shape, replaced}
use Rattle.round_laws.proofs.Standing.{IsBase, KeepsRing, fated, still_asked}
use Rattle.round_laws.proofs.Rounding.{base_of, nodes_of, shapes_of, within_of}
use Rattle.round_laws.proofs.Repairing.{put_keeps}
use Rattle.round_laws.proofs.Fixing.{routed}
use Rattle.world_laws.specs.Invariant.{IsAnswerIn}
use Rattle.world_laws.proofs.StoredBlocks.{put_each, put_store, room_for_content, room_for_head}

-- ---- lists

pub from_among : {X : Type 0} (x : X) (xs : List X) → IsAmong x xs → Contains xs x
from_among x [] h = absurd h
from_among x (y ∷ ys) (inl e) = subst (Contains (y ∷ ys)) e (here y ys)
from_among x (y ∷ ys) (inr h) = there y ys x (from_among x ys h)

-- ---- what nodes hold

-- it is a store of blocks that were met
abbrev pub HoldsMet : List (List ℕ) → Node → Type 0
HoldsMet met n = IsStore n.blocks × AllByRecursion (λ e. Contains met e.1.bytes) n.blocks

-- what is put was met
abbrev pub PutsMet : List (List ℕ) → Ask → Type 0
PutsMet met (ask.PutBlock key bytes) = Contains met bytes
PutsMet met (ask.PutHead key bytes) = Contains met bytes
PutsMet met _ = Unit {0}

pub each_replaced : (P : Node → Type 0) (n : Node) (nodes : List Node) → P n → AllByRecursion P nodes → AllByRecursion P (replaced n nodes)
each_replaced P n [] new h = tt
each_replaced P n (m ∷ nodes) new h = (by (eq_by_cmp key_cmp (peer_of m).id (peer_of n).id), each_replaced P n nodes new h.1)
  where
    by : (b : Bool) → P (cond b n m)
    by true = new
    by false = h.0

value_bytes : (met : List (List ℕ)) (key : Key) (blocks : Blocks) → AllByRecursion (λ e. Contains met e.1.bytes) blocks → IfSome (bytes_at key blocks) (Contains met)
value_bytes met key [] h = tt
value_bytes met key (e ∷ es) h = by (eq_by_cmp key_cmp key e.0) (value_bytes met key es h.1)
  where
    by : (b : Bool) → IfSome (bytes_at key es) (Contains met) → IfSome (option_map (λ (block : Block). block.bytes) (cond b (Some e.1) (value_at key_cmp key es))) (Contains met)
    by true later = h.0
    by false later = later

module _ (judged : Key → List ℕ → Option Judged) (met : List (List ℕ)) where
  stored_met : (n : Node) (key : Key) (block : Block) (fault : Option StoreFault) → (fault ≡ None → bytes_held (put key_cmp key block n.blocks) ≤ store_capacity) → Contains met block.bytes → HoldsMet met n → HoldsMet met (stored n key block fault).1
  stored_met n key block (Some fault) room new h = h
  stored_met n key block None room new h = (put_store key block n.blocks h.0 (room refl), put_each (λ b. Contains met b.bytes) key block n.blocks new h.1)

  pub answered_met : (n : Node) (question : Ask) → PutsMet met question → HoldsMet met n → HoldsMet met (answered judged n question).1
  answered_met n (ask.Route key) new h = h
  answered_met n ask.Near new h = h
  answered_met n (ask.Notify peer) new h = h
  answered_met n (ask.Get key) new h = h
  answered_met n (ask.PutBlock key bytes) new h = stored_met n key (content bytes) (content_fault key bytes n.blocks) (room_for_content key bytes n.blocks) new h
  answered_met n (ask.PutHead key bytes) new h = stored_met n key (head bytes) (head_fault judged key bytes n.blocks) (room_for_head judged key bytes n.blocks) new h

  -- after an ask by which only what was met is put each node holds what was met
  pub fate_met : (w next : World) (to : Peer) (question : Ask) (given : Answer) → PutsMet met question → AllByRecursion (HoldsMet met) w.nodes → FateOf judged w to question given next → AllByRecursion (HoldsMet met) next.nodes
  fate_met w _ to question _ new h (lost l) = h
  fate_met w _ to question _ new h (stopped n l is dead) = h
  fate_met w _ to question _ new h (answers n l is live) =
      each_replaced (HoldsMet met) (answered judged n question).1 w.nodes (answered_met n question new (all-among (HoldsMet met) n w.nodes h (at_among w.nodes to.id n is))) h

-- ---- the ring

-- an ask for data changes no node's part of the ring
keeps_ring : (judged : Key → List ℕ → Option Judged) (question : Ask) → IsForData question → KeepsRing judged question
keeps_ring judged (ask.Route key) h n = (refl, refl)
keeps_ring judged ask.Near h n = absurd h
keeps_ring judged (ask.Notify peer) h n = absurd h
keeps_ring judged (ask.Get key) h n = (refl, refl)
keeps_ring judged (ask.PutBlock key bytes) h n = put_keeps judged Content key bytes n
keeps_ring judged (ask.PutHead key bytes) h n = put_keeps judged Head key bytes n

pub fate_rest : {judged : Key → List ℕ → Option Judged} {w next : World} {to : Peer} {question : Ask} {answer : Answer} → FateOf judged w to question answer next → next ≡ record w { nodes = next.nodes; asked = next.asked }
fate_rest (lost l) = refl
fate_rest (stopped n l is dead) = refl
fate_rest (answers n l is live) = refl

pub record AskLeaves (r : ℕ) (w next : World) : Type 0 where
  pub rest : next ≡ record w { nodes = next.nodes; asked = next.asked }
  pub peers : map peer_of next.nodes ≡ map peer_of w.nodes
  pub ring : AreNodes r next

module _ (judged : Key → List ℕ → Option Judged) (r : ℕ) (w : World) (ring : AreNodes r w) where
  base : IsBase r (shapes_of w) w.lost w.asked w.asked
  base = base_of r w w.asked ring (λ k above most. absurd (omega (arith, above, most)))

  pub ask_leaves : (next : World) (to : Peer) (question : Ask) (given : Answer) → IsForData question → FateOf judged w to question given next → AskLeaves r w next
  ask_leaves next to question given for_data fate =
      let within = within_of r w ring in
      let after = still_asked judged r (shapes_of w) w.lost w.asked w.asked base w next to question given within (keeps_ring judged question for_data)
      (fated judged r (shapes_of w) w.lost w.asked w.asked base w next to question given within fate) in
      record {
        rest = fate_rest fate;
        peers = made_shape next.nodes ∙ ap made_by after.within.shapes ∙ sym (made_shape w.nodes);
        ring = nodes_of r (shapes_of w) w.lost w.asked w.asked next base after.within;
      }

  -- ---- answers

  among_made : (ps : List Peer) → AllByRecursion (λ p. IsAmong p (made_by (shapes_of w))) ps → AllByRecursion (Contains (map peer_of w.nodes)) ps
  among_made ps h = all_weaker _ _ ps (λ p i. from_among p (map peer_of w.nodes) (subst (IsAmong p) (sym (made_shape w.nodes)) i)) h

  among_peers : (n : Node) (nodes : List Node) → IsAmong n nodes → IsAmong (peer_of n) (map peer_of nodes)
  among_peers n [] h = absurd h
  among_peers n (m ∷ nodes) (inl e) = inl (ap peer_of e)
  among_peers n (m ∷ nodes) (inr h) = inr (among_peers n nodes h)

  stored_answer : (n : Node) (key : Key) (block : Block) (fault : Option StoreFault) → IsAnswerIn w (stored n key block fault).0
  stored_answer n key block (Some fault) = tt
  stored_answer n key block None = tt

  found_answer : (o : Option (List ℕ)) → IfSome o (Contains w.met) → IsAnswerIn w (option_map_or (λ bytes. answer.Found bytes) o answer.Nothing)
  found_answer None h = tt
  found_answer (Some bytes) h = h

  -- what a live node answers
  answer_of : (to : Peer) (question : Ask) (n : Node) → (Contains w.lost (w.asked + 1) → ⊥) → node_at w to.id ≡ Some n → n.is_live ≡ true → IsForData question → HoldsMet w.met n → IsAnswerIn w (answered judged n question).0
  answer_of to (ask.Route key) n l is live for_data h = all-both _ _ _ (among_made _ made.0) (among_made _ made.1)
    where
      made : AllByRecursion (λ q. IsAmong q (made_by (shapes_of w))) (nearer_part place n.ring.me n.ring.links (number key)) × AllByRecursion (λ q. IsAmong q (made_by (shapes_of w))) (owners_part place n.ring.replicas n.ring.me n.ring.links.list (number key))
      made =
          (routed judged r (shapes_of w) w.lost w.asked w.asked base key (peer_of n, (answered judged n (ask.Route key)).0) w (with_node (ask_counted w) (answered judged n (ask.Route key)).1) (within_of r w ring)
          (subst (IsAmong (peer_of n)) (made_shape w.nodes) (among_peers n w.nodes (at_among w.nodes to.id n is)))
          (answers n l (subst (λ id. node_at w id ≡ Some n) (sym (at_id w.nodes to.id n is)) is) live)).made
  answer_of to ask.Near n l is live for_data h = absurd for_data
  answer_of to (ask.Notify peer) n l is live for_data h = absurd for_data
  answer_of to (ask.Get key) n l is live for_data h = found_answer (bytes_at key n.blocks) (value_bytes w.met key n.blocks h.1)
  answer_of to (ask.PutBlock key bytes) n l is live for_data h = stored_answer n key (content bytes) (content_fault key bytes n.blocks)
  answer_of to (ask.PutHead key bytes) n l is live for_data h = stored_answer n key (head bytes) (head_fault judged key bytes n.blocks)

  -- so is each answer
  pub answer_is_in : (to : Peer) (question : Ask) (next : World) (given : Answer) → IsForData question → AllByRecursion (HoldsMet w.met) w.nodes → FateOf judged w to question given next → IsAnswerIn w given
  answer_is_in to question _ _ for_data h (lost l) = tt
  answer_is_in to question _ _ for_data h (stopped n l is dead) = tt
  answer_is_in to question _ _ for_data h (answers n l is live) = answer_of to question n l is live for_data (all-among (HoldsMet w.met) n w.nodes h (at_among w.nodes to.id n is))
