-- Lines that change the ring leave a world in which the invariant holds.
use Rattle.std.proofs.Common.{◌≡◌, ◌≢◌, inl, inr, ⊎_elim, ℕ, zero, suc, ◌*◌, ◌<◌, ◌≤◌, Bool, true, false, cond, ◌&&◌, ◌||◌, not, List, [], ◌∷◌, ◌++◌, length, filter, Option, Some, None, refl, sym, ap, ◌∙◌, subst, arith, Contains, nat_lt, nat_le}
use Rattle.std.specs.Prelude.{◌==◌, IfSome, is_some, map, fold, replicate}
use Rattle.std.specs.List.{AllByRecursion}
use Rattle.std.proofs.lemmas.Bool.{leb-false}
use Rattle.std.proofs.lemmas.List.{length-map}
use Rattle.std.proofs.lemmas.List.Elements.{Contains-append_left}
use Rattle.ring_model.specs.Members.{IsAmong, is_other}
use Rattle.ring_model.proofs.Lists.{all-among, all_from, all_weaker, all-both, among-left, among-right, among_filtered}
use Rattle.ivy_base.specs.declared.key.Key.{Key}
use Rattle.dhash_model.specs.Signed.{hss_judged}
use Rattle.dhash_model.specs.State.{alone_node}
use Rattle.dhash_model.specs.Stores.{Blocks}
use Rattle.dht_ids.specs.Asked.{routes}
use Rattle.dht_ids.specs.NodeIds.{node_id_of}
use Rattle.dht_ids.specs.Peers.{place}
use Rattle.dht_ids.specs.declared.ask.Answer.{Answer}
use Rattle.dht_ids.specs.declared.ask.Ask.{Ask}
use Rattle.dht_ids.specs.declared.judge.Judged.{Judged}
use Rattle.dht_ids.specs.declared.peer.Peer.{Peer}
use Rattle.node_store.specs.Stores.{IsStore}
use Rattle.node_store.proofs.Held.{empty_valid}
use Rattle.round_laws.specs.Holding.{AreStores}
use Rattle.round_laws.specs.RingOf.{AreNamed, AreNodes, IsSettledIn, KnowsOnly}
use Rattle.round_laws.specs.RingOf.{AreApart as StandApart}
use Rattle.round_laws.proofs.Nodes.{made_by, made_shape}
use Rattle.round_laws.proofs.Standing.{IsBase}
use Rattle.round_laws.proofs.Renewing.{all_take}
use Rattle.round_laws.proofs.Ringing.{apart_with, is_known, one_id, ring_line_settles}
use Rattle.round_laws.proofs.Rounding.{base_of, leaves_the_rest, leaves_who_lives, nodes_of, shapes_of, within_of}
use Rattle.round_laws.proofs.Fixing.{Looked, look_up}
use Rattle.script_driver.specs.Run.{Outcome}
use Rattle.world_model.specs.Nodes.{Node}
use Rattle.world_model.specs.World.{World, NamedSession, live_peers, peer_of}
use Rattle.world_model.specs.GhostState.{began_of}
use Rattle.world_model.specs.Fates.{Fates}
use Rattle.world_model.specs.Fates.Fates.{none as fates_none, more as fates_more}
use Rattle.world_model.specs.Ring.{AreSettled, JoinLine, LooksUp, RingLine, empty_node, first_peers, in_ring_order, is_known_id, joined_node, least, peer_numbered, with_new_node}
use Rattle.world_model.specs.Ring.AreSettled.{none as settled_none, more as settled_more}
use Rattle.world_model.specs.Ring.RingLine.{refused as ring_refused, exceeds as ring_exceeds, makes as ring_makes}
use Rattle.world_model.specs.Ring.JoinLine.{before_ring as join_before_ring, known as join_known, exceeds as join_exceeds, alone as join_alone, joins as join_joins, fails as join_fails}
use Rattle.world_model.specs.Rounds.{RoundLine}
use Rattle.world_model.specs.Rounds.RoundLine.{before_ring as round_before_ring, goes as round_goes}
use Rattle.world_model.specs.Logs.{Played}
use Rattle.world_laws.specs.Invariant.{AreSound, GoesOn, HasRing, IsSoundSession, Invariant}
use Rattle.world_laws.specs.Frames.{AreOfRing, JoinLinesKeep, RingLinesKeep, RoundLinesKeep}
use Rattle.world_laws.proofs.Frames.{no_changes, nodes_of_ring, ring_keeps, ring_of, unchanged_within_frame, world_changes}
use Rattle.world_laws.proofs.Lines.{Keeping, by_world}
use Rattle.world_laws.proofs.MoreMet.{some_weaker}
use Rattle.world_laws.proofs.NodeFates.{HoldsMet, fate_rest}
use Rattle.world_laws.proofs.RoundBlocks.{round_hold, routes_hold}

-- ---- rounds

round_keeps : (w : Played) → Invariant w → (replicas : Option ℕ) → w.0.replicas ≡ replicas → (o : Outcome World) → RoundLine hss_judged w.0 replicas o → Keeping w.1 o
round_keeps w keeps _ ringed _ round_before_ring = tt
round_keeps w keeps _ ringed _ (round_goes r next round) =
    let ring = nodes_of_ring w r keeps ringed in
    let after = leaves_who_lives hss_judged r w.0 next ring round in
    ring_keeps w r next w.1.acked keeps ringed (leaves_the_rest hss_judged r w.0 next round).0 after.0 after.3 (round_hold w.0.met round keeps.met.held)

pub round_lines_keep : RoundLinesKeep
round_lines_keep w next output keeps does = by_world w.1 does.0 next output does.2 (round_keeps w keeps w.0.replicas refl does.0 does.1)

-- ---- look-ups

pub fates_rest : {judged : Key → List ℕ → Option Judged} {w next : World} {asks : List (Peer × (Ask × Answer))} → Fates judged w asks next → next ≡ record w { nodes = next.nodes; asked = next.asked }
fates_rest fates_none = refl
fates_rest (fates_more {w} {mid} {next} {rest} to question answer fate others) = fates_rest others ∙ ap (λ (v : World). record v { nodes = next.nodes; asked = next.asked }) (fate_rest fate)

record LookedUp (w : Played) (r : ℕ) (found : Option (List Peer)) (mid : World) : Type 0 where
  keeps : Invariant (mid, w.1)
  peers : map peer_of mid.nodes ≡ map peer_of w.0.nodes
  ringed : mid.replicas ≡ Some r
  made : IfSome found (AllByRecursion (λ q. IsAmong q (map peer_of mid.nodes)))

looked_up : (w : Played) (r : ℕ) → Invariant w → w.0.replicas ≡ Some r → (key : Key) (through : Peer) (found : Option (List Peer)) (mid : World) → IsAmong through (map peer_of w.0.nodes) → LooksUp hss_judged w.0 key (through ∷ []) found mid
    → LookedUp w r found mid
looked_up w r keeps ringed key through found mid among looks = record {
  keeps = ring_keeps w r mid w.1.acked keeps ringed rest (nodes_of r (shapes_of w.0) w.0.lost w.0.asked w.0.asked mid base looked.within) same (routes_hold w.0.met key looks.looks looks.fates keeps.met.held);
  peers = same;
  ringed = ap (λ (v : World). v.replicas) rest ∙ ringed;
  made = subst (λ (ps : List Peer). IfSome found (AllByRecursion (λ q. IsAmong q ps))) (sym (made_shape mid.nodes ∙ ap made_by looked.within.shapes)) looked.made;
}
  where
    ring : AreNodes r w.0
    ring = nodes_of_ring w r keeps ringed

    base : IsBase r (shapes_of w.0) w.0.lost w.0.asked w.0.asked
    base = base_of r w.0 w.0.asked ring (λ k above most. absurd (omega (arith, above, most)))

    looked : Looked hss_judged r (shapes_of w.0) w.0.lost w.0.asked w.0.asked base key (routes looks.looks) found w.0 mid
    looked = look_up hss_judged r (shapes_of w.0) w.0.lost w.0.asked w.0.asked base key through found w.0 mid (within_of r w.0 ring) (subst (IsAmong through) (made_shape w.0.nodes) among) looks

    rest : mid ≡ record w.0 { nodes = mid.nodes; asked = mid.asked }
    rest = fates_rest looks.fates

    same : map peer_of mid.nodes ≡ map peer_of w.0.nodes
    same = made_shape mid.nodes ∙ ap made_by looked.within.shapes ∙ sym (made_shape w.0.nodes)

-- ---- a node more

peers_more : (nodes : List Node) (n : Node) → map peer_of (nodes ++ n ∷ []) ≡ map peer_of nodes ++ peer_of n ∷ []
peers_more [] n = refl
peers_more (m ∷ nodes) n = ap (λ (ps : List Peer). peer_of m ∷ ps) (peers_more nodes n)

one_longer : (nodes : List Node) (n : Node) → length (nodes ++ n ∷ []) ≡ suc (length nodes)
one_longer [] n = refl
one_longer (m ∷ nodes) n = ap suc (one_longer nodes n)

replicated : (P : Peer → Type 0) (p : Peer) (k : ℕ) → P p → AllByRecursion P (replicate k p)
replicated P p zero h = tt
replicated P p (suc k) h = (h, replicated P p k h)

record IsNew (w : World) (r number : ℕ) (n : Node) : Type 0 where
  me : peer_of n ≡ peer_numbered number
  blocks : n.blocks ≡ []
  replicas : n.ring.replicas ≡ r
  knows : KnowsOnly (map peer_of w.nodes ++ peer_of n ∷ []) n
  unknown : is_known_id (map peer_of w.nodes) (peer_numbered number) ≡ false
  few : length w.nodes < 256

added_keeps : (w : Played) (r number : ℕ) (n : Node) → Invariant w → w.0.replicas ≡ Some r → IsNew w.0 r number n → Invariant (with_new_node w.0 n, w.1)
added_keeps w r number n keeps ringed new = world_changes w (record (no_changes w) { nodes = nodes }) keeps (record {
  peers = λ p h. subst (λ made. Contains made p) (sym more) (Contains-append_left (map peer_of w.0.nodes) (peer_of n ∷ []) p h);
  made = record {
    named = subst AreNamed (sym more) (all-both (λ (p : Peer). p.id ≡ node_id_of p.number) (map peer_of w.0.nodes) (peer_of n ∷ []) keeps.peers.named (named, tt));
    apart = subst StandApart (sym more) (apart_with (map peer_of w.0.nodes) (peer_of n) keeps.peers.apart free);
    few = omega (arith, one_longer w.0.nodes n, new.few);
    known = all-both (KnowsOnly (map peer_of nodes)) w.0.nodes (n ∷ []) (all_weaker _ _ w.0.nodes knows_more keeps.peers.known) (subst (λ made. KnowsOnly made n) (sym more) new.knows, tt);
  };
  ring = subst (λ o. AreOfRing o nodes) (sym ringed) (some w.0.nodes, all-both (λ (m : Node). m.ring.replicas ≡ r) w.0.nodes (n ∷ []) (ring_of w keeps ringed).2 (new.replicas, tt));
  held = all-both (HoldsMet w.0.met) w.0.nodes (n ∷ []) keeps.met.held (subst (λ (blocks : Blocks). IsStore blocks × AllByRecursion (λ e. Contains w.0.met e.1.bytes) blocks) (sym new.blocks) (empty_valid, tt), tt);
  views = keeps.met.views;
  moment = keeps.moment;
  grows = λ b h. h;
  each = unchanged_within_frame w keeps w.0.met (λ b h. h);
})
  where
    nodes : List Node
    nodes = w.0.nodes ++ n ∷ []

    more : map peer_of nodes ≡ map peer_of w.0.nodes ++ peer_of n ∷ []
    more = peers_more w.0.nodes n

    named : (peer_of n).id ≡ node_id_of (peer_of n).number
    named = subst (λ (p : Peer). p.id ≡ node_id_of p.number) (sym new.me) refl

    free : (q : Peer) → IsAmong q (map peer_of w.0.nodes) → place q ≡ place (peer_of n) → ⊥
    free q i same =
        is_known (map peer_of w.0.nodes) (peer_numbered number) q new.unknown i
        (one_id q (peer_numbered number) (all-among (λ (p : Peer). p.id ≡ node_id_of p.number) q (map peer_of w.0.nodes) keeps.peers.named i) refl (same ∙ ap place new.me))

    knows_more : (m : Node) → KnowsOnly (map peer_of w.0.nodes) m → KnowsOnly (map peer_of nodes) m
    knows_more m h = record { list = all_weaker _ _ m.ring.links.list later h.list; fingers = all_weaker _ _ m.ring.links.fingers later h.fingers; before = some_weaker _ _ m.ring.links.before later h.before }
      where
        later : (q : Peer) → IsAmong q (map peer_of w.0.nodes) → IsAmong q (map peer_of nodes)
        later q i = subst (IsAmong q) (sym more) (among-left q (map peer_of w.0.nodes) (peer_of n ∷ []) i)

    some : (before : List Node) → before ++ n ∷ [] ≢ []
    some [] e = cc e
    some (m ∷ before) e = cc e

-- ---- joins

pub peers_of_live : (nodes : List Node) (p : Peer) → IsAmong p (map peer_of (filter (λ n. n.is_live) nodes)) → IsAmong p (map peer_of nodes)
peers_of_live [] p i = i
peers_of_live (n ∷ nodes) p i = by n.is_live i (peers_of_live nodes p)
  where
    by : (b : Bool) → IsAmong p (map peer_of (cond b (n ∷ filter (λ m. m.is_live) nodes) (filter (λ m. m.is_live) nodes))) → (IsAmong p (map peer_of (filter (λ m. m.is_live) nodes)) → IsAmong p (map peer_of nodes)) → IsAmong p (map peer_of (n ∷ nodes))
    by true (inl e) later = inl e
    by true (inr j) later = inr (later j)
    by false j later = inr (later j)

-- the least of some peers is one of them
pub least_of : (ps : List Peer) (p : Peer) → least ps ≡ Some p → IsAmong p ps
least_of [] p e = cc e
least_of (q ∷ ps) p e = let is : fold smaller q ps ≡ p = cc e in subst (λ x. IsAmong x (q ∷ ps)) is (among_all q ps)
  where
    smaller : Peer → Peer → Peer
    smaller a b = cond (nat_lt b.number a.number) b a

    among_all : (q : Peer) (l : List Peer) → IsAmong (fold smaller q l) (q ∷ l)
    among_all q [] = inl refl
    among_all q (y ∷ l) = by (nat_lt y.number q.number) (λ z. among_all z l)
      where
        by : (t : Bool) → ((z : Peer) → IsAmong (fold smaller z l) (z ∷ l)) → IsAmong (fold smaller (cond t y q) l) (q ∷ y ∷ l)
        by true f = inr (f y)
        by false f = ⊎_elim (λ e. inl e) (λ i. inr (inr i)) (f q)

module _ (w : Played) (r number : ℕ) where
  -- a node that knows of nobody, or of those that it found
  alone_is_new : is_known_id (map peer_of w.0.nodes) (peer_numbered number) ≡ false → length w.0.nodes < 256 → IsNew w.0 r number (empty_node (alone_node (peer_numbered number) r))
  alone_is_new unknown few = record {
    me = refl;
    blocks = refl;
    replicas = refl;
    knows = record {
      list = tt;
      fingers = replicated (λ q. IsAmong q (map peer_of w.0.nodes ++ peer_numbered number ∷ [])) (peer_numbered number) 160 (among-right (peer_numbered number) (map peer_of w.0.nodes) (peer_numbered number ∷ []) (inl refl));
      before = tt;
    };
    unknown = unknown;
    few = few;
  }

  joined_is_new : is_known_id (map peer_of w.0.nodes) (peer_numbered number) ≡ false → length w.0.nodes < 256 → (list : List Peer) → AllByRecursion (λ q. IsAmong q (map peer_of w.0.nodes)) list
      → IsNew w.0 r number (joined_node (peer_numbered number) r list)
  joined_is_new unknown few list made = record {
    me = refl;
    blocks = refl;
    replicas = refl;
    knows = record {
      list = all_take (λ q. IsAmong q (map peer_of w.0.nodes ++ peer_numbered number ∷ [])) (2 * r) (filter (is_other place (peer_numbered number)) list) (all_from (λ q. IsAmong q (map peer_of w.0.nodes ++ peer_numbered number ∷ [])) (filter (is_other place (peer_numbered number)) list)
          (λ m i. among-left m (map peer_of w.0.nodes) (peer_numbered number ∷ []) (all-among (λ q. IsAmong q (map peer_of w.0.nodes)) m list made (among_filtered (is_other place (peer_numbered number)) m list i))));
      fingers = replicated (λ q. IsAmong q (map peer_of w.0.nodes ++ peer_numbered number ∷ [])) (peer_numbered number) 160 (among-right (peer_numbered number) (map peer_of w.0.nodes) (peer_numbered number ∷ []) (inl refl));
      before = tt;
    };
    unknown = unknown;
    few = few;
  }

join_keeps : (w : Played) → Invariant w → (number : ℕ) (replicas : Option ℕ) → w.0.replicas ≡ replicas → (o : Outcome World) → JoinLine hss_judged w.0 number replicas o → Keeping w.1 o
join_keeps w keeps number _ ringed _ join_before_ring = tt
join_keeps w keeps number _ ringed _ (join_known r known) = tt
join_keeps w keeps number _ ringed _ (join_exceeds r unknown full) = tt
join_keeps w keeps number _ ringed _ (join_alone r unknown room none) =
    added_keeps w r number (empty_node (alone_node (peer_numbered number) r)) keeps ringed (alone_is_new w r number unknown (leb-false 256 (length w.0.nodes) room))
join_keeps w keeps number _ ringed _ (join_joins r through p ps mid unknown room is_least looks) =
    let looked = looked_up w r keeps ringed (peer_numbered number).id through (Some (p ∷ ps)) mid (peers_of_live w.0.nodes through (least_of (live_peers w.0) through is_least)) looks in
    let few : length mid.nodes < 256 = omega (arith, leb-false 256 (length w.0.nodes) room, ap length looked.peers, length-map mid.nodes peer_of, length-map w.0.nodes peer_of) in
    added_keeps (mid, w.1) r number (joined_node (peer_numbered number) r (p ∷ ps)) looked.keeps looked.ringed
    (joined_is_new (mid, w.1) r number (subst (λ made. is_known_id made (peer_numbered number) ≡ false) (sym looked.peers) unknown) few (p ∷ ps) looked.made)
join_keeps w keeps number _ ringed _ (join_fails r through found mid unknown room is_least looks nobody) =
    (looked_up w r keeps ringed (peer_numbered number).id through found mid (peers_of_live w.0.nodes through (least_of (live_peers w.0) through is_least)) looks).keeps

pub join_lines_keep : JoinLinesKeep
join_lines_keep number w next output keeps does = by_world w.1 does.0 next output does.2 (join_keeps w keeps number w.0.replicas refl does.0 does.1)

-- ---- the ring is made

hold_nothing : (met : List (List ℕ)) (live : List Peer) (r : ℕ) (peers : List Peer) (nodes : List Node) → AreSettled live r peers nodes → AllByRecursion (HoldsMet met) nodes
hold_nothing met live r _ _ settled_none = tt
hold_nothing met live r _ _ (settled_more {peers = peers} {nodes = nodes} state is rest) = ((empty_valid, tt), hold_nothing met live r peers nodes rest)

some_nodes : (live : List Peer) (r : ℕ) (peers : List Peer) (nodes : List Node) → AreSettled live r peers nodes → peers ≢ [] → nodes ≢ []
some_nodes live r _ _ settled_none some e = some refl
some_nodes live r _ _ (settled_more state is rest) some e = cc e

some_peers : (n : ℕ) → first_peers (suc n) ≢ []
some_peers n = by (first_peers n)
  where
    by : (before : List Peer) → cond (is_known_id before (peer_numbered n)) before (before ++ peer_numbered n ∷ []) ≢ []
    by [] e = cc e
    by (p ∷ before) e = test (is_known_id (p ∷ before) (peer_numbered n)) e
      where
        test : (t : Bool) → cond t (p ∷ before) (p ∷ before ++ peer_numbered n ∷ []) ≢ []
        test true e = cc e
        test false e = cc e

some_count : (count : ℕ) → (count == 0) ≡ false → first_peers count ≢ []
some_count zero h e = cc h
some_count (suc n) h e = some_peers n e

refused_parts : (a b c : Bool) → (a || b || c) ≡ false → (a ≡ false) × (c ≡ false)
refused_parts true b c h = cc h
refused_parts false true c h = cc h
refused_parts false false c h = (refl, h)

not_some : {A : Type 0} (o : Option A) → is_some o ≡ false → o ≡ None
not_some None h = refl
not_some (Some x) h = cc h

ring_line_keeps : (w : Played) → Invariant w → (count r : ℕ) (o : Outcome World) → RingLine w.0 count r o → Keeping w.1 o
ring_line_keeps w keeps count r _ (ring_refused h) = tt
ring_line_keeps w keeps count r _ (ring_exceeds h few) = tt
ring_line_keeps w keeps count r _ (ring_makes nodes allowed few settled) = record {
  fits = record { participants = keeps.fits.participants; sessions = keeps.fits.sessions };
  ring = (after.1.positive, some_nodes (in_ring_order (first_peers count)) r (first_peers count) nodes settled (some_count count parts.1), after.0.replicas, none_open (λ s. GoesOn v r s.session));
  met = record { held = hold_nothing w.0.met (in_ring_order (first_peers count)) r (first_peers count) nodes settled; pending = keeps.met.pending; cached = keeps.met.cached; views = keeps.met.views };
  peers = record { named = after.4; apart = after.0.apart; few = after.2; known = after.0.known };
  signs = keeps.signs;
  saved = keeps.saved;
  entered = all_weaker _ _ w.0.participants (λ p h. record { agent = h.agent; keeper = h.keeper }) keeps.entered;
  apart = keeps.apart;
  named_once = keeps.named_once;
  moment = keeps.moment;
  received = keeps.received;
  numbers = record { apart = keeps.numbers.apart; sessions = keeps.numbers.sessions; turns = keeps.numbers.turns };
  said = keeps.said;
  sound = λ apart. sound (keeps.sound apart);
}
  where
    v : World
    v = record w.0 { replicas = Some r; nodes = nodes }

    parts : (is_some w.0.replicas ≡ false) × ((count == 0) ≡ false)
    parts = refused_parts (is_some w.0.replicas) (not (nat_le 1 r && nat_le r 8)) (count == 0) allowed

    none : w.0.replicas ≡ None
    none = not_some w.0.replicas parts.0

    after : AreNodes r v × IsSettledIn v r × (length nodes ≤ 256) × AreStores v × AreNamed (map peer_of nodes)
    after = ring_line_settles w.0 v count r [] (ring_makes nodes allowed few settled)

    none_open : (P : NamedSession → Type 0) → AllByRecursion P w.0.sessions
    none_open P = subst (AllByRecursion P) (sym (subst (HasRing w.0) none keeps.ring).2) tt

    sound : AreSound w.0 w.1 → AreSound v w.1
    sound h = record { agents = h.agents; keepers = h.keepers; to_load = h.to_load; snapshots = h.snapshots; sessions = none_open (λ s. IsSoundSession v w.1 s.session (began_of w.1 s.name)) }

pub ring_lines_keep : RingLinesKeep
ring_lines_keep count r w next output keeps does = by_world w.1 does.0 next output does.2 (ring_line_keeps w keeps count r does.0 does.1)
