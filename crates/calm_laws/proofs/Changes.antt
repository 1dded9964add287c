-- Lines that change the ring: what is held stays as a node stops or joins, and after a round all owners hold what a live node held.
use Rattle.std.proofs.Common.{◌≡◌, ◌⊎◌, inl, inr, ⊎_elim, ℕ, ◌+◌, ◌<◌, ◌≤◌, Bool, true, false, cond, not, T, List, [], ◌∷◌, length, filter, map, Option, Some, None, refl, sym, ap, ◌∙◌, subst, arith, option_map}
use Rattle.std.specs.List.{AllByRecursion}
use Rattle.std.specs.Option.{option_map_or}
use Rattle.std.specs.Ordering.{eq_by_cmp}
use Rattle.std.specs.FinMap.Entries.{find as value_at, is_sorted}
use Rattle.ivy_base.specs.declared.key.Key.{Key}
use Rattle.ivy_base.specs.Naming.{key_cmp}
use Rattle.ring_model.specs.Blocks.{IsAtLeast}
use Rattle.ring_model.specs.Circle.{number}
use Rattle.ring_model.specs.Members.{IsAmong, owners}
use Rattle.ring_model.proofs.Blocks.{owner_lives, owner_stays, owners_hold}
use Rattle.ring_model.proofs.Lists.{all_from, all_weaker, among_filter, filter_none, none_some}
use Rattle.ring_model.proofs.Members.{ascending_filter}
use Rattle.dht_ids.specs.Peers.{place}
use Rattle.dht_ids.specs.declared.ask.Ask.TheVariants as ask
use Rattle.dht_ids.specs.declared.peer.Peer.{Peer}
use Rattle.dht_ids.specs.declared.post.Post.{Post}
use Rattle.dhash_model.specs.Signed.{hss_judged}
use Rattle.dhash_model.specs.Stores.{Block}
use Rattle.dhash_model.specs.declared.kind.BlockKind.{BlockKind}
use Rattle.dhash_model.specs.State.{alone_node}
use Rattle.script_driver.specs.Run.{Outcome, Goes, Refuses}
use Rattle.world_model.specs.Nodes.{Node}
use Rattle.world_model.specs.World.{NamedSession, World, node_at, peer_of, with_node}
use Rattle.world_model.specs.GhostState.{GhostState}
use Rattle.world_model.specs.Fates.{asking}
use Rattle.world_model.specs.Ring.{JoinLine, empty_node, joined_node, live_in_order, peer_numbered, stop_line, with_new_node}
use Rattle.world_model.specs.Ring.JoinLine.{before_ring as join_before_ring, known as join_known, exceeds as join_exceeds, alone as join_alone, joins as join_joins, fails as join_fails}
use Rattle.world_model.specs.Rounds.{IsRoundOf}
use Rattle.world_model.specs.RingOf.{lives_in, own_node}
use Rattle.world_model.specs.Holding.{held_in, block_rank}
use Rattle.round_laws.specs.RingOf.{AreNodes, links_in}
use Rattle.round_laws.proofs.Nodes.{lives_by, lives_shape, order_by, order_shape}
use Rattle.round_laws.proofs.Order.{lives_order, same_lists}
use Rattle.round_laws.proofs.Owning.{distinct_ascending, passes}
use Rattle.round_laws.proofs.Standing.{peer_or_not}
use Rattle.round_laws.proofs.Growing.{of_fates}
use Rattle.round_laws.proofs.Holding.{held_at, node_here, node_is, node_other, routes_same}
use Rattle.round_laws.proofs.Rounding.{at_own, leaves_the_rest, leaves_who_lives, order_in, shapes_of}
use Rattle.round_laws.proofs.Stopping.{one_more_passes, stop_line_stops}
use Rattle.calm_laws.specs.Calm.{Since, Stopped}
use Rattle.calm_laws.proofs.CalmNodes.{HeldStays, IsHeld, IsIn, base_from}
use Rattle.calm_laws.proofs.CalmPuts.{IsHeldFor, block_of, held_for, kind_of}
use Rattle.calm_laws.proofs.CalmStates.{IsMore}
use Rattle.calm_laws.proofs.CalmRounds.{loses_none}
use Rattle.world_laws.proofs.NewParticipant.{found_before}
use Rattle.calm_laws.proofs.Finding.{old_or_last}
use Rattle.calm_laws.proofs.BlockKinds.{AreApart, IsOf, fewer_apart, one_kind}
use Rattle.calm_laws.specs.Laws.{IsWithinLimit}
use Rattle.calm_laws.proofs.Holding.{AreOrderly, IsOrderly, orderly_with}
use Rattle.calm_laws.proofs.Stretches.{IsAckHeld, IsHeldSince, Stretch, own, since_now}
use Rattle.calm_laws.proofs.Moved.{AfterRound, after_round, held_node, held_of, is_in, is_in_tells}
use Rattle.calm_laws.proofs.Facts.{HasFacts, known_in, ring_in, round_facts, standing, stop_facts}
use Rattle.calm_laws.proofs.Worlds.{HasHolder, HoldsAll, IsStanding, lives_same, more_nodes, orderly_more, pending_same, stretch}

-- the same is held
held_same_stays : (w next : World) → ((key : Key) (p : Peer) → held_in next key p ≡ held_in w key p) → HeldStays w next
held_same_stays w next same key kind least p i = subst (IsIn key kind least) (sym (same key p)) i

no_sessions : (P : NamedSession → Type 0) (ss : List NamedSession) → ss ≡ [] → AllByRecursion P ss
no_sessions P ss e = subst (AllByRecursion P) (sym e) tt

-- ---- a node stops

pub stop_is : (w next : World) (n : Node) (output : List ℕ) → stop_line w (Some n) ≡ Goes next output → next ≡ with_node w (record n { is_live = false })
stop_is w next n output e = by n.is_live e
  where
    goes_to : {one other : World} {x y : List ℕ} → Goes one x ≡ Goes other y → other ≡ one
    goes_to f = sym (cc f)

    refused : {other : World} {y : List ℕ} → Refuses ≡ Goes other y → ⊥
    refused f = cc f

    by : (b : Bool) → cond b (Goes (with_node w (record n { is_live = false })) []) Refuses ≡ Goes next output → next ≡ with_node w (record n { is_live = false })
    by true f = goes_to f
    by false f = absurd (refused f)

module _ (r k : ℕ) (w next : World) (st : GhostState) (n : Node) (output : List ℕ) (f : HasFacts r w (Stopped k)) (short : k + 1 < r) (two : 2 ≤ length (live_in_order w)) (among : IsAmong n w.nodes) (e : stop_line w (Some n) ≡ Goes next output) where
  is : next ≡ with_node w (record n { is_live = false })
  is = stop_is w next n output e

  here : node_at w (peer_of n).id ≡ Some n
  here = at_own w.nodes n f.has.nodes.apart among

  pub stop_more : IsMore w next
  stop_more = more_nodes w next (ap (λ (v : World). v.met) is) (ap (λ (v : World). v.participants) is)

  held : (key : Key) (p : Peer) → held_in next key p ≡ held_in w key p
  held key p = ap (λ (v : World). held_in v key p) is ∙ ⊎_elim
      (λ same. subst (λ x. held_in (with_node w (record n { is_live = false })) key x ≡ held_in w key x) (sym same)
      (ap (held_at key) (node_here w (peer_of n) n (record n { is_live = false }) here refl) ∙ sym (ap (held_at key) (node_is w (peer_of n) n here refl))))
      (λ other. ap (held_at key) (node_other w (peer_of n) p n (record n { is_live = false }) here refl refl other))
      (peer_or_not p (peer_of n))

  after : HasFacts r next (Stopped (k + 1))
  after = stop_facts r k w next n output f short two among e

  pub stop_state : w.sessions ≡ [] → IsWithinLimit w → AreApart next → IsStanding r k w st → IsStanding r (k + 1) next st
  stop_state none room apart s = record {
    base = shapes_of next;
    links = links_in next;
    start = next.asked;
    stands = standing r (k + 1) next after;
    apart = apart;
    still = ring_in r next after.has;
    good = record {
      orderly = orderly_more w next next stop_more (subst (AreOrderly w) (sym is) (orderly_with w w n (record n { is_live = false }) here s.good.orderly (let o = s.good.orderly (peer_of n).id n here in record { kinds = o.kinds; sorted = o.sorted })));
      acked = all_weaker (IsAckHeld before w) (IsAckHeld on next) st.acked (λ p a. still_acked p a) s.good.acked;
      pending = pending_same w next stop_more (ap (λ (v : World). v.participants) is) s.good.pending;
      sessions = no_sessions _ next.sessions (ap (λ (v : World). v.sessions) is ∙ none);
    };
  }
    where
      before : Stretch
      before = stretch r s.base s.links s.start k s.stands w s.apart

      on : Stretch
      on = stretch r (shapes_of next) (links_in next) next.asked (k + 1) (standing r (k + 1) next after) next apart

      stop : AreNodes r next × (links_in next ≡ links_in w) × (lives_in w (peer_of n) ≡ true) × (lives_in next (peer_of n) ≡ false) × ((q : Peer) → (q ≡ peer_of n → ⊥) → lives_in next q ≡ lives_in w q) × (map peer_of next.nodes ≡ map peer_of w.nodes)
      stop = stop_line_stops r w next n output f.has.nodes among e

      now_lives : (m : Peer) → lives_in next m ≡ lives_by (shapes_of next) m
      now_lives m = λ i. lives_shape next i m

      then_lives : (m : Peer) → lives_in w m ≡ lives_by s.base m
      then_lives m = λ i. lives_same r s.base s.links s.start w s.still i m

      lived : (m : Peer) → lives_by (shapes_of next) m ≡ true → lives_by s.base m ≡ true
      lived m l = sym (then_lives m) ∙ ⊎_elim (λ t. subst (λ x. lives_in w x ≡ true) (sym t) stop.2) (λ d. sym (stop.4 m d) ∙ now_lives m ∙ l) (peer_or_not m (peer_of n))

      still_acked : (p : Post) → IsAckHeld before w p → IsAckHeld on next p
      still_acked p a = record {
        owner = one.0;
        owns = subst (λ l. IsAmong one.0 (owners place r l (number p.key))) same_order (owner_stays place r since.before (lives_by (shapes_of next)) (number p.key) one.0 one.1 one.2);
        holds = holds_then one.0 one.1 one.2;
        all = λ later. record { before = since.before; ascending = since.ascending; members = members; few = few; held = holds_then };
      }
        where
          since : IsHeldSince before w p
          since = a.all room

          members : (m : Peer) → lives_by (shapes_of next) m ≡ true → IsAmong m since.before
          members m l = since.members m (lived m l)

          few : length (filter (λ m. not (lives_by (shapes_of next) m)) since.before) ≤ k + 1
          few =
              let more = one_more_passes (λ m. not (lives_by s.base m)) (λ m. not (lives_by (shapes_of next) m)) (peer_of n) since.before (distinct_ascending since.before since.ascending)
              (λ q d. ap not (sym (now_lives q) ∙ stop.4 q d ∙ then_lives q)) in
              let was = since.few in
              omega (arith, more, was)

          holds_then : (m : Peer) → IsAmong m (owners place r since.before (number p.key)) → lives_by (shapes_of next) m ≡ true → IsHeldFor next p m
          holds_then m i l = held_for w next p m stop_more.met (held_same_stays w next held) (since.held m i (lived m l))

          one : (m : Peer) × IsAmong m (owners place r since.before (number p.key)) × (lives_by (shapes_of next) m ≡ true)
          one = let few_now = few in owner_lives place r since.before (lives_by (shapes_of next)) (number p.key) (omega (arith, few_now, short)) after.someone (members after.someone (sym (now_lives after.someone) ∙ after.lives)) (sym (now_lives after.someone) ∙ after.lives)

          same_order : filter (lives_by (shapes_of next)) since.before ≡ order_by (shapes_of next)
          same_order = same_lists (filter (lives_by (shapes_of next)) since.before) (order_by (shapes_of next)) (ascending_filter place (lives_by (shapes_of next)) since.before since.ascending) (standing r (k + 1) next after).covered.ascending
              (λ m i. lives_order (shapes_of next) m (passes (lives_by (shapes_of next)) m since.before i))
              (λ m i. let l = (standing r (k + 1) next after).covered.lives_all m i in among_filter (lives_by (shapes_of next)) m since.before (members m l) l)

-- ---- a round

at_least_held : (w : World) (key : Key) (kind : BlockKind) (least : ℕ) (m : Peer) → IsHeld w key kind least m → IsAtLeast least (option_map (block_rank hss_judged key) (held_in w key m))
at_least_held w key kind least m h = subst (λ o. IsAtLeast least (option_map (block_rank hss_judged key) o)) (sym h.1) h.3

held_at_least : (w : World) (key : Key) (least : ℕ) (m : Peer) → IsAtLeast least (option_map (block_rank hss_judged key) (held_in w key m)) → (c : Block) × (held_in w key m ≡ Some c) × (least ≤ block_rank hss_judged key c)
held_at_least w key least m h = by (held_in w key m) refl h
  where
    by : (o : Option Block) → held_in w key m ≡ o → IsAtLeast least (option_map (block_rank hss_judged key) o) → (c : Block) × (held_in w key m ≡ Some c) × (least ≤ block_rank hss_judged key c)
    by None e h = absurd h
    by (Some c) e h = (c, e, h)

module _ (r : ℕ) (w next : World) (st : GhostState) (since : Since) (f : HasFacts r w since) (x : IsRoundOf hss_judged r w next) where
  rest : next ≡ record w { nodes = next.nodes; asked = next.asked }
  rest = (leaves_the_rest hss_judged r w next x).0

  pub round_more : IsMore w next
  round_more = more_nodes w next (ap (λ (v : World). v.met) rest) (ap (λ (v : World). v.participants) rest)

  pub then_facts : HasFacts r next (Stopped 0)
  then_facts = round_facts r w next since f x

  pub rounded : AreApart w → IsWithinLimit w → AreOrderly w w → AfterRound r w w next
  rounded apart room orderly =
      let few = f.has.few in
      after_round r w w next f.has.nodes (omega (arith, few)) (then_facts.is_since.now refl) apart room orderly (loses_none w next f.has.none_lost) x

  -- who holds something of that rank holds it of the kind that may stand there
  pub held_as : AreApart w → AreOrderly w next → (key : Key) (kind : BlockKind) (bytes : List ℕ) → IsOf w key kind bytes → (least : ℕ) (m : Peer) → IsAtLeast least (option_map (block_rank hss_judged key) (held_in next key m)) → IsHeld next key kind least m
  held_as apart orderly key kind bytes of least m h =
      let now = held_at_least next key least m h in
      (now.0, now.1, one_kind w apart key now.0.kind kind now.0.bytes bytes (held_of w next key m now.0 orderly now.1) of, now.2)

  -- each key has an owner then
  pub owner_then : (key : Key) → (m : Peer) × IsAmong m (owners place r (order_by (shapes_of next)) (number key))
  owner_then key =
      let ring = standing r 0 next then_facts in
      let none_dead = ap length (filter_none (λ m. not (lives_by (shapes_of next) m)) (order_by (shapes_of next)) (all_from (λ m. not (lives_by (shapes_of next) m) ≡ false) (order_by (shapes_of next)) (λ m i. ap not (ring.covered.lives_all m i)))) in
      let pos = ring.covered.positive in
      let found = owner_lives place r (order_by (shapes_of next)) (lives_by (shapes_of next)) (number key) (omega (arith, none_dead, pos)) ring.someone (ring.covered.living ring.someone ring.lives) ring.lives in
      (found.0, found.1)

  pub round_state : w.sessions ≡ [] → IsWithinLimit w → AreApart next → HoldsAll w st → IsStanding r 0 next st
  round_state none room apart h = record {
    base = shapes_of next;
    links = links_in next;
    start = next.asked;
    stands = standing r 0 next then_facts;
    apart = apart;
    still = ring_in r next then_facts.has;
    good = record {
      orderly = orderly_more w next next round_more after.orderly;
      acked = all_weaker (HasHolder w) (IsAckHeld on next) st.acked (λ p holder. held_by_all p holder) h.acked;
      pending = pending_same w next round_more (ap (λ (v : World). v.participants) rest) h.pending;
      sessions = no_sessions _ next.sessions (ap (λ (v : World). v.sessions) rest ∙ none);
    };
  }
    where
      apart_before : AreApart w
      apart_before = fewer_apart w next round_more apart

      after : AfterRound r w w next
      after = rounded apart_before room h.orderly

      on : Stretch
      on = stretch r (shapes_of next) (links_in next) next.asked 0 (standing r 0 next then_facts) next apart

      own_then : (key : Key) → List Peer
      own_then key = owners place r (live_in_order w) (number key)

      same_own : (key : Key) → own_then key ≡ own on key
      same_own key = ap (λ l. owners place r l (number key)) (sym (leaves_who_lives hss_judged r w next f.has.nodes x).2 ∙ order_shape next)

      held_by_all : (p : Post) → HasHolder w p → IsAckHeld on next p
      held_by_all p holder = record { owner = one.0; owns = one.1; holds = all one.0 one.1; all = λ later. since_now on next p all }
        where
          all : (m : Peer) → IsAmong m (own on p.key) → IsHeldFor next p m
          all m i =
              let owns = (is_in_tells (own_then p.key) m).1 (subst (IsAmong m) (sym (same_own p.key)) i) in
              let moved = after.moved p.key (is_in (own_then p.key)) (is_in_tells (own_then p.key)) in
              let least = owners_hold (is_in (own_then p.key)) peer_or_not (block_rank hss_judged p.key (block_of p)) moved
              (inr (holder.0, order_in r w holder.0 f.has.nodes holder.1, at_least_held w p.key (kind_of p) (block_rank hss_judged p.key (block_of p)) holder.0 holder.2.held)) m owns in
              let was = holder.2.held in
              let of : IsOf w p.key (kind_of p) was.0.bytes = subst (λ k. IsOf w p.key k was.0.bytes) was.2 (held_of w w p.key holder.0 was.0 h.orderly was.1) in
              record { held = held_as apart_before after.orderly p.key (kind_of p) was.0.bytes of (block_rank hss_judged p.key (block_of p)) m least; met = round_more.met p.bytes holder.2.met; named = holder.2.named }

          one : (m : Peer) × IsAmong m (own on p.key)
          one = owner_then p.key

-- ---- a node joins

-- the look-up of one that joins leaves each node as it was; and one that holds nothing may stand after them then
record Joins (w next : World) : Type 0 where
  mid : World
  same : (id : Key) → node_at mid id ≡ node_at w id
  rest : mid ≡ record w { nodes = mid.nodes; asked = mid.asked }
  last : (next ≡ mid) ⊎ ((n : Node) × (n.blocks ≡ []) × (next ≡ with_new_node mid n))

one_world : (a b : World) (x y : List ℕ) → Goes a x ≡ Goes b y → a ≡ b
one_world a b x y e = cc e

joins_so : (r : ℕ) (w next : World) (since : Since) (number : ℕ) (o : Option ℕ) (out : Outcome World) (output : List ℕ) → HasFacts r w since → JoinLine hss_judged w number o out → out ≡ Goes next output → Joins w next
joins_so r w next since number _ _ output f join_before_ring e = absurd cc
joins_so r w next since number _ _ output f (join_known s h) e = absurd cc
joins_so r w next since number _ _ output f (join_exceeds s h g) e = absurd cc
joins_so r w next since number _ _ output f (join_alone s h room none) e = record {
  mid = w;
  same = λ id. refl;
  rest = refl;
  last = inr (empty_node (alone_node (peer_numbered number) s), refl, sym (one_world _ next _ output e));
}
joins_so r w next since number _ _ output f (join_joins s through p ps mid h room least looks) e = record {
  mid = mid;
  same = routes_same hss_judged r (shapes_of w) [] w.asked w.asked (base_from r (shapes_of w) w.asked w.asked (known_in r w f.has)) (peer_numbered number).id looks.looks (asking (ask.Route (peer_numbered number).id) looks.looks) w mid (ring_in r w f.has).within refl looks.fates;
  rest = (of_fates hss_judged w mid _ looks.fates).0;
  last = inr (joined_node (peer_numbered number) s (p ∷ ps), refl, sym (one_world _ next _ output e));
}
joins_so r w next since number _ _ output f (join_fails s through found mid h room least looks nobody) e = record {
  mid = mid;
  same = routes_same hss_judged r (shapes_of w) [] w.asked w.asked (base_from r (shapes_of w) w.asked w.asked (known_in r w f.has)) (peer_numbered number).id looks.looks (asking (ask.Route (peer_numbered number).id) looks.looks) w mid (ring_in r w f.has).within refl looks.fates;
  rest = (of_fates hss_judged w mid _ looks.fates).0;
  last = inl (sym (one_world _ next _ output e));
}

module _ (r : ℕ) (w next : World) (st : GhostState) (since : Since) (number : ℕ) (output : List ℕ) (f : HasFacts r w since) (line : JoinLine hss_judged w number (Some r) (Goes next output)) where
  joined : Joins w next
  joined = joins_so r w next since number (Some r) (Goes next output) output f line refl

  pub join_rest : (next.met ≡ w.met) × (next.participants ≡ w.participants) × (next.sessions ≡ w.sessions)
  join_rest = ⊎_elim
      (λ same. (ap (λ (v : World). v.met) (same ∙ joined.rest), ap (λ (v : World). v.participants) (same ∙ joined.rest), ap (λ (v : World). v.sessions) (same ∙ joined.rest)))
      (λ new. (ap (λ (v : World). v.met) new.2 ∙ ap (λ (v : World). v.met) joined.rest, ap (λ (v : World). v.participants) new.2 ∙ ap (λ (v : World). v.participants) joined.rest, ap (λ (v : World). v.sessions) new.2 ∙ ap (λ (v : World). v.sessions) joined.rest))
      joined.last

  pub join_more : IsMore w next
  join_more = more_nodes w next join_rest.0 join_rest.1

  -- each node is where it was
  at_then : (id : Key) (n : Node) → node_at w id ≡ Some n → node_at next id ≡ Some n
  at_then id n e = ⊎_elim
      (λ same. ap (λ (v : World). node_at v id) same ∙ joined.same id ∙ e)
      (λ new. ap (λ (v : World). node_at v id) new.2 ∙ found_before (λ (m : Node). eq_by_cmp key_cmp (peer_of m).id id) joined.mid.nodes (new.0 ∷ []) n (joined.same id ∙ e))
      joined.last

  held_then : HeldStays w next
  held_then key kind least p i =
      let found = held_node w key p i.0 i.1 in
      subst (IsIn key kind least) (ap (λ (o : Option Node). held_at key (own_node p o)) (found.1 ∙ sym (at_then p.id found.0 found.1))) i

  lives_then : (m : Peer) → lives_in w m ≡ true → lives_in next m ≡ true
  lives_then m l = by (node_at w m.id) refl l
    where
      by : (o : Option Node) → node_at w m.id ≡ o → option_map_or (λ (n : Node). n.is_live) (own_node m o) false ≡ true → lives_in next m ≡ true
      by None e g = absurd cc
      by (Some n) e g = ap (λ (o : Option Node). option_map_or (λ (x : Node). x.is_live) (own_node m o) false) (at_then m.id n e) ∙ g

  orderly_then : AreOrderly w w → AreOrderly w next
  orderly_then h id n e = ⊎_elim
      (λ same. h id n (sym (joined.same id) ∙ sym (ap (λ (v : World). node_at v id) same) ∙ e))
      (λ new. ⊎_elim
      (λ old. h id n (sym (joined.same id) ∙ old))
      (λ is. nothing n (ap (λ (x : Node). x.blocks) (sym is) ∙ new.1))
      (old_or_last (λ (m : Node). eq_by_cmp key_cmp (peer_of m).id id) joined.mid.nodes new.0 n (sym (ap (λ (v : World). node_at v id) new.2) ∙ e)))
      joined.last
    where
      nothing : (m : Node) → m.blocks ≡ [] → IsOrderly w m
      nothing m none = record {
        kinds = λ key c g. absurd (none_some c (subst (λ blocks. value_at key_cmp key blocks ≡ Some c) none g));
        sorted = subst (λ blocks. T (is_sorted key_cmp blocks)) (sym none) tt;
      }

  pub join_state : HoldsAll w st → HoldsAll next st
  join_state h = record {
    orderly = orderly_more w next next join_more (orderly_then h.orderly);
    acked = all_weaker (HasHolder w) (HasHolder next) st.acked (λ p holder. (holder.0, lives_then holder.0 holder.1, held_for w next p holder.0 join_more.met held_then holder.2)) h.acked;
    pending = pending_same w next join_more join_rest.1 h.pending;
  }
