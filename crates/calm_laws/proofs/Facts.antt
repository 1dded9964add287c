-- What holds of the ring at each line of a calm run, line by line.
use Rattle.std.proofs.Common.{◌≡◌, inl, inr, ⊎_elim, ℕ, ◌+◌, ◌<◌, ◌≤◌, Bool, true, false, not, List, [], ◌∷◌, length, map, filter, Some, refl, sym, ap, ◌∙◌, subst, arith}
use Rattle.std.proofs.lemmas.List.{length-map}
use Rattle.ring_model.specs.Members.{IsAmong, HasAscendingPlaces}
use Rattle.ring_model.specs.Ring.{IsCoveredRing}
use Rattle.dhash_model.specs.Signed.{hss_judged}
use Rattle.dht_ids.specs.Peers.{place}
use Rattle.dht_ids.specs.declared.peer.Peer.{Peer}
use Rattle.script_driver.specs.Run.{Goes}
use Rattle.world_model.specs.Nodes.{Node}
use Rattle.world_model.specs.World.{World, peer_of}
use Rattle.world_model.specs.Ring.{JoinLine, live_in_order, peer_numbered, stop_line}
use Rattle.world_model.specs.Rounds.{IsRoundOf}
use Rattle.world_model.specs.RingOf.{lives_in}
use Rattle.round_laws.specs.RingOf.{AreNamed, AreNodes, IsSettledIn, links_in}
use Rattle.round_laws.proofs.Nodes.{lives_by, lives_shape, made_by, made_shape, order_by, order_shape}
use Rattle.round_laws.proofs.Joining.{join_line_joins}
use Rattle.round_laws.proofs.Owning.{AreDistinct, distinct_ascending}
use Rattle.round_laws.proofs.Rounding.{base_of, in_order, leaves_the_rest, leaves_who_lives, nodes_of, order_ascending, round_mends_join, shapes_of, within_of}
use Rattle.round_laws.proofs.Settling.{length_made, settled_by}
use Rattle.round_laws.proofs.Standing.{peer_or_not}
use Rattle.round_laws.proofs.Stopping.{one_more_passes, round_mends_since, stop_line_stops}
use Rattle.calm_laws.specs.Calm.{Joined, Since, Stopped}
use Rattle.calm_laws.proofs.CalmNodes.{AreKnown, IsRing, KeepsRings, base_from}
use Rattle.calm_laws.proofs.CalmRounds.{covered_then, few_ordered, HasNodes, HasStopped, IsSince, joins_few, just_settled, loses_none, stopped_rest}
use Rattle.calm_laws.proofs.Stretches.{IsStandingRing}

-- ---- lines that change no ring

pub record IsSameRing (r : ℕ) (w next : World) : Type 0 where
  pub has : HasNodes r next
  pub links : links_in next ≡ links_in w
  pub lives : lives_in next ≡ lives_in w
  pub order : live_in_order next ≡ live_in_order w

pub same_ring : (r : ℕ) (w next : World) → KeepsRings w next → HasNodes r w → IsSameRing r w next
same_ring r w next keeps h =
    let b = base_of r w w.asked h.nodes (λ k above most. absurd (omega (arith, above, most))) in
    let known : AreKnown r (shapes_of w) = record { apart = b.apart; owned = b.replicas } in
    let within = within_of r w h.nodes in
    let on = keeps r (shapes_of w) (links_in w) w.asked known (record { within = record { shapes = within.shapes; known = within.known; losses = h.none_lost; asked = within.asked }; linked = refl; replicas = h.replicas }) in
    let peers : map peer_of next.nodes ≡ map peer_of w.nodes = made_shape next.nodes ∙ ap made_by on.within.shapes ∙ sym (made_shape w.nodes) in
    let size = ap length peers in
    let long = length-map next.nodes peer_of in
    let short = length-map w.nodes peer_of in
    let few = h.few in
    record {
      has = record {
        nodes = nodes_of r (shapes_of w) [] w.asked w.asked next (base_from r (shapes_of w) w.asked w.asked known) on.within;
        named = subst AreNamed (sym peers) h.named;
        few = omega (arith, size, long, short, few);
        none_lost = on.within.losses;
        replicas = on.replicas;
      };
      links = on.linked;
      lives = lives_shape next ∙ ap lives_by on.within.shapes ∙ sym (lives_shape w);
      order = order_shape next ∙ ap order_by on.within.shapes ∙ sym (order_shape w);
    }

still_stopped : (r k : ℕ) (w next : World) → IsSameRing r w next → HasStopped r k w → HasStopped r k next
still_stopped r k w next same h = record {
  before = h.before;
  settled = h.settled;
  size = h.size;
  links = same.links ∙ h.links;
  lived = λ m l. h.lived m (subst (λ lives. lives m ≡ true) same.lives l);
  stopped = subst (λ lives. length (filter (λ m. not (lives m)) (live_in_order h.before)) ≤ k) (sym same.lives) h.stopped;
  short = h.short;
  now = λ e. settled_by r w (live_in_order next) (lives_in next) (links_in next) (sym same.order) (sym same.lives) (sym same.links) (h.now e);
}

-- ---- a node stops

pub stop_step : (r k : ℕ) (w next : World) (n : Node) (output : List ℕ) → HasNodes r w → HasStopped r k w → k + 1 < r → IsAmong n w.nodes → stop_line w (Some n) ≡ Goes next output → HasNodes r next × HasStopped r (k + 1) next
stop_step r k w next n output h s short among e = (
  record {
    nodes = stop.0;
    named = subst AreNamed (sym stop.5) h.named;
    few = let size = ap length stop.5 in let long = length-map next.nodes peer_of in let few_before = length-map w.nodes peer_of in let few = h.few in omega (arith, size, long, few_before, few);
    none_lost = rest.0 ∙ h.none_lost;
    replicas = rest.1 ∙ h.replicas;
  },
  record {
    before = s.before;
    settled = s.settled;
    size = s.size;
    links = stop.1 ∙ s.links;
    lived = λ m l. s.lived m (⊎_elim (λ t. subst (λ x. lives_in w x ≡ true) (sym t) stop.2) (λ d. sym (stop.4 m d) ∙ l) (peer_or_not m (peer_of n)));
    stopped =
        let more = one_more_passes (λ m. not (lives_in w m)) (λ m. not (lives_in next m)) (peer_of n) (live_in_order s.before) (distinct_ascending (live_in_order s.before) s.settled.ascending) (λ q d. ap not (stop.4 q d)) in
        let few = s.stopped in
        omega (arith, more, few);
    short = short;
    now = λ none. absurd (omega (arith, none));
  },
)
  where
    stop : AreNodes r next × (links_in next ≡ links_in w) × (lives_in w (peer_of n) ≡ true) × (lives_in next (peer_of n) ≡ false) × ((q : Peer) → (q ≡ peer_of n → ⊥) → lives_in next q ≡ lives_in w q) × (map peer_of next.nodes ≡ map peer_of w.nodes)
    stop = stop_line_stops r w next n output h.nodes among e

    rest : (next.lost ≡ w.lost) × (next.replicas ≡ w.replicas)
    rest = stopped_rest w next n output e

-- ---- a round

pub round_has : (r : ℕ) (w next : World) → HasNodes r w → IsRoundOf hss_judged r w next → HasNodes r next
round_has r w next h round =
    let rest = (leaves_the_rest hss_judged r w next round).0 in
    let who = leaves_who_lives hss_judged r w next h.nodes round in
    record {
      nodes = who.0;
      named = subst AreNamed (sym who.3) h.named;
      few = let size = ap length who.3 in let long = length-map next.nodes peer_of in let short = length-map w.nodes peer_of in let few = h.few in omega (arith, size, long, short, few);
      none_lost = ap (λ (v : World). v.lost) rest ∙ h.none_lost;
      replicas = ap (λ (v : World). v.replicas) rest ∙ h.replicas;
    }

pub round_settles : (r : ℕ) (w next : World) (since : Since) → HasNodes r w → IsSince r w since → IsRoundOf hss_judged r w next → IsSettledIn next r
round_settles r w next (Stopped k) h s round =
    round_mends_since hss_judged r s.before w next s.settled h.nodes s.links s.lived (let few = s.stopped in let short = s.short in omega (arith, few, short)) s.size round (loses_none w next h.none_lost)
round_settles r w next Joined h s round = round_mends_join hss_judged r w next (live_in_order w) s.0 h.nodes s.1 (few_ordered w h.few) round (loses_none w next h.none_lost)

-- ---- a node joins

pub join_step : (r number : ℕ) (w next : World) (output : List ℕ) → HasNodes r w → IsSettledIn w r → JoinLine hss_judged w number (Some r) (Goes next output) → HasNodes r next × IsSince r next Joined
join_step r number w next output h settled line =
    let few = h.few in
    let join = join_line_joins hss_judged r number w next output h.nodes h.named (omega (arith, few)) settled line (loses_none w next h.none_lost) in
    let rest = joins_few w next number (Some r) (Goes next output) output line refl in
    (record { nodes = join.1; named = join.2; few = rest.few h.few; none_lost = rest.lost ∙ h.none_lost; replicas = rest.replicas ∙ h.replicas }, (peer_numbered number, join.0))

-- ---- all of it

-- The ring's nodes, what happened to it since it was settled, and somebody lives.
pub record HasFacts (r : ℕ) (w : World) (since : Since) : Type 0 where
  pub has : HasNodes r w
  pub is_since : IsSince r w since
  pub someone : Peer
  pub lives : lives_in w someone ≡ true

pub quiet_facts : (r k : ℕ) (w next : World) → KeepsRings w next → HasFacts r w (Stopped k) → HasFacts r next (Stopped k)
quiet_facts r k w next keeps f =
    let same = same_ring r w next keeps f.has in
    record { has = same.has; is_since = still_stopped r k w next same f.is_since; someone = f.someone; lives = subst (λ (l : Peer → Bool). l f.someone ≡ true) (sym same.lives) f.lives }

-- of two that live one lives on as another stops
lives_on : (r : ℕ) (w : World) (stopped : Peer) → AreNodes r w → 2 ≤ length (live_in_order w) → (z : Peer) × (lives_in w z ≡ true) × (z ≡ stopped → ⊥)
lives_on r w stopped h two = by (live_in_order w) refl
  where
    by : (l : List Peer) → live_in_order w ≡ l → (z : Peer) × (lives_in w z ≡ true) × (z ≡ stopped → ⊥)
    by [] e = let none = ap length e in absurd (omega (arith, two, none))
    by (a ∷ []) e = let one = ap length e in absurd (omega (arith, two, one))
    by (a ∷ b ∷ l) e = ⊎_elim
        (λ same. (b, in_order r w b h (subst (IsAmong b) (sym e) (inr (inl refl))), λ s. apart.0 (inl (s ∙ sym same))))
        (λ other. (a, in_order r w a h (subst (IsAmong a) (sym e) (inl refl)), other))
        (peer_or_not a stopped)
      where
        apart : AreDistinct (a ∷ b ∷ l)
        apart = distinct_ascending (a ∷ b ∷ l) (subst (HasAscendingPlaces place) e (order_ascending r w h))

pub stop_facts : (r k : ℕ) (w next : World) (n : Node) (output : List ℕ) → HasFacts r w (Stopped k) → k + 1 < r → 2 ≤ length (live_in_order w) → IsAmong n w.nodes → stop_line w (Some n) ≡ Goes next output → HasFacts r next (Stopped (k + 1))
stop_facts r k w next n output f short two among e =
    let both = stop_step r k w next n output f.has f.is_since short among e in
    let z = lives_on r w (peer_of n) f.has.nodes two in
    let stop = stop_line_stops r w next n output f.has.nodes among e in
    record { has = both.0; is_since = both.1; someone = z.0; lives = stop.4 z.0 z.2 ∙ z.1 }

pub round_facts : (r : ℕ) (w next : World) (since : Since) → HasFacts r w since → IsRoundOf hss_judged r w next → HasFacts r next (Stopped 0)
round_facts r w next since f round =
    let has = round_has r w next f.has round in
    let who = leaves_who_lives hss_judged r w next f.has.nodes round in
    record { has = has; is_since = just_settled r next has (round_settles r w next since f.has f.is_since round); someone = f.someone; lives = (λ i. who.1 i f.someone) ∙ f.lives }

pub join_facts : (r number : ℕ) (w next : World) (output : List ℕ) → HasFacts r w (Stopped 0) → JoinLine hss_judged w number (Some r) (Goes next output) → HasFacts r next Joined
join_facts r number w next output f line =
    let both = join_step r number w next output f.has (f.is_since.now refl) line in
    record { has = both.0; is_since = both.1; someone = both.1.0; lives = both.1.1.lives_all both.1.0 both.1.1.member }

-- ---- the ring by its shapes

pub known_in : (r : ℕ) (w : World) → HasNodes r w → AreKnown r (shapes_of w)
known_in r w h = let b = base_of r w w.asked h.nodes (λ n above most. absurd (omega (arith, above, most))) in record { apart = b.apart; owned = b.replicas }

pub standing : (r k : ℕ) (w : World) → HasFacts r w (Stopped k) → IsStandingRing r (shapes_of w) (links_in w)
standing r k w f =
    let known = known_in r w f.has in
    let size = length_made w.nodes in
    let few = f.has.few in
    record {
      apart = known.apart;
      owned = known.owned;
      covered = subst (λ l. IsCoveredRing place r l (lives_by (shapes_of w)) (links_in w)) (order_shape w) (subst (λ l. IsCoveredRing place r (live_in_order w) l (links_in w)) (lives_shape w) (covered_then r k w f.has f.is_since));
      few = omega (arith, size, few);
      someone = f.someone;
      lives = subst (λ (l : Peer → Bool). l f.someone ≡ true) (lives_shape w) f.lives;
    }

pub ring_in : (r : ℕ) (w : World) → HasNodes r w → IsRing r (shapes_of w) (links_in w) w.asked w
ring_in r w h = let within = within_of r w h.nodes in record { within = record { shapes = refl; known = within.known; losses = h.none_lost; asked = within.asked }; linked = refl; replicas = h.replicas }
