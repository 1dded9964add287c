-- Calm runs with rounds, stops and joins: the ring is settled after each round, and covered at each later line but between a join and its round.
use Rattle.std.proofs.Common.{◌≡◌, ℕ, suc, ◌+◌, ◌<◌, ◌≤◌, Bool, true, false, cond, not, nat_lt, List, [], ◌∷◌, length, map, filter, Option, Some, refl, sym, ap, ◌∙◌, subst, arith, Contains}
use Rattle.std.specs.Prelude.{fold}
use Rattle.std.proofs.lemmas.Bool.{leb-false}
use Rattle.std.proofs.lemmas.List.{length-append}
use Rattle.ring_model.specs.Change.{AreFewStops, IsJoin}
use Rattle.ring_model.specs.Members.{IsAmong}
use Rattle.ring_model.specs.Ring.{IsCoveredRing, IsSettledRing}
use Rattle.ring_model.proofs.Lists.{all_from, among_filter, filter_none}
use Rattle.ring_model.proofs.Members.{ascending_filter}
use Rattle.ring_model.proofs.Settled.{few_stops_covered}
use Rattle.dhash_model.specs.Signed.{hss_judged}
use Rattle.log_model.proofs.Lists.{in_nothing}
use Rattle.dht_ids.specs.Peers.{place}
use Rattle.dht_ids.specs.declared.ask.Answer.{Answer}
use Rattle.dht_ids.specs.declared.ask.Ask.{Ask}
use Rattle.dht_ids.specs.declared.peer.Peer.{Peer}
use Rattle.dhash_model.specs.State.{alone_node}
use Rattle.script_driver.specs.Run.{Outcome, Goes, Ends, Refuses, Exceeds}
use Rattle.world_model.specs.Nodes.{Node}
use Rattle.world_model.specs.World.{World, live_peers, peer_of, with_node}
use Rattle.world_model.specs.GhostState.{GhostState}
use Rattle.world_model.specs.Fates.{FateOf, Fates}
use Rattle.world_model.specs.Fates.FateOf.{lost as was_lost, stopped as was_stopped, answers as was_answered}
use Rattle.world_model.specs.Fates.Fates.{none as fates_end, more as fates_on}
use Rattle.world_model.specs.Logs.{Played, beside}
use Rattle.world_model.specs.Ring.{JoinLine, empty_node, joined_node, live_in_order, peer_numbered, stop_line, with_peer}
use Rattle.world_model.specs.Ring.JoinLine.{before_ring as join_before_ring, known as join_known, exceeds as join_exceeds, alone as join_alone, joins as join_joins, fails as join_fails}
use Rattle.world_model.specs.Rounds.{IsRoundOf, RoundLine}
use Rattle.world_model.specs.Rounds.RoundLine.{before_ring as round_before_ring, goes as round_goes}
use Rattle.world_model.specs.RingOf.{lives_in}
use Rattle.round_laws.specs.RingOf.{AreNamed, AreNodes, IsCoveredIn, IsSettledIn, LosesNone, links_in}
use Rattle.round_laws.proofs.Nodes.{replaced}
use Rattle.round_laws.proofs.Order.{same_lists}
use Rattle.round_laws.proofs.Owning.{passes}
use Rattle.round_laws.proofs.Rounding.{in_order, order_ascending, order_in}
use Rattle.calm_laws.specs.Calm.{Joined, Since, Stopped}
use Rattle.world_laws.proofs.RingLines.{fates_rest}

-- ---- lists

ordered_one : (qs : List Peer) (p : Peer) → length (with_peer qs p) ≡ suc (length qs)
ordered_one [] p = refl
ordered_one (q ∷ qs) p = by (nat_lt (place p) (place q)) (ordered_one qs p)
  where
    by : (b : Bool) → length (with_peer qs p) ≡ suc (length qs) → length (cond b (p ∷ q ∷ qs) (q ∷ with_peer qs p)) ≡ suc (suc (length qs))
    by true e = refl
    by false e = ap suc e

ordered_all : (ps qs : List Peer) → length (fold with_peer qs ps) ≡ length qs + length ps
ordered_all [] qs = omega arith
ordered_all (p ∷ ps) qs = let rest = ordered_all ps (with_peer qs p) in let one = ordered_one qs p in omega (arith, rest, one)

few_live : (nodes : List Node) → length (map peer_of (filter (λ n. n.is_live) nodes)) ≤ length nodes
few_live [] = omega arith
few_live (n ∷ nodes) = by n.is_live (few_live nodes)
  where
    by : (b : Bool) → length (map peer_of (filter (λ n. n.is_live) nodes)) ≤ length nodes → length (map peer_of (cond b (n ∷ filter (λ n. n.is_live) nodes) (filter (λ n. n.is_live) nodes))) ≤ suc (length nodes)
    by true h = omega (arith, h)
    by false h = omega (arith, h)

pub few_ordered : (w : World) → length w.nodes ≤ 256 → length (live_in_order w) ≤ 512
few_ordered w few = let all = ordered_all (live_peers w) [] in let some = few_live w.nodes in omega (arith, all, some, few)

-- ---- what holds at each line

-- the nodes of a ring without losses
pub record HasNodes (r : ℕ) (w : World) : Type 0 where
  pub nodes : AreNodes r w
  pub named : AreNamed (map peer_of w.nodes)
  pub few : length w.nodes ≤ 256
  pub none_lost : w.lost ≡ []
  pub replicas : w.replicas ≡ Some r

-- since the ring was settled at most so many nodes stopped, fewer than r, and nothing else happened to it
pub record HasStopped (r k : ℕ) (w : World) : Type 0 where
  pub before : World
  pub settled : IsSettledIn before r
  pub size : length (live_in_order before) ≤ 512
  pub links : links_in w ≡ links_in before
  pub lived : (m : Peer) → lives_in w m ≡ true → lives_in before m ≡ true
  pub stopped : length (filter (λ m. not (lives_in w m)) (live_in_order before)) ≤ k
  pub short : k < r
  pub now : k ≡ 0 → IsSettledIn w r

abbrev pub IsSince : ℕ → World → Since → Type 0
IsSince r w (Stopped k) = HasStopped r k w
IsSince r w Joined = (x : Peer) × IsJoin place r 160 (live_in_order w) (lives_in w) x (links_in w)

pub loses_none : (w next : World) → w.lost ≡ [] → LosesNone w next
loses_none w next e k above most h = in_nothing k (subst (λ l. Contains l k) e h)

-- of a settled ring nobody has stopped yet
pub just_settled : (r : ℕ) (w : World) → HasNodes r w → IsSettledIn w r → HasStopped r 0 w
just_settled r w h s = record {
  before = w;
  settled = s;
  size = few_ordered w h.few;
  links = refl;
  lived = λ m l. l;
  stopped = let none = ap length (filter_none (λ m. not (lives_in w m)) (live_in_order w) (all_from (λ m. not (lives_in w m) ≡ false) (live_in_order w) (λ m i. ap not (s.lives_all m i)))) in omega (arith, none);
  short = let pos = s.positive in omega (arith, pos);
  now = λ e. s;
}

pub covered_then : (r k : ℕ) (w : World) → HasNodes r w → HasStopped r k w → IsCoveredIn w r
covered_then r k w h s =
    let few = s.stopped in
    let short = s.short in
    let live : List Peer = filter (lives_in w) (live_in_order s.before) in
    let lives : (m : Peer) → IsAmong m live → lives_in w m ≡ true = λ m i. passes (lives_in w) m (live_in_order s.before) i in
    let all : (m : Peer) → lives_in w m ≡ true → IsAmong m live = λ m t. among_filter (lives_in w) m (live_in_order s.before) (s.settled.living m (s.lived m t)) t in
    let same : live ≡ live_in_order w = same_lists live (live_in_order w) (ascending_filter place (lives_in w) (live_in_order s.before) s.settled.ascending) (order_ascending r w h.nodes) (λ m i. order_in r w m h.nodes (lives m i)) (λ m i. all m (in_order r w m h.nodes i)) in
    let stops_are : AreFewStops place r 160 (live_in_order s.before) (lives_in w) (links_in w) = record {
      lived = lives_in s.before;
      settled = subst (λ x. IsSettledRing place r 160 (live_in_order s.before) (lives_in s.before) x) (sym s.links) s.settled;
      members = λ m t. s.settled.living m (s.lived m t);
      few = omega (arith, few, short);
    } in
    subst (λ x. IsCoveredRing place r x (lives_in w) (links_in w)) same (few_stops_covered place r 160 (live_in_order s.before) (lives_in w) (links_in w) stops_are)

-- ---- a node stops

no_node_none : {next : World} {output : List ℕ} → Refuses ≡ Goes next output → ⊥
no_node_none e = cc e

pub stopped_rest : (w next : World) (n : Node) (output : List ℕ) → stop_line w (Some n) ≡ Goes next output → (next.lost ≡ w.lost) × (next.replicas ≡ w.replicas)
stopped_rest w next n output e = by n.is_live e
  where
    by : (b : Bool) → cond b (Goes (with_node w (record n { is_live = false })) []) Refuses ≡ Goes next output → (next.lost ≡ w.lost) × (next.replicas ≡ w.replicas)
    by true g = let is : with_node w (record n { is_live = false }) ≡ next = cc g in (ap (λ (v : World). v.lost) (sym is), ap (λ (v : World). v.replicas) (sym is))
    by false g = absurd (no_node_none g)

-- ---- a node joins

replaced_long : (n : Node) (nodes : List Node) → length (replaced n nodes) ≡ length nodes
replaced_long n [] = refl
replaced_long n (m ∷ nodes) = ap suc (replaced_long n nodes)

fate_few : {w next : World} {to : Peer} {question : Ask} {given : Answer} → FateOf hss_judged w to question given next → length next.nodes ≡ length w.nodes
fate_few (was_lost l) = refl
fate_few (was_stopped n l is dead) = refl
fate_few (was_answered n l is live) = replaced_long _ _

fates_few : {w next : World} {asks : List (Peer × (Ask × Answer))} → Fates hss_judged w asks next → length next.nodes ≡ length w.nodes
fates_few fates_end = refl
fates_few (fates_on to question given fate rest) = fates_few rest ∙ fate_few fate

pub record JoinsFew (w next : World) : Type 0 where
  pub lost : next.lost ≡ w.lost
  pub replicas : next.replicas ≡ w.replicas
  pub few : length w.nodes ≤ 256 → length next.nodes ≤ 256

one_world : (a b : World) (x y : List ℕ) → Goes a x ≡ Goes b y → a ≡ b
one_world a b x y e = cc e

pub joins_few : (w next : World) (number : ℕ) (o : Option ℕ) (out : Outcome World) (output : List ℕ) → JoinLine hss_judged w number o out → out ≡ Goes next output → JoinsFew w next
joins_few w next number _ _ output join_before_ring e = absurd cc
joins_few w next number _ _ output (join_known r h) e = absurd cc
joins_few w next number _ _ output (join_exceeds r h g) e = absurd cc
joins_few w next number _ _ output (join_alone r h room none) e = subst (JoinsFew w) (one_world _ next _ output e) (record {
  lost = refl;
  replicas = refl;
  few = λ few. let long = length-append w.nodes (empty_node (alone_node (peer_numbered number) r) ∷ []) in let space = leb-false 256 (length w.nodes) room in omega (arith, long, space);
})
joins_few w next number _ _ output (join_joins r through p ps mid h room least looks) e = let rest = fates_rest looks.fates in subst (JoinsFew w) (one_world _ next _ output e) (record {
  lost = ap (λ (v : World). v.lost) rest;
  replicas = ap (λ (v : World). v.replicas) rest;
  few = λ few. let long = length-append mid.nodes (joined_node (peer_numbered number) r (p ∷ ps) ∷ []) in let space = leb-false 256 (length w.nodes) room in let same = fates_few looks.fates in omega (arith, long, space, same);
})
joins_few w next number _ _ output (join_fails r through found mid h room least looks nobody) e = let rest = fates_rest looks.fates in subst (JoinsFew w) (one_world _ next _ output e) (record {
  lost = ap (λ (v : World). v.lost) rest;
  replicas = ap (λ (v : World). v.replicas) rest;
  few = λ few. let same = fates_few looks.fates in omega (arith, few, same);
})

-- ---- runs

pub beside_goes : (st : GhostState) (o : Outcome World) (mid : Played) (output : List ℕ) → Goes mid output ≡ beside st o → o ≡ Goes mid.0 output
beside_goes st (Goes next words) mid output e = by e
  where
    worlds : Goes mid output ≡ Goes (next, st) words → mid ≡ (next, st)
    worlds e = cc e

    texts : Goes mid output ≡ Goes (next, st) words → output ≡ words
    texts e = cc e

    by : Goes mid output ≡ Goes (next, st) words → Goes next words ≡ Goes mid.0 output
    by e = λ i. Goes (sym (worlds e) i).0 (sym (texts e) i)
beside_goes st Ends mid output e = absurd cc
beside_goes st Refuses mid output e = absurd cc
beside_goes st Exceeds mid output e = absurd cc

pub round_line : (r : ℕ) (w next : World) (o : Option ℕ) (out : Outcome World) (output : List ℕ) → RoundLine hss_judged w o out → o ≡ Some r → out ≡ Goes next output → IsRoundOf hss_judged r w next
round_line r w next _ _ output round_before_ring e f = absurd cc
round_line r w next _ _ output (round_goes s mid round) e f = subst (λ v. IsRoundOf hss_judged r w v) (one_world mid next [] output f) (subst (λ k. IsRoundOf hss_judged k w mid) (same_number s r e) round)
  where
    same_number : (a b : ℕ) → Some a ≡ Some b → a ≡ b
    same_number a b e = cc e
