-- A whole round, and the laws.
use Rattle.std.proofs.Common.{◌≡◌, inl, inr, ℕ, suc, ◌*◌, ◌<◌, ◌≤◌, Bool, true, List, [], ◌∷◌, map, filter, refl, sym, ap, ◌∙◌, subst, Option, Some, None, Contains, arith, le_refl}
use Rattle.std.specs.List.{AllByRecursion}
use Rattle.ivy_base.specs.declared.key.Key.{Key}
use Rattle.ring_model.specs.Members.{IsAmong, HasAscendingPlaces}
use Rattle.ring_model.specs.Ring.{Links, IsSettledRing}
use Rattle.ring_model.specs.Round.{AreFingersFixed, IsForgotten, IsRound}
use Rattle.ring_model.specs.Pass.{ArePasses}
use Rattle.ring_model.proofs.Lists.{all-among, all_from, among_filter, filter_gives}
use Rattle.ring_model.proofs.Members.{ascending_filter}
use Rattle.ring_model.proofs.Rounds.{living_is}
use Rattle.ring_model.proofs.Settled.{join_mended, stops_mended}
use Rattle.dht_ids.specs.declared.judge.Judged.{Judged}
use Rattle.dht_ids.specs.declared.peer.Peer.{Peer}
use Rattle.dht_ids.specs.Peers.{place}
use Rattle.world_model.specs.Nodes.{Node}
use Rattle.world_model.specs.World.{World, peer_of}
use Rattle.world_model.specs.Ring.{live_in_order}
use Rattle.world_model.specs.Rounds.{IsRoundOf}
use Rattle.world_model.specs.RingOf.{lives_in}
use Rattle.round_laws.specs.RingOf.{AreApart, AreNodes, BeforesLive, IsSettledIn, KnowsOnly, links_in}
use Rattle.round_laws.specs.Laws.{FingersAreFixed, FirstPartForgets, PassesArePasses, RoundIsRound, RoundLeavesTheRest, RoundLeavesWhoLives, RoundMendsJoin, RoundMendsStops}
use Rattle.round_laws.proofs.Nodes.{Shape, at, at_among, at_here, at_later, lives_by, made_by, made_shape, order_by, order_shape, same_place, shape}
use Rattle.round_laws.proofs.Order.{lives_made, lives_order, order_ascends, order_lives, same_lists}
use Rattle.round_laws.proofs.Standing.{IsBase, IsWithin, lives_are}
use Rattle.round_laws.proofs.Forgetting.{all_forgot, is_forgotten}
use Rattle.round_laws.proofs.Renewing.{Living}
use Rattle.round_laws.proofs.Passing.{many_passed}
use Rattle.round_laws.proofs.Fixing.{are_fingers_fixed, each_fixed}
use Rattle.round_laws.proofs.Repairing.{kept_all}
use Rattle.round_laws.proofs.Growing.{round_grows}

-- ---- the beginning of a round

shapes_owned : (r : ℕ) (nodes : List Node) → AllByRecursion (λ n. n.ring.replicas ≡ r) nodes → AllByRecursion (λ s. s.2 ≡ r) (map shape nodes)
shapes_owned r [] a = tt
shapes_owned r (n ∷ nodes) a = (a.0, shapes_owned r nodes a.1)

nodes_owned : (r : ℕ) (nodes : List Node) → AllByRecursion (λ s. s.2 ≡ r) (map shape nodes) → AllByRecursion (λ n. n.ring.replicas ≡ r) nodes
nodes_owned r [] a = tt
nodes_owned r (n ∷ nodes) a = (a.0, nodes_owned r nodes a.1)

abbrev pub shapes_of : World → List Shape
shapes_of w = map shape w.nodes

pub base_of : (r : ℕ) (w : World) (end : ℕ) → AreNodes r w → ((k : ℕ) → w.asked < k → k ≤ end → Contains w.lost k → ⊥) → IsBase r (shapes_of w) w.lost w.asked end
base_of r w end h quiet = record { apart = subst AreApart (made_shape w.nodes) h.apart; replicas = shapes_owned r w.nodes h.replicas; quiet = quiet }

pub within_of : (r : ℕ) (w : World) → AreNodes r w → IsWithin (shapes_of w) w.lost w.asked w
within_of r w h = record {
  shapes = refl;
  known = λ id n e. subst (λ made. KnowsOnly made n) (made_shape w.nodes) (all-among (KnowsOnly (map peer_of w.nodes)) n w.nodes h.known (at_among w.nodes id n e));
  losses = refl;
  asked = le_refl w.asked;
}

pub at_own : (nodes : List Node) (n : Node) → AreApart (map peer_of nodes) → IsAmong n nodes → at nodes (peer_of n).id ≡ Some n
at_own [] n apart h = elim h [ ]
at_own (m ∷ nodes) n apart (inl e) = at_here m nodes (peer_of n).id (ap (λ (x : Node). (peer_of x).id) e) ∙ ap (λ (x : Node). Some x) e
at_own (m ∷ nodes) n apart (inr h) = at_later m nodes (peer_of n).id (λ s. far nodes apart.0 h (same_place (peer_of m) (peer_of n) s)) ∙ at_own nodes n apart.1 h
  where
    far : (l : List Node) → AllByRecursion (λ q. place (peer_of m) ≡ place q → ⊥) (map peer_of l) → IsAmong n l → place (peer_of m) ≡ place (peer_of n) → ⊥
    far [] a h e = elim h [ ]
    far (k ∷ l) a (inl s) e = a.0 (e ∙ ap (λ (x : Node). place (peer_of x)) (sym s))
    far (k ∷ l) a (inr h) e = far l a.1 h e

-- what a round leaves is such a world again
pub nodes_of : (r : ℕ) (base : List Shape) (planned : List ℕ) (start end : ℕ) (w : World) → IsBase r base planned start end → IsWithin base planned start w → AreNodes r w
nodes_of r base planned start end w b h =
    let made : map peer_of w.nodes ≡ made_by base = made_shape w.nodes ∙ ap made_by h.shapes in
    let apart : AreApart (map peer_of w.nodes) = subst AreApart (sym made) b.apart in
    record {
      apart = apart;
      replicas = nodes_owned r w.nodes (subst (λ l. AllByRecursion (λ s. s.2 ≡ r) l) (sym h.shapes) b.replicas);
      known = all_from (KnowsOnly (map peer_of w.nodes)) w.nodes (λ n i. subst (λ l. KnowsOnly l n) (sym made) (h.known (peer_of n).id n (at_own w.nodes n apart i)));
    }

living_of : (w : World) (lives : Peer → Bool) → lives_in w ≡ lives → BeforesLive w → Living lives (links_in w)
living_of w lives e h = subst (λ l. Living l (links_in w)) e h

-- ---- the parts

pub first_part : FirstPartForgets
first_part judged r w next h parts quiet =
    let b = base_of r w next.asked h quiet in
    let i = within_of r w h in
    let only : (p : Peer) → IsAmong p (live_in_order w) → lives_by (shapes_of w) p ≡ true = λ p j. order_lives (shapes_of w) p b.apart (subst (IsAmong p) (order_shape w) j) in
    let all : (p : Peer) → lives_by (shapes_of w) p ≡ true → IsAmong p (live_in_order w) = λ p l. subst (IsAmong p) (sym (order_shape w)) (lives_order (shapes_of w) p l) in
    let f = all_forgot judged r (shapes_of w) w.lost w.asked next.asked b w next (live_in_order w) i (λ p j. lives_made (shapes_of w) p (only p j)) parts in
    subst (λ l. IsForgotten l (links_in w) (links_in next)) (sym (lives_are judged r (shapes_of w) w.lost w.asked next.asked b w i))
    (is_forgotten judged r (shapes_of w) w.lost w.asked next.asked b w next (live_in_order w) f (le_refl next.asked) all only)

pub second_part : PassesArePasses
second_part judged r w next ps k h living lives parts quiet =
    let b = base_of r w next.asked h quiet in
    let i = within_of r w h in
    let e = lives_are judged r (shapes_of w) w.lost w.asked next.asked b w i in
    let f = many_passed judged r (shapes_of w) w.lost w.asked next.asked b w next ps k i (λ p j. (λ t. sym (λ x. e x p) t) ∙ lives p j) parts in
    subst (λ l. ArePasses place r l ps k (links_in w) (links_in next)) (sym e) (f.is (le_refl next.asked) (living_of w (lives_by (shapes_of w)) e living))

pub third_part : FingersAreFixed
third_part judged r w next ps h lives parts quiet =
    let b = base_of r w next.asked h quiet in
    let i = within_of r w h in
    let e = lives_are judged r (shapes_of w) w.lost w.asked next.asked b w i in
    let f = each_fixed judged r (shapes_of w) w.lost w.asked next.asked b 160 w next ps i (λ p j. lives_made (shapes_of w) p (sym (λ x. e x p) ∙ lives p j)) parts in
    subst (λ l. AreFingersFixed place r 160 l ps (links_in w) (links_in next)) (sym e) (are_fingers_fixed judged r (shapes_of w) w.lost w.asked next.asked b w next ps f (le_refl next.asked))

-- ---- the whole

-- a round from such a world, whatever is lost, and what it is where no ask is lost
pub record Rounded (judged : Key → List ℕ → Option Judged) (r : ℕ) (base : List Shape) (planned : List ℕ) (start end : ℕ) (w next : World) (x : IsRoundOf judged r w next) : Type 0 where
  pub within : IsWithin base planned start next
  pub within_three : IsWithin base planned start x.three
  pub linked : links_in next ≡ links_in x.three
  pub is : next.asked ≤ end → IsRound place r 160 (lives_by base) (live_in_order w) (links_in w) (links_in next)

forgotten_lives : (lives : Peer → Bool) (old new : Peer → Links Peer) → IsForgotten lives old new → Living lives new
forgotten_lives lives old new f p b l e = living_is lives (old p).before b (sym (f.before p l) ∙ e)

rounded : (judged : Key → List ℕ → Option Judged) (r : ℕ) (base : List Shape) (planned : List ℕ) (start end : ℕ) (b : IsBase r base planned start end) (w next : World) → IsWithin base planned start w
    → ((p : Peer) → IsAmong p (live_in_order w) → lives_by base p ≡ true) → ((p : Peer) → lives_by base p ≡ true → IsAmong p (live_in_order w)) → (x : IsRoundOf judged r w next) → Rounded judged r base planned start end w next x
rounded judged r base planned start end b w next h only all x =
    let one = all_forgot judged r base planned start end b w x.one (live_in_order w) h (λ p j. lives_made base p (only p j)) x.forgets in
    let two = many_passed judged r base planned start end b x.one x.two (live_in_order w) (suc (2 * r)) one.within only x.passes in
    let three = each_fixed judged r base planned start end b 160 x.two x.three (live_in_order w) two.within (λ p j. lives_made base p (only p j)) x.fingers in
    let four = kept_all judged r base planned start end b x.three next (live_in_order w) three.within x.repairs in
    record {
      within = four.within;
      within_three = three.within;
      linked = four.links;
      is = λ q.
          let end_three : x.three.asked ≤ end = omega (arith, q, four.grows) in
          let end_two : x.two.asked ≤ end = omega (arith, end_three, three.grows) in
          let end_one : x.one.asked ≤ end = omega (arith, end_two, two.grows) in
          let forgotten = is_forgotten judged r base planned start end b w x.one (live_in_order w) one end_one all only in
          let fixed = are_fingers_fixed judged r base planned start end b x.two x.three (live_in_order w) three end_three in
          record {
            mid = links_in x.two;
            lists = record { mid = links_in x.one; forgotten = forgotten; passes = two.is end_two (forgotten_lives (lives_by base) (links_in w) (links_in x.one) forgotten) };
            fingers = subst (λ l. AreFingersFixed place r 160 (lives_by base) (live_in_order w) (links_in x.two) l) (sym four.links) fixed;
          };
    }

pub rounded_from : (judged : Key → List ℕ → Option Judged) (r : ℕ) (w next : World) (end : ℕ) (h : AreNodes r w) (quiet : (k : ℕ) → w.asked < k → k ≤ end → Contains w.lost k → ⊥) → (x : IsRoundOf judged r w next)
    → Rounded judged r (shapes_of w) w.lost w.asked end w next x
rounded_from judged r w next end h quiet x =
    let b = base_of r w end h quiet in
    rounded judged r (shapes_of w) w.lost w.asked end b w next (within_of r w h)
    (λ p j. order_lives (shapes_of w) p b.apart (subst (IsAmong p) (order_shape w) j))
    (λ p l. subst (IsAmong p) (sym (order_shape w)) (lives_order (shapes_of w) p l)) x

pub leaves_the_rest : RoundLeavesTheRest
leaves_the_rest judged r w next x = round_grows judged r w next x

pub leaves_who_lives : RoundLeavesWhoLives
leaves_who_lives judged r w next h x =
    let quiet : (k : ℕ) → w.asked < k → k ≤ w.asked → Contains w.lost k → ⊥ = λ k l m c. omega (arith, l, m) in
    let b = base_of r w w.asked h quiet in
    let f = rounded_from judged r w next w.asked h quiet x in (
      nodes_of r (shapes_of w) w.lost w.asked w.asked next b f.within,
      lives_are judged r (shapes_of w) w.lost w.asked w.asked b next f.within ∙ sym (lives_are judged r (shapes_of w) w.lost w.asked w.asked b w (within_of r w h)),
      order_shape next ∙ ap order_by f.within.shapes ∙ sym (order_shape w),
      made_shape next.nodes ∙ ap made_by f.within.shapes ∙ sym (made_shape w.nodes),
    )

pub round_is_round : RoundIsRound
round_is_round judged r w next h x quiet =
    let b = base_of r w next.asked h quiet in
    let f = rounded_from judged r w next next.asked h quiet x in
    subst (λ l. IsRound place r 160 l (live_in_order w) (links_in w) (links_in next)) (sym (lives_are judged r (shapes_of w) w.lost w.asked next.asked b w (within_of r w h))) (f.is (le_refl next.asked))

-- ---- settled again

-- who stands in the order of live nodes lives
pub in_order : (r : ℕ) (w : World) (p : Peer) → AreNodes r w → IsAmong p (live_in_order w) → lives_in w p ≡ true
in_order r w p h i =
    let b = base_of r w w.asked h (λ k l m c. omega (arith, l, m)) in
    (λ t. lives_are (λ k bytes. None) r (shapes_of w) w.lost w.asked w.asked b w (within_of r w h) t p) ∙ order_lives (shapes_of w) p b.apart (subst (IsAmong p) (order_shape w) i)

pub order_in : (r : ℕ) (w : World) (p : Peer) → AreNodes r w → lives_in w p ≡ true → IsAmong p (live_in_order w)
order_in r w p h l =
    let b = base_of r w w.asked h (λ k l m c. omega (arith, l, m)) in
    subst (IsAmong p) (sym (order_shape w)) (lives_order (shapes_of w) p (sym (λ t. lives_are (λ k bytes. None) r (shapes_of w) w.lost w.asked w.asked b w (within_of r w h) t p) ∙ l))

pub order_ascending : (r : ℕ) (w : World) → AreNodes r w → HasAscendingPlaces place (live_in_order w)
order_ascending r w h = subst (HasAscendingPlaces place) (sym (order_shape w)) (order_ascends (shapes_of w) (subst AreApart (made_shape w.nodes) h.apart))

-- a ring that is settled with the members in another list
settled_in : (judged : Key → List ℕ → Option Judged) (r : ℕ) (w next : World) (live : List Peer) → AreNodes r w → IsRoundOf judged r w next → HasAscendingPlaces place live → ((m : Peer) → IsAmong m live → lives_in w m ≡ true)
    → ((m : Peer) → lives_in w m ≡ true → IsAmong m live) → IsSettledRing place r 160 live (lives_in w) (links_in next) → IsSettledIn next r
settled_in judged r w next live h x asc lives all s =
    let after = leaves_who_lives judged r w next h x in
    let same : live ≡ live_in_order next = same_lists live (live_in_order w) asc (order_ascending r w h) (λ m i. order_in r w m h (lives m i)) (λ m i. all m (in_order r w m h i)) ∙ sym after.2 in
    subst (λ l. IsSettledRing place r 160 l (lives_in next) (links_in next)) same (subst (λ l. IsSettledRing place r 160 live l (links_in next)) (sym after.1) s)

pub round_mends_stops : RoundMendsStops
round_mends_stops judged r w next before h few many x quiet =
    let live : List Peer = filter (lives_in w) before in
    let asc = ascending_filter place (lives_in w) before few.settled.ascending in
    let lives : (m : Peer) → IsAmong m live → lives_in w m ≡ true =
    λ m i. all-among (λ y. lives_in w y ≡ true) m live (filter_gives (lives_in w) (λ y. lives_in w y ≡ true) before (all_from (λ y. lives_in w y ≡ true → lives_in w y ≡ true) before (λ y j t. t))) i in
    let all : (m : Peer) → lives_in w m ≡ true → IsAmong m live = λ m l. among_filter (lives_in w) m before (few.members m l) l in
    settled_in judged r w next live h x asc lives all
    (stops_mended place r 160 before (lives_in w) (live_in_order w) (links_in w) (links_in next) few many (λ m i. all m (in_order r w m h i)) (λ m i. order_in r w m h (lives m i)) (round_is_round judged r w next h x quiet))

pub round_mends_join : RoundMendsJoin
round_mends_join judged r w next live x h joined many round quiet =
    settled_in judged r w next live h round joined.ascending joined.lives_all joined.living
    (join_mended place r 160 live (lives_in w) x (live_in_order w) (links_in w) (links_in next) joined many (λ m i. joined.living m (in_order r w m h i)) (λ m i. order_in r w m h (joined.lives_all m i)) (round_is_round judged r w next h round quiet))
