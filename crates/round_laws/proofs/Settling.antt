-- The laws of blocks.
use Rattle.std.proofs.Common.{◌≡◌, ℕ, Bool, true, false, ◌&&◌, T, List, [], ◌∷◌, length, map, refl, sym, ap, ◌∙◌, subst, Option, suc, arith, le_refl, option_map}
use Rattle.std.specs.List.{AllByRecursion}
use Rattle.std.specs.List.Sorted.{IsStrictlySortedBy}
use Rattle.std.specs.Map.{keys_of}
use Rattle.std.specs.Ordering.{is_lt}
use Rattle.std.specs.declared.cmp.Ordering.TheVariants.{Less}
use Rattle.std.specs.FinMap.Entries.{below_all, is_sorted}
use Rattle.ivy_base.specs.declared.key.Key.{Key}
use Rattle.ivy_base.specs.Naming.{key_cmp}
use Rattle.ring_model.specs.Blocks.{AreMoved}
use Rattle.ring_model.specs.Circle.{number}
use Rattle.ring_model.specs.Members.{IsAmong, owners}
use Rattle.ring_model.specs.Ring.{Links, IsSettledRing}
use Rattle.ring_model.proofs.Lists.{all-among}
use Rattle.dht_ids.specs.declared.peer.Peer.{Peer}
use Rattle.dht_ids.specs.Peers.{place}
use Rattle.dhash_model.specs.Stores.{Block, Blocks}
use Rattle.world_model.specs.Nodes.{Node}
use Rattle.world_model.specs.World.{World}
use Rattle.world_model.specs.Ring.{live_in_order}
use Rattle.world_model.specs.RingOf.{lives_in}
use Rattle.world_model.specs.Holding.{block_rank, rank_in}
use Rattle.round_laws.specs.RingOf.{IsSettledIn, links_in}
use Rattle.round_laws.specs.Holding.{AreStores, Tells}
use Rattle.round_laws.specs.Laws.{BlocksMove, RoundMovesBlocks}
use Rattle.round_laws.proofs.Nodes.{at_among, lives_by, made_by, order_by, order_shape, shape}
use Rattle.round_laws.proofs.Order.{order_lives}
use Rattle.round_laws.proofs.Standing.{IsBase, lives_are}
use Rattle.round_laws.proofs.Rounding.{base_of, leaves_who_lives, rounded_from, shapes_of, within_of}
use Rattle.round_laws.proofs.Holding.{AreSorted}
use Rattle.round_laws.proofs.Moving.{all_moved}
use Rattle.round_laws.proofs.Untouched.{held_untouched, parts_untouched, sorted_untouched}

both : (a b : Bool) → T a → T b → T (a && b)
both true b h g = g
both false b h g = absurd h

below : (k : Key) (es : Blocks) → AllByRecursion (λ y. key_cmp k y ≡ Less) (keys_of es) → T (below_all key_cmp k es)
below k [] a = tt
below k (e ∷ es) a = both (is_lt (key_cmp k e.0)) (below_all key_cmp k es) (subst (λ o. T (is_lt o)) (sym a.0) tt) (below k es a.1)

in_key_order : (es : Blocks) → IsStrictlySortedBy key_cmp (keys_of es) → T (is_sorted key_cmp es)
unfolding IsStrictlySortedBy
in_key_order [] a = tt
in_key_order (e ∷ es) a = both (below_all key_cmp e.0 es) (is_sorted key_cmp es) (below e.0 es a.0) (in_key_order es a.1)

stores_sorted : (w : World) → AreStores w → AreSorted w
stores_sorted w h id n e = in_key_order n.blocks (all-among (λ (m : Node). IsStrictlySortedBy key_cmp (keys_of m.blocks)) n w.nodes h.sorted (at_among w.nodes id n e))

pub length_made : (nodes : List Node) → length (made_by (map shape nodes)) ≡ length nodes
length_made [] = refl
length_made (n ∷ nodes) = ap (λ k. suc k) (length_made nodes)

-- the ring is settled by what holds of shapes
pub settled_by : (r : ℕ) (w : World) (order : List Peer) (lives : Peer → Bool) (links : Peer → Links Peer) → live_in_order w ≡ order → lives_in w ≡ lives → links_in w ≡ links → IsSettledIn w r → IsSettledRing place r 160 order lives links
settled_by r w order lives links e f g s =
    subst (λ l. IsSettledRing place r 160 order lives l) g (subst (λ l. IsSettledRing place r 160 order l (links_in w)) f (subst (λ l. IsSettledRing place r 160 l (lives_in w) (links_in w)) e s))

lives_in_order : (r : ℕ) (w : World) (end : ℕ) (b : IsBase r (shapes_of w) w.lost w.asked end) (p : Peer) → IsAmong p (live_in_order w) → lives_by (shapes_of w) p ≡ true
lives_in_order r w end b p i = order_lives (shapes_of w) p b.apart (subst (IsAmong p) (order_shape w) i)

tells_by : (r : ℕ) (w : World) (key : Key) (owns : Peer → Bool) → Tells owns (owners place r (live_in_order w) (number key)) → Tells owns (owners place r (order_by (shapes_of w)) (number key))
tells_by r w key owns t = subst (λ l. Tells owns (owners place r l (number key))) (order_shape w) t

pub blocks_move : BlocksMove
blocks_move judged r w next h few stores settled parts taken quiet key owns tells =
    let b = base_of r w next.asked h quiet in
    let i = within_of r w h in
    let lives = lives_are judged r (shapes_of w) w.lost w.asked next.asked b w i in
    let ring = settled_by r w (order_by (shapes_of w)) (lives_by (shapes_of w)) (links_in w) (order_shape w) lives refl settled in
    let size = length_made w.nodes in
    all_moved judged r (shapes_of w) w.lost w.asked next.asked b (links_in w) ring (omega (arith, few, size)) key owns (tells_by r w key owns tells) w next (live_in_order w)
    (record { within = i; linked = refl; kinds = stores.kinds; sorted = stores_sorted w stores }) (lives_in_order r w next.asked b) parts taken (le_refl next.asked)

pub round_moves_blocks : RoundMovesBlocks
round_moves_blocks judged r w next h few stores settled x taken quiet key owns tells =
    let b = base_of r w next.asked h quiet in
    let i = within_of r w h in
    let round = rounded_from judged r w next next.asked h quiet x in
    let stays = leaves_who_lives judged r w next h x in
    let lives = stays.1 ∙ lives_are judged r (shapes_of w) w.lost w.asked next.asked b w i in
    let ring = settled_by r next (order_by (shapes_of w)) (lives_by (shapes_of w)) (links_in x.three) (stays.2 ∙ order_shape w) lives round.linked settled in
    let size = length_made w.nodes in
    let untouched = parts_untouched judged r w next x in
    let same = held_untouched w x.three untouched in
    let moved = all_moved judged r (shapes_of w) w.lost w.asked next.asked b (links_in x.three) ring (omega (arith, few, size)) key owns (tells_by r w key owns tells) x.three next (live_in_order w)
    (record {
      within = round.within_three;
      linked = refl;
      kinds = λ k p q c d e f. stores.kinds k p q c d (sym (same k p) ∙ e) (sym (same k q) ∙ f);
      sorted = sorted_untouched w x.three untouched (stores_sorted w stores);
    }) (lives_in_order r w next.asked b) x.repairs taken (le_refl next.asked) in
    subst (λ f. AreMoved owns (live_in_order w) f (rank_in judged next key)) (λ t p. ranks (same key p) t) moved
  where
    ranks : {o q : Option Block} → o ≡ q → option_map (block_rank judged key) o ≡ option_map (block_rank judged key) q
    ranks e = ap (option_map (block_rank judged key)) e
