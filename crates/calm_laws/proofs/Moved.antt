-- A round in which each put is taken: owners hold what any live node held, no other node holds anything, and nothing comes from nowhere.
use Rattle.std.proofs.Common.{◌≡◌, ◌⊎◌, inl, inr, ⊎_elim, ℕ, ◌≤◌, Bool, true, false, cond, ◌&&◌, nat_eq, List, [], ◌∷◌, length, refl, sym, ap, ◌∙◌, subst, Option, Some, None, arith, le_refl, option_and_then, is_some}
use Rattle.std.specs.Prelude.{◌↔◌}
use Rattle.std.specs.List.{list_any}
use Rattle.std.specs.List.Sorted.{IsStrictlySortedBy}
use Rattle.std.specs.Map.{keys_of}
use Rattle.std.specs.Ordering.{eq_by_cmp}
use Rattle.std.specs.FinMap.Entries.{find as value_at}
use Rattle.std.proofs.lemmas.Bool.{eq-eqb, eqb-true}
use Rattle.ivy_base.specs.declared.key.Key.{Key}
use Rattle.ivy_base.specs.Naming.{key_cmp}
use Rattle.ring_model.specs.Blocks.{AreMoved, IsAtLeast, IsMoved}
use Rattle.ring_model.specs.Blocks.AreMoved.{none as none_moved, next as then_moved}
use Rattle.ring_model.specs.Blocks.IsMoved.{idle, puts as moves}
use Rattle.ring_model.specs.Circle.{number}
use Rattle.ring_model.specs.Members.{IsAmong, owners}
use Rattle.ring_model.proofs.Blocks.{others_drop, owners_hold}
use Rattle.ring_model.proofs.Lists.{all_from, none_some}
use Rattle.log_model.proofs.Lists.{or_cases, or_left, or_right}
use Rattle.dht_ids.specs.Peers.{place}
use Rattle.dht_ids.specs.declared.peer.Peer.{Peer}
use Rattle.dhash_model.specs.Signed.{hss_judged}
use Rattle.dhash_model.specs.Stores.{Block}
use Rattle.world_model.specs.Nodes.{Node}
use Rattle.world_model.specs.World.{World, node_at, peer_of}
use Rattle.world_model.specs.Ring.{live_in_order}
use Rattle.world_model.specs.Rounds.{IsRoundOf}
use Rattle.world_model.specs.RingOf.{lives_in, own_node}
use Rattle.world_model.specs.Holding.{held_in}
use Rattle.round_laws.specs.RingOf.{AreNodes, IsSettledIn, LosesNone, links_in}
use Rattle.round_laws.specs.Holding.{AreStores, Tells}
use Rattle.round_laws.proofs.Nodes.{lives_by, order_by, order_shape, same_id, same_peer, ties}
use Rattle.round_laws.proofs.Order.{order_lives}
use Rattle.round_laws.proofs.Standing.{lives_are, peer_or_not}
use Rattle.round_laws.proofs.Rounding.{at_own, base_of, in_order, leaves_who_lives, order_in, rounded_from, shapes_of, within_of}
use Rattle.round_laws.proofs.Settling.{length_made, round_moves_blocks, settled_by}
use Rattle.round_laws.proofs.Untouched.{parts_untouched}
use Rattle.calm_laws.specs.Calm.{held_rank}
use Rattle.world_laws.proofs.StoredBlocks.{from_sorted}
use Rattle.calm_laws.proofs.BlockKinds.{AreApart, IsOf, one_kind}
use Rattle.calm_laws.specs.Laws.{IsWithinLimit}
use Rattle.calm_laws.proofs.Holding.{AreOrderly, orderly_untouched}
use Rattle.calm_laws.proofs.Repairs.{each_put_taken}

-- ---- a test of who is among some

is_peer : Peer → Peer → Bool
is_peer m q = nat_eq q.number m.number && eq_by_cmp key_cmp q.id m.id

is_peer_so : (m q : Peer) → is_peer m q ≡ true → q ≡ m
unfolding is_peer
is_peer_so m q e = by (nat_eq q.number m.number) refl e
  where
    by : (b : Bool) → nat_eq q.number m.number ≡ b → (b && eq_by_cmp key_cmp q.id m.id) ≡ true → q ≡ m
    by true n f = same_peer q m (eqb-true q.number m.number n) (same_id q.id m.id f)
    by false n f = cc f

is_peer_same : (m q : Peer) → q ≡ m → is_peer m q ≡ true
unfolding is_peer
is_peer_same m q e = both (nat_eq q.number m.number) (eq_by_cmp key_cmp q.id m.id) (eq-eqb q.number m.number (ap (λ (x : Peer). x.number) e)) (ties q.id m.id (ap (λ (x : Peer). x.id) e))
  where
    both : (a b : Bool) → a ≡ true → b ≡ true → (a && b) ≡ true
    both true b h g = g
    both false b h g = cc h

pub is_in : List Peer → Peer → Bool
is_in ps m = list_any (is_peer m) ps

pub is_in_tells : (ps : List Peer) → Tells (is_in ps) ps
unfolding is_in
is_in_tells ps m = (into ps, from ps)
  where
    into : (ps : List Peer) → list_any (is_peer m) ps ≡ true → IsAmong m ps
    into [] e = cc e
    into (q ∷ ps) e = ⊎_elim (λ here. inl (is_peer_so m q here)) (λ later. inr (into ps later)) (or_cases (is_peer m q) (list_any (is_peer m) ps) e)

    from : (ps : List Peer) → IsAmong m ps → list_any (is_peer m) ps ≡ true
    from [] i = absurd i
    from (q ∷ ps) (inl e) = or_left (is_peer m q) (list_any (is_peer m) ps) (is_peer_same m q e)
    from (q ∷ ps) (inr i) = or_right (is_peer m q) (list_any (is_peer m) ps) (from ps i)

-- ---- nothing comes from nowhere

abbrev HasSome : Option ℕ → Type 0
HasSome o = is_some o ≡ true

some_of : (o : Option ℕ) (v : ℕ) → o ≡ Some v → HasSome o
some_of o v e = ap is_some e

moved_from : (owns : Peer → Bool) (n z : Peer) (old new : Peer → Option ℕ) → IsMoved owns n old new → HasSome (new z) → HasSome (old z) ⊎ HasSome (old n)
moved_from owns n z old new (idle e same) h = inl (subst HasSome (same z) h)
moved_from owns n z old new (moves v e at rest own away) h = inr (some_of (old n) v e)

all_from_old : (owns : Peer → Bool) {ns : List Peer} {old new : Peer → Option ℕ} → AreMoved owns ns old new → (m : Peer) → HasSome (new m) → (z : Peer) × ((z ≡ m) ⊎ IsAmong z ns) × HasSome (old z)
all_from_old owns none_moved m h = (m, inl refl, h)
all_from_old owns (then_moved {n = n} {ns = ns} {old = old} {mid = mid} st more) m h =
    let later = all_from_old owns more m h in
    ⊎_elim (λ own. (later.0, ⊎_elim (λ s. inl s) (λ i. inr (inr i)) later.1, own)) (λ from. (n, inr (inl refl), from)) (moved_from owns n later.0 old mid st later.2)

-- ---- what is held is a node's

pub held_node : (w : World) (key : Key) (p : Peer) (c : Block) → held_in w key p ≡ Some c → (n : Node) × (node_at w p.id ≡ Some n) × (value_at key_cmp key n.blocks ≡ Some c)
held_node w key p c e = by (node_at w p.id) refl e
  where
    test : (n : Node) (t : Bool) → option_and_then (λ (m : Node). value_at key_cmp key m.blocks) (cond t (Some n) None) ≡ Some c → value_at key_cmp key n.blocks ≡ Some c
    test n true f = f
    test n false f = absurd (none_some c f)

    by : (o : Option Node) → node_at w p.id ≡ o → option_and_then (λ (m : Node). value_at key_cmp key m.blocks) (own_node p o) ≡ Some c → (n : Node) × (node_at w p.id ≡ Some n) × (value_at key_cmp key n.blocks ≡ Some c)
    by None at f = absurd (none_some c f)
    by (Some n) at f = (n, at, test n (nat_eq (peer_of n).number p.number) f)

pub held_of : (end w : World) (key : Key) (p : Peer) (c : Block) → AreOrderly end w → held_in w key p ≡ Some c → IsOf end key c.kind c.bytes
held_of end w key p c h e = let found = held_node w key p c e in (h p.id found.0 found.1).kinds key c found.2

pub are_stores : (r : ℕ) (end w : World) → AreNodes r w → AreApart end → AreOrderly end w → AreStores w
are_stores r end w nodes apart h = record {
  sorted = all_from (λ (n : Node). IsStrictlySortedBy key_cmp (keys_of n.blocks)) w.nodes (λ n i. from_sorted n.blocks (h (peer_of n).id n (at_own w.nodes n nodes.apart i)).sorted);
  kinds = λ key p q c d e f. one_kind end apart key c.kind d.kind c.bytes d.bytes (held_of end w key p c h e) (held_of end w key q d h f);
}

-- ---- a round

pub record AfterRound (r : ℕ) (end w next : World) : Type 0 where
  pub orderly : AreOrderly end next
  pub moved : (key : Key) (owns : Peer → Bool) → Tells owns (owners place r (live_in_order w) (number key)) → AreMoved owns (live_in_order w) (held_rank w key) (held_rank next key)

pub after_round : (r : ℕ) (end w next : World) → AreNodes r w → length w.nodes ≤ 512 → IsSettledIn next r → AreApart end → IsWithinLimit end → AreOrderly end w → LosesNone w next → IsRoundOf hss_judged r w next → AfterRound r end w next
after_round r end w next h few settled apart room orderly quiet x =
    let base = base_of r w next.asked h quiet in
    let round = rounded_from hss_judged r w next next.asked h quiet x in
    let stays = leaves_who_lives hss_judged r w next h x in
    let lives = stays.1 ∙ lives_are hss_judged r (shapes_of w) w.lost w.asked next.asked base w (within_of r w h) in
    let ring = settled_by r next (order_by (shapes_of w)) (lives_by (shapes_of w)) (links_in x.three) (stays.2 ∙ order_shape w) lives round.linked settled in
    let size = length_made w.nodes in
    let done = each_put_taken r (shapes_of w) w.lost w.asked next.asked base (links_in x.three) ring (omega (arith, few, size)) end apart room x.three next (live_in_order w) round.within_three refl
    (orderly_untouched end w x.three (parts_untouched hss_judged r w next x) orderly) (λ p i. order_lives (shapes_of w) p base.apart (subst (IsAmong p) (order_shape w) i)) x.repairs (le_refl next.asked) in
    record {
      orderly = done.1;
      moved = λ key owns tells. round_moves_blocks hss_judged r w next h few (are_stores r end w h apart orderly) settled x done.0 quiet key owns tells;
    }

some_least : (o : Option ℕ) → HasSome o → IsAtLeast 0 o
some_least None h = absurd cc
some_least (Some v) h = omega arith

least_some : (o : Option ℕ) (v : ℕ) → IsAtLeast v o → HasSome o
least_some None v h = absurd h
least_some (Some u) v h = refl

none_not : (o : Option ℕ) → o ≡ None → HasSome o → ⊥
none_not o e h = let no : false ≡ true = sym (ap is_some e) ∙ h in cc

pub round_moves : (r : ℕ) (w next : World) → AreNodes r w → ((key : Key) (owns : Peer → Bool) → Tells owns (owners place r (live_in_order w) (number key)) → AreMoved owns (live_in_order w) (held_rank w key) (held_rank next key)) → lives_in next ≡ lives_in w
    → (m : Peer) (key : Key) → lives_in next m ≡ true
    → (is_some (held_rank next key m) ≡ true) ↔ (IsAmong m (owners place r (live_in_order w) (number key)) × (p : Peer) × (lives_in w p ≡ true) × (is_some (held_rank w key p) ≡ true))
round_moves r w next h moved same m key live = (into, from)
  where
    own : List Peer
    own = owners place r (live_in_order w) (number key)

    are : AreMoved (is_in own) (live_in_order w) (held_rank w key) (held_rank next key)
    are = moved key (is_in own) (is_in_tells own)

    lived : lives_in w m ≡ true
    lived = subst (λ (l : Peer → Bool). l m ≡ true) same live

    into : is_some (held_rank next key m) ≡ true → IsAmong m own × (p : Peer) × (lives_in w p ≡ true) × (is_some (held_rank w key p) ≡ true)
    into h_some =
        let old = all_from_old (is_in own) are m h_some in (
          owned (is_in own m) refl h_some,
          old.0,
          ⊎_elim (λ s. subst (λ x. lives_in w x ≡ true) (sym s) lived) (λ i. in_order r w old.0 h i) old.1,
          old.2,
        )
      where
        owned : (b : Bool) → is_in own m ≡ b → is_some (held_rank next key m) ≡ true → IsAmong m own
        owned true e s = (is_in_tells own m).0 e
        owned false e s = absurd (none_not (held_rank next key m) (others_drop (is_in own) peer_or_not are m e (inr (order_in r w m h lived))) s)

    from : IsAmong m own × (p : Peer) × (lives_in w p ≡ true) × (is_some (held_rank w key p) ≡ true) → is_some (held_rank next key m) ≡ true
    from given =
        least_some (held_rank next key m) 0
        (owners_hold (is_in own) peer_or_not 0 are (inr (given.1, order_in r w given.1 h given.2, some_least (held_rank w key given.1) given.3)) m ((is_in_tells own m).1 given.0))
