-- A whole round.
use Rattle.std.proofs.Common.{◌≡◌, inl, inr, ℕ, suc, ◌*◌, Bool, true, false, cond, List, [], ◌∷◌, map, filter, fold, refl, sym, ap, ◌∙◌, subst, Option, Result, Ok, Err, IfOk, nat_lt}
use Rattle.std.specs.List.{AllByRecursion}
use Rattle.ivy_base.specs.declared.key.Key.{Key}
use Rattle.ivy_base.specs.declared.memory.Memory.{Memory}
use Rattle.ring_model.specs.Members.{IsAmong}
use Rattle.ring_model.proofs.Lists.{all_from}
use Rattle.dht_ids.specs.Peers.{place}
use Rattle.dht_ids.specs.declared.judge.Judged.{Judged}
use Rattle.dht_ids.specs.declared.peer.Peer.{Peer}
use Rattle.world_model.specs.Nodes.{Node}
use Rattle.world_model.specs.Ring.{in_ring_order, live_in_order, with_peer}
use Rattle.world_model.specs.Rounds.{EachDoes, FixesFrom, Forgets, IsRoundOf, ManyDo, Repairs, Stabilises}
use Rattle.world_model.specs.World.{World, peer_of}
use Rattle.ring_nodes.specs.NodesState.{AreAllAmong, IsNodesOf, NodesState, made_peers, with_nodes}

all_placed : (P : Peer → Type 0) (qs : List Peer) (p : Peer) → AllByRecursion P qs → P p → AllByRecursion P (with_peer qs p)
all_placed P [] p all h = (h, tt)
all_placed P (q ∷ qs) p all h = by (nat_lt (place p) (place q)) (all_placed P qs p all.1 h)
  where
    by : (t : Bool) → AllByRecursion P (with_peer qs p) → AllByRecursion P (cond t (p ∷ q ∷ qs) (q ∷ with_peer qs p))
    by true rest = (h, all)
    by false rest = (all.0, rest)

all_ordered : (P : Peer → Type 0) (qs ps : List Peer) → AllByRecursion P qs → AllByRecursion P ps → AllByRecursion P (fold with_peer qs ps)
all_ordered P qs [] all more = all
all_ordered P qs (p ∷ ps) all more = all_ordered P (with_peer qs p) ps (all_placed P qs p all more.0) more.1

live_made : (nodes : List Node) (p : Peer) → IsAmong p (map peer_of (filter (λ n. n.is_live) nodes)) → IsAmong p (map peer_of nodes)
live_made [] p i = i
live_made (n ∷ nodes) p i = by n.is_live i (live_made nodes p)
  where
    by : (b : Bool) → IsAmong p (map peer_of (cond b (n ∷ filter (λ m. m.is_live) nodes) (filter (λ m. m.is_live) nodes))) → (IsAmong p (map peer_of (filter (λ m. m.is_live) nodes)) → IsAmong p (map peer_of nodes)) → IsAmong p (map peer_of (n ∷ nodes))
    by true (inl e) later = inl e
    by true (inr j) later = inr (later j)
    by false j later = inr (later j)

-- the live peers were made
pub order_made : (s : NodesState) (live : List Peer) → live ≡ in_ring_order (map peer_of (filter (λ n. n.is_live) s.nodes)) → AreAllAmong (made_peers s) live
order_made s live is =
    subst (AreAllAmong (made_peers s)) (sym is)
    (all_ordered (λ q. IsAmong q (made_peers s)) [] (map peer_of (filter (λ n. n.is_live) s.nodes)) tt (all_from (λ q. IsAmong q (made_peers s)) (map peer_of (filter (λ n. n.is_live) s.nodes)) (λ q i. live_made s.nodes q i)))

pub still_made : (made next live : List Peer) → next ≡ made → AreAllAmong made live → AreAllAmong next live
still_made made next live same all = subst (λ m. AreAllAmong m live) (sym same) all

-- the four parts are a round
module _ (judged : Key → List ℕ → Option Judged) (r : ℕ) (s one two three next : NodesState) (a b c d : List Peer) (result : Result Unit Memory) where
  abbrev IsOrder : List Peer → Type 0
  IsOrder live = live ≡ in_ring_order (map peer_of (filter (λ n. n.is_live) s.nodes))

  pub is_round : IsOrder a → IsOrder b → IsOrder c → IsOrder d
      → ((w : World) → IsNodesOf w s → EachDoes (Forgets judged) w a (with_nodes w one))
      → ((w : World) → IsNodesOf w one → ManyDo (EachDoes (λ v p. Stabilises judged p v)) b (suc (2 * r)) w (with_nodes w two))
      → ((w : World) → IsNodesOf w two → EachDoes (λ v p. FixesFrom judged p 0 160 v) w c (with_nodes w three))
      → IfOk result (λ _. (w : World) → IsNodesOf w three → EachDoes (Repairs judged r) w d (with_nodes w next))
      → IfOk result (λ _. (w : World) → IsNodesOf w s → IsRoundOf judged r w (with_nodes w next))
  is_round oa ob oc od forgets passes fingers repairs = by result repairs
    where
      in_world : (live : List Peer) → IsOrder live → (w : World) → IsNodesOf w s → live ≡ live_in_order w
      in_world live are w is = are ∙ ap (λ ns. in_ring_order (map peer_of (filter (λ n. n.is_live) ns))) (sym is.0)

      by : (result : Result Unit Memory) → IfOk result (λ _. (w : World) → IsNodesOf w three → EachDoes (Repairs judged r) w d (with_nodes w next)) → IfOk result (λ _. (w : World) → IsNodesOf w s → IsRoundOf judged r w (with_nodes w next))
      by (Err e) repairs = tt
      by (Ok done) repairs = λ w is. record {
        one = with_nodes w one;
        two = with_nodes w two;
        three = with_nodes w three;
        forgets = subst (λ l. EachDoes (Forgets judged) w l (with_nodes w one)) (in_world a oa w is) (forgets w is);
        passes = subst (λ l. ManyDo (EachDoes (λ v p. Stabilises judged p v)) l (suc (2 * r)) (with_nodes w one) (with_nodes w two)) (in_world b ob w is) (passes (with_nodes w one) (refl, refl, refl));
        fingers = subst (λ l. EachDoes (λ v p. FixesFrom judged p 0 160 v) (with_nodes w two) l (with_nodes w three)) (in_world c oc w is) (fingers (with_nodes w two) (refl, refl, refl));
        repairs = subst (λ l. EachDoes (Repairs judged r) (with_nodes w three) l (with_nodes w next)) (in_world d od w is) (repairs (with_nodes w three) (refl, refl, refl));
      }
