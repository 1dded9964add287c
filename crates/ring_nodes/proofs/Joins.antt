-- The line of a join, by what its parts give.
use Rattle.std.proofs.Common.{◌≡◌, inl, inr, ⊎_elim, ℕ, zero, suc, ◌+◌, ◌*◌, ◌<◌, ◌≤◌, Bool, true, false, cond, ◌||◌, nat_lt, List, [], ◌∷◌, ◌++◌, length, map, filter, get_or, take, replicate, refl, sym, ap, ◌∙◌, subst, Option, Some, None, Result, Ok, Err, IfOk, arith}
use Rattle.std.specs.List.{AllByRecursion, list_any}
use Rattle.std.specs.Prelude.{nat_le}
use Rattle.std.proofs.Math.Seq.{take-suc}
use Rattle.std.proofs.lemmas.Bool.{le-leb}
use Rattle.std.proofs.lemmas.List.{append-nil, map-append}
use Rattle.std.specs.Ordering.{eq_by_cmp}
use Rattle.ivy_base.specs.Naming.{key_cmp}
use Rattle.ivy_base.specs.declared.key.Key.{Key}
use Rattle.ivy_base.specs.declared.memory.Memory.{Memory}
use Rattle.ring_model.specs.Members.{IsAmong, is_other}
use Rattle.ring_model.proofs.Lists.{all-among, all_from, among-left, among-right, among_filtered, among_take, none_some, some_same}
use Rattle.dht_ids.specs.NodeIds.{node_id_of}
use Rattle.dht_ids.specs.Peers.{place}
use Rattle.dht_ids.specs.declared.judge.Judged.{Judged}
use Rattle.dht_ids.specs.declared.peer.Peer.{Peer}
use Rattle.dhash_model.specs.Execution.{outcome}
use Rattle.dhash_model.specs.declared.miss.Miss.{Miss}
use Rattle.dhash_model.specs.State.{alone_node}
use Rattle.script_driver.specs.Run.{Goes}
use Rattle.world_model.specs.Nodes.{Node}
use Rattle.world_model.specs.World.{World, peer_of}
use Rattle.world_model.specs.Ring.{FindsNobody, JoinLine, LooksUp, empty_node, is_known_id, joined_node, least, peer_numbered, with_new_node}
use Rattle.world_model.specs.Ring.JoinLine.{known as is_met, exceeds, alone, joins, fails}
use Rattle.ring_nodes.specs.declared.joining.Join.{Join}
use Rattle.ring_nodes.specs.declared.joining.Join.TheVariants as join
use Rattle.ring_nodes.specs.NodesState.{AreAllAmong, IsNodesOf, NodesState, made_peers, with_nodes}
use Rattle.ring_nodes.specs.Joining.{Finds, IsNewNode, IsNewPeer, IsUndone, JoinsThrough, join_outcome, lesser_of, with_node_more}
use Rattle.ring_nodes.proofs.Reaching.{same_world}

-- ---- the node

all_replicated : (P : Peer → Type 0) (p : Peer) (n : ℕ) → P p → AllByRecursion P (replicate n p)
all_replicated P p zero h = tt
all_replicated P p (suc n) h = (h, all_replicated P p n h)

module _ (s : NodesState) (p : Peer) (r : ℕ) (new : IsNewPeer s p) where
  itself : IsAmong p (made_peers s ++ p ∷ [])
  itself = among-right p (made_peers s) (p ∷ []) (inl refl)

  pub new_alone : (n : Node) → n ≡ empty_node (alone_node p r) → IsNewNode s n
  new_alone n is = subst (IsNewNode s) (sym is) (record {
    peer = new;
    knows = record { list = tt; fingers = all_replicated (λ q. IsAmong q (made_peers s ++ p ∷ [])) p 160 itself; before = tt };
  })

  pub new_joined : (owners : List Peer) (n : Node) → AreAllAmong (made_peers s) owners → n ≡ joined_node p r owners → IsNewNode s n
  new_joined owners n all is = subst (IsNewNode s) (sym is) (record {
    peer = new;
    knows = record {
      list = all_from (λ q. IsAmong q (made_peers s ++ p ∷ [])) (take (2 * r) (filter (is_other place p) owners))
          (λ m i. among-left m (made_peers s) (p ∷ []) (all-among (λ q. IsAmong q (made_peers s)) m owners all (among_filtered (is_other place p) m owners (among_take (2 * r) m (filter (is_other place p) owners) i))));
      fingers = all_replicated (λ q. IsAmong q (made_peers s ++ p ∷ [])) p 160 itself;
      before = tt;
    };
  })

-- ---- whether an identifier is known

pub any_peer : (P : Peer → Bool) (nodes : List Node) → list_any P (map peer_of nodes) ≡ list_any (λ n. P (peer_of n)) nodes
any_peer P [] = refl
any_peer P (n ∷ nodes) = ap (λ b. P (peer_of n) || b) (any_peer P nodes)

-- ---- the least of some peers

least_fold : (q p : Peer) (qs : List Peer) → least (q ∷ (qs ++ p ∷ [])) ≡ Some (lesser_of (least (q ∷ qs)) p)
least_fold q p [] = refl
least_fold q p (x ∷ qs) = least_fold (lesser_of (Some q) x) p qs

pub least_more : (ps : List Peer) (p : Peer) → least (ps ++ p ∷ []) ≡ Some (lesser_of (least ps) p)
least_more [] p = refl
least_more (q ∷ qs) p = least_fold q p qs

-- a step of a walk over the nodes
pub least_step : (nodes read : List Node) (i : ℕ) (n d : Node) (before after : Option Peer) → read ≡ nodes → i < length read → n ≡ get_or read i d → before ≡ least (map peer_of (filter (λ m. m.is_live) (take i nodes)))
    → after ≡ cond n.is_live (Some (lesser_of before (peer_of n))) before → after ≡ least (map peer_of (filter (λ m. m.is_live) (take (i + 1) nodes)))
least_step nodes read i n d before after same within is was then =
    then ∙ by n.is_live refl ∙ ap (λ l. least (map peer_of (filter (λ (m : Node). m.is_live) l))) (sym taken)
  where
    taken : take (i + 1) nodes ≡ take i nodes ++ n ∷ []
    taken =
        let one : i + 1 ≡ suc i = omega arith in
        ap (λ l. take (i + 1) l) (sym same) ∙ ap (λ k. take k read) one ∙ take-suc read i d within ∙ ap (λ x. take i read ++ x ∷ []) (sym is) ∙ ap (λ l. take i l ++ n ∷ []) same

    filter_more : (b : Bool) → n.is_live ≡ b → (l : List Node) → filter (λ (m : Node). m.is_live) (l ++ n ∷ []) ≡ filter (λ (m : Node). m.is_live) l ++ cond b (n ∷ []) []
    filter_more b e [] = ap (λ t. cond t (n ∷ []) []) e
    filter_more b e (x ∷ l) = step x.is_live (filter_more b e l)
      where
        step : (t : Bool) → filter (λ (m : Node). m.is_live) (l ++ n ∷ []) ≡ filter (λ (m : Node). m.is_live) l ++ cond b (n ∷ []) []
            → cond t (x ∷ filter (λ (m : Node). m.is_live) (l ++ n ∷ [])) (filter (λ (m : Node). m.is_live) (l ++ n ∷ [])) ≡ cond t (x ∷ filter (λ (m : Node). m.is_live) l) (filter (λ (m : Node). m.is_live) l) ++ cond b (n ∷ []) []
        step true rest = ap (λ (m : List Node). x ∷ m) rest
        step false rest = rest

    by : (b : Bool) → n.is_live ≡ b → cond b (Some (lesser_of before (peer_of n))) before ≡ least (map peer_of (filter (λ (m : Node). m.is_live) (take i nodes ++ n ∷ [])))
    by true e =
        ap (λ o. Some (lesser_of o (peer_of n))) was ∙ sym (least_more (map peer_of (filter (λ (m : Node). m.is_live) (take i nodes))) (peer_of n))
        ∙ ap least (sym (map-append peer_of (filter (λ (m : Node). m.is_live) (take i nodes)) (n ∷ []))) ∙ ap (λ l. least (map peer_of l)) (sym (filter_more true e (take i nodes)))
    by false e = was ∙ ap (λ l. least (map peer_of l)) (sym (filter_more false e (take i nodes) ∙ append-nil (filter (λ (m : Node). m.is_live) (take i nodes))))

peers_of_live : (nodes : List Node) (p : Peer) → IsAmong p (map peer_of (filter (λ n. n.is_live) nodes)) → IsAmong p (map peer_of nodes)
peers_of_live [] p i = i
peers_of_live (n ∷ nodes) p i = by n.is_live i (peers_of_live nodes p)
  where
    by : (b : Bool) → IsAmong p (map peer_of (cond b (n ∷ filter (λ m. m.is_live) nodes) (filter (λ m. m.is_live) nodes))) → (IsAmong p (map peer_of (filter (λ m. m.is_live) nodes)) → IsAmong p (map peer_of nodes)) → IsAmong p (map peer_of (n ∷ nodes))
    by true (inl e) later = inl e
    by true (inr j) later = inr (later j)
    by false j later = inr (later j)

least_among : (q : Peer) (qs : List Peer) (p : Peer) → least (q ∷ qs) ≡ Some p → IsAmong p (q ∷ qs)
least_among q [] p e = inl (some_same q p e)
least_among q (x ∷ qs) p e = by (nat_lt x.number q.number) (λ z. least_among z qs p) e
  where
    by : (t : Bool) → ((z : Peer) → least (z ∷ qs) ≡ Some p → IsAmong p (z ∷ qs)) → least (cond t x q ∷ qs) ≡ Some p → IsAmong p (q ∷ x ∷ qs)
    by true f e = inr (f x e)
    by false f e = ⊎_elim (λ h. inl h) (λ h. inr (inr h)) (f q e)

-- the live node of the least number was made
pub least_made : (nodes : List Node) (p : Peer) → least (map peer_of (filter (λ n. n.is_live) nodes)) ≡ Some p → IsAmong p (map peer_of nodes)
least_made nodes p e = peers_of_live nodes p (by (map peer_of (filter (λ n. n.is_live) nodes)) e)
  where
    by : (ps : List Peer) → least ps ≡ Some p → IsAmong p ps
    by [] e = absurd (none_some p e)
    by (q ∷ qs) e = least_among q qs p e

-- ---- who was found

pub nobody_found : (key : Key) (found : Option (List Peer)) (miss : Miss) → outcome key found ≡ Err miss → FindsNobody found
nobody_found key None miss e = tt
nobody_found key (Some []) miss e = tt
nobody_found key (Some (p ∷ ps)) miss e = absurd cc

record Somebody (found : Option (List Peer)) (owners : List Peer) : Type 0 where
  first : Peer
  rest : List Peer
  are : owners ≡ first ∷ rest
  found_is : found ≡ Some (first ∷ rest)

somebody : (key : Key) (found : Option (List Peer)) (owners : List Peer) → outcome key found ≡ Ok owners → Somebody found owners
somebody key None owners e = absurd cc
somebody key (Some []) owners e = absurd cc
somebody key (Some (p ∷ ps)) owners e = record { first = p; rest = ps; are = cc; found_is = refl }

module _ (judged : Key → List ℕ → Option Judged) (s : NodesState) (r : ℕ) (p through : Peer) where
  pub fails_through : (next : NodesState) (miss : Miss) → ((w : World) → IsNodesOf w s → Finds judged w p.id through (Err miss) (with_nodes w next)) → (w : World) → IsNodesOf w s → JoinsThrough judged w r p through join.Failed (with_nodes w next)
  fails_through next miss finds w is = let f = finds w is in (f.0, f.2, nobody_found p.id f.0 miss f.1)

  pub joins_through : (mid next : NodesState) (owners : List Peer) → ((w : World) → IsNodesOf w s → Finds judged w p.id through (Ok owners) (with_nodes w mid)) → next ≡ with_node_more mid (joined_node p r owners)
      → (w : World) → IsNodesOf w s → JoinsThrough judged w r p through join.Joined (with_nodes w next)
  joins_through mid next owners finds after w is =
      let f = finds w is in
      let some = somebody p.id f.0 owners f.1 in (
        some.first,
        some.rest,
        with_nodes w mid,
        subst (λ o. LooksUp judged w p.id (through ∷ []) o (with_nodes w mid)) some.found_is f.2,
        ap (with_nodes w) (after ∙ ap (λ l. with_node_more mid (joined_node p r l)) some.are),
      )

-- ---- the line

-- whether the new peer is known, by what a walk gives
pub known_is : (s : NodesState) (number : ℕ) (id : Key) (b t : Bool) → id ≡ node_id_of number → b ≡ list_any (λ (q : Peer). eq_by_cmp key_cmp q.id id) (made_peers s) → b ≡ t → is_known_id (made_peers s) (peer_numbered number) ≡ t
known_is s number id b t named walked e = subst (λ k. list_any (λ (q : Peer). eq_by_cmp key_cmp q.id k) (made_peers s) ≡ t) named (sym walked ∙ e)

-- a node that was made doesn't stay undone
pub never_undone : (Is : Join → Type 0) (result : Result Join Memory) → IfOk result (λ became. IsUndone became → ⊥) → IfOk result (λ became. IsUndone became → Is became)
never_undone Is (Ok became) h = λ u. absurd (h u)
never_undone Is (Err e) h = tt

module _ (judged : Key → List ℕ → Option Judged) (s : NodesState) (number r : ℕ) where
  pub refused_line : (next : NodesState) → is_known_id (made_peers s) (peer_numbered number) ≡ true → (w : World) → IsNodesOf w s → JoinLine judged w number (Some r) (join_outcome number join.Refused (with_nodes w next))
  refused_line next t w is = is_met r (subst (λ l. is_known_id (map peer_of l) (peer_numbered number) ≡ true) (sym is.0) t)

  module _ (unknown : is_known_id (made_peers s) (peer_numbered number) ≡ false) where
    is_unknown : (w : World) → IsNodesOf w s → is_known_id (map peer_of w.nodes) (peer_numbered number) ≡ false
    is_unknown w is = subst (λ l. is_known_id (map peer_of l) (peer_numbered number) ≡ false) (sym is.0) unknown

    pub full_line : (next : NodesState) → 256 ≤ length s.nodes → (w : World) → IsNodesOf w s → JoinLine judged w number (Some r) (join_outcome number join.Full (with_nodes w next))
    full_line next many w is = exceeds r (is_unknown w is) (subst (λ l. nat_le 256 (length l) ≡ true) (sym is.0) (le-leb 256 (length s.nodes) many))

    module _ (few : length s.nodes < 256) where
      is_few : (w : World) → IsNodesOf w s → nat_le 256 (length w.nodes) ≡ false
      is_few w is = subst (λ l. nat_le 256 (length l) ≡ false) (sym is.0) (not_le 256 (length s.nodes) few)
        where
          not_le : (a b : ℕ) → b < a → nat_le a b ≡ false
          not_le a b l = grind (arith, l)

      pub alone_line : (next : NodesState) → least (map peer_of (filter (λ n. n.is_live) s.nodes)) ≡ None → next ≡ with_node_more s (empty_node (alone_node (peer_numbered number) r))
          → (w : World) → IsNodesOf w s → JoinLine judged w number (Some r) (join_outcome number join.Joined (with_nodes w next))
      alone_line next nobody after w is =
          let n : Node = empty_node (alone_node (peer_numbered number) r) in
          let world : with_new_node w n ≡ with_nodes w next = ap (λ v. with_new_node v n) (same_world w s is) ∙ ap (with_nodes w) (sym after) in
          subst (λ v. JoinLine judged w number (Some r) (Goes v [])) world
          (alone r (is_unknown w is) (is_few w is) (subst (λ l. least (map peer_of (filter (λ n. n.is_live) l)) ≡ None) (sym is.0) nobody))

      pub through_line : (through : Peer) → least (map peer_of (filter (λ n. n.is_live) s.nodes)) ≡ Some through → (next : NodesState) (became : Join)
          → ((w : World) → IsNodesOf w s → JoinsThrough judged w r (peer_numbered number) through became (with_nodes w next))
          → (w : World) → IsNodesOf w s → JoinLine judged w number (Some r) (join_outcome number became (with_nodes w next))
      through_line through first next became does w is = by became (does w is)
        where
          first_in : least (map peer_of (filter (λ n. n.is_live) w.nodes)) ≡ Some through
          first_in = subst (λ l. least (map peer_of (filter (λ n. n.is_live) l)) ≡ Some through) (sym is.0) first

          by : (became : Join) → JoinsThrough judged w r (peer_numbered number) through became (with_nodes w next) → JoinLine judged w number (Some r) (join_outcome number became (with_nodes w next))
          by join.Joined d = subst (λ v. JoinLine judged w number (Some r) (Goes v [])) (sym d.4) (joins r through d.0 d.1 d.2 (is_unknown w is) (is_few w is) first_in d.3)
          by join.Refused d = absurd d
          by join.Full d = absurd d
          by join.Failed d = fails r through d.0 (with_nodes w next) (is_unknown w is) (is_few w is) first_in d.1 d.2

      -- the same by what a call gives
      pub lines_through : (through : Peer) → least (map peer_of (filter (λ n. n.is_live) s.nodes)) ≡ Some through → (next : NodesState) (id : Key) (result : Result Join Memory) → id ≡ node_id_of number
          → IfOk result (λ became. (w : World) → IsNodesOf w s → JoinsThrough judged w r (record { number = number; id = id }) through became (with_nodes w next))
          → IfOk result (λ became. (w : World) → IsNodesOf w s → JoinLine judged w number (Some r) (join_outcome number became (with_nodes w next)))
      lines_through through first next id (Err e) named does = tt
      lines_through through first next id (Ok became) named does =
          through_line through first next became (subst (λ k. (w : World) → IsNodesOf w s → JoinsThrough judged w r (record { number = number; id = k }) through became (with_nodes w next)) named does)
