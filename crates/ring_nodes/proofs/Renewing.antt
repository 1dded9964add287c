-- A list that is renewed.
use Rattle.std.proofs.Common.{◌≡◌, ℕ, suc, ◌<◌, ◌≤◌, List, [], ◌∷◌, length, map, refl, sym, ap, ◌∙◌, subst, Option, Some, None, Result, Ok, Err, IfOk, arith}
use Rattle.std.specs.Prelude.{◌≢◌}
use Rattle.std.specs.Option.{option_map_or}
use Rattle.ivy_base.specs.declared.key.Key.{Key}
use Rattle.ivy_base.specs.declared.memory.Memory.{Memory}
use Rattle.ring_model.specs.Members.{first}
use Rattle.ring_model.proofs.Lists.{none_some, some_same}
use Rattle.dht_ids.specs.declared.ask.Answer.{Answer}
use Rattle.dht_ids.specs.declared.ask.Answer.TheVariants as answer
use Rattle.dht_ids.specs.declared.ask.Ask.{Ask}
use Rattle.dht_ids.specs.declared.ask.Ask.TheVariants as ask
use Rattle.dht_ids.specs.declared.judge.Judged.{Judged}
use Rattle.dht_ids.specs.declared.peer.Peer.{Peer}
use Rattle.dhash_model.specs.State.{stabilised}
use Rattle.chord_core.specs.State.{IsOfNear}
use Rattle.world_model.specs.Nodes.{Node}
use Rattle.world_model.specs.Fates.{FateOf}
use Rattle.world_model.specs.Fates.FateOf.{lost as was_lost, stopped as was_stopped, answers as was_answered}
use Rattle.world_model.specs.Rounds.{Notifies, Stabilises, listing_now}
use Rattle.world_model.specs.Rounds.Notifies.{nobody, notifies}
use Rattle.world_model.specs.Rounds.Stabilises.{alone, drops, hears}
use Rattle.world_model.specs.World.{World, empty_world, peer_of, with_node}
use Rattle.round_laws.specs.RingOf.{AreApart}
use Rattle.round_laws.proofs.Nodes.{at, at_id, at_same, replaced}
use Rattle.ring_nodes.specs.NodesState.{IsNodesOf, NodesState, made_peers, node_of, with_nodes}
use Rattle.ring_nodes.specs.Upkeep.{Changes, HasNode, renewed_by}
use Rattle.ring_nodes.proofs.Reaching.{same_world}
use Rattle.ring_nodes.specs.Parts.{NotifiesFirst}
use Rattle.ring_nodes.proofs.Parts.{replaced_itself}

-- ---- an ask for what is near

-- it is answered so, or not at all
near_of : (judged : Key → List ℕ → Option Judged) (w next : World) (to : Peer) (question : Ask) (given : Answer) → question ≡ ask.Near → FateOf judged w to question given next → IsOfNear given
near_of judged w next to question given e (was_lost l) = tt
near_of judged w next to question given e (was_stopped n l at still) = tt
near_of judged w next to (ask.Route key) given e (was_answered n l at live) = absurd cc
near_of judged w next to ask.Near given e (was_answered n l at live) = tt
near_of judged w next to (ask.Notify peer) given e (was_answered n l at live) = absurd cc
near_of judged w next to (ask.Get key) given e (was_answered n l at live) = absurd cc
near_of judged w next to (ask.PutBlock key bytes) given e (was_answered n l at live) = absurd cc
near_of judged w next to (ask.PutHead key bytes) given e (was_answered n l at live) = absurd cc

-- and changes no node
near_still : (judged : Key → List ℕ → Option Judged) (w next : World) (to : Peer) (question : Ask) (given : Answer) → question ≡ ask.Near → AreApart (map peer_of w.nodes) → FateOf judged w to question given next → next.nodes ≡ w.nodes
near_still judged w next to question given e apart (was_lost l) = refl
near_still judged w next to question given e apart (was_stopped n l at still) = refl
near_still judged w next to (ask.Route key) given e apart (was_answered n l at live) = absurd cc
near_still judged w next to ask.Near given e apart (was_answered n l at live) = replaced_itself w.nodes n to.id apart at
near_still judged w next to (ask.Notify peer) given e apart (was_answered n l at live) = absurd cc
near_still judged w next to (ask.Get key) given e apart (was_answered n l at live) = absurd cc
near_still judged w next to (ask.PutBlock key bytes) given e apart (was_answered n l at live) = absurd cc
near_still judged w next to (ask.PutHead key bytes) given e apart (was_answered n l at live) = absurd cc

pub answer_near : (judged : Key → List ℕ → Option Judged) (s mid : NodesState) (to : Peer) (given : Answer) → ((w : World) → IsNodesOf w s → FateOf judged w to ask.Near given (with_nodes w mid)) → IsOfNear given
answer_near judged s mid to given fate = near_of judged (with_nodes empty_world s) (with_nodes empty_world mid) to ask.Near given refl (fate (with_nodes empty_world s) (refl, refl, refl))

-- ---- the first of a list

no_first : (ps : List Peer) → None ≡ first ps → ps ≡ []
no_first [] e = refl
no_first (p ∷ ps) e = absurd (none_some p e)

first_rest : (ps : List Peer) (f : Peer) → Some f ≡ first ps → (rest : List Peer) × (ps ≡ f ∷ rest)
first_rest [] f e = absurd (none_some f (sym e))
first_rest (p ∷ ps) f e = (ps, ap (λ (q : Peer). q ∷ ps) (some_same p f (sym e)))

-- ---- the notice

module _ (judged : Key → List ℕ → Option Judged) (p : Peer) (s : NodesState) where
  pub notifies_nobody : (o : Option Peer) → HasNode (λ n. o ≡ first n.ring.links.list) s p.id → o ≡ None → (w : World) → IsNodesOf w s → NotifiesFirst judged p w (with_nodes w s)
  notifies_nobody o h none w is =
      subst (λ v. NotifiesFirst judged p v (with_nodes w s)) (sym (same_world w s is))
      (h.0, h.1, subst (λ l. Notifies judged p (with_nodes w s) l (with_nodes w s)) (sym (no_first h.0.ring.links.list (sym none ∙ h.2))) nobody)

  pub notifies_one : (o : Option Peer) (f : Peer) (next : NodesState) (given : Answer) → HasNode (λ n. o ≡ first n.ring.links.list) s p.id → o ≡ Some f → ((w : World) → IsNodesOf w s → FateOf judged w f (ask.Notify p) given (with_nodes w next))
      → (w : World) → IsNodesOf w s → NotifiesFirst judged p w (with_nodes w next)
  notifies_one o f next given h some fate w is =
      let r = first_rest h.0.ring.links.list f (sym some ∙ h.2) in
      subst (λ v. NotifiesFirst judged p v (with_nodes w next)) (sym (same_world w s is))
      (h.0, h.1, subst (λ l. Notifies judged p (with_nodes w s) l (with_nodes w next)) (sym r.1) (notifies f r.0 given (with_nodes w next) (fate (with_nodes w s) (refl, refl, refl))))

-- ---- the list

pub less_suc : (a b : ℕ) → a < b → suc a ≤ b
less_suc a b l = omega (arith, l)

-- how long the list of the node of that identifier is
abbrev pub list_left : NodesState → Key → ℕ
list_left s id = option_map_or (λ n. length n.ring.links.list) (node_of s id) 0

module _ (judged : Key → List ℕ → Option Judged) (p : Peer) (start : NodesState) where
  -- what is still to be done is all that was to be done
  pub record IsStabilising (now : NodesState) : Type 0 where
    pub goes : (w : World) → IsNodesOf w start → (after : World) → Stabilises judged p (with_nodes w now) after → Stabilises judged p w after
    pub made : made_peers now ≡ made_peers start

  pub stabilises_first : IsStabilising start
  stabilises_first = record { goes = λ w is after s. subst (λ v. Stabilises judged p v after) (sym (same_world w start is)) s; made = refl }

  module _ (now : NodesState) (l : IsStabilising now) (o : Option Peer) (h : HasNode (λ n. o ≡ first n.ring.links.list) now p.id) where
    pub ends_alone : o ≡ None → (w : World) → IsNodesOf w start → Stabilises judged p w (with_nodes w now)
    ends_alone none w is = l.goes w is (with_nodes w now) (alone h.0 h.1 (no_first h.0.ring.links.list (sym none ∙ h.2)))

    module _ (f : Peer) (some : o ≡ Some f) (apart : AreApart (made_peers now)) (mid next : NodesState) (given : Answer) (fate : (w : World) → IsNodesOf w now → FateOf judged w f ask.Near given (with_nodes w mid)) (c : Changes (renewed_by given) p.id mid next) where
      listed : h.0.ring.links.list ≡ f ∷ (first_rest h.0.ring.links.list f (sym some ∙ h.2)).0
      listed = (first_rest h.0.ring.links.list f (sym some ∙ h.2)).1

      same_nodes : mid.nodes ≡ now.nodes
      same_nodes = near_still judged (with_nodes empty_world now) (with_nodes empty_world mid) f ask.Near given refl apart (fate (with_nodes empty_world now) (refl, refl, refl))

      same_node : c.node ≡ h.0
      same_node = some_same c.node h.0 (sym c.at ∙ ap (λ ns. at ns p.id) same_nodes ∙ h.1)

      listed_then : c.node.ring.links.list ≡ f ∷ (first_rest h.0.ring.links.list f (sym some ∙ h.2)).0
      listed_then = ap (λ (n : Node). n.ring.links.list) same_node ∙ listed

      fate_of : (w : World) → FateOf judged (with_nodes w now) f ask.Near given (with_nodes w mid)
      fate_of w = fate (with_nodes w now) (refl, refl, refl)

      world_then : (w : World) → with_nodes w next ≡ with_node (with_nodes w mid) (listing_now c.node (stabilised c.node.ring (f ∷ (first_rest h.0.ring.links.list f (sym some ∙ h.2)).0) given))
      world_then w = c.is (with_nodes w mid) (refl, refl, refl) ∙ ap (λ ps. with_node (with_nodes w mid) (listing_now c.node (stabilised c.node.ring ps given))) listed_then

      node_then : node_of next p.id ≡ Some (listing_now c.node (stabilised c.node.ring (f ∷ (first_rest h.0.ring.links.list f (sym some ∙ h.2)).0) given))
      node_then =
          let n : Node = listing_now c.node (stabilised c.node.ring (f ∷ (first_rest h.0.ring.links.list f (sym some ∙ h.2)).0) given) in
          let same : (peer_of n).id ≡ p.id = at_id mid.nodes p.id c.node c.at in
          ap (λ (v : World). at v.nodes p.id) (world_then empty_world)
          ∙ subst (λ k. at (replaced n mid.nodes) k ≡ Some n) same (at_same mid.nodes n c.node (subst (λ k. at mid.nodes k ≡ Some c.node) (sym same) c.at))

      -- a silent entry is dropped
      pub drops_one : made_peers next ≡ made_peers now → given ≡ answer.Silent → IsStabilising next
      drops_one still silent = record {
        goes = λ w is after s. l.goes w is after
            (drops h.0 c.node f (first_rest h.0.ring.links.list f (sym some ∙ h.2)).0 (with_nodes w mid) h.1 listed (subst (λ g. FateOf judged (with_nodes w now) f ask.Near g (with_nodes w mid)) silent (fate_of w)) c.at
            (subst (λ v. Stabilises judged p v after) (world_then w ∙ ap (λ g. with_node (with_nodes w mid) (listing_now c.node (stabilised c.node.ring (f ∷ (first_rest h.0.ring.links.list f (sym some ∙ h.2)).0) g))) silent) s));
        made = still ∙ l.made;
      }

      pub drops_left : given ≡ answer.Silent → list_left next p.id < list_left now p.id
      drops_left silent =
          let old : list_left now p.id ≡ suc (length (first_rest h.0.ring.links.list f (sym some ∙ h.2)).0) = ap (λ o. option_map_or (λ (n : Node). length n.ring.links.list) o 0) h.1 ∙ ap (λ (ps : List Peer). length ps) listed in
          let new : list_left next p.id ≡ length (first_rest h.0.ring.links.list f (sym some ∙ h.2)).0 =
          ap (λ o. option_map_or (λ (n : Node). length n.ring.links.list) o 0) node_then ∙ ap (λ g. length (stabilised c.node.ring (f ∷ (first_rest h.0.ring.links.list f (sym some ∙ h.2)).0) g)) silent in
          below (list_left next p.id) (list_left now p.id) (length (first_rest h.0.ring.links.list f (sym some ∙ h.2)).0) new old
        where
          below : (a b k : ℕ) → a ≡ k → b ≡ suc k → a < b
          below a b k e g = omega (arith, e, g)

      -- one that answers renews the list
      pub ends_heard : (last : NodesState) → given ≢ answer.Silent → ((w : World) → IsNodesOf w next → NotifiesFirst judged p w (with_nodes w last)) → (w : World) → IsNodesOf w start → Stabilises judged p w (with_nodes w last)
      ends_heard last heard notice w is =
          let n = notice (with_nodes w next) (refl, refl, refl) in
          let listing : n.0.ring.links.list ≡ stabilised c.node.ring (f ∷ (first_rest h.0.ring.links.list f (sym some ∙ h.2)).0) given =
          ap (λ (m : Node). m.ring.links.list) (some_same n.0 (listing_now c.node (stabilised c.node.ring (f ∷ (first_rest h.0.ring.links.list f (sym some ∙ h.2)).0) given)) (sym n.1 ∙ node_then)) in
          l.goes w is (with_nodes w last)
          (hears h.0 c.node f (first_rest h.0.ring.links.list f (sym some ∙ h.2)).0 given (with_nodes w mid) h.1 listed (fate_of w) heard c.at
          (subst (λ v. Notifies judged p v (stabilised c.node.ring (f ∷ (first_rest h.0.ring.links.list f (sym some ∙ h.2)).0) given) (with_nodes w last)) (world_then w)
          (subst (λ ps. Notifies judged p (with_nodes w next) ps (with_nodes w last)) listing n.2)))

      -- the same by what a call gives
      pub ends_call : (last : NodesState) (result : Result Unit Memory) → given ≢ answer.Silent → IfOk result (λ _. (w : World) → IsNodesOf w next → NotifiesFirst judged p w (with_nodes w last)) → IfOk result (λ _. (w : World) → IsNodesOf w start → Stabilises judged p w (with_nodes w last))
      ends_call last (Err e) heard notice = tt
      ends_call last (Ok done) heard notice = ends_heard last heard notice
