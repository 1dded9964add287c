-- The fate of an ask, by the state of the nodes.
use Rattle.std.proofs.Common.{◌≡◌, ℕ, ◌+◌, true, false, List, map, set, get_or, sym, ap, ◌∙◌, subst, Option, Some, Result, Ok, Err, IfOk}
use Rattle.std.specs.Prelude.{Contains, OnOk}
use Rattle.std.specs.List.{position}
use Rattle.std.proofs.lemmas.List.{set-get_or}
use Rattle.ivy_base.specs.declared.memory.Memory.{Memory}
use Rattle.ivy_base.specs.declared.key.Key.{Key}
use Rattle.dht_ids.specs.declared.ask.Answer.{Answer}
use Rattle.dht_ids.specs.declared.ask.Answer.TheVariants.{Silent}
use Rattle.dht_ids.specs.declared.ask.Ask.{Ask}
use Rattle.dht_ids.specs.declared.judge.Judged.{Judged}
use Rattle.dht_ids.specs.declared.peer.Peer.{Peer}
use Rattle.world_model.specs.Nodes.{Node, answered}
use Rattle.world_model.specs.World.{World, node_at, peer_of, with_node}
use Rattle.world_model.specs.Fates.{FateOf, IsLost, ask_counted as counted}
use Rattle.world_model.specs.Fates.FateOf.{lost as was_lost, stopped as was_stopped, answers as was_answered}
use Rattle.round_laws.specs.RingOf.{AreApart}
use Rattle.round_laws.proofs.Nodes.{at, replaced}
use Rattle.ring_nodes.specs.NodesState.{NodesState, IsNodesOf, with_nodes}
use Rattle.ring_nodes.proofs.Places.{found_at, found_within, has_id, set_replaces}
use Rattle.ring_nodes.proofs.Putting.{answered_peer}

-- the world that these nodes make of it
pub same_world : (w : World) (s : NodesState) → IsNodesOf w s → w ≡ with_nodes w s
same_world w s is = λ i. record w { nodes = is.0 i; asked = is.1 i; lost = is.2 i }

pub counted_world : (w : World) (s next : NodesState) → IsNodesOf w s → next.nodes ≡ s.nodes → next.asked ≡ s.asked + 1 → next.lost ≡ s.lost → counted w ≡ with_nodes w next
counted_world w s next is nodes asked lost = λ i. record w { nodes = (is.0 ∙ sym nodes) i; asked = (ap (λ k. k + 1) is.1 ∙ sym asked) i; lost = (is.2 ∙ sym lost) i }

module _ (judged : Key → List ℕ → Option Judged) (to : Peer) (question : Ask) where
  pub lost_fate : (s next : NodesState) (given : Answer) → Contains s.lost (s.asked + 1) → given ≡ Silent → next.nodes ≡ s.nodes → next.asked ≡ s.asked + 1 → next.lost ≡ s.lost
      → (w : World) → IsNodesOf w s → FateOf judged w to question given (with_nodes w next)
  lost_fate s next given lost silent nodes asked same w is =
      let here : IsLost w = subst (λ (v : World). IsLost v) (sym (same_world w s is)) lost in
      subst (λ g. FateOf judged w to question g (with_nodes w next)) (sym silent)
      (subst (FateOf judged w to question Silent) (counted_world w s next is nodes asked same) (was_lost here))

  -- the ask came to the node at that place: silence, where it is stopped
  pub silent_fate : (s : NodesState) (i : ℕ) (d : Node) → position (has_id to.id) s.nodes ≡ Some i → (get_or s.nodes i d).is_live ≡ false
      → (w : World) → IsNodesOf w s → (IsLost w → ⊥) → FateOf judged w to question Silent (counted (with_nodes w s))
  silent_fate s i d found stopped w is kept =
      let here : node_at w to.id ≡ Some (get_or s.nodes i d) = subst (λ l. at l to.id ≡ Some (get_or s.nodes i d)) (sym is.0) (found_at (has_id to.id) s.nodes i d found) in
      subst (λ v. FateOf judged w to question Silent (counted v)) (same_world w s is) (was_stopped (get_or s.nodes i d) kept here stopped)

  -- and else its answer
  pub answer_fate : (s next : NodesState) (i : ℕ) (n d : Node) (given : Answer) → AreApart (map peer_of s.nodes) → position (has_id to.id) s.nodes ≡ Some i → (get_or s.nodes i d).is_live ≡ true
      → given ≡ (answered judged (get_or s.nodes i d) question).0 → n ≡ (answered judged (get_or s.nodes i d) question).1
      → next.nodes ≡ set s.nodes i n → next.asked ≡ s.asked → next.lost ≡ s.lost
      → (w : World) → IsNodesOf w s → (IsLost w → ⊥) → FateOf judged w to question given (counted (with_nodes w next))
  answer_fate s next i n d given apart found live gives after nodes asked lost w is kept =
      let old : Node = get_or s.nodes i d in
      let new : Node = (answered judged old question).1 in
      let here : node_at w to.id ≡ Some old = subst (λ l. at l to.id ≡ Some old) (sym is.0) (found_at (has_id to.id) s.nodes i d found) in
      let all : replaced new w.nodes ≡ next.nodes = ap (replaced new) is.0 ∙ sym (set_replaces s.nodes i new d apart (found_within (has_id to.id) s.nodes i found) (answered_peer judged old question)) ∙ ap (set s.nodes i) (sym after) ∙ sym nodes in
      let world : with_node (counted w) new ≡ counted (with_nodes w next) = λ k. record w { nodes = all k; asked = (is.1 ∙ sym asked) k + 1; lost = (is.2 ∙ sym lost) k } in
      subst (λ g. FateOf judged w to question g (counted (with_nodes w next))) (sym gives)
      (subst (FateOf judged w to question (answered judged old question).0) world (was_answered old kept here live))

  -- an ask that wasn't lost is counted
  pub kept_fate : (s reached next : NodesState) (given : Answer) → (Contains s.lost (s.asked + 1) → ⊥)
      → ((w : World) → IsNodesOf w s → (IsLost w → ⊥) → FateOf judged w to question given (counted (with_nodes w reached)))
      → reached.asked ≡ s.asked → reached.lost ≡ s.lost → next.nodes ≡ reached.nodes → next.asked ≡ s.asked + 1 → next.lost ≡ reached.lost
      → (w : World) → IsNodesOf w s → FateOf judged w to question given (with_nodes w next)
  kept_fate s reached next given kept fate asked lost nodes counts same w is =
      let here : IsLost w → ⊥ = λ l. kept (subst (λ (v : World). IsLost v) (same_world w s is) l) in
      let world : counted (with_nodes w reached) ≡ with_nodes w next = λ k. record w { nodes = sym nodes k; asked = (ap (λ n. n + 1) asked ∙ sym counts) k; lost = sym same k } in
      subst (FateOf judged w to question given) world (fate w is here)

  -- the same by what a walk and a call give: the node that was found, and the state after the call
  pub silent_reach : (s next : NodesState) (i : ℕ) (old : Node) → position (has_id to.id) s.nodes ≡ Some i → old ≡ get_or s.nodes i old → old.is_live ≡ false
      → next.nodes ≡ set s.nodes i old → next.asked ≡ s.asked → next.lost ≡ s.lost
      → (w : World) → IsNodesOf w s → (IsLost w → ⊥) → FateOf judged w to question Silent (counted (with_nodes w next))
  silent_reach s next i old found is stopped nodes asked lost =
      let all : s.nodes ≡ next.nodes = sym (nodes ∙ ap (set s.nodes i) is ∙ set-get_or s.nodes i old) in
      let same : s ≡ next = λ k. record { nodes = all k; asked = sym asked k; lost = sym lost k } in
      subst (λ (t : NodesState). (w : World) → IsNodesOf w s → (IsLost w → ⊥) → FateOf judged w to question Silent (counted (with_nodes w t))) same
      (silent_fate s i old found (subst (λ (n : Node). n.is_live ≡ false) is stopped))

  pub answer_reach : (s next : NodesState) (i : ℕ) (old new : Node) (result : Result Answer Memory) → AreApart (map peer_of s.nodes) → position (has_id to.id) s.nodes ≡ Some i → old ≡ get_or s.nodes i old → old.is_live ≡ true
      → IfOk result (λ given. given ≡ (answered judged old question).0) → OnOk result (new ≡ (answered judged old question).1)
      → next.nodes ≡ set s.nodes i new → next.asked ≡ s.asked → next.lost ≡ s.lost
      → IfOk result (λ given. (w : World) → IsNodesOf w s → (IsLost w → ⊥) → FateOf judged w to question given (counted (with_nodes w next)))
  answer_reach s next i old new (Err e) apart found is live gives after nodes asked lost = tt
  answer_reach s next i old new (Ok given) apart found is live gives after nodes asked lost =
      answer_fate s next i new old given apart found (subst (λ (n : Node). n.is_live ≡ true) is live)
      (gives ∙ ap (λ (n : Node). (answered judged n question).0) is) (after ∙ ap (λ (n : Node). (answered judged n question).1) is) nodes asked lost
