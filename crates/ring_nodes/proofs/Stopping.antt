-- A node that stops.
use Rattle.std.proofs.Common.{◌≡◌, ℕ, Bool, false, cond, [], map, set, get_or, refl, sym, ap, ◌∙◌, Some, None}
use Rattle.std.specs.List.{position}
use Rattle.ivy_base.specs.declared.key.Key.{Key}
use Rattle.script_driver.specs.Run.{Goes, Refuses}
use Rattle.world_model.specs.Nodes.{Node}
use Rattle.world_model.specs.World.{World, peer_of, with_node}
use Rattle.world_model.specs.Ring.{stop_line}
use Rattle.round_laws.specs.RingOf.{AreApart}
use Rattle.round_laws.proofs.Nodes.{replaced}
use Rattle.ring_nodes.specs.NodesState.{NodesState, IsNodesOf, node_of, with_nodes}
use Rattle.ring_nodes.proofs.Places.{found_at, found_within, has_id, none_found, set_replaces}

-- the node, stopped
abbrev pub stopped : Node → Node
stopped n = record n { is_live = false }

module _ (s : NodesState) (id : Key) where
  pub none_stops : (w : World) → position (has_id id) s.nodes ≡ None → stop_line w (node_of s id) ≡ Refuses
  none_stops w none = ap (stop_line w) (none_found (has_id id) s.nodes none)

  pub one_stops : (next : NodesState) (i : ℕ) (d : Node) → AreApart (map peer_of s.nodes) → position (has_id id) s.nodes ≡ Some i
      → next.nodes ≡ set s.nodes i (stopped (get_or s.nodes i d)) → next.asked ≡ s.asked → next.lost ≡ s.lost
      → (w : World) → IsNodesOf w s → stop_line w (node_of s id) ≡ cond (get_or s.nodes i d).is_live (Goes (with_nodes w next) []) Refuses
  one_stops next i d apart found nodes asked lost w is =
      let old : Node = get_or s.nodes i d in
      let all : replaced (stopped old) w.nodes ≡ next.nodes = ap (replaced (stopped old)) is.0 ∙ sym (set_replaces s.nodes i (stopped old) d apart (found_within (has_id id) s.nodes i found) refl) ∙ sym nodes in
      let world : with_node w (stopped old) ≡ with_nodes w next = λ k. record w { nodes = all k; asked = (is.1 ∙ sym asked) k; lost = (is.2 ∙ sym lost) k } in
      ap (stop_line w) (found_at (has_id id) s.nodes i d found) ∙ ap (λ v. cond old.is_live (Goes v []) Refuses) world

-- the same by what a walk and a call give
pub stops_by : (s next : NodesState) (id : Key) (i : ℕ) (old new : Node) (lived : Bool) → AreApart (map peer_of s.nodes) → position (has_id id) s.nodes ≡ Some i → old ≡ get_or s.nodes i old → lived ≡ old.is_live → new ≡ stopped old
    → next.nodes ≡ set s.nodes i new → next.asked ≡ s.asked → next.lost ≡ s.lost
    → (w : World) → IsNodesOf w s → stop_line w (node_of s id) ≡ cond lived (Goes (with_nodes w next) []) Refuses
stops_by s next id i old new lived apart found is lives after nodes asked lost w of =
    one_stops s id next i old apart found (nodes ∙ ap (set s.nodes i) (after ∙ ap stopped is)) asked lost w of
    ∙ ap (λ b. cond b (Goes (with_nodes w next) []) Refuses) (ap (λ (n : Node). n.is_live) (sym is) ∙ sym lives)
