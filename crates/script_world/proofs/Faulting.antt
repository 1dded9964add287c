-- Lines of faults.
use Rattle.std.proofs.Common.{◌≡◌, ℕ, ◌+◌, true, List, [], ◌∷◌, refl, sym, ap, ◌∙◌, Option, Some}
use Rattle.std.specs.Prelude.{nat_le, nat_lt, ◌&&◌}
use Rattle.std.proofs.lemmas.Bool.{cond-true}
use Rattle.ivy_base.specs.declared.key.Key.{Key}
use Rattle.script_driver.specs.Run.{Outcome, Goes, Refuses}
use Rattle.world_model.specs.Faults.{damage_by, lose_line}
use Rattle.world_model.specs.Nodes.{Node}
use Rattle.world_model.specs.Ring.{stop_line}
use Rattle.world_model.specs.World.{World, meets}
use Rattle.session_steps.specs.MetState.{AreMet, MetState}
use Rattle.ring_nodes.specs.NodesState.{NodesState, node_of, with_nodes}
use Rattle.ring_nodes.specs.Spoiling.{damaged_world}
use Rattle.script_world.specs.PartsState.{GoesOn, HasParts, PartsState}

module _ (w : World) (s : PartsState) (has : HasParts w s) where
  -- it goes on to that world, and shows nothing
  abbrev pub GoesTo : Outcome World → List ℕ → PartsState → Type 0
  GoesTo does output after = (next : World) × (Goes next output ≡ does) × GoesOn w after next

  pub went_so : (does : Outcome World) (next : World) (output : List ℕ) (after : PartsState) → does ≡ Goes next [] → output ≡ [] → HasParts next after → next.sessions ≡ w.sessions → GoesTo does output after
  went_so does next output after is nothing parts same = (next, ap (λ (o : List ℕ). Goes next o) nothing ∙ sym is, (parts, same))

  pub nodes_then : (after : NodesState) → HasParts (with_nodes w after) (record s { nodes = after })
  nodes_then after = record {
    replicas = has.replicas;
    nodes = (refl, refl, refl);
    participants = has.participants;
    views = has.views;
    replies = has.replies;
    moment = has.moment;
    met = has.met;
  }

  -- ---- a node stops

  pub stops : (named : Option Node) (id : Key) (after : NodesState) (output : List ℕ) → named ≡ node_of s.nodes id → stop_line w (node_of s.nodes id) ≡ Goes (with_nodes w after) [] → output ≡ [] → GoesTo (stop_line w named) output (record s { nodes = after })
  stops named id after output is line nothing = went_so (stop_line w named) (with_nodes w after) output (record s { nodes = after }) (ap (stop_line w) is ∙ line) nothing (nodes_then after) refl

  -- ---- an ask is lost

  pub loses : (count : ℕ) (after : NodesState) (output : List ℕ) → (nat_lt 0 count && nat_le count 1000000) ≡ true → after ≡ record s.nodes { lost = (s.nodes.asked + count) ∷ s.nodes.lost } → output ≡ []
      → GoesTo (lose_line w count) output (record s { nodes = after })
  loses count after output inside is nothing =
      let next : World = record w { lost = (w.asked + count) ∷ w.lost } in
      went_so (lose_line w count) next output (record s { nodes = after }) (cond-true (nat_lt 0 count && nat_le count 1000000) (Goes next []) Refuses inside) nothing (record {
        replicas = has.replicas;
        nodes = (has.nodes.0 ∙ ap (λ (n : NodesState). n.nodes) (sym is), has.nodes.1 ∙ ap (λ (n : NodesState). n.asked) (sym is), (λ i. (has.nodes.1 i + count) ∷ has.nodes.2 i) ∙ ap (λ (n : NodesState). n.lost) (sym is));
        participants = has.participants;
        views = has.views;
        replies = has.replies;
        moment = has.moment;
        met = has.met;
      }) refl

  -- ---- a block is damaged

  pub damages : (named : Option Node) (key_is : Option Key) (id key : Key) (offset byte : ℕ) (after : NodesState) (met : MetState) (bytes output : List ℕ) → named ≡ node_of s.nodes id → key_is ≡ Some key
      → damage_by w (node_of s.nodes id) (Some key) offset byte ≡ damaged_world (with_nodes w after) (Some bytes) → ((blocks : List (List ℕ)) → AreMet blocks s.met → AreMet (meets blocks bytes) met) → output ≡ []
      → GoesTo (damage_by w named key_is offset byte) output (record s { nodes = after; met = met })
  damages named key_is id key offset byte after met bytes output node_is is line meets_it nothing =
      let next : World = record (with_nodes w after) { met = meets w.met bytes } in
      went_so (damage_by w named key_is offset byte) next output (record s { nodes = after; met = met }) ((λ i. damage_by w (node_is i) (is i) offset byte) ∙ line) nothing (record {
        replicas = has.replicas;
        nodes = (refl, refl, refl);
        participants = has.participants;
        views = has.views;
        replies = has.replies;
        moment = has.moment;
        met = meets_it w.met has.met;
      }) refl
