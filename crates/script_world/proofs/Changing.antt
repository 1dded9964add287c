-- Lines by which a ring changes ask by ask.
use Rattle.std.proofs.Common.{◌≡◌, ℕ, List, refl, sym, ◌∙◌, subst, Option, Some}
use Rattle.std.specs.Prelude.{IfOk, Result, Ok, Err}
use Rattle.ivy_base.specs.declared.key.Key.{Key}
use Rattle.ivy_base.specs.declared.memory.Memory.{Memory}
use Rattle.dht_ids.specs.declared.judge.Judged.{Judged}
use Rattle.script_driver.specs.declared.machine.Taken.{Taken}
use Rattle.script_driver.specs.Machine.{outcome_told}
use Rattle.script_driver.specs.Run.{Outcome, Goes}
use Rattle.world_model.specs.Ring.{JoinLine}
use Rattle.world_model.specs.World.{World}
use Rattle.ring_nodes.specs.declared.joining.Join.{Join}
use Rattle.ring_nodes.specs.Joining.{join_outcome}
use Rattle.ring_nodes.specs.NodesState.{IsNodesOf, NodesState, with_nodes}
use Rattle.script_world.specs.PartsState.{DoesIn, GoesOn, HasParts, PartsState}
use Rattle.script_world.proofs.Faulting.{nodes_then}
use Rattle.script_world.proofs.Taking.{taken_as}

-- of a line that goes by how many own a key
module _ (w : World) (s : PartsState) (has : HasParts w s) (Line : Option ℕ → Outcome World → Type 0) (r : Option ℕ) (ring : s.replicas ≡ r) where
  pub told_so : (outcome : Outcome World) → Line r outcome → Line w.replicas outcome
  told_so outcome line = subst (λ (o : Option ℕ). Line o outcome) (sym (has.replicas ∙ ring)) line

  -- nodes alone have changed
  pub nodes_go : (nodes : NodesState) (text output : List ℕ) → Line r (Goes (with_nodes w nodes) text) → output ≡ text → (next : World) × Line w.replicas (Goes next output) × GoesOn w (record s { nodes = nodes }) next
  nodes_go nodes text output line is = (
    with_nodes w nodes,
    told_so (Goes (with_nodes w nodes) output) (subst (λ (l : List ℕ). Line r (Goes (with_nodes w nodes) l)) (sym is) line),
    (nodes_then w s has nodes, refl),
  )

-- a node joins, or what becomes of it is told
pub joins_in : (judged : Key → List ℕ → Option Judged) (before s : PartsState) → s ≡ before → (number r : ℕ) (join : Join) (nodes : NodesState) (result : Result Taken Memory) → s.replicas ≡ Some r
    → ((w : World) → IsNodesOf w s.nodes → JoinLine judged w number (Some r) (join_outcome number join (with_nodes w nodes)))
    → IfOk result (λ (how : Taken). (w : World) → outcome_told how w ≡ join_outcome number join w)
    → IfOk result (λ (how : Taken). DoesIn (λ w outcome. JoinLine judged w number w.replicas outcome) before how (record s { nodes = nodes }))
joins_in judged before s same number r join nodes (Ok how) ring line told = λ w has.
    let from : HasParts w s = subst (HasParts w) (sym same) has in
    taken_as (GoesOn w (record s { nodes = nodes })) (λ outcome. JoinLine judged w number w.replicas outcome) how (with_nodes w nodes) (join_outcome number join (with_nodes w nodes)) (told (with_nodes w nodes))
    (told_so w s from (λ o outcome. JoinLine judged w number o outcome) (Some r) ring (join_outcome number join (with_nodes w nodes)) (line w from.nodes)) (nodes_then w s from nodes, refl)
joins_in judged before s same number r join nodes (Err e) ring line told = tt
