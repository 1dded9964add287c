-- A link over the nodes of a world.
use Rattle.std.specs.Prelude.{ℕ}
use Rattle.dhash_model.specs.Signed.{hss_judged}
use Rattle.server_model.specs.Acts.{trail_of}
use Rattle.server_model.specs.Links.{Execution, Link}
use Rattle.server_model.specs.Takers.{Ring, Taker}
use Rattle.server_model.specs.declared.ended.Ended.{Ended}
use Rattle.ring_nodes.specs.NodesState.{NodesState}
use Rattle.world_mesh.specs.Trails.{LeadsTo, entries_of}

-- the nodes as a mesh, as sessions know it
abbrev pub ring_over : ℕ → NodesState → Ring
ring_over replicas nodes = record { judged = hss_judged; replicas = replicas; entries = entries_of nodes }

-- Whoever takes the turns, and the nodes.
pub record Whole (P : Type 0) : Type 0 where
  pub pass : P
  pub nodes : NodesState

-- The link was served, and its asks, one after the other, lead from the nodes before it to those after it.
pub record HasServedOver {P : Type 0} (taker : Taker P) (replicas : ℕ) (before : Whole P) (how : Ended) (after : Whole P) : Type 0 where
  pub execution : Execution
  pub link : Link taker (ring_over replicas before.nodes) before.pass execution how after.pass
  pub leads : LeadsTo hss_judged before.nodes (trail_of execution.acts) after.nodes
