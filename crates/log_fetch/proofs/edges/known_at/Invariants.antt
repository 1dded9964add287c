use Rattle.std.proofs.Common.{◌≡◌, drop}
use Rattle.std.specs.Prelude.{find}
use Rattle.tree_model.specs.Tree.{same_key}
use Rattle.log_fetch.specs.Edges.{edges_of}
use Rattle.log_fetch.proofs.edges.known_at.Given as goal

-- none of those before is the log's
abbrev pub invariant-edges : goal.invariant-edges
invariant-edges l = find (λ e. same_key e.0 l.log) (edges_of l.edges) ≡ find (λ e. same_key e.0 l.log) (edges_of (drop l.edge-index l.edges))
