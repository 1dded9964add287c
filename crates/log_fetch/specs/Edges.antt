-- What is known of the newest held records, as it is kept.
use Rattle.std.specs.Prelude.{◌≡◌, List, map, find, Option, None, IsTrue, option_map}
use Rattle.std.specs.List.{AllByRecursion}
use Rattle.std.specs.FinMap.Entries.{is_sorted}
use Rattle.ivy_base.specs.declared.key.Key.{Key}
use Rattle.ivy_base.specs.Naming.{key_cmp}
use Rattle.tree_model.specs.Tree.{same_key}
use Rattle.log_model.specs.Vector.{stamp_at}
use Rattle.log_model.specs.Fetched.{Edge}
use Rattle.log_fetch.specs.declared.edges.Edge as kept

abbrev pub edge_of : kept.Edge → Key × Edge
edge_of e = (e.log, record { vector = e.vector })

abbrev pub edges_of : List kept.Edge → List (Key × Edge)
edges_of edges = map edge_of edges

-- they ascend by log, each log once, and none knows anything of its own log
pub record AreEdges (edges : List (Key × Edge)) : Type 0 where
  pub in_order : IsTrue (is_sorted key_cmp edges)
  pub of_others : AllByRecursion (λ e. stamp_at e.1.vector e.0 ≡ None) edges

-- the edge of that log, where it is known
abbrev pub edge_in : List (Key × Edge) → Key → Option Edge
edge_in edges log = option_map (λ e. e.1) (find (λ e. same_key e.0 log) edges)
