-- The trees that records make of a tree have their bounds, where the tree has.
use Rattle.std.proofs.Common.{List, [], ◌∷◌, map}
use Rattle.std.specs.List.{AllByRecursion}
use Rattle.tree_model.specs.Tree.{Tree}
use Rattle.tree_model.specs.Apply.{apply_all, empty_tree}
use Rattle.log_model.specs.Record.{Record}
use Rattle.log_model.specs.Replay.{effect}
use Rattle.log_model.specs.Spelling.{IsKey, OperationFits}
use Rattle.log_model.proofs.Numbers.{keys_apply_all, records_make_keys}
use Rattle.nfs_laws.proofs.Trees.{named_apply_all, short_apply_all, short_at_first}
use Rattle.ivy_agent.specs.Bounds.{HasBounds}

effects_fit : (s : List Record) → AllByRecursion (λ r. OperationFits r.op) s → AllByRecursion (λ o. OperationFits o.1) (map effect s)
effects_fit [] h = tt
effects_fit (r ∷ s) h = (h.0, effects_fit s h.1)

pub bounds_replayed : (t : Tree) (s : List Record) → HasBounds t → AllByRecursion (λ r. OperationFits r.op) s → HasBounds (apply_all t (map effect s))
bounds_replayed t s bounds fit = record {
  numbers = keys_apply_all t (map effect s) bounds.numbers (effects_fit s fit);
  names = named_apply_all (λ p. IsKey p.0) IsKey (λ dir name key file. key) (λ number key. key) t (map effect s) bounds.names (effects_fit s fit);
  links = short_apply_all t (map effect s) bounds.links (effects_fit s fit);
}

pub bounds_at_first : HasBounds empty_tree
bounds_at_first = record { numbers = records_make_keys [] tt; names = tt; links = short_at_first }
