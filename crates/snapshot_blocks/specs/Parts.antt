-- Entries of a block, in any order.
use Rattle.std.specs.Prelude.{ℕ, ◌≤◌, List, length}
use Rattle.std.specs.List.{AllByRecursion}
use Rattle.ivy_base.specs.declared.key.Key.{Key}
use Rattle.snapshot_model.specs.Blocks.{IsEntry, most_entries}

pub record AreSomeEntries (entries : List (List ℕ × Key)) : Type 0 where
  pub some : 1 ≤ length entries
  pub few : length entries ≤ most_entries
  pub each : AllByRecursion IsEntry entries
