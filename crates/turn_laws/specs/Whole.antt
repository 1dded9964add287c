-- A closed part over a front is the closed part of the whole: what lies below the front need not be available.
use Rattle.std.specs.Prelude.{List, ◌++◌, Contains, ◌↔◌}
use Rattle.std.specs.List.{AllByRecursion}
use Rattle.log_model.specs.View.{View, IsView}
use Rattle.log_model.specs.Record.{Record}
use Rattle.log_model.specs.Closed as plain
use Rattle.turn_model.specs.Basis.{Basis, StandsFor, IsAboveTide}
use Rattle.causal_order.specs.Over as over

-- Where a basis stands for a closed set, and all available records know what it covers and are later in their own logs, some of these are
-- the largest closed part over its front exactly where with the set they are the largest closed part of the set and of what is available.
abbrev pub PartOverIsPartOfWhole : Type 0
PartOverIsPartOfWhole = (view : View) (b : Basis) (below all s : List Record) → IsView view → StandsFor view b below
    → AllByRecursion (IsAboveTide b) all
    → over.IsClosedPart view b.front (Contains all) s ↔ plain.IsClosedPart view (Contains (below ++ all)) (below ++ s)
