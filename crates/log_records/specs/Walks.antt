-- What the walk along a chain has found.
use Rattle.std.specs.Prelude.{List, [], ◌∷◌}
use Rattle.log_model.specs.View.{View}
use Rattle.log_model.specs.Record.{Record}
use Rattle.log_model.specs.Spelling.{HasSpelling}
use Rattle.log_model.specs.Chain.{GoesOn}

-- the oldest record has a block
abbrev pub BeginsSpelled : List Record → Type 0
BeginsSpelled [] = Unit {0}
BeginsSpelled (r ∷ rs) = HasSpelling r

-- after the oldest, each record is good and follows the one before it
abbrev pub GoesOnInside : View → List Record → Type 0
GoesOnInside view [] = Unit {0}
GoesOnInside view (r ∷ rs) = GoesOn view r.owner r rs
