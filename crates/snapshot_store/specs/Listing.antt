-- A list over pieces, as far as it was put.
use Rattle.std.specs.Prelude.{◌≡◌, ℕ, List, ◌++◌, map}
use Rattle.snapshot_model.specs.Spelling.{Made, in_pieces}
use Rattle.snapshot_store.specs.declared.levels.Levels.{Levels}
use Rattle.snapshot_store.specs.Levels.{IsOver}

-- the first pieces of these things were put, and the rest is left
pub record IsListing {A : Type 0} (size : ℕ) (make : List A → Made) (before : List (List ℕ)) (things rest : List A) (now : List (List ℕ))
    (l : Levels) : Type 0 where
  pub done : List (List A)
  pub over : IsOver before (map make done) now l
  pub whole : done ++ in_pieces size rest ≡ in_pieces size things
