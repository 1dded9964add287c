-- Marks by which records are found that touch one thing: whatever touches a record has a mark under which that record looks.
use Rattle.std.specs.Prelude.{ℕ, ◌+◌, ◌-◌, ◌/◌, ◌==◌, if◌then◌else◌}
use Rattle.std.specs.Prelude.{List, [], ◌∷◌, length, map, Option, Some, None}
use Rattle.ivy_base.specs.declared.key.Key.{Key}
use Rattle.ivy_base.specs.declared.operation.Op.{Op}
use Rattle.ivy_base.specs.declared.operation.Op.TheVariants as op
use Rattle.tree_model.specs.Tree.{Place}
use Rattle.log_model.specs.Touching.{places}

-- a name in a directory; so many bytes of a file; any bytes of it that are written; or its size
pub data Mark : Type 0 where
  Entry : (place : Place) → Mark
  Page : (file : Key) (number : ℕ) → Mark
  Written : (file : Key) → Mark
  Cut : (file : Key) → Mark

-- which piece of 8,192 bytes a place is of
abbrev pub page : ℕ → ℕ
page n = n / 8192

-- two pieces of a file, or one
abbrev pub both_pages : Key → ℕ → ℕ → List Mark
both_pages file first last = Page file first ∷ (if first == last then [] else Page file last ∷ [])

-- the pieces that a Write begins and ends in: it has at most 8,192 bytes
abbrev pub pages : Key → ℕ → List ℕ → List Mark
pages file offset bytes = both_pages file (page offset) (page (offset + length bytes - 1))

abbrev pub cut : Key → Option ℕ → List Mark
cut file None = []
cut file (Some size) = Cut file ∷ []

abbrev pub all_bytes : Key → Option ℕ → List Mark
all_bytes file None = []
all_bytes file (Some size) = Cut file ∷ Written file ∷ []

abbrev pub marks : Op → List Mark
marks (op.Write number offset bytes) = Written number ∷ pages number offset bytes
marks (op.SetAttrs number change) = cut number change.size
marks o = map Entry (places o)

abbrev pub looks : Op → List Mark
looks (op.Write number offset bytes) = Cut number ∷ pages number offset bytes
looks (op.SetAttrs number change) = all_bytes number change.size
looks o = map Entry (places o)
