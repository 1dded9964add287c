-- How blocks are found by their names.
use Rattle.std.specs.Prelude.{◌≡◌, ℕ, suc, List, [], ◌∷◌, Option, Some, None, option_map, if◌then◌else◌}
use Rattle.std.specs.Map.{lookup}
use Rattle.ivy_base.specs.declared.key.Key.{Key}
use Rattle.ivy_base.specs.Naming.{name}
use Rattle.tree_model.specs.Tree.{same_key}

-- the place of the first block of that name, where there is one
abbrev pub place_of : Key → List (List ℕ) → Option ℕ
place_of key [] = None
place_of key (b ∷ bs) = if same_key (name b) key then Some 0 else option_map suc (place_of key bs)

-- the map has the places of these blocks
abbrev pub ArePlaced : List (List ℕ) → List (Key × ℕ) → Type 0
ArePlaced blocks places = (key : Key) → lookup (same_key key) places ≡ place_of key blocks
