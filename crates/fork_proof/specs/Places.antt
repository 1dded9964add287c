-- How blocks are found by their names.
use Rattle.std.specs.Prelude.{◌≡◌, ℕ, suc, Bool, List, [], ◌∷◌, Option, Some, None, option_map, if◌then◌else◌}
use Rattle.std.specs.Map.{lookup}
use Rattle.std.specs.Option.{option_or}
use Rattle.ivy_base.specs.declared.key.Key.{Key}
use Rattle.ivy_base.specs.Naming.{name}
use Rattle.tree_model.specs.Tree.{same_key}

-- the place of the first block of that name, where there is one
abbrev pub place_of : Key → List (List ℕ) → Option ℕ
place_of key [] = None
place_of key (b ∷ bs) = if same_key (name b) key then Some 0 else option_map suc (place_of key bs)

-- the map has the places of these blocks
abbrev pub ArePlaced : List (List ℕ) → List (Key × ℕ) → Type 0
ArePlaced blocks places = (key : Key) → lookup (same_key key) places ≡ place_of key blocks

-- the first place, where that place of a block was added of which it is known whether it has the name
abbrev pub had_first : Option ℕ → Bool → ℕ → Option ℕ
had_first before is_named place = option_or before (if is_named then Some place else None)
