-- What holds of every cache of blocks.
use Rattle.std.specs.Prelude.{◌≡◌, ℕ, ◌≤◌, List, length}
use Rattle.std.specs.List.{All, IsDistinct}
use Rattle.std.specs.Map.{keys_of}
use Rattle.ivy_base.specs.Naming.{name}
use Rattle.ivy_base.specs.declared.key.Key.{Key}
use Rattle.dhash_model.specs.Cache.{keys_equal}

-- what holds of every cache
pub record IsCache (pairs : List (Key × List ℕ)) : Type 0 where
  pub named : All (λ pair. pair.0 ≡ name pair.1) pairs
  pub once : IsDistinct keys_equal (keys_of pairs)
  pub few : length pairs ≤ 256

-- a pair as the map holds it, under the bytes of its key
abbrev pub pair_of : List ℕ × List ℕ → Key × List ℕ
pair_of pair = (record { 0 = pair.0 }, pair.1)
