-- A cache of blocks: pairs of a key and a block's bytes, the most recently used first.
use Rattle.std.specs.Prelude.{ℕ, Bool, not, List, ◌∷◌, filter, take, Option}
use Rattle.std.specs.Map.{lookup}
use Rattle.std.specs.Option.{option_map_or}
use Rattle.std.specs.Str.{bytes_eq}
use Rattle.ivy_base.specs.declared.key.Key.{Key}

-- whether two keys are equal
abbrev pub keys_equal : Key → Key → Bool
keys_equal a b = bytes_eq a.0 b.0

-- the bytes that are held under the key
abbrev pub block_of : Key → List (Key × List ℕ) → Option (List ℕ)
block_of key = lookup (keys_equal key)

-- the pairs of other keys
abbrev pub others : Key → List (Key × List ℕ) → List (Key × List ℕ)
others key = filter (λ pair. not (keys_equal key pair.0))

-- after a look-up: the pair that it found is the first
abbrev pub moved_to_front : Key → List (Key × List ℕ) → List (Key × List ℕ)
moved_to_front key pairs = option_map_or (λ block. (key, block) ∷ others key pairs) (block_of key pairs) pairs

-- after a block was kept: its pair is the first, an older one of its key is gone, and of 257 the last is dropped
abbrev pub kept : Key → List ℕ → List (Key × List ℕ) → List (Key × List ℕ)
kept key block pairs = take 256 ((key, block) ∷ others key pairs)
