-- Where an entry is put in a list that is in ascending order of its keys.
use Rattle.std.specs.Prelude.{◌≡◌, ℕ, ◌<◌, ◌≤◌, List, length, insert, slice_set, slice_index_or}
use Rattle.std.specs.declared.cmp.Ordering.{Ordering}
use Rattle.std.specs.FinMap.Entries.{put}

module _ {K X : Type 0} (R : K → K → Ordering) (k : K) (at : ℕ) (es : List (K × X)) where
  -- the key has an entry there, whose value a new one replaces
  pub record IsFoundAt : Type 0 where
    pub within : at < length es
    pub puts : (v : X) (d : K × X) → put R k v es ≡ slice_set es at ((slice_index_or es at d).0, v)

  -- the key has no entry, and a new one goes there
  pub record BelongsAt : Type 0 where
    pub within : at ≤ length es
    pub puts : (v : X) → put R k v es ≡ insert es at (k, v)
