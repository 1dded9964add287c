-- What a cache is once a borrow of it ends.
use Rattle.std.specs.Prelude.{◌≡◌, ⊤}
use Rattle.std.specs.Borrow.{Fml, MutBor, follows_so}
use mathlib.Core.Option.{none}
use Rattle.block_cache.specs.declared.cache.BlockCache.{BlockCache}
use Rattle.block_cache.specs.contracts.cache.BlockCache.{the_row}

-- the cache ends as v
abbrev pub EndsAs : MutBor BlockCache → BlockCache → Fml
EndsAs c v = follows_so the_row the_row c.ghost_name none (λ _ _. ⊤) (λ n. n ≡ v)
