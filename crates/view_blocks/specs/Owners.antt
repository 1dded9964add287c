-- Public keys with their head keys.
use Rattle.std.specs.Prelude.{◌≡◌, List, map}
use Rattle.std.specs.List.{AllByRecursion}
use Rattle.ivy_base.specs.declared.key.Key.{Key}
use Rattle.ivy_base.specs.declared.key.PubKey.{PubKey}
use Rattle.ivy_base.specs.Naming.{head_key_of}
use Rattle.log_model.specs.ViewKeys.{IsPubKey}

-- the keys have 60 bytes each, and the heads are theirs
pub record AreHeads (heads : List Key) (keys : List PubKey) : Type 0 where
  pub each : AllByRecursion IsPubKey keys
  pub heads_are : heads ≡ map head_key_of keys
