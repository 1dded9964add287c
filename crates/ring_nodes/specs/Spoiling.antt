-- A byte of a block that a node holds is changed.
use Rattle.std.specs.Prelude.{◌≡◌, ℕ, List, [], Option, Some, None}
use Rattle.ivy_base.specs.declared.key.Key.{Key}
use Rattle.dhash_model.specs.Stores.{bytes_at, with_byte}
use Rattle.script_driver.specs.Run.{Outcome, Goes, Refuses}
use Rattle.world_model.specs.Nodes.{Node}
use Rattle.world_model.specs.World.{World, meets}

-- the node is the old one with that byte changed, and these are the block's bytes then: none where no such byte is held
abbrev pub IsSpoiled : Key → ℕ → ℕ → Node → Node → Option (List ℕ) → Type 0
IsSpoiled key offset byte old new None = (with_byte key offset byte old.blocks ≡ None) × (new ≡ old)
IsSpoiled key offset byte old new (Some bytes) =
    (with_byte key offset byte old.blocks ≡ Some new.blocks) × (new ≡ record old { blocks = new.blocks })
    × (bytes_at key new.blocks ≡ Some bytes)

-- a line that damages a block: these bytes are met then, or it is refused
abbrev pub damaged_world : World → Option (List ℕ) → Outcome World
damaged_world w None = Refuses
damaged_world w (Some bytes) = Goes (record w { met = meets w.met bytes }) []
