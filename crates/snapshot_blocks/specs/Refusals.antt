-- When a reader of a block refuses.
use Rattle.std.specs.Prelude.{List, ℕ}
use Rattle.wire_model.specs.OneReading.{HasNoFront}
use Rattle.snapshot_model.specs.Blocks.{Says}
use Rattle.block_parts.specs.declared.fault.BlockFault.{BlockFault}
use Rattle.block_parts.specs.declared.fault.BlockFault.TheVariants as fault

-- it is no block of that form
abbrev pub SaysNothing : {A : Type 0} → (A → Type 0) → (A → List ℕ) → List ℕ → Type 0
SaysNothing {A} Fits spell block = (x : A) → Says Fits spell block x → ⊥

-- and where memory is short nothing is told of it
abbrev pub Refuses : {A : Type 0} → (A → Type 0) → (A → List ℕ) → List ℕ → BlockFault → Type 0
Refuses Fits spell block fault.Malformed = SaysNothing Fits spell block
Refuses Fits spell block fault.Memory = Unit {0}

-- the same of a part at the front
abbrev pub RefusesFront : {A : Type 0} → (A → Type 0) → (A → List ℕ) → List ℕ → BlockFault → Type 0
RefusesFront Fits spell bytes fault.Malformed = HasNoFront Fits spell bytes
RefusesFront Fits spell bytes fault.Memory = Unit {0}
