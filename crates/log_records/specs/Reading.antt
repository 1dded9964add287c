-- When a reader of a block refuses.
use Rattle.std.specs.Prelude.{◌≡◌, ℕ, List}
use Rattle.wire_model.specs.OneReading.{HasNoFront}
use Rattle.block_parts.specs.declared.fault.BlockFault.{BlockFault}
use Rattle.block_parts.specs.declared.fault.BlockFault.TheVariants as block
use Rattle.log_records.specs.declared.fault.RecordFault.{RecordFault}
use Rattle.log_records.specs.declared.fault.RecordFault.TheVariants as fault

-- a part is refused where the bytes begin with none, and given up because memory ran out
abbrev pub Refuses : {A : Type 0} → (A → Type 0) → (A → List ℕ) → List ℕ → BlockFault → Type 0
Refuses Fits spell bytes block.Malformed = HasNoFront Fits spell bytes
Refuses Fits spell bytes block.Memory = Unit {0}

abbrev pub fault_of_block : BlockFault → RecordFault
fault_of_block block.Malformed = fault.Malformed
fault_of_block block.Memory = fault.Memory

-- the whole of the bytes is the spelling of this value, which fits
pub record IsSpelled {A : Type 0} (Fits : A → Type 0) (spell : A → List ℕ) (bytes : List ℕ) (x : A) : Type 0 where
  pub fits : Fits x
  pub spelled : bytes ≡ spell x

-- the whole is refused where the bytes are the spelling of no value, and given up because memory ran out
abbrev pub RefusesWhole : {A : Type 0} → (A → Type 0) → (A → List ℕ) → List ℕ → BlockFault → Type 0
RefusesWhole {A} Fits spell bytes block.Malformed = (x : A) → IsSpelled Fits spell bytes x → ⊥
RefusesWhole {A} Fits spell bytes block.Memory = Unit {0}
