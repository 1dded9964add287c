-- When a reader refuses.
use Rattle.std.specs.Prelude.{◌≡◌, ℕ, List}
use Rattle.wire_model.specs.OneReading.{HasNoFront}
use Rattle.view_blocks.specs.declared.fault.ViewFault.{ViewFault}
use Rattle.view_blocks.specs.declared.fault.ViewFault.TheVariants as view
use Rattle.dht_ids.specs.declared.signature.LoadFault.{LoadFault}
use Rattle.dht_ids.specs.declared.signature.LoadFault.TheVariants as load
use Rattle.block_parts.specs.declared.fault.BlockFault.{BlockFault}
use Rattle.block_parts.specs.declared.fault.BlockFault.TheVariants.{Malformed, Memory}

-- bytes that begin with no such part; where memory is short nothing is told of them
abbrev pub RefusesFront : {A : Type 0} → (A → Type 0) → (A → List ℕ) → List ℕ → BlockFault → Type 0
RefusesFront Fits spell bytes Malformed = HasNoFront Fits spell bytes
RefusesFront Fits spell bytes Memory = Unit {0}

-- bytes that are no such value's as a whole
abbrev pub AreOfNone : {A : Type 0} → (A → Type 0) → (A → List ℕ) → List ℕ → Type 0
AreOfNone {A} Fits spell bytes = (x : A) → Fits x → bytes ≡ spell x → ⊥

abbrev pub Refuses : {A : Type 0} → (A → Type 0) → (A → List ℕ) → List ℕ → BlockFault → Type 0
Refuses Fits spell bytes Malformed = AreOfNone Fits spell bytes
Refuses Fits spell bytes Memory = Unit {0}

-- what the readers of a view and of a key refuse
abbrev pub of_view : ViewFault → BlockFault
of_view view.Malformed = Malformed
of_view view.NoMember = Malformed
of_view view.TooMany = Malformed
of_view view.Order = Malformed
of_view view.Overlap = Malformed
of_view view.Memory = Memory

abbrev pub of_load : LoadFault → BlockFault
of_load load.Malformed = Malformed
of_load load.Memory = Memory
