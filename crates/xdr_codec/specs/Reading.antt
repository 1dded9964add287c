-- Why an item can't be read: exactly by the bytes that are left.
use Rattle.std.specs.Prelude.{◌≢◌, ℕ, ◌-◌, ◌<◌, ◌≤◌, List, [], length, take, drop, ◌⊎◌}
use Rattle.wire_model.specs.Xdr.{padding, word, IsWord}
use Rattle.wire_model.specs.OneReading.{IsFront}
use Rattle.xdr_codec.specs.Writing.{padded}
use Rattle.xdr_codec.specs.declared.fault.XdrFault.{XdrFault}
use Rattle.xdr_codec.specs.declared.fault.XdrFault.TheVariants.{Short, TooLong, Padding, NotBool, Trailing}

-- an integer of so many bytes
abbrev pub IntegerFault : ℕ → List ℕ → XdrFault → Type 0
IntegerFault size bytes Short = length bytes < size
IntegerFault size bytes _ = ⊥

-- a boolean
abbrev pub BooleanFault : List ℕ → XdrFault → Type 0
BooleanFault bytes Short = length bytes < 4
BooleanFault bytes NotBool = (n : ℕ) × (rest : List ℕ) × (1 < n) × IsFront IsWord word bytes n rest
BooleanFault bytes _ = ⊥

-- opaque data of so many bytes
abbrev pub FixedFault : ℕ → List ℕ → XdrFault → Type 0
FixedFault n bytes Short = length bytes < padded n
FixedFault n bytes Padding = (padded n ≤ length bytes) × (take (padded n - n) (drop n bytes) ≢ padding n)
FixedFault n bytes _ = ⊥

-- opaque data of at most so many bytes, whose count stands in front
abbrev pub OpaqueFault : ℕ → List ℕ → XdrFault → Type 0
OpaqueFault most bytes Short = (length bytes < 4)
    ⊎ ((n : ℕ) × (rest : List ℕ) × IsFront IsWord word bytes n rest × (n ≤ most) × FixedFault n rest Short)
OpaqueFault most bytes TooLong = (n : ℕ) × (rest : List ℕ) × IsFront IsWord word bytes n rest × (most < n)
OpaqueFault most bytes Padding = (n : ℕ) × (rest : List ℕ) × IsFront IsWord word bytes n rest × (n ≤ most) × FixedFault n rest Padding
OpaqueFault most bytes _ = ⊥

-- the end
abbrev pub EndFault : List ℕ → XdrFault → Type 0
EndFault bytes Trailing = bytes ≢ []
EndFault bytes _ = ⊥
