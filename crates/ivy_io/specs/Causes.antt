-- Faults and what caused them.
use Rattle.std.specs.Prelude.{◌≡◌, ℕ, ◌+◌, ◌-◌, ◌^◌, ◌<◌, ◌≤◌, min, List, length, IfOk, OnErr, IsErrOf, Result}
use Rattle.ivy_io.specs.declared.fault.SinkFault.{SinkFault}
use Rattle.ivy_io.specs.declared.fault.SinkFault.TheVariants.{Failed, Memory}

-- A count goes up by one; at 2 ^ 64 - 1 it stays.
abbrev pub counted : ℕ → ℕ
counted count = min (count + 1) (2 ^ 64 - 1)

-- The count of faults rose. A count that reached 2 ^ 64 - 1 stays there, and then counts as having risen.
abbrev pub Rose : ℕ → ℕ → Type 0
Rose before now = counted before ≤ now

-- What a read says of its source's count: it never falls, and rose where the read failed.
pub record HasCause {T E : Type 0} (before now : ℕ) (result : Result T E) : Type 0 where
  pub later : before ≤ now
  pub failed : OnErr result (Rose before now)

-- What a write says of its sink's count: it never falls, and rose where the sink failed. To take nothing of a piece that isn't empty is a
-- fault. Running out of memory says nothing.
pub record HasSinkCause (before now : ℕ) (piece : List ℕ) (result : Result ℕ SinkFault) : Type 0 where
  pub later : before ≤ now
  pub failed : IsErrOf result Failed → Rose before now
  pub nothing : IfOk result (λ n. n ≡ 0 → 0 < length piece → Rose before now)

-- the count after a write that failed so
abbrev pub faults_after : SinkFault → ℕ → ℕ
faults_after Failed count = counted count
faults_after Memory count = count
