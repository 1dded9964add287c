-- What no number is planned for doesn't fail.
use Rattle.std.proofs.Common.{◌≡◌, ◌↔◌, ℕ, ◌<◌, List, [], length, Result, Ok, Err, arith, refl, subst}
use Rattle.std.specs.Prelude.{Contains, IfOk, IsErr, IsErrOf}
use Rattle.ivy_io.specs.Causes.{HasCause, HasSinkCause, Rose}
use Rattle.ivy_io.specs.declared.fault.SinkFault.{SinkFault}
use Rattle.ivy_io.specs.declared.fault.SinkFault.TheVariants as fault

none_there : (failing : List ℕ) (call : ℕ) → failing ≡ [] → Contains failing call → ⊥
none_there failing call none there =
    let found : Contains [] call = subst (λ (l : List ℕ). Contains l call) none there in
    absurd (omega (arith, found.1))

-- a read doesn't fail
pub reads : {T E : Type 0} (r : Result T E) (failing : List ℕ) (call : ℕ) → failing ≡ [] → (IsErr r ↔ Contains failing call)
    → HasCause 0 0 r
reads (Ok x) failing call none planned = record { later = omega arith; failed = tt }
reads (Err e) failing call none planned = absurd (none_there failing call none (planned.0 refl))

takes_some : (r : Result ℕ SinkFault) (piece : List ℕ) → IfOk r (λ n. n ≡ length piece)
    → IfOk r (λ n. n ≡ 0 → 0 < length piece → Rose 0 0)
takes_some (Ok n) piece all = λ zero some. absurd (omega (arith, all, zero, some))
takes_some (Err e) piece all = tt

-- a write fails only because memory ran out
pub writes : (r : Result ℕ SinkFault) (piece failing : List ℕ) (call : ℕ) → failing ≡ []
    → (IsErrOf r fault.Failed ↔ Contains failing call) → IfOk r (λ n. n ≡ length piece) → HasSinkCause 0 0 piece r
writes r piece failing call none planned all = record {
  later = omega arith;
  failed = λ fails. absurd (none_there failing call none (planned.0 fails));
  nothing = takes_some r piece all;
}

-- a count that stays at 0 didn't rise
pub not_risen : Rose 0 0 → ⊥
not_risen rose = absurd (omega (arith, rose))
