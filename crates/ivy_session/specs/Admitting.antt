-- Which calls are let through to their arguments, and why others are refused (RFC 5531, section 9).
use Rattle.std.specs.Prelude.{◌≡◌, ◌≢◌, ℕ, ◌<◌, ◌≤◌, Some, None}
use Rattle.rpc_wire.specs.declared.call.Call.{Call}
use Rattle.rpc_wire.specs.declared.call.Caller.{Caller}
use Rattle.rpc_wire.specs.declared.reply.ReplyHead.{ReplyHead}
use Rattle.rpc_wire.specs.declared.reply.ReplyHead.TheVariants.{ProgUnavail, ProgMismatch, ProcUnavail, BadCred}
use Rattle.session_model.specs.Replies.{procedures_of}

-- the procedure is here
pub record IsHere (given : Call) : Type 0 where
  pub count : ℕ
  pub program : procedures_of given.program ≡ Some count
  pub version : given.version ≡ 3
  pub procedure : given.procedure < count

-- it is here, and this is who calls
pub record IsAdmitted (given : Call) (caller : Caller) : Type 0 where
  pub here : IsHere given
  pub caller_is : given.caller ≡ Some caller

-- why the call is refused: the first of these that holds
pub data IsRefused (given : Call) : ReplyHead → Type 0 where
  no_program : procedures_of given.program ≡ None → IsRefused given ProgUnavail
  no_version : (count : ℕ) → procedures_of given.program ≡ Some count → given.version ≢ 3 → IsRefused given (ProgMismatch 3 3)
  no_procedure : (count : ℕ) → procedures_of given.program ≡ Some count → given.version ≡ 3 → count ≤ given.procedure
      → IsRefused given ProcUnavail
  no_caller : IsHere given → given.caller ≡ None → IsRefused given BadCred
