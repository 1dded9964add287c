-- What stands in a reply in front of a procedure's result (RFC 5531, section 9).
use Rattle.std.specs.Prelude.{◌≡◌, ◌≢◌, ℕ, List, ◌++◌}
use Rattle.wire_model.specs.Xdr.{word}
use Rattle.wire_model.specs.Rpc.{CallOutcome, Success, ProgramUnavailable, ProgramMismatch, ProcedureUnavailable, GarbageArguments}
use Rattle.wire_model.specs.Rpc.{SystemError}
use Rattle.wire_model.specs.Rpc.{RpcMismatch, BadCredential, accepted, denied, reply}
use Rattle.rpc_wire.specs.declared.reply.ReplyHead.{ReplyHead}
use Rattle.rpc_wire.specs.declared.reply.ReplyHead.TheVariants as head

abbrev pub head_bytes : ℕ → ReplyHead → List ℕ
head_bytes xid head.Success = accepted xid (word 0)
head_bytes xid head.ProgUnavail = accepted xid (word 1)
head_bytes xid (head.ProgMismatch low high) = accepted xid (word 2 ++ word low ++ word high)
head_bytes xid head.ProcUnavail = accepted xid (word 3)
head_bytes xid head.GarbageArgs = accepted xid (word 4)
head_bytes xid head.SystemErr = accepted xid (word 5)
head_bytes xid head.RpcMismatch = denied xid (word 0 ++ word 2 ++ word 2)
head_bytes xid head.BadCred = denied xid (word 1 ++ word 1)

-- the outcome that a head tells, with the result of a success
abbrev pub outcome_of : ReplyHead → List ℕ → CallOutcome
outcome_of head.Success result = Success result
outcome_of head.ProgUnavail result = ProgramUnavailable
outcome_of (head.ProgMismatch low high) result = ProgramMismatch low high
outcome_of head.ProcUnavail result = ProcedureUnavailable
outcome_of head.GarbageArgs result = GarbageArguments
outcome_of head.SystemErr result = SystemError
outcome_of head.RpcMismatch result = RpcMismatch
outcome_of head.BadCred result = BadCredential

-- the reply of success is its head and then the result
abbrev pub IsFrontOfSuccess : Type 0
IsFrontOfSuccess = (xid : ℕ) (result : List ℕ) → reply xid (outcome_of head.Success result) ≡ head_bytes xid head.Success ++ result

-- any other reply is its head
abbrev pub IsWholeElse : Type 0
IsWholeElse = (xid : ℕ) (h : ReplyHead) (result : List ℕ) → h ≢ head.Success → reply xid (outcome_of h result) ≡ head_bytes xid h
