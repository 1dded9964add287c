-- What the definition of a status means for the replies of RPC.
use Rattle.std.specs.Prelude.{◌≡◌, ℕ, ◌<◌, ◌^◌, List, ◌++◌, codes, Some, None}
use Rattle.hex.specs.Hex.{encode_lower}
use Rattle.wire_model.specs.Xdr.{word}
use Rattle.wire_model.specs.Rpc.{CallOutcome, Success, ProgramUnavailable, ProgramMismatch, ProcedureUnavailable, GarbageArguments}
use Rattle.wire_model.specs.Rpc.{SystemError}
use Rattle.wire_model.specs.Rpc.{RpcMismatch, BadCredential, reply}
use Rattle.ivy_cli.specs.Summary.{status_in}

-- the line that shows the reply to a call
abbrev pub reply_line : ℕ → CallOutcome → List ℕ
reply_line xid outcome = codes "reply " ++ encode_lower (reply xid outcome)

-- the line of a call that was served shows the status that its results begin with, whatever is after it
abbrev pub ServedCallsShowStatus : Type 0
ServedCallsShowStatus = (xid status : ℕ) (rest : List ℕ) → status < 2 ^ 32
    → status_in (reply_line xid (Success (word status ++ rest))) ≡ Some status

-- the line of a call that was refused shows none
abbrev pub RefusedCallsShowNone : Type 0
RefusedCallsShowNone = (xid : ℕ) →
    (status_in (reply_line xid ProgramUnavailable) ≡ None)
    × (status_in (reply_line xid ProcedureUnavailable) ≡ None)
    × (status_in (reply_line xid GarbageArguments) ≡ None)
    × (status_in (reply_line xid SystemError) ≡ None)
    × (status_in (reply_line xid RpcMismatch) ≡ None)
    × (status_in (reply_line xid BadCredential) ≡ None)
    × ((low high : ℕ) → status_in (reply_line xid (ProgramMismatch low high)) ≡ None)
