-- What a call's reader gives of a message (RFC 5531, section 9 and appendix A).
use Rattle.std.specs.Prelude.{◌≡◌, ◌≢◌, ◌≤◌, ℕ, List, take, Option, Some, None, IfSome}
use Rattle.wire_model.specs.Rpc.{Auth, CallMessage, IsCall, IsOtherVersion, Identity, IsCaller}
use Rattle.rpc_wire.specs.Parts.{System, SystemFits, system}
use Rattle.rpc_wire.specs.declared.call.Caller.{Caller}
use Rattle.rpc_wire.specs.declared.call.Call.{Call}
use Rattle.rpc_wire.specs.declared.call.Heading.{Heading}
use Rattle.rpc_wire.specs.declared.call.Heading.TheVariants.{Good, Mismatch, NotACall}

-- user and groups: as many of the groups as are counted
abbrev pub identity_of : Caller → Identity
identity_of c = record { uid = c.uid; gid = c.gid; groups = take c.count c.gids }

-- whose call the credential makes it, or nobody's
abbrev pub IsCallerOf : Auth → Option Caller → Type 0
IsCallerOf credential None = (who : Identity) → IsCaller credential who → ⊥
IsCallerOf credential (Some caller) = IsCaller credential (identity_of caller)

-- the body of AUTH_SYS is that caller's, or nobody's
abbrev pub IsSystemCallerOf : List ℕ → Option Caller → Type 0
IsSystemCallerOf bytes None = (s : System) → SystemFits s → bytes ≢ system s
IsSystemCallerOf bytes (Some caller) = (stamp : ℕ) × (machine : List ℕ)
    × SystemFits ((((stamp, machine), caller.uid), caller.gid), take caller.count caller.gids)
    × (bytes ≡ system ((((stamp, machine), caller.uid), caller.gid), take caller.count caller.gids))

-- the message is that call
pub record IsGoodCall (message : List ℕ) (given : Call) : Type 0 where
  pub call : CallMessage
  pub is_call : IsCall message call
  pub xid : given.xid ≡ call.xid
  pub program : given.program ≡ call.program
  pub version : given.version ≡ call.version
  pub procedure : given.procedure ≡ call.procedure
  pub caller : IsCallerOf call.credential given.caller
  pub arguments : given.args.now ≡ call.arguments

-- the message is neither a call nor one of another version of RPC
pub record IsNoCall (message : List ℕ) : Type 0 where
  pub none : (call : CallMessage) → IsCall message call → ⊥
  pub no_other : (xid : ℕ) → IsOtherVersion message xid → ⊥

abbrev pub IsHeading : List ℕ → Heading → Type 0
IsHeading message (Good call) = IsGoodCall message call
IsHeading message (Mismatch xid) = IsOtherVersion message xid
IsHeading message NotACall = IsNoCall message

-- a caller counts at most 16 groups (appendix A), so that all that are counted are there
abbrev pub HasFewGroups : Heading → Type 0
HasFewGroups (Good call) = IfSome call.caller (λ c. c.count ≤ 16)
HasFewGroups (Mismatch xid) = Unit {0}
HasFewGroups NotACall = Unit {0}
