-- Of any bytes it is known what they are.
use Rattle.std.specs.Prelude.{◌⊎◌, ℕ, List}
use Rattle.wire_model.specs.Rpc.{Auth, CallMessage, Identity, IsCall, IsCaller, IsOtherVersion}
use Rattle.nfs_model.specs.declared.arguments.Args.{Args}
use Rattle.nfs_model.specs.Arguments.{AreArguments, nfs_program}

-- the message is no call of any version
abbrev pub IsNoCall : List ℕ → Type 0
IsNoCall message = ((c : CallMessage) → IsCall message c → ⊥) × ((xid : ℕ) → IsOtherVersion message xid → ⊥)

-- Each message is a call, or a call of another version of RPC, or neither.
abbrev pub EachMessageIsKnown : Type 0
EachMessageIsKnown = (message : List ℕ)
    → ((c : CallMessage) × IsCall message c) ⊎ ((xid : ℕ) × IsOtherVersion message xid) ⊎ IsNoCall message

-- Each credential is a caller's, or no one's.
abbrev pub EachCredentialIsKnown : Type 0
EachCredentialIsKnown = (a : Auth) → ((who : Identity) × IsCaller a who) ⊎ ((who : Identity) → IsCaller a who → ⊥)

-- Any bytes are a procedure's arguments, or they are none of its.
abbrev pub EachArgumentsAreKnown : Type 0
EachArgumentsAreKnown = (procedure : ℕ) (bytes : List ℕ)
    → ((args : Args) × AreArguments nfs_program procedure bytes args) ⊎ ((args : Args) → AreArguments nfs_program procedure bytes args → ⊥)
