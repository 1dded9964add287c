-- The messages of RPC (RFC 5531, section 9): a call with its whole credential and verifier, and the reply's head.
use Rattle.std.specs.Prelude.{◌≡◌, ◌≢◌, ℕ, ◌<◌, ◌≤◌, ◌^◌, List, [], ◌++◌, length}
use Rattle.std.specs.List.{AllByRecursion}
use Rattle.wire_model.specs.Xdr.{word, opaque, array}

-- how a caller shows who it is: a flavour and its body (8.2, opaque_auth)
pub record Auth : Type 0 where
  pub flavour : ℕ
  pub body : List ℕ

abbrev pub auth : Auth → List ℕ
auth a = word a.flavour ++ opaque a.body

-- a call: its number, the procedure that it calls, who calls it, and the bytes of the arguments
pub record CallMessage : Type 0 where
  pub xid : ℕ
  pub program : ℕ
  pub version : ℕ
  pub procedure : ℕ
  pub credential : Auth
  pub verifier : Auth
  pub arguments : List ℕ

-- a call of RPC version 2: message type 0
abbrev pub call : CallMessage → List ℕ
call c = word c.xid ++ word 0 ++ word 2 ++ word c.program ++ word c.version ++ word c.procedure
    ++ auth c.credential ++ auth c.verifier ++ c.arguments

-- the bounds of these: numbers are words, and a body has at most 400 bytes
pub record AuthFits (a : Auth) : Type 0 where
  pub flavour : a.flavour < 2 ^ 32
  pub body : length a.body ≤ 400

pub record CallFits (c : CallMessage) : Type 0 where
  pub xid : c.xid < 2 ^ 32
  pub program : c.program < 2 ^ 32
  pub version : c.version < 2 ^ 32
  pub procedure : c.procedure < 2 ^ 32
  pub credential : AuthFits c.credential
  pub verifier : AuthFits c.verifier

-- the message is this call
abbrev pub IsCall : List ℕ → CallMessage → Type 0
IsCall message c = CallFits c × (message ≡ call c)

-- the message is a call of another RPC version: nothing after the version is looked at
abbrev pub IsOtherVersion : List ℕ → ℕ → Type 0
IsOtherVersion message xid = (version : ℕ) × (rest : List ℕ) × (xid < 2 ^ 32) × (version < 2 ^ 32) × (version ≢ 2)
    × (message ≡ word xid ++ word 0 ++ word version ++ rest)

-- ---- the caller (appendix A: AUTH_SYS)

-- user and groups, as numbers
pub record Identity : Type 0 where
  pub uid : ℕ
  pub gid : ℕ
  pub groups : List ℕ

-- the body of an AUTH_SYS credential
abbrev pub system_body : ℕ → List ℕ → Identity → List ℕ
system_body stamp machine who = word stamp ++ opaque machine ++ word who.uid ++ word who.gid ++ array word who.groups

-- the caller who doesn't say who it is
abbrev pub nobody : Identity
nobody = record { uid = 65534; gid = 65534; groups = [] }

-- the superuser alone, of no groups
abbrev pub superuser : Identity
superuser = record { uid = 0; gid = 0; groups = [] }

-- numbers of a word, and at most 16 groups
pub record IsIdentity (who : Identity) : Type 0 where
  pub uid : who.uid < 2 ^ 32
  pub gid : who.gid < 2 ^ 32
  pub few : length who.groups ≤ 16
  pub groups : AllByRecursion (λ g. g < 2 ^ 32) who.groups

-- whose call it is: flavour 0 (10.1, AUTH_NONE) is nobody whatever its body, and flavour 1 (AUTH_SYS) says who;
-- any other credential has no caller
pub data IsCaller : Auth → Identity → Type 0 where
  none : {body : List ℕ} → IsCaller (record { flavour = 0; body = body }) nobody
  system : {who : Identity} (stamp : ℕ) (machine : List ℕ) → stamp < 2 ^ 32 → length machine ≤ 255 → IsIdentity who
      → IsCaller (record { flavour = 1; body = system_body stamp machine who }) who

-- ---- replies (9)

-- what becomes of a call: served, or refused before it reaches a procedure
pub data CallOutcome : Type 0 where
  Success : (result : List ℕ) → CallOutcome
  ProgramUnavailable : CallOutcome
  ProgramMismatch : (low : ℕ) → (high : ℕ) → CallOutcome
  ProcedureUnavailable : CallOutcome
  GarbageArguments : CallOutcome
  SystemError : CallOutcome
  RpcMismatch : CallOutcome
  BadCredential : CallOutcome

-- an accepted call (MSG_ACCEPTED), with a verifier of flavour 0 without a body
abbrev pub accepted : ℕ → List ℕ → List ℕ
accepted xid rest = word xid ++ word 1 ++ word 0 ++ word 0 ++ word 0 ++ rest

-- a denied call (MSG_DENIED)
abbrev pub denied : ℕ → List ℕ → List ℕ
denied xid rest = word xid ++ word 1 ++ word 1 ++ rest

-- the reply to the call of that number; a denial names version 2 as the only one, or the credential as bad
abbrev pub reply : ℕ → CallOutcome → List ℕ
reply xid (Success result) = accepted xid (word 0 ++ result)
reply xid ProgramUnavailable = accepted xid (word 1)
reply xid (ProgramMismatch low high) = accepted xid (word 2 ++ word low ++ word high)
reply xid ProcedureUnavailable = accepted xid (word 3)
reply xid GarbageArguments = accepted xid (word 4)
reply xid SystemError = accepted xid (word 5)
reply xid RpcMismatch = denied xid (word 0 ++ word 2 ++ word 2)
reply xid BadCredential = denied xid (word 1 ++ word 1)
