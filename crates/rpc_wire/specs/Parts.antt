-- The parts of a call, in the order in which they are read.
use Rattle.std.specs.Prelude.{ℕ, ◌≤◌, List, ◌++◌, length}
use Rattle.std.specs.List.{AllByRecursion}
use Rattle.wire_model.specs.Xdr.{word, opaque, array, IsWord, IsUpTo}
use Rattle.wire_model.specs.Rpc.{Auth, auth, AuthFits}
use Rattle.rpc_wire.specs.declared.call.Credential.{Credential}

-- three words: transaction, message type and version of RPC, and then program, version and procedure
abbrev pub Words : Type 0
Words = (ℕ × ℕ) × ℕ

abbrev pub AreWords : Words → Type 0
AreWords w = (IsWord w.0.0 × IsWord w.0.1) × IsWord w.1

abbrev pub words : Words → List ℕ
words w = (word w.0.0 ++ word w.0.1) ++ word w.1

-- what follows in a call up to the arguments: three words, credential, verifier
abbrev pub Body : Type 0
Body = (Words × Auth) × Auth

abbrev pub BodyFits : Body → Type 0
BodyFits b = (AreWords b.0.0 × AuthFits b.0.1) × AuthFits b.1

abbrev pub body : Body → List ℕ
body b = (words b.0.0 ++ auth b.0.1) ++ auth b.1

abbrev pub auth_of : Credential → Auth
auth_of c = record { flavour = c.flavour; body = c.body.now }

-- ---- AUTH_SYS (appendix A): a stamp, a machine's name, a user, a group, and groups

abbrev pub User : Type 0
User = ((ℕ × List ℕ) × ℕ) × ℕ

abbrev pub UserFits : User → Type 0
UserFits u = ((IsWord u.0.0.0 × IsUpTo 255 u.0.0.1) × IsWord u.0.1) × IsWord u.1

abbrev pub user : User → List ℕ
user u = ((word u.0.0.0 ++ opaque u.0.0.1) ++ word u.0.1) ++ word u.1

abbrev pub AreGroups : List ℕ → Type 0
AreGroups groups = (length groups ≤ 16) × AllByRecursion IsWord groups

abbrev pub System : Type 0
System = User × List ℕ

abbrev pub SystemFits : System → Type 0
SystemFits s = UserFits s.0 × AreGroups s.1

abbrev pub system : System → List ℕ
system s = user s.0 ++ array word s.1
