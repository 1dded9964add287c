-- A message asks one thing.
use Rattle.std.proofs.Common.{◌≡◌, ℕ, List, arith, sym, ap, ◌∙◌, subst}
use Rattle.wire_model.specs.Rpc.{Auth, CallMessage, Identity, IsCaller, IsIdentity, none as no_credential, system}
use Rattle.wire_model.proofs.OneReading.{one_call, one_caller}
use Rattle.log_model.specs.View.{View}
use Rattle.nfs_model.specs.Arguments.{AreArguments}
use Rattle.nfs_model.proofs.OneArguments.{one_arguments}
use Rattle.turn_model.specs.Turn.{Asked}
use Rattle.session_model.specs.Replies.{Asks}

pub one_asked : (view : View) (message : List ℕ) (xid other_xid : ℕ) (asked other : Asked) → Asks view message xid asked → Asks view message other_xid other → asked ≡ other
one_asked view message xid other_xid asked other a b =
    let call : b.call ≡ a.call = one_call message b.call a.call b.is_call a.is_call in
    let who : asked.caller ≡ other.caller = one_caller a.call.credential asked.caller other.caller a.caller (subst (λ (c : CallMessage). IsCaller c.credential other.caller) call b.caller) in
    let args : asked.args ≡ other.args = one_arguments a.call.program a.call.procedure a.call.arguments asked.args other.args a.arguments
    (subst (λ (c : CallMessage). AreArguments c.program c.procedure c.arguments other.args) call b.arguments) in
    λ i. record { caller = who i; args = args i }

pub one_xid : (view : View) (message : List ℕ) (xid other_xid : ℕ) (asked other : Asked) → Asks view message xid asked → Asks view message other_xid other → xid ≡ other_xid
one_xid view message xid other_xid asked other a b = sym a.xid_is ∙ ap (λ (c : CallMessage). c.xid) (one_call message a.call b.call a.is_call b.is_call) ∙ b.xid_is

pub caller_is_identity : {a : Auth} {who : Identity} → IsCaller a who → IsIdentity who
caller_is_identity no_credential = record { uid = omega arith; gid = omega arith; few = omega arith; groups = tt }
caller_is_identity (system stamp machine fits short is) = is
