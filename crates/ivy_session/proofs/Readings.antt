-- What is read of a message, whether or not memory ran out for it.
use Rattle.std.proofs.Common.{◌≡◌, ℕ, List, Option, Some, None, refl, sym, ap, subst}
use Rattle.std.specs.Prelude.{Result, Ok, Err, IfOk, option_map}
use Rattle.ivy_base.specs.declared.memory.Memory.{Memory}
use Rattle.log_model.specs.View.{View}
use Rattle.wire_model.specs.Rpc.{IsOtherVersion, Success, reply}
use Rattle.rpc_wire.specs.Callers.{IsGoodCall, IsNoCall}
use Rattle.rpc_wire.specs.ReplyHead.{head_bytes}
use Rattle.rpc_wire.specs.declared.call.Call.{Call}
use Rattle.rpc_wire.specs.declared.call.Caller.{Caller}
use Rattle.rpc_wire.specs.declared.reply.ReplyHead.{ReplyHead}
use Rattle.rpc_wire.specs.declared.reply.ReplyHead.TheVariants as head
use Rattle.nfs_model.specs.declared.arguments.Args.{Args}
use Rattle.nfs_model.specs.declared.replies.Reply.{Reply}
use Rattle.nfs_model.specs.Arguments.{AreArguments}
use Rattle.nfs_model.specs.Results.{result}
use Rattle.nfs3_args.specs.Reading.{AreNoArguments}
use Rattle.session_model.specs.Replies.{IsByMessage, alone_answer, no_call, other_version}
use Rattle.log_fetch.specs.declared.asked.Asked.{Asked}
use Rattle.ivy_session.specs.declared.reading.Reading.{Reading}
use Rattle.ivy_session.specs.declared.reading.Reading.TheVariants.{Alone, Asks}
use Rattle.ivy_session.specs.Admitting.{IsAdmitted, IsRefused}
use Rattle.ivy_session.specs.Reading.{IsReading, reading_by}
use Rattle.ivy_session.proofs.GoodCalls.{refusal, garbage, answered, asks}

pub nothing_called : (view : View) (message : List ℕ) → IsNoCall message → IsReading view message (Alone None)
nothing_called view message h = no_call h.none h.no_other

-- a reply that is given is the message's
replied : (view : View) (message bytes : List ℕ) → IsByMessage view message (Some bytes) → (r : Result Reading Memory)
    → IfOk r (λ reading. reading ≡ Alone (Some bytes)) → IfOk r (IsReading view message)
replied view message bytes is (Ok reading) e = subst (IsReading view message) (sym e) is
replied view message bytes is (Err memory) e = tt

pub other_called : (view : View) (message : List ℕ) (xid : ℕ) → IsOtherVersion message xid → (r : Result Reading Memory)
    → IfOk r (λ reading. reading ≡ Alone (Some (head_bytes xid head.RpcMismatch))) → IfOk r (IsReading view message)
other_called view message xid other = replied view message (head_bytes xid head.RpcMismatch) (other_version xid other)

pub refused : (view : View) (message : List ℕ) (given : Call) → IsGoodCall message given → (h : ReplyHead) → IsRefused given h → (r : Result Reading Memory)
    → IfOk r (λ reading. reading ≡ Alone (Some (head_bytes given.xid h))) → IfOk r (IsReading view message)
refused view message given good h why = replied view message (head_bytes given.xid h) (refusal view message given good h why)

module _ (view : View) (message : List ℕ) (given : Call) (good : IsGoodCall message given) (caller : Caller) (admitted : IsAdmitted given caller) where
  pub garbled : AreNoArguments given.program given.procedure given.args.now → (r : Result Reading Memory)
      → IfOk r (λ reading. reading ≡ Alone (Some (head_bytes given.xid head.GarbageArgs))) → IfOk r (IsReading view message)
  garbled none = replied view message (head_bytes given.xid head.GarbageArgs) (garbage view message given good caller admitted none)

  -- where the arguments were read, by the answer without a turn
  module _ (args : Args) (are : AreArguments given.program given.procedure given.args.now args) where
    comes : (o : Option Reply) → alone_answer view args ≡ o → IsReading view message (reading_by o given.xid (record { caller = caller; args = args }))
    comes None is = asks view message given good caller admitted args are is
    comes (Some answer) is = answered view message given good caller admitted args answer are is

    pub read_well : (r : Result Reading Memory)
        → IfOk r (λ reading. reading ≡ reading_by (alone_answer view args) given.xid (record { caller = caller; args = args })) → IfOk r (IsReading view message)
    read_well (Ok reading) e = subst (IsReading view message) (sym e) (comes (alone_answer view args) refl)
    read_well (Err memory) e = tt

-- the reply, or its lack, tells whether there is an answer
module _ (xid : ℕ) (asked : Asked) where
  pub is_alone : (o : Option Reply) (bytes : List ℕ) → Some bytes ≡ option_map (λ r. reply xid (Success (result r))) o → Alone (Some bytes) ≡ reading_by o xid asked
  is_alone None bytes e = absurd (cc e)
  is_alone (Some answer) bytes e = ap Alone e

  pub is_asked : (o : Option Reply) → None ≡ option_map (λ r. reply xid (Success (result r))) o → Asks xid asked ≡ reading_by o xid asked
  is_asked None e = refl
  is_asked (Some answer) e = absurd (cc e)
