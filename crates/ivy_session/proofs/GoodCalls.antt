-- What a call of this version of RPC comes to, by the parts of it that were read.
use Rattle.std.proofs.Common.{◌≡◌, ℕ, ◌<◌, ◌≤◌, List, Option, Some, None, sym, ◌∙◌, subst}
use Rattle.log_model.specs.View.{View}
use Rattle.wire_model.specs.Rpc.{IsCaller, CallOutcome, ProgramUnavailable, ProgramMismatch, ProcedureUnavailable, BadCredential, GarbageArguments, Success, reply}
use Rattle.rpc_wire.specs.Callers.{IsGoodCall, IsCallerOf, identity_of}
use Rattle.rpc_wire.specs.ReplyHead.{head_bytes}
use Rattle.rpc_wire.specs.declared.call.Call.{Call}
use Rattle.rpc_wire.specs.declared.call.Caller.{Caller}
use Rattle.rpc_wire.specs.declared.reply.ReplyHead.{ReplyHead}
use Rattle.rpc_wire.specs.declared.reply.ReplyHead.TheVariants as head
use Rattle.nfs_model.specs.declared.arguments.Args.{Args}
use Rattle.nfs_model.specs.declared.replies.Reply.{Reply}
use Rattle.nfs_model.specs.Arguments.{AreArguments}
use Rattle.nfs_model.specs.Results.{result}
use Rattle.nfs3_args.specs.Reading.{AreNoArguments}
use Rattle.session_model.specs.Replies.{IsByMessage, IsServed, procedures_of, alone_answer, no_program, no_version, no_procedure, no_caller, no_arguments, alone}
use Rattle.ivy_session.specs.Admitting.{IsHere, IsAdmitted, IsRefused}
use Rattle.ivy_session.specs.Admitting as why
use Rattle.ivy_session.specs.Reading.{AsksWell}
use Rattle.ivy_session.proofs.Callers.{caller_is_identity}

module _ (view : View) (message : List ℕ) (given : Call) (good : IsGoodCall message given) where
  -- the reply is under the number that was read
  under : (o : CallOutcome) → IsByMessage view message (Some (reply good.call.xid o)) → IsByMessage view message (Some (reply given.xid o))
  under o h = subst (λ (xid : ℕ). IsByMessage view message (Some (reply xid o))) (sym good.xid) h

  program : (o : Option ℕ) → procedures_of given.program ≡ o → procedures_of good.call.program ≡ o
  program o e = subst (λ (p : ℕ). procedures_of p ≡ o) good.program e

  served : IsHere given → IsServed good.call
  served here = record {
    count = here.count;
    program = program (Some here.count) here.program;
    version = sym good.version ∙ here.version;
    procedure = subst (λ (n : ℕ). n < here.count) good.procedure here.procedure;
  }

  pub refusal : (h : ReplyHead) → IsRefused given h → IsByMessage view message (Some (head_bytes given.xid h))
  refusal _ (why.no_program none) = under ProgramUnavailable (no_program good.call good.is_call (program None none))
  refusal _ (why.no_version count is other) =
      under (ProgramMismatch 3 3) (no_version good.call count good.is_call (program (Some count) is) (λ e. other (good.version ∙ e)))
  refusal _ (why.no_procedure count is version more) =
      under ProcedureUnavailable (no_procedure good.call count good.is_call (program (Some count) is) (sym good.version ∙ version) (subst (λ (n : ℕ). count ≤ n) good.procedure more))
  refusal _ (why.no_caller here none) =
      under BadCredential (no_caller good.call good.is_call (served here) (subst (IsCallerOf good.call.credential) none good.caller))

  module _ (caller : Caller) (admitted : IsAdmitted given caller) where
    who : IsCaller good.call.credential (identity_of caller)
    who = subst (IsCallerOf good.call.credential) admitted.caller_is good.caller

    read : (args : Args) → AreArguments given.program given.procedure given.args.now args → AreArguments good.call.program good.call.procedure good.call.arguments args
    read args are = record {
      program_is = sym good.program ∙ are.program_is;
      procedure_is = sym good.procedure ∙ are.procedure_is;
      fit = are.fit;
      spelled = sym good.arguments ∙ are.spelled;
    }

    unread : (args : Args) → AreArguments good.call.program good.call.procedure good.call.arguments args → AreArguments given.program given.procedure given.args.now args
    unread args are = record {
      program_is = good.program ∙ are.program_is;
      procedure_is = good.procedure ∙ are.procedure_is;
      fit = are.fit;
      spelled = good.arguments ∙ are.spelled;
    }

    pub garbage : AreNoArguments given.program given.procedure given.args.now → IsByMessage view message (Some (head_bytes given.xid head.GarbageArgs))
    garbage none = under GarbageArguments (no_arguments good.call (identity_of caller) good.is_call (served admitted.here) who (λ args are. none.none args (unread args are)))

    pub answered : (args : Args) (r : Reply) → AreArguments given.program given.procedure given.args.now args → alone_answer view args ≡ Some r
        → IsByMessage view message (Some (reply given.xid (Success (result r))))
    answered args r are is = under (Success (result r)) (alone good.call (identity_of caller) args r good.is_call (served admitted.here) who (read args are) is)

    pub asks : (args : Args) → AreArguments given.program given.procedure given.args.now args → alone_answer view args ≡ None
        → AsksWell view message given.xid (record { caller = caller; args = args })
    asks args are none = record {
      asks = record {
        call = good.call;
        is_call = good.is_call;
        xid_is = sym good.xid;
        served = served admitted.here;
        caller = who;
        arguments = read args are;
        not_alone = none;
      };
      caller = caller_is_identity who;
      args = are.fit;
    }
