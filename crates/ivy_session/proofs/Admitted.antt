-- A call of a procedure that is here is admitted where it has a caller.
use Rattle.std.proofs.Common.{◌≡◌, Option, Some, None, refl, sym, subst}
use Rattle.std.specs.Prelude.{Result, MatchResult}
use Rattle.std.specs.Option.{ok_or}
use Rattle.rpc_wire.specs.declared.call.Call.{Call}
use Rattle.rpc_wire.specs.declared.call.Caller.{Caller}
use Rattle.rpc_wire.specs.declared.reply.ReplyHead.{ReplyHead}
use Rattle.rpc_wire.specs.declared.reply.ReplyHead.TheVariants.{BadCred}
use Rattle.ivy_session.specs.Admitting.{IsHere, IsAdmitted, IsRefused, no_caller}

judged : (given : Call) → IsHere given → (o : Option Caller) → given.caller ≡ o → MatchResult (ok_or o BadCred) (IsAdmitted given) (IsRefused given)
judged given here None none = no_caller here none
judged given here (Some caller) is = record { here = here; caller_is = is }

pub by_caller : (given : Call) → IsHere given → (r : Result Caller ReplyHead) → r ≡ ok_or given.caller BadCred → MatchResult r (IsAdmitted given) (IsRefused given)
by_caller given here r is = subst (λ (r : Result Caller ReplyHead). MatchResult r (IsAdmitted given) (IsRefused given)) (sym is) (judged given here given.caller refl)
