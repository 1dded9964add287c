-- Each message is one thing, and one thing becomes of it.
use Rattle.std.proofs.Common.{◌≡◌, ◌⊎◌, inl, inr, ℕ, List, [], Option, None, sym, ap, ◌∙◌, subst}
use Rattle.wire_model.specs.Rpc.{CallMessage, IsCaller}
use Rattle.wire_model.proofs.OneReading.{one_call, one_caller, no_other_version, one_other_version}
use Rattle.nfs_model.specs.Arguments.{AreArguments}
use Rattle.nfs_model.proofs.OneArguments.{one_arguments}
use Rattle.log_model.specs.View.{View}
use Rattle.turn_model.specs.Turn.{Asked}
use Rattle.agent_model.specs.Standing.{Standing}
use Rattle.turn_laws.proofs.Calls.{known_message}
use Rattle.session_model.specs.Executions.{Begins}
use Rattle.session_model.specs.Executions.Begins.{alone, refreshes}
use Rattle.session_model.specs.Replies.{Asks, IsByMessage}
use Rattle.session_model.specs.Sessions.{Session}
use Rattle.world_laws.proofs.ExistingMessages.{some_session}
use Rattle.world_laws.proofs.OneMessages.{one_reply, reply_or_turn}
use Rattle.world_laws.specs.Messages.{EachMessageBecomesOne, EachMessageIsOne}

pub each_is_one : EachMessageIsOne
each_is_one message = elim (known_message message) [
  | inl c ↦ inl (c.0, record { is = c.1; one = λ other is. one_call message other c.0 is c.1; no_other_version = λ xid is. no_other_version message c.0 xid c.1 is })
  | inr more ↦ elim more [
    | inl x ↦ inr (inl (x.0, record { is = x.1; one = λ other is. one_other_version message other x.0 is x.1; no_call = λ c is. no_other_version message c x.0 is x.1 }))
    | inr none ↦ inr (inr none)
  ]
]

module _ (view : View) (message : List ℕ) where
  abbrev Becomes : Type 0
  Becomes = ((given : Option (List ℕ)) × IsByMessage view message given) ⊎ ((xid : ℕ) × (asked : Asked) × Asks view message xid asked)

  -- ---- of each message it is known what becomes of it, since a session begins with it

  abbrev standing : Standing
  standing = record { view = view; own = record { 0 = [] }; floor = []; held = []; edges = []; to_load = None; pending = [] }

  of_session : (t : Session) → Begins [] message [] standing t → Becomes
  of_session _ (alone given by) = inl (given, by)
  of_session _ (refreshes xid asked asks) = inr (xid, asked, asks)

  becomes : Becomes
  becomes = (let s = some_session [] message [] standing in of_session s.0 s.1)

  -- ---- what is asked is one thing

  same_asked : (a b : Asked) → a.caller ≡ b.caller → a.args ≡ b.args → a ≡ b
  same_asked a b e f = ap (λ who. record { caller = who; args = a.args }) e ∙ ap (λ args. record { caller = b.caller; args = args }) f

  one_asked : (xid other_xid : ℕ) (asked other : Asked) → Asks view message xid asked → Asks view message other_xid other → (other_xid ≡ xid) × (other ≡ asked)
  one_asked xid other_xid asked other a b =
      let same : b.call ≡ a.call = one_call message b.call a.call b.is_call a.is_call in
      let who : other.caller ≡ asked.caller = one_caller a.call.credential other.caller asked.caller (subst (λ (c : CallMessage). IsCaller c.credential other.caller) same b.caller) a.caller in
      let args : other.args ≡ asked.args = one_arguments a.call.program a.call.procedure a.call.arguments other.args asked.args
      (subst (λ (c : CallMessage). AreArguments c.program c.procedure c.arguments other.args) same b.arguments) a.arguments in
      (sym b.xid_is ∙ ap (λ (c : CallMessage). c.xid) same ∙ a.xid_is, same_asked other asked who args)

pub each_becomes_one : EachMessageBecomesOne
each_becomes_one view message = elim (becomes view message) [
  | inl x ↦ inl (x.0, record { by = x.1; one = λ other by. one_reply view message other x.0 by x.1; no_turn = λ xid asked asks. reply_or_turn view message x.0 xid asked x.1 asks })
  | inr x ↦ inr (x.0, x.1, record { asks = x.2; one = λ other_xid other asks. one_asked view message x.0 other_xid x.1 other x.2 asks; not_alone = λ given by. reply_or_turn view message given x.0 x.1 by x.2 })
]
