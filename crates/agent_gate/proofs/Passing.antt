-- What a pass comes to, as `Turns` of ivy_agent has it.
use Rattle.std.proofs.Common.{◌≡◌, ◌+◌, ◌≤◌, List, [], ◌∷◌, ◌++◌, length, Option, Some, Result, Ok, Err, sym, ap, ◌∙◌, subst}
use Rattle.std.specs.Prelude.{IfOk, IfErr, OnErr, IfSome}
use Rattle.std.proofs.lemmas.List.{append-nil, map-append}
use Rattle.ivy_base.specs.declared.memory.Memory.{Memory}
use Rattle.log_model.specs.View.{View}
use Rattle.dht_ids.specs.declared.post.Ack.{Ack}
use Rattle.agent_model.specs.Standing.{standing_in}
use Rattle.nfs_model.specs.Results.{longest_result}
use Rattle.log_fetch.specs.declared.standing.Standing.{Standing}
use Rattle.log_fetch.specs.declared.turned.Turned.{Turned}
use Rattle.log_fetch.specs.declared.turned.TurnFault.{TurnFault}
use Rattle.log_fetch.specs.Standings.{asked_of, refresh_of, standing_of}
use Rattle.ivy_agent.specs.Calls.{Made, MadeThen, Settles, Stands, Turns}
use Rattle.ivy_agent.specs.Holders.{Holder}
use Rattle.ivy_agent.specs.Turns.{TakesTurn}
use Rattle.value_gate.specs.Histories.{IsLegal, calls_by, entry}
use Rattle.value_gate.specs.Passes.{Found, FoundAndLeft, GateView, IsOwnHistory, IsPassOf, PassView, SawOn, TookTurn, with_history}
use Rattle.agent_gate.specs.declared.request.TurnRequest.{TurnRequest}
use Rattle.agent_gate.specs.Asking.{DropsPosts, Refuses, ShowsStanding}
use Rattle.agent_gate.specs.Sharing.{Answers, Comes, Leaves, made_by, made_of}
use Rattle.agent_gate.specs.Taking.{AgentEntry, AgentKind, HasTaken, TurnsInView}
use Rattle.agent_gate.proofs.Histories.{last_is_taken, stays_in_view}
use Rattle.agent_gate.proofs.Turning.{stays}

-- what was shown is shown of the agent that was found
pub shows_itself : {K S : Type 0} (kind : AgentKind K S) (opening : Holder K S) (history : List AgentEntry) (result : Result Standing Memory)
    → FoundAndLeft (HasTaken kind) opening history (λ found left. ShowsStanding kind found result left) → Found (HasTaken kind) opening history (λ found. ShowsStanding kind found result found)
shows_itself kind opening history result (found, has, (left, has_then, shows)) = (found, has, subst (ShowsStanding kind found result) shows.same shows)

module _ {K S : Type 0} (kind : AgentKind K S) (gate : GateView (Holder K S)) (old new : PassView (Holder K S) (TurnRequest × Turned)) where
  -- what its gate's take_turn says of a turn that was answered
  pub answers : (asked : TurnRequest) (turned : Turned) → IsPassOf gate old → TookTurn old (asked, turned) new → IsOwnHistory (HasTaken kind) new → Answers kind gate old asked turned new
  answers asked turned of took legal =
      let e : AgentEntry = entry old.number (length old.calls + 1) (asked, turned) in
      let opening : new.opening ≡ Some gate.opening = ap (λ (p : PassView (Holder K S) (TurnRequest × Turned)). p.opening) took.2 ∙ of.1 in
      let its : IsLegal (HasTaken kind) gate.opening new.history × (calls_by new.number new.history ≡ new.calls) =
      subst (λ (o : Option (Holder K S)). IfSome o (λ x. IsLegal (HasTaken kind) x new.history × (calls_by new.number new.history ≡ new.calls))) opening legal in
      let whole = its.0.reached new.history ([], append-nil new.history) in
      let is : new.history ≡ took.0 ++ e ∷ [] = ap (λ (p : PassView (Holder K S) (TurnRequest × Turned)). p.history) took.2 in
      record {
        before = took.0;
        older = took.1;
        newest = took.2;
        took = last_is_taken kind gate.opening whole.0 took.0 e (subst (λ (l : List AgentEntry). HasTaken kind gate.opening l whole.0) is whole.1);
      }

  pub all_answers : (asked : TurnRequest) (result : Result Turned TurnFault) → IsPassOf gate old → IfOk result (λ turned. TookTurn old (asked, turned) new) → IsOwnHistory (HasTaken kind) new
      → IfOk result (λ turned. Answers kind gate old asked turned new)
  all_answers asked (Ok turned) of took legal = answers asked turned of took legal
  all_answers asked (Err fault) of took legal = tt

  -- of a turn in the view of the agent that was found
  of_view : (found after : Holder K S) (history : List AgentEntry) (asked : TurnRequest) (result : Result Turned TurnFault) → HasTaken kind gate.opening history found → TurnsInView kind found asked result after
      → IfSome gate.opening.agent.view (λ view. TakesTurn kind.signs kind.IsWhole kind.saves view (refresh_of asked.refresh) (asked_of asked.asked) asked.now found result after)
  of_view found after history asked result has took =
      subst (λ (o : Option View). IfSome o (λ view. TakesTurn kind.signs kind.IsWhole kind.saves view (refresh_of asked.refresh) (asked_of asked.asked) asked.now found result after))
      (sym took.in_view ∙ stays_in_view kind gate.opening found history has) took.turn

  abbrev CauseOf : TurnRequest → TurnFault → Type 0
  CauseOf asked fault = Found (HasTaken kind) gate.opening new.history (λ found. Refuses kind asked found fault)

  pub turns : (asked : TurnRequest) (result : Result Turned TurnFault) → IfOk result (λ turned. Answers kind gate old asked turned new) → OnErr result (SawOn old new) → IfErr result (CauseOf asked)
      → Turns kind.signs kind.IsWhole kind.saves (Comes kind gate old) (Leaves kind gate new) gate.opening.agent.view (refresh_of asked.refresh) (asked_of asked.asked) asked.now result
  turns asked (Ok turned) a none no_cause = record {
    found = a.took.found;
    after = a.took.after;
    came = record { history = a.before; older = a.older; has_taken = a.took.had_taken };
    left = subst (λ (p : PassView (Holder K S) (TurnRequest × Turned)). HasTaken kind gate.opening p.history a.took.after) (sym a.newest) a.took.has_taken;
    in_view = stays_in_view kind gate.opening a.took.found a.before a.took.had_taken;
    turn = of_view a.took.found a.took.after a.before asked (Ok turned) a.took.had_taken a.took.took;
  }
  turns asked (Err fault) none saw (found, has, (after, refused)) = record {
    found = found;
    after = after;
    came = record { history = new.history; older = saw.0; has_taken = has };
    left = stays kind found after asked fault refused gate.opening new.history has;
    in_view = stays_in_view kind gate.opening found new.history has;
    turn = of_view found after new.history asked (Err fault) has refused;
  }

  pub made_then : (asked : TurnRequest) (result : Result Turned TurnFault) → IfOk result (λ turned. Answers kind gate old asked turned new) → OnErr result (SawOn old new)
      → MadeThen (Some (made_by old)) (Some (made_by new)) asked.refresh asked.asked asked.now result
  made_then asked (Ok turned) a none =
      let e : AgentEntry = entry old.number (length old.calls + 1) (asked, turned) in
      ap (λ (p : PassView (Holder K S) (TurnRequest × Turned)). Some (made_by p)) a.newest ∙ ap (λ (l : List Made). Some l) (map-append made_of old.calls (e ∷ []))
  made_then asked (Err fault) none saw = ap (λ (p : PassView (Holder K S) (TurnRequest × Turned)). Some (made_by p)) saw.1

  fits_with : (history calls : List AgentEntry) → IsPassOf gate old → new ≡ with_history old history calls → IsPassOf gate new
  fits_with history calls of is = subst (IsPassOf gate) (sym is) of

  pub saw_fits : IsPassOf gate old → SawOn old new → IsPassOf gate new
  saw_fits of saw = fits_with new.history old.calls of saw.1

  pub turned_fits : (asked : TurnRequest) (result : Result Turned TurnFault) → IsPassOf gate old → IfOk result (λ turned. Answers kind gate old asked turned new) → OnErr result (SawOn old new) → IsPassOf gate new
  turned_fits asked (Ok turned) of a none = let e : AgentEntry = entry old.number (length old.calls + 1) (asked, turned) in fits_with (a.before ++ e ∷ []) (old.calls ++ e ∷ []) of a.newest
  turned_fits asked (Err fault) of none saw = saw_fits of saw

  pub turned_short : (asked : TurnRequest) (result : Result Turned TurnFault) → IfOk result (λ turned. Answers kind gate old asked turned new) → IfOk result (λ turned. length turned.reply ≤ longest_result)
  turned_short asked (Ok turned) a = a.took.short
  turned_short asked (Err fault) a = tt

  -- ---- standings and settlings

  pub saw_made : SawOn old new → Some (made_by new) ≡ Some (made_by old)
  saw_made saw = ap (λ (p : PassView (Holder K S) (TurnRequest × Turned)). Some (made_by p)) saw.1

  stands_in : (result : Result Standing Memory) (found : Holder K S) (o : Option View) → found.agent.view ≡ o → IfOk result (λ s. IfSome found.agent.view (λ view. standing_of s ≡ standing_in kind.signs found.agent view))
      → IfOk result (λ s. IfSome o (λ view. standing_of s ≡ standing_in kind.signs found.agent view))
  stands_in (Ok s) found o is stands = subst (λ (v : Option View). IfSome v (λ view. standing_of s ≡ standing_in kind.signs found.agent view)) is stands
  stands_in (Err e) found o is stands = tt

  pub stands : (result : Result Standing Memory) → SawOn old new → Found (HasTaken kind) gate.opening new.history (λ found. ShowsStanding kind found result found)
      → Stands kind.signs (Comes kind gate old) (Leaves kind gate new) gate.opening.agent.view result
  stands result saw (found, has, shows) = let in_view = stays_in_view kind gate.opening found new.history has in record {
    found = found;
    came = record { history = new.history; older = saw.0; has_taken = has };
    left = has;
    in_view = in_view;
    stands = stands_in result found gate.opening.agent.view in_view shows.stands;
  }

  pub settles : (acks : List Ack) → SawOn old new → FoundAndLeft (HasTaken kind) gate.opening new.history (DropsPosts acks)
      → Settles (Comes kind gate old) (Leaves kind gate new) acks
  settles acks saw (found, has, (left, has_then, is)) = record {
    found = found;
    came = record { history = new.history; older = saw.0; has_taken = has };
    left = subst (HasTaken kind gate.opening new.history) is has_then;
  }
