-- A session whose turn is awaited, and one that is over: stages that are changed in place.
use Rattle.std.proofs.Common.{◌≡◌, ◌≢◌, ℕ, true, false, List, Some, None, Result, Ok, Err, IfSome, refl, sym, ap, ◌∙◌, subst}
use Rattle.dhash_client.specs.GetHead.{Judges}
use Rattle.session_model.specs.Sessions.{Cache}
use Rattle.log_fetch.specs.declared.standing.Standing.{Standing}
use Rattle.log_fetch.specs.declared.turned.Turned.{Turned}
use Rattle.log_fetch.specs.declared.turned.TurnFault.{TurnFault}
use Rattle.log_fetch.specs.declared.turned.TurnFault.TheVariants as fault
use Rattle.view_refresh.specs.States.{Refreshing as RefreshState}
use Rattle.ivy_session.specs.Publishing.{PublishingState, publishing_begun}
use Rattle.ivy_session.specs.declared.served.Call.{Call}
use Rattle.ivy_session.specs.declared.served.Served.{Served}
use Rattle.ivy_session.specs.declared.session.Next.TheVariants as next
use Rattle.ivy_session.specs.declared.session.Stage.{Stage}
use Rattle.ivy_session.specs.declared.session.Stage.TheVariants as stage
use Rattle.ivy_session.specs.States.{SessionState, awaited_at, is_told, is_turning}
use Rattle.ivy_session.specs.Stepping.{IsNext, IsTurned, NextIs}
use Rattle.ivy_session.specs.Stepping.NextIs.{is_over}
use Rattle.ivy_session.specs.Ending.{BeginsAgain, lacking, replying}
use Rattle.ivy_session.specs.InPlace.{call_at, is_publishing, told_at}
use Rattle.ivy_session.proofs.Turns.{begins_again, is_cut_then, lacks_anew, lacks_turn, publishes_then}

some_or_none : {T : Type 0} (x : T) → Some x ≡ None → ⊥
some_or_none x e = cc e

same_some : {T : Type 0} (x y : T) → Some x ≡ Some y → x ≡ y
same_some x y e = cc e

-- the call's turn is awaited
pub at_turn : {J : Type 0} (at : Stage J) (c : Call) → is_turning at ≡ true → call_at at ≡ Some c → at ≡ stage.Turning c
at_turn (stage.Refreshing d r) c turning call = cc turning
at_turn (stage.Turning d) c turning call = ap (λ (x : Call). stage.Turning x) (same_some d c call)
at_turn (stage.Publishing told p) c turning call = cc turning
at_turn (stage.Over told) c turning call = cc turning
at_turn stage.Told c turning call = cc turning

pub turning_call : {J : Type 0} (at : Stage J) → is_turning at ≡ true → call_at at ≢ None
turning_call (stage.Refreshing d r) turning none = cc turning
turning_call (stage.Turning d) turning none = some_or_none d none
turning_call (stage.Publishing told p) turning none = cc turning
turning_call (stage.Over told) turning none = cc turning
turning_call stage.Told turning none = cc turning

module _ {J : Type 0} (judges : Judges J) (st : SessionState J) (at : Stage J) (c : Call) (turning : is_turning at ≡ true) (call : call_at at ≡ Some c) where
  abbrev With : Stage J → SessionState J
  With x = record st { stage = x }

  at_its_turn : (new : SessionState J) (given : Result Turned TurnFault) → IsTurned judges (With (stage.Turning c)) new given → IsTurned judges (With at) new given
  at_its_turn new given h = subst (λ (x : Stage J). IsTurned judges (With x) new given) (sym (at_turn at c turning call)) h

  -- ---- it was answered

  pub is_answered : (turned : Turned) (bytes : List ℕ) (told : Served) (p : PublishingState) (now : Stage J) → bytes ≡ turned.reply → told ≡ replying c bytes → p ≡ publishing_begun st.replicas st.entries turned.posts → now ≡ stage.Publishing told p
      → IsTurned judges (With at) (With now) (Ok turned)
  is_answered turned bytes told p now reply e begun is =
      subst (λ (x : Stage J). IsTurned judges (With at) (With x) (Ok turned)) (sym (is ∙ ap (λ (x : Served). stage.Publishing x p) (e ∙ ap (replying c) reply)))
      (at_its_turn (With (stage.Publishing (replying c turned.reply) p)) (Ok turned) (publishes_then judges st c turned p begun))

  pub is_answered_alone : (turned : Turned) (bytes : List ℕ) (told : Served) (now : Stage J) → bytes ≡ turned.reply → told ≡ replying c bytes → now ≡ stage.Over told → IsTurned judges (With at) (record st { is_cut = true; stage = now }) (Ok turned)
  is_answered_alone turned bytes told now reply e is =
      subst (λ (x : Stage J). IsTurned judges (With at) (record st { is_cut = true; stage = x }) (Ok turned)) (sym (is ∙ ap (λ (x : Served). stage.Over x) (e ∙ ap (replying c) reply)))
      (at_its_turn (record st { is_cut = true; stage = stage.Over (replying c turned.reply) }) (Ok turned) (is_cut_then judges st c turned))

  -- ---- memory runs out

  pub turn_lacks : (now : Stage J) → now ≡ stage.Over (lacking c) → IsTurned judges (With at) (With now) (Err fault.Memory)
  turn_lacks now e = subst (λ (x : Stage J). IsTurned judges (With at) (With x) (Err fault.Memory)) (sym e) (at_its_turn (With (stage.Over (lacking c))) (Err fault.Memory) (lacks_turn judges st c))

  -- ---- it was refused

  pub refresh_anew : (between : Stage J) (given : Standing) (mid : SessionState J) (r : RefreshState J) (now : Stage J) → BeginsAgain judges (With between) mid given (Some r) → now ≡ stage.Refreshing c r
      → IsTurned judges (With at) (record mid { stage = now }) (Err (fault.Behind given))
  refresh_anew between given mid r now h is =
      subst (λ (x : Stage J). IsTurned judges (With at) (record mid { stage = x }) (Err (fault.Behind given))) (sym is)
      (at_its_turn (record mid { stage = stage.Refreshing c r }) (Err (fault.Behind given)) (begins_again judges (With between) c given mid r h))

  pub end_anew : (between : Stage J) (given : Standing) (mid : SessionState J) (told : Served) (now : Stage J) → BeginsAgain judges (With between) mid given None → told ≡ lacking c → now ≡ stage.Over told
      → IsTurned judges (With at) (record mid { stage = now }) (Err (fault.Behind given))
  end_anew between given mid told now h e is =
      subst (λ (x : Stage J). IsTurned judges (With at) (record mid { stage = x }) (Err (fault.Behind given))) (sym (is ∙ ap (λ (x : Served). stage.Over x) e))
      (at_its_turn (record mid { stage = stage.Over (lacking c) }) (Err (fault.Behind given)) (lacks_anew judges (With between) c given mid h))

-- ---- it is over

module _ {J : Type 0} (judges : Judges J) (st : SessionState J) where
  abbrev At : Stage J → SessionState J
  At x = record st { stage = x }

  abbrev NotRefreshing : Stage J → Type 0
  NotRefreshing at = (c : Call) (r : RefreshState J) → at ≡ stage.Refreshing c r → ⊥

  abbrev NotPublishing : Stage J → Type 0
  NotPublishing at = (told : Served) (p : PublishingState) → at ≡ stage.Publishing told p → ⊥

  pub is_to_tell : (at : Stage J) → NotRefreshing at → is_turning at ≡ false → is_told at ≡ false → told_at at ≢ None
  is_to_tell (stage.Refreshing c r) refreshing turning was = absurd (refreshing c r refl)
  is_to_tell (stage.Turning c) refreshing turning was = cc turning
  is_to_tell (stage.Publishing told p) refreshing turning was = some_or_none told
  is_to_tell (stage.Over told) refreshing turning was = some_or_none told
  is_to_tell stage.Told refreshing turning was = cc was

  pub is_told_next : (cache : Cache) (told : Served) (at now : Stage J) → NotRefreshing at → NotPublishing at → told_at at ≡ Some told → IsNext judges (At at) (At now) cache cache (next.Done told)
  is_told_next cache told (stage.Refreshing c r) now refreshing publishing e = absurd (refreshing c r refl)
  is_told_next cache told (stage.Turning c) now refreshing publishing e = absurd (some_or_none told (sym e))
  is_told_next cache told (stage.Publishing first p) now refreshing publishing e = absurd (publishing first p refl)
  is_told_next cache told (stage.Over first) now refreshing publishing e = (
    (refl, refl, refl),
    λ s is. subst (λ (x : Served). NextIs judges (At (stage.Over first)) (At now) s cache cache (next.Done x)) (sym is.at.is_told ∙ same_some first told e) (is_over is.at.said is.at.stage refl is.at.noted),
  )
  is_told_next cache told stage.Told now refreshing publishing e = absurd (some_or_none told (sym e))

-- what waits for an answer and doesn't refresh publishes
pub is_to_put : {J : Type 0} (at : Stage J) → ((c : Call) (r : RefreshState J) → at ≡ stage.Refreshing c r → ⊥) → awaited_at at ≢ None → is_publishing at ≡ true
is_to_put (stage.Refreshing c r) refreshing waits = absurd (refreshing c r refl)
is_to_put (stage.Turning c) refreshing waits = absurd (waits refl)
is_to_put (stage.Publishing told p) refreshing waits = refl
is_to_put (stage.Over told) refreshing waits = absurd (waits refl)
is_to_put stage.Told refreshing waits = absurd (waits refl)

-- the call is told that memory runs out
pub lack_at_turn : {J : Type 0} (judges : Judges J) (st : SessionState J) (at now : Stage J) (given : Result Turned TurnFault) (why : TurnFault) → is_turning at ≡ true → given ≡ Err why → why ≡ fault.Memory → IfSome (call_at at) (λ call. now ≡ stage.Over (lacking call))
    → IsTurned judges (record st { stage = at }) (record st { stage = now }) given
lack_at_turn judges st (stage.Turning c) now given why turning is is_memory over =
    subst (λ (x : Result Turned TurnFault). IsTurned judges (record st { stage = stage.Turning c }) (record st { stage = now }) x) (sym (is ∙ ap (λ (x : TurnFault). Err x) is_memory)) (turn_lacks judges st (stage.Turning c) c refl refl now over)
lack_at_turn judges st (stage.Refreshing c r) now given why turning is is_memory over = cc turning
lack_at_turn judges st (stage.Publishing told p) now given why turning is is_memory over = cc turning
lack_at_turn judges st (stage.Over told) now given why turning is is_memory over = cc turning
lack_at_turn judges st stage.Told now given why turning is is_memory over = cc turning

-- its turn was refused
module _ {J : Type 0} (judges : Judges J) (old new : SessionState J) (given : Result Turned TurnFault) (why : TurnFault) (standing : Standing) (is : given ≡ Err why) where
  pub turned_behind : why ≡ fault.Behind standing → IsTurned judges old new (Err (fault.Behind standing)) → IsTurned judges old new given
  turned_behind e h = subst (IsTurned judges old new) (sym (is ∙ ap (λ (x : TurnFault). Err x) e)) h

  pub turned_below : why ≡ fault.BelowTide standing → IsTurned judges old new (Err (fault.Behind standing)) → IsTurned judges old new given
  turned_below e h = subst (IsTurned judges old new) (sym (is ∙ ap (λ (x : TurnFault). Err x) e)) h
