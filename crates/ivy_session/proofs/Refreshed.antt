-- A refresh that is changed in place: what is wanted and heard, as steps of the session of the definitions.
use Rattle.std.proofs.Common.{◌≡◌, ◌≢◌, ⊎_elim, inl, inr, Bool, true, false, List, Option, Some, None, Result, Ok, Err, IfSome, refl, sym, ap, ◌∙◌, subst}
use Rattle.ivy_base.specs.declared.memory.Memory.{Memory}
use Rattle.dht_ids.specs.declared.ask.Answer.{Answer}
use Rattle.dht_ids.specs.declared.ask.Ask.{Ask}
use Rattle.dht_ids.specs.declared.ask.Want.{Want}
use Rattle.dht_ids.specs.declared.ask.Want.TheVariants as want
use Rattle.dht_ids.specs.declared.peer.Peer.{Peer}
use Rattle.dhash_model.specs.declared.miss.Miss.{Miss}
use Rattle.dhash_client.specs.GetHead.{Judges}
use Rattle.session_model.specs.Sessions.{Cache}
use Rattle.log_fetch.specs.declared.note.Note.{Note as Noted}
use Rattle.view_refresh.specs.declared.refresh.Refreshed.{Refreshed}
use Rattle.view_refresh.specs.States.{Refreshing as RefreshState}
use Rattle.ivy_session.specs.declared.served.Call.{Call}
use Rattle.ivy_session.specs.declared.served.Served.{Served}
use Rattle.ivy_session.specs.declared.session.Next.{Next}
use Rattle.ivy_session.specs.declared.session.Next.TheVariants as next
use Rattle.ivy_session.specs.declared.session.Stage.{Stage}
use Rattle.ivy_session.specs.declared.session.Stage.TheVariants as stage
use Rattle.ivy_session.specs.States.{SessionState}
use Rattle.ivy_session.specs.Stepping.{IsHeard, IsNext}
use Rattle.ivy_session.specs.Taking.{IsFailure}
use Rattle.ivy_session.specs.Ending.{ConcludesAs, EndsAs, lacking}
use Rattle.ivy_session.specs.InPlace.{EndsRefresh, FailureAt, RefreshHeard, RefreshWants, TellsWhy, call_at, is_refreshing}
use Rattle.ivy_session.proofs.Calls.{asks_next, concludes, hears_end, hears_nothing, hears_on, lacks_next}

same_some : (a b : Call) → let x : Option Call = Some a in let y : Option Call = Some b in x ≡ y → a ≡ b
same_some a b e = cc e

same_refresh : {J : Type 0} (c d : Call) (r q : RefreshState J) → stage.Refreshing c r ≡ stage.Refreshing d q → r ≡ q
same_refresh c d r q e = cc e

module _ {J : Type 0} (judges : Judges J) (st : SessionState J) (before after : Cache) where
  abbrev With : Stage J → SessionState J
  With at = record st { stage = at }

  -- ---- what the refresh wants

  pub refresh_asks : (node : Peer) (question : Ask) (at now : Stage J) → RefreshWants judges at now before after (Ok (want.Ask node question)) → IsNext judges (With at) (With now) before after (next.Ask node question)
  refresh_asks node question (stage.Refreshing c r) now h =
      subst (λ (x : Stage J). IsNext judges (With (stage.Refreshing c r)) (With x) before after (next.Ask node question)) (sym h.1) (asks_next judges st c r before after h.0 node question h.2)
  refresh_asks node question (stage.Turning c) now h = absurd h
  refresh_asks node question (stage.Publishing told p) now h = absurd h
  refresh_asks node question (stage.Over told) now h = absurd h
  refresh_asks node question stage.Told now h = absurd h

  pub refresh_lacks : (lacks : Memory) (c : Call) (at mid now : Stage J) → RefreshWants judges at mid before after (Err lacks) → call_at mid ≡ Some c → IsNext judges (With at) (With now) before after (next.Done (lacking c))
  refresh_lacks lacks c (stage.Refreshing first r) mid now h e =
      let one : first ≡ c = same_some first c (sym (ap call_at h.1) ∙ e) in
      subst (λ (x : Call). IsNext judges (With (stage.Refreshing first r)) (With now) before after (next.Done (lacking x))) one (lacks_next judges st first r before after (With now) refl refl refl refl h.0 lacks h.2)
  refresh_lacks lacks c (stage.Turning other) mid now h e = absurd h
  refresh_lacks lacks c (stage.Publishing told p) mid now h e = absurd h
  refresh_lacks lacks c (stage.Over told) mid now h e = absurd h
  refresh_lacks lacks c stage.Told mid now h e = absurd h

  pub refresh_concludes : (given : Refreshed) (c : Call) (wanted : Next) (at mid between : Stage J) (new : SessionState J) → RefreshWants judges at mid before after (Ok (want.Done given)) → call_at mid ≡ Some c
      → ConcludesAs (With between) new c given wanted → IsNext judges (With at) new before after wanted
  refresh_concludes given c wanted (stage.Refreshing first r) mid between new h e w =
      let one : c ≡ first = sym (same_some first c (sym (ap call_at h.1) ∙ e)) in
      concludes judges (With between) first r before after h.0 given h.2 new wanted (subst (λ (x : Call). ConcludesAs (With between) new x given wanted) one w)
  refresh_concludes given c wanted (stage.Turning other) mid between new h e w = absurd h
  refresh_concludes given c wanted (stage.Publishing told p) mid between new h e w = absurd h
  refresh_concludes given c wanted (stage.Over told) mid between new h e w = absurd h
  refresh_concludes given c wanted stage.Told mid between new h e w = absurd h

  -- ---- what the refresh hears

  pub refresh_goes_on : (given : Result Answer Memory) (at now : Stage J) → RefreshHeard judges at now before after given (Ok false) → IsHeard judges (With at) (With now) before after given
  refresh_goes_on given (stage.Refreshing c r) now h =
      subst (λ (x : Stage J). IsHeard judges (With (stage.Refreshing c r)) (With x) before after given) (sym h.1) (hears_on judges st c r h.0 before after given h.2)
  refresh_goes_on given (stage.Turning c) now h = absurd h
  refresh_goes_on given (stage.Publishing told p) now h = absurd h
  refresh_goes_on given (stage.Over told) now h = absurd h
  refresh_goes_on given stage.Told now h = absurd h

  pub refresh_hears_nothing : (given : Result Answer Memory) (lacks : Memory) (at mid now : Stage J) → RefreshHeard judges at mid before after given (Err lacks) → IfSome (call_at mid) (λ call. now ≡ stage.Over (lacking call))
      → IsHeard judges (With at) (With now) before after given
  refresh_hears_nothing given lacks (stage.Refreshing c r) mid now h e =
      let over : now ≡ stage.Over (lacking c) = subst (λ (x : Stage J). IfSome (call_at x) (λ call. now ≡ stage.Over (lacking call))) h.1 e in
      subst (λ (x : Stage J). IsHeard judges (With (stage.Refreshing c r)) (With x) before after given) (sym over) (hears_nothing judges st c r h.0 before after given lacks h.2)
  refresh_hears_nothing given lacks (stage.Turning c) mid now h e = absurd h
  refresh_hears_nothing given lacks (stage.Publishing told p) mid now h e = absurd h
  refresh_hears_nothing given lacks (stage.Over told) mid now h e = absurd h
  refresh_hears_nothing given lacks stage.Told mid now h e = absurd h

  pub refresh_ends : (given : Result Answer Memory) (at between : Stage J) (new : SessionState J) → RefreshHeard judges at between before after given (Ok true) → EndsRefresh judges (With between) new → IsHeard judges (With at) new before after given
  refresh_ends given (stage.Refreshing c r) between new h ends =
      let e = ends c h.0 h.1 in
      subst (λ (x : SessionState J). IsHeard judges (With (stage.Refreshing c r)) x before after given) (sym e.3) (hears_end judges (With stage.Told) c r h.0 before after given e.0 e.1 h.2 e.2)
  refresh_ends given (stage.Turning c) between new h ends = absurd h
  refresh_ends given (stage.Publishing told p) between new h ends = absurd h
  refresh_ends given (stage.Over told) between new h ends = absurd h
  refresh_ends given stage.Told between new h ends = absurd h

-- ---- it is still refreshing

module _ {J : Type 0} (judges : Judges J) where
  is_some : (x : Call) (o : Option Call) → o ≡ Some x → o ≢ None
  is_some x o e none = cc (e, none)

  pub wants_call : (at now : Stage J) (before after : Cache) (result : Result (Want Refreshed) Memory) → RefreshWants judges at now before after result → call_at now ≢ None
  wants_call (stage.Refreshing c r) now before after result h = is_some c (call_at now) (ap call_at h.1)
  wants_call (stage.Turning c) now before after result h = absurd h
  wants_call (stage.Publishing told p) now before after result h = absurd h
  wants_call (stage.Over told) now before after result h = absurd h
  wants_call stage.Told now before after result h = absurd h

  pub heard_call : (at now : Stage J) (before after : Cache) (given : Result Answer Memory) (result : Result Bool Memory) → RefreshHeard judges at now before after given result → (is_refreshing now ≡ true) × (call_at now ≢ None)
  heard_call (stage.Refreshing c r) now before after given result h = (ap is_refreshing h.1, is_some c (call_at now) (ap call_at h.1))
  heard_call (stage.Turning c) now before after given result h = absurd h
  heard_call (stage.Publishing told p) now before after given result h = absurd h
  heard_call (stage.Over told) now before after given result h = absurd h
  heard_call stage.Told now before after given result h = absurd h

  pub failure_call : (at now : Stage J) (why : Option (Miss × List Noted)) → FailureAt judges at now why → call_at now ≢ None
  failure_call (stage.Refreshing c r) now why h = is_some c (call_at now) (ap call_at h.1)
  failure_call (stage.Turning c) now why h = absurd h
  failure_call (stage.Publishing told p) now why h = absurd h
  failure_call (stage.Over told) now why h = absurd h
  failure_call stage.Told now why h = absurd h

-- ---- it has failed

module _ {J : Type 0} (judges : Judges J) (st : SessionState J) where
  abbrev As : Stage J → SessionState J
  As at = record st { stage = at }

  -- it is told why, where it fails by this
  tells_end : (mid : SessionState J) (told : Served) (c : Call) (r : RefreshState J) (why : Option (Miss × List Noted)) → IfSome why (IsFailure judges r) → TellsWhy (As stage.Told) mid c why told → EndsAs judges (As stage.Told) mid c r told
  tells_end mid told c r None h tells = inl tells
  tells_end mid told c r (Some why) h tells = ⊎_elim (λ missed. inr (why.0, why.1, h, missed.0, missed.1)) (λ lacks. inl lacks) tells

  pub ends_refresh : (at between now : Stage J) (why : Option (Miss × List Noted)) (c : Call) (told : Served) (mid : SessionState J) (over : Stage J) → FailureAt judges at between why → call_at between ≡ Some c → now ≡ stage.Told → TellsWhy (As now) mid c why told
      → over ≡ stage.Over told → EndsRefresh judges (As at) (record mid { stage = over })
  ends_refresh (stage.Refreshing first r) between now why c told mid over h call is tells is_over other q e =
      let one : c ≡ other = same_some c other (sym call ∙ ap call_at h.1 ∙ ap call_at e) in
      let tells_so = subst (λ (x : Stage J). TellsWhy (As x) mid other why told) is (subst (λ (x : Call). TellsWhy (As now) mid x why told) one tells) in
      (mid, told, tells_end mid told other q why (subst (λ (x : RefreshState J). IfSome why (IsFailure judges x)) (same_refresh first other r q e) h.2) tells_so, ap (λ (x : Stage J). record mid { stage = x }) is_over)
  ends_refresh (stage.Turning first) between now why c told mid over h call is tells is_over other q e = absurd h
  ends_refresh (stage.Publishing first p) between now why c told mid over h call is tells is_over other q e = absurd h
  ends_refresh (stage.Over first) between now why c told mid over h call is tells is_over other q e = absurd h
  ends_refresh stage.Told between now why c told mid over h call is tells is_over other q e = absurd h
