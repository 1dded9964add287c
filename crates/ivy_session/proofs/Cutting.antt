-- Where a session's publishing is cut, and that nothing else cuts it.
use Rattle.std.proofs.Common.{◌≡◌, ⊎_elim, Bool, true, false, List, Option, Some, None, Result, Ok, Err, IfSome, refl, sym, ap, ◌∙◌, subst}
use Rattle.std.proofs.lemmas.Bool.{and_from, and_left, and_right}
use Rattle.std.specs.Prelude.{◌||◌, is_ok}
use Rattle.ivy_base.specs.declared.memory.Memory.{Memory}
use Rattle.dht_ids.specs.declared.ask.Answer.{Answer}
use Rattle.dhash_model.specs.declared.miss.Miss.{Miss}
use Rattle.dhash_client.specs.GetHead.{Judges}
use Rattle.log_fetch.specs.declared.note.Note.{Note as Noted}
use Rattle.log_fetch.specs.declared.standing.Standing.{Standing}
use Rattle.log_fetch.specs.declared.turned.Turned.{Turned}
use Rattle.log_fetch.specs.declared.turned.TurnFault.{TurnFault}
use Rattle.view_refresh.specs.declared.refresh.Refreshed.{Refreshed}
use Rattle.view_refresh.specs.States.{Refreshing as RefreshState}
use Rattle.ivy_session.specs.Publishing.{PublishingState}
use Rattle.ivy_session.specs.declared.served.Call.{Call}
use Rattle.ivy_session.specs.declared.served.Served.{Served}
use Rattle.ivy_session.specs.declared.session.Next.{Next}
use Rattle.ivy_session.specs.declared.session.Next.TheVariants as next
use Rattle.ivy_session.specs.declared.session.Stage.{Stage}
use Rattle.ivy_session.specs.declared.session.Stage.TheVariants as stage
use Rattle.ivy_session.specs.States.{SessionState}
use Rattle.ivy_session.specs.Ending.{BeginsAgain, ConcludesAs, EndsAs, TellsMiss}
use Rattle.ivy_session.specs.InPlace.{EndsRefresh, PutHeard, is_publishing, is_refreshing, told_at}
use Rattle.ivy_session.specs.Cutting.{IsCutAsHeard, IsCutAsTurned, IsCutAsWanted, is_done, is_over}

-- ---- flags

or_false : (a : Bool) → (a || false) ≡ a
or_false true = refl
or_false false = refl

or_true : (a : Bool) → (a || true) ≡ true
or_true true = refl
or_true false = refl

stays_so : (before after flag : Bool) → after ≡ before → flag ≡ false → after ≡ (before || flag)
stays_so before after flag same down = same ∙ sym (or_false before) ∙ ap (λ (b : Bool). before || b) (sym down)

rises_so : (before after flag : Bool) → after ≡ true → flag ≡ true → after ≡ (before || flag)
rises_so before after flag risen up = risen ∙ sym (or_true before) ∙ ap (λ (b : Bool). before || b) (sym up)

-- ---- what stays a session's flag

module _ {J : Type 0} (old new : SessionState J) where
  misses_whole : (c : Call) (miss : Miss) (notes : List Noted) (told : Served) → TellsMiss old new c miss notes told → new.is_cut ≡ old.is_cut
  misses_whole c miss notes told h = ⊎_elim (λ missed. ap (λ (x : SessionState J). x.is_cut) missed.1) (λ lacks. ap (λ (x : SessionState J). x.is_cut) lacks.1) h

  pub concludes_whole : (c : Call) (given : Refreshed) (wanted : Next) → ConcludesAs old new c given wanted → new.is_cut ≡ old.is_cut
  concludes_whole c given (next.Turn refresh) h = ap (λ (x : SessionState J). x.is_cut) h.1
  concludes_whole c given (next.Done told) h = misses_whole c h.0 given.notes told h.2
  concludes_whole c given (next.Ask node question) h = absurd h
  concludes_whole c given (next.Settle acks) h = absurd h

  ends_as_whole : (judges : Judges J) (c : Call) (r : RefreshState J) (told : Served) → EndsAs judges old new c r told → new.is_cut ≡ old.is_cut
  ends_as_whole judges c r told h = ⊎_elim (λ lacks. ap (λ (x : SessionState J). x.is_cut) lacks.1) (λ missed. ap (λ (x : SessionState J). x.is_cut) missed.4) h

  pub anew_whole : (judges : Judges J) (standing : Standing) (begun : Option (RefreshState J)) → BeginsAgain judges old new standing begun → new.is_cut ≡ old.is_cut
  anew_whole judges standing (Some r) h = ap (λ (x : SessionState J). x.is_cut) h.0.1
  anew_whole judges standing None h = ⊎_elim (λ is_new. ap (λ (x : SessionState J). x.is_cut) is_new.1) (λ stays. ap (λ (x : SessionState J). x.is_cut) stays.1) h

-- a refresh that has failed leaves it
pub ends_whole : {J : Type 0} (judges : Judges J) (st : SessionState J) (at : Stage J) (new : SessionState J) → is_refreshing at ≡ true → EndsRefresh judges (record st { stage = at }) new → new.is_cut ≡ st.is_cut
ends_whole {J = J} judges st (stage.Refreshing c r) new is h =
    let e = h c r refl in
    ap (λ (x : SessionState J). x.is_cut) e.3 ∙ ends_as_whole (record st { stage = stage.Told }) e.0 judges c r e.1 e.2
ends_whole judges st (stage.Turning c) new is h = cc is
ends_whole judges st (stage.Publishing told p) new is h = cc is
ends_whole judges st (stage.Over told) new is h = cc is
ends_whole judges st stage.Told new is h = cc is

-- ---- which stages publish, and which are over

refreshing_or_publishing : {J : Type 0} (at : Stage J) → is_refreshing at ≡ true → is_publishing at ≡ false
refreshing_or_publishing (stage.Refreshing c r) is = refl
refreshing_or_publishing (stage.Turning c) is = refl
refreshing_or_publishing (stage.Publishing told p) is = cc is
refreshing_or_publishing (stage.Over told) is = refl
refreshing_or_publishing stage.Told is = refl

none_publishes : {J : Type 0} (at : Stage J) → ((told : Served) (p : PublishingState) → at ≡ stage.Publishing told p → ⊥) → is_publishing at ≡ false
none_publishes (stage.Refreshing c r) other = refl
none_publishes (stage.Turning c) other = refl
none_publishes (stage.Publishing told p) other = absurd (other told p refl)
none_publishes (stage.Over told) other = refl
none_publishes stage.Told other = refl

-- what publishes is heard, and still publishes
put_publishes : {J : Type 0} (at now : Stage J) (given : Result Answer Memory) (r : Result (Unit {0}) Memory) → PutHeard at now given r → (is_publishing at ≡ true) × (is_over now ≡ false) × (told : Served) × (told_at now ≡ Some told)
put_publishes {J = J} (stage.Publishing told p) now given r h = (refl, ap (λ (x : Stage J). is_over x) h.1, told, ap (λ (x : Stage J). told_at x) h.1)
put_publishes (stage.Refreshing c q) now given r h = absurd h
put_publishes (stage.Turning c) now given r h = absurd h
put_publishes (stage.Over told) now given r h = absurd h
put_publishes stage.Told now given r h = absurd h

-- ---- what is wanted

module _ {J : Type 0} (old new : SessionState J) (wanted : Next) where
  -- of a refresh nothing is cut
  pub refresh_wants_whole : is_refreshing old.stage ≡ true → new.is_cut ≡ old.is_cut → IsCutAsWanted old new wanted
  refresh_wants_whole is same = stays_so old.is_cut new.is_cut _ same (and_left (is_publishing old.stage) (is_done wanted) (refreshing_or_publishing old.stage is))

  -- nor where nothing is published
  pub told_whole : ((told : Served) (p : PublishingState) → old.stage ≡ stage.Publishing told p → ⊥) → new.is_cut ≡ old.is_cut → IsCutAsWanted old new wanted
  told_whole other same = stays_so old.is_cut new.is_cut _ same (and_left (is_publishing old.stage) (is_done wanted) (none_publishes old.stage other))

  -- nor where more is wanted
  pub more_whole : is_done wanted ≡ false → new.is_cut ≡ old.is_cut → IsCutAsWanted old new wanted
  more_whole more same = stays_so old.is_cut new.is_cut _ same (and_right (is_publishing old.stage) (is_done wanted) more)

  -- what publishes is cut where it is done
  pub done_cut : is_publishing old.stage ≡ true → is_done wanted ≡ true → new.is_cut ≡ true → IsCutAsWanted old new wanted
  done_cut is done cut = rises_so old.is_cut new.is_cut _ cut (and_from (is_publishing old.stage) (is_done wanted) is done)

-- ---- what is heard

module _ {J : Type 0} (old new : SessionState J) where
  pub get_heard_whole : is_refreshing old.stage ≡ true → new.is_cut ≡ old.is_cut → IsCutAsHeard old new
  get_heard_whole is same = stays_so old.is_cut new.is_cut _ same (and_left (is_publishing old.stage) (is_over new.stage) (refreshing_or_publishing old.stage is))

module _ {J : Type 0} (st : SessionState J) (at now : Stage J) (given : Result Answer Memory) (r : Result (Unit {0}) Memory) where
  pub put_heard_whole : PutHeard at now given r → IsCutAsHeard (record st { stage = at }) (record st { stage = now })
  put_heard_whole h = stays_so st.is_cut st.is_cut _ refl (and_right (is_publishing at) (is_over now) (put_publishes at now given r h).1)

  pub put_heard_cut : (end : Stage J) → PutHeard at now given r → IfSome (told_at now) (λ told. end ≡ stage.Over told) → IsCutAsHeard (record st { stage = at }) (record st { is_cut = true; stage = end })
  put_heard_cut end h ends =
      let p = put_publishes at now given r h in
      let over : end ≡ stage.Over p.2 = subst (λ (o : Option Served). IfSome o (λ told. end ≡ stage.Over told)) p.3 ends in
      rises_so st.is_cut true _ refl (and_from (is_publishing at) (is_over end) p.0 (ap (λ (x : Stage J). is_over x) over))

-- ---- what came of its turn

module _ {J : Type 0} (old new : SessionState J) where
  pub answered_whole : (turned : Turned) (told : Served) (p : PublishingState) → new.stage ≡ stage.Publishing told p → new.is_cut ≡ old.is_cut → IsCutAsTurned old new (Ok turned)
  answered_whole turned told p is same = stays_so old.is_cut new.is_cut _ same (ap (λ (x : Stage J). is_over x) is)

  pub answered_cut : (turned : Turned) (told : Served) → new.stage ≡ stage.Over told → new.is_cut ≡ true → IsCutAsTurned old new (Ok turned)
  answered_cut turned told is cut = rises_so old.is_cut new.is_cut _ cut (ap (λ (x : Stage J). is_over x) is)

  pub refused_whole : (given : Result Turned TurnFault) (why : TurnFault) → given ≡ Err why → new.is_cut ≡ old.is_cut → IsCutAsTurned old new given
  refused_whole given why is same = stays_so old.is_cut new.is_cut _ same (and_left (is_ok given) (is_over new.stage) (ap (λ (x : Result Turned TurnFault). is_ok x) is))
