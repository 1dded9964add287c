-- A part of a call, and a participant's cache, that are changed.
use Rattle.std.proofs.Common.{◌≡◌, ◌≢◌, ◌<◌, false, Option, Some, None, Result, Ok, Err, refl, ap, ◌∙◌, subst}
use Rattle.std.specs.Prelude.{IfErr, IfSome, IsSomeAnd}
use Rattle.ivy_base.specs.declared.operation.Moment.{Moment}
use Rattle.log_heads.specs.declared.judge.HssJudge.{HssJudge}
use Rattle.dht_ids.specs.declared.ask.Answer.{Answer}
use Rattle.log_model.specs.View.{View}
use Rattle.agent_model.specs.Standing.{Standing as ModelStanding}
use Rattle.log_fetch.specs.declared.asked.Asked.{Asked}
use Rattle.log_fetch.specs.declared.refresh.Refresh.{Refresh}
use Rattle.log_fetch.specs.declared.turned.Turned.{Turned}
use Rattle.log_fetch.specs.declared.turned.TurnFault.{TurnFault}
use Rattle.log_fetch.specs.declared.turned.TurnFault.TheVariants as fault
use Rattle.log_fetch.specs.Standings.{asked_of, refresh_of}
use Rattle.ivy_agent.specs.Turns.{IsFetchedIn}
use Rattle.session_model.specs.Sessions.{Cache}
use Rattle.ivy_session.specs.declared.session.Next.{Next}
use Rattle.ivy_session.specs.Left.{LeavesNoMore, session_left}
use Rattle.ivy_session.specs.States.{SessionState, asked_at, is_turning, session_awaited}
use Rattle.ivy_session.specs.Stepping.{IsAgainFor, IsHeard, IsNext, IsTurned}
use Rattle.session_steps.specs.MetState.{MetState}
use Rattle.script_participants.specs.ParticipantState.{ParticipantState}
use Rattle.script_participants.specs.Turning.{TakesTurn}
use Rattle.session_steps.specs.Representing.{CallState, judges}
use Rattle.session_steps.specs.Within.{BeginsAgain, CountsAsMade, HasHeard, HasNext, IsToldOf, LeftBy, TookTurn}

module _ (inside old : CallState) (st : SessionState HssJudge) (before : ParticipantState) (cache after : Cache) (is : inside ≡ old) (lent : cache ≡ before.cache) where
  abbrev with_session : CallState
  with_session = record inside { session = st }

  abbrev with_cache : ParticipantState
  with_cache = record before { cache = after }

  same_call : with_session ≡ record old { session = st }
  same_call = ap (λ (call : CallState). record call { session = st }) is

  pub next_so : (wanted : Next) → IsNext judges inside.session st cache after wanted → LeavesNoMore inside.session st wanted → HasNext old with_session before with_cache wanted
  next_so wanted wants left = record {
    wants = subst (λ (call : CallState). IsNext judges call.session st before.cache after wanted) is (subst (λ (blocks : Cache). IsNext judges inside.session st blocks after wanted) lent wants);
    left = subst (λ (call : CallState). LeavesNoMore call.session st wanted) is left;
    call = same_call;
    who = refl;
  }

  pub heard_so : (answer : Answer) → IsHeard judges inside.session st cache after (Ok answer) → is_turning st.stage ≡ false → session_left st < session_left inside.session → HasHeard old with_session before with_cache answer
  heard_so answer heard no_turn less = record {
    heard = subst (λ (call : CallState). IsHeard judges call.session st before.cache after (Ok answer)) is (subst (λ (blocks : Cache). IsHeard judges inside.session st blocks after (Ok answer)) lent heard);
    no_turn = no_turn;
    less = subst (λ (call : CallState). session_left st < session_left call.session) is less;
    call = same_call;
    who = refl;
  }

-- ---- a turn

same_asked : {a b : Asked} → Some a ≡ Some b → a ≡ b
same_asked e = cc e

module _ (refresh : Refresh) (now : Moment) (turned : Result Turned TurnFault) (before after : ParticipantState) where
  -- on what the session is asked
  pub took_so : (call : CallState) (st : SessionState HssJudge) (found : Asked) → st ≡ call.session → Some found ≡ asked_at st.stage
      → IfSome before.agent.view (λ view. TakesTurn view (refresh_of refresh) (asked_of found) now before turned after) → TookTurn call refresh now turned before after
  took_so call st found same is took asked at =
      subst (λ (a : Asked). IfSome before.agent.view (λ view. TakesTurn view (refresh_of refresh) (asked_of a) now before turned after))
      (same_asked (is ∙ ap (λ (s : SessionState HssJudge). asked_at s.stage) same ∙ at)) took

  anew_of : (turned : Result Turned TurnFault) (view : View) (asked : Asked) → TakesTurn view (refresh_of refresh) (asked_of asked) now before turned after → IfErr turned IsAgainFor
  anew_of (Ok done) view asked took = tt
  anew_of (Err fault.Memory) view asked took = tt
  anew_of (Err (fault.Behind standing)) view asked took = ap (λ (s : ModelStanding). s.to_load) took.anew
  anew_of (Err (fault.BelowTide standing)) view asked took = ap (λ (s : ModelStanding). s.to_load) took.anew

  -- after a refusal it may begin again
  pub anew_so : (asked : Asked) → IsSomeAnd before.agent.view (λ view. IsFetchedIn view refresh.batch) → IfSome before.agent.view (λ view. TakesTurn view (refresh_of refresh) (asked_of asked) now before turned after)
      → IfErr turned IsAgainFor
  anew_so asked some took = by before.agent.view some took
    where
      by : (o : Option View) → IsSomeAnd o (λ view. IsFetchedIn view refresh.batch) → IfSome o (λ view. TakesTurn view (refresh_of refresh) (asked_of asked) now before turned after) → IfErr turned IsAgainFor
      by None some took = absurd some
      by (Some view) some took = anew_of turned view asked took

-- the session was told so
pub told_so : (turned : Result Turned TurnFault) (old new : CallState) (before after : ParticipantState) (met later : MetState) (mid : SessionState HssJudge) → mid ≡ old.session → IsTurned judges mid new.session turned
    → session_awaited new.session ≡ None → is_turning new.session.stage ≡ false → session_left new.session < session_left mid → new.told ≡ old.told → LeftBy old new before after met later turned
    → IsToldOf turned old new before after met later
told_so turned old new before after met later mid same is free no_turn less told left = record {
  is_turned = subst (λ (st : SessionState HssJudge). IsTurned judges st new.session turned) same is;
  free = free;
  no_turn = no_turn;
  less = subst (λ (st : SessionState HssJudge). session_left new.session < session_left st) same less;
  told = told;
  left = left;
}

-- after a refusal
pub refused_so : (why : TurnFault) (old new : CallState) (before after : ParticipantState) (met later : MetState) → why ≢ fault.Memory → CountsAsMade before after met later → BeginsAgain old new
    → LeftBy old new before after met later (Err why)
refused_so fault.Memory old new before after met later not made anew = absurd (not refl)
refused_so (fault.Behind standing) old new before after met later not made anew = (made, anew)
refused_so (fault.BelowTide standing) old new before after met later not made anew = (made, anew)
