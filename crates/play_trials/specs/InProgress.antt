-- A session on its way for an agent in a view, and what it may want next.
use Rattle.std.specs.Prelude.{◌≡◌, ◌≢◌, true, false, Option, Some, None, IfSome, IsSomeAnd}
use Rattle.ivy_base.specs.declared.operation.Moment.{Moment}
use Rattle.dhash_client.specs.GetHead.{Judges}
use Rattle.dhash_model.specs.Signed.{hss_judged}
use Rattle.log_heads.specs.declared.judge.HssJudge.{HssJudge}
use Rattle.log_model.specs.Spelling.{IsMoment}
use Rattle.log_model.specs.View.{View}
use Rattle.session_model.specs.Sessions.{Session}
use Rattle.log_fetch.specs.declared.asked.Asked.{Asked}
use Rattle.log_fetch.specs.declared.refresh.Refresh.{Refresh}
use Rattle.log_fetch.specs.Standings.{asked_of}
use Rattle.ivy_agent.specs.Answering.{IsCall}
use Rattle.ivy_agent.specs.Bounds.{HasBounds}
use Rattle.ivy_agent.specs.Turns.{IsFetchedIn}
use Rattle.ivy_session.specs.declared.session.Next.{Next}
use Rattle.ivy_session.specs.declared.session.Next.TheVariants as next
use Rattle.ivy_session.specs.States.{IsSession, SessionState, asked_at, is_turning, session_awaited}

-- whatever the judge is, heads are judged by their signatures
abbrev pub judges : Judges HssJudge
judges judge = hss_judged

module _ {J : Type 0} (judging : Judges J) (view : Option View) (st : SessionState J) where
  -- it may be a session of the definitions, which last began in that view
  pub record IsInProgress : Type 0 where
    pub session : Session
    pub is : IsSession judging session st
    pub viewed : view ≡ Some session.standing.view

  -- so, and no turn is awaited
  pub record GoesOn : Type 0 where
    pub in_progress : IsInProgress
    pub no_turn : is_turning st.stage ≡ false

  -- so, and a node is to be heard
  pub record MayHear : Type 0 where
    pub in_progress : IsInProgress
    pub waits : session_awaited st ≢ None

  -- so, and a turn is awaited, which an agent in that view may have on what the refresh brought
  pub record MayTurn (refresh : Refresh) : Type 0 where
    pub in_progress : IsInProgress
    pub waits : is_turning st.stage ≡ true
    pub batch : IsSomeAnd view (λ v. IsFetchedIn v refresh.batch)
    pub bounds : IfSome refresh.basis (λ basis. HasBounds basis.tree)
    pub is_call : (asked : Asked) (now : Moment) → asked_at st.stage ≡ Some asked → IsMoment now → IsCall (asked_of asked) now

  -- what may be had after what it wants
  abbrev pub MayWant : Next → Type 0
  MayWant (next.Ask node question) = MayHear
  MayWant (next.Turn refresh) = MayTurn refresh
  MayWant (next.Settle acks) = GoesOn
  MayWant (next.Done served) = Unit {0}
