-- A session in code on its way on a link.
use Rattle.std.specs.Prelude.{◌≡◌, ◌≢◌, ℕ, Bool, true, false, List, [], Option, Some, None, IfOk, IfSome, IsSomeAnd, OnErr, Result}
use Rattle.ivy_base.specs.declared.memory.Memory.{Memory}
use Rattle.ivy_base.specs.declared.operation.Moment.{Moment}
use Rattle.log_model.specs.Spelling.{IsMoment}
use Rattle.log_model.specs.View.{View}
use Rattle.dht_ids.specs.Asked.{longer, told}
use Rattle.dht_ids.specs.declared.ask.Answer.{Answer}
use Rattle.dht_ids.specs.declared.ask.Ask.{Ask}
use Rattle.dht_ids.specs.declared.ask.Heard.{Heard}
use Rattle.dht_ids.specs.declared.peer.Peer.{Peer}
use Rattle.dhash_client.specs.GetHead.{Judges}
use Rattle.dhash_model.specs.Signed.{hss_judged}
use Rattle.log_heads.specs.declared.judge.HssJudge.{HssJudge}
use Rattle.agent_model.specs.Standing.{Standing}
use Rattle.session_model.specs.Executions.{Begins}
use Rattle.session_model.specs.Sessions.{Cache, Over, Said, Session}
use Rattle.log_fetch.specs.declared.asked.Asked.{Asked}
use Rattle.log_fetch.specs.declared.refresh.Refresh.{Refresh}
use Rattle.log_fetch.specs.declared.turned.Turned.{Turned}
use Rattle.log_fetch.specs.declared.turned.TurnFault.{TurnFault}
use Rattle.log_fetch.specs.Standings.{asked_of, refresh_of}
use Rattle.ivy_agent.specs.Answering.{IsCall}
use Rattle.ivy_agent.specs.Bounds.{HasBounds}
use Rattle.ivy_agent.specs.Calls.{MadeThen, Turns}
use Rattle.ivy_agent.specs.Turns.{IsFetchedIn}
use Rattle.ivy_session.specs.declared.served.Served.{Served}
use Rattle.ivy_session.specs.declared.served.Served.TheVariants as served
use Rattle.ivy_session.specs.States.{HasAsked, IsSession, SessionState, asked_at, is_turning, served_of, session_awaited}
use Rattle.ivy_session.specs.Stepping.{IsHeard, IsTurned}
use Rattle.ivy_session.specs.Cutting.{IsCutAsHeard, IsCutAsTurned}
use Rattle.server_model.specs.Acts.{Act}
use Rattle.server_model.specs.Driving.{Driven, Went}
use Rattle.server_model.specs.Serving.{Answer as Answered, Serves, driven_first}
use Rattle.server_model.specs.Takers.{Follows, MayHaveLooked, Ring}
use Rattle.ivy_server.specs.Passes.{GivesNothing, GivesStanding, Passes, by_passes}
use Rattle.ivy_server.specs.Served.{Leave, Marks, Server, moment_of}
use Rattle.ivy_server.specs.declared.message.Outcome.{Outcome}
use Rattle.ivy_server.specs.declared.message.Outcome.TheVariants as outcome

-- whatever the judge is, heads are judged by their signatures
abbrev pub judges : Judges HssJudge
judges judge = hss_judged

-- Where the sessions of a link are driven: how many nodes own a key, which nodes were made, and in which view the agents are.
pub record Place : Type 0 where
  pub replicas : ℕ
  pub entries : List Peer
  pub view : Option View

abbrev pub place_of : ℕ → List Peer → Option View → Place
place_of replicas entries view = record { replicas = replicas; entries = entries; view = view }

-- the mesh there, as the definitions have it
abbrev pub ring_in : Place → Ring
ring_in place = record { judged = hss_judged; replicas = place.replicas; entries = place.entries }

-- By which passes turns are taken, which moments the clock may give, and where.
pub record Setting (P K S C : Type 0) : Type 1 where
  pub by : Passes P K S
  pub gives : C → ℕ × ℕ → C → Type 0
  pub place : Place

-- so a link is served
abbrev pub server_of : {P K S C : Type 0} → Setting P K S C → Server P C
server_of setting = record { taker = by_passes setting.by; ring = ring_in setting.place; gives = setting.gives }

-- what comes of a message whose session ended so, and was cut or not
abbrev pub outcome_for : Served → Bool → Outcome
outcome_for (served.Reply reply) is_cut = outcome.Reply reply is_cut
outcome_for served.NotACall is_cut = outcome.NotACall
outcome_for served.Published is_cut = outcome.NotACall

-- a session in code, and its link's cache
pub record Held : Type 0 where
  pub session : SessionState HssJudge
  pub cache : Cache

-- what a session touches: the pass, and what its acts leave marks on
pub record Touched (P C : Type 0) : Type 0 where
  pub pass : P
  pub marks : Marks C

-- The session in code may be this one of the definitions, and is cut where that is. It is in the agents' view, knows some node, and awaits
-- no turn.
pub record IsDriven (place : Place) (here : Driven) (held : Held) : Type 0 where
  pub is : IsSession judges here.session held.session
  pub cache : here.cache ≡ held.cache
  pub cut : held.session.is_cut ≡ here.is_cut
  pub viewed : place.view ≡ Some here.session.standing.view
  pub asked : HasAsked held.session here.session
  pub replicas : held.session.replicas ≡ place.replicas
  pub entries : held.session.entries ≡ place.entries
  pub some_entry : place.entries ≢ []
  pub no_turn : is_turning held.session.stage ≡ false

-- some session of the definitions may be it
abbrev pub IsInProgress : Place → Held → Type 0
IsInProgress place held = (here : Driven) × IsDriven place here held

-- ---- beginning

module _ {P K S : Type 0} (by : Passes P K S) (place : Place) where
  -- it began with the message and a standing of the agent, whatever the cache
  pub record HasBegun (message : List ℕ) (p q : P) (held : Held) : Type 0 where
    pub standing : Standing
    pub session : Session
    pub stands : GivesStanding by p standing q
    pub begins : Begins [] message place.entries standing session
    pub driven : IsDriven place (driven_first session held.cache) held

  -- None means out of memory.
  abbrev pub BeginsWith : List ℕ → P → P → Option (SessionState HssJudge) → Type 0
  BeginsWith message p q None = GivesNothing by p q
  BeginsWith message p q (Some st) = (cache : Cache) → HasBegun message p q (record { session = st; cache = cache })

-- ---- an ask

-- the node was asked, or there was no memory for that, and the session has heard it
pub record HasHeardOf (asking : Peer × Ask) (old new : Held) (trail later : Option (List Heard)) : Type 0 where
  pub answer : Result Answer Memory
  pub asked : IfOk answer (λ a. later ≡ longer trail (told asking.0 asking.1 a))
  pub unasked : OnErr answer (later ≡ trail)
  pub heard : IsHeard judges old.session new.session old.cache new.cache answer
  pub cut : IsCutAsHeard old.session new.session

-- ---- a turn

-- The session awaits its turn, and an agent in the view may have it at any moment.
pub record MayTurn (view : Option View) (refresh : Refresh) (st : SessionState HssJudge) : Type 0 where
  pub waits : is_turning st.stage ≡ true
  pub session : Session
  pub is : IsSession judges session st
  pub viewed : view ≡ Some session.standing.view
  pub batch : IsSomeAnd view (λ v. IsFetchedIn v refresh.batch)
  pub bounds : IfSome refresh.basis (λ basis. HasBounds basis.tree)
  pub is_call : (asked : Asked) (now : Moment) → asked_at st.stage ≡ Some asked → IsMoment now → IsCall (asked_of asked) now

module _ {P K S C : Type 0} (setting : Setting P K S C) where
  -- the clock gave a moment, the turn was taken then, and the session was told what came of it
  pub record HasHadTurn (refresh : Refresh) (old new : SessionState HssJudge) (before after : Touched P C) : Type 0 where
    pub asked : Asked
    pub is_asked : asked_at old.stage ≡ Some asked
    pub moment : ℕ × ℕ
    pub gave : setting.gives before.marks.clock moment after.marks.clock
    pub result : Result Turned TurnFault
    pub turn : Turns setting.by.signs setting.by.is_whole setting.by.saves (setting.by.comes before.pass) (setting.by.leaves after.pass)
        setting.place.view (refresh_of refresh) (asked_of asked) (moment_of moment) result
    pub made : MadeThen before.marks.made after.marks.made refresh asked (moment_of moment) result
    pub trail : after.marks.trail ≡ before.marks.trail
    pub told : IsTurned judges old new result
    pub cut : IsCutAsTurned old new result
    pub free : session_awaited new ≡ None

  -- ---- a step

  -- It has gone on by some acts.
  pub record GoesOn (here : Driven) (new : Held) (before after : Touched P C) : Type 0 where
    pub acts : List Act
    pub there : Driven
    pub went : Went (ring_in setting.place) here acts there
    pub follows : Follows (by_passes setting.by) before.pass acts after.pass
    pub leave : Leave setting.gives before.marks acts after.marks
    pub driven : IsDriven setting.place there new

  -- It was over, or memory ran out and it is over, and that was told.
  pub record IsOver (here : Driven) (new : Held) (told : Served) : Type 0 where
    pub there : Driven
    pub said : Option Said
    pub went : Went (ring_in setting.place) here [] there
    pub over : there.session.stage ≡ Over said
    pub is_told : told ≡ served_of said
    pub cache : there.cache ≡ new.cache
    pub cut : new.session.is_cut ≡ there.is_cut

  abbrev pub StepsTo : Driven → Held → Touched P C → Touched P C → Option Served → Type 0
  StepsTo here new before after None = GoesOn here new before after
  StepsTo here new before after (Some told) = IsOver here new told × (after ≡ before)

  -- whichever session of the definitions it was
  abbrev pub StepsFrom : Held → Held → Touched P C → Touched P C → Option Served → Type 0
  StepsFrom old new before after result = (here : Driven) → IsDriven setting.place here old → StepsTo here new before after result

  -- ---- a message

  -- Its session has gone that far since it began.
  pub record IsServingOf (message : List ℕ) (old : Cache) (before now : Touched P C) (held : Held) : Type 0 where
    pub standing : Standing
    pub began : P
    pub session : Session
    pub stands : GivesStanding setting.by before.pass standing began
    pub begins : Begins [] message setting.place.entries standing session
    pub there : Driven
    pub acts : List Act
    pub went : Went (ring_in setting.place) (driven_first session old) acts there
    pub follows : Follows (by_passes setting.by) began acts now.pass
    pub leave : Leave setting.gives before.marks acts now.marks
    pub driven : IsDriven setting.place there held

  -- It was served so, with this answer.
  pub record WasServed (message : List ℕ) (old new : Cache) (before after : Touched P C) (answer : Answered) : Type 0 where
    pub acts : List Act
    pub serves : Serves (by_passes setting.by) (ring_in setting.place) (record { taker = before.pass; cache = old }) message acts answer
        (record { taker = after.pass; cache = new })
    pub leave : Leave setting.gives before.marks acts after.marks

  -- What came of a message: of a reply it is told whether the session was cut, both ways.
  abbrev pub CameOf : List ℕ → Cache → Cache → Touched P C → Touched P C → Outcome → Type 0
  CameOf message old new before after (outcome.Reply reply is_cut) =
      WasServed message old new before after (record { reply = Some reply; is_cut = is_cut })
  CameOf message old new before after outcome.NotACall =
      (is_cut : Bool) × WasServed message old new before after (record { reply = None; is_cut = is_cut })
  CameOf message old new before after outcome.Memory = MayHaveLooked (by_passes setting.by) before.pass after.pass
      × (after.marks ≡ before.marks)
