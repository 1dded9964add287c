-- The jobs of a crowd's threads, and what comes of each.
use Rattle.std.specs.Prelude.{◌≡◌, ℕ, List, [], ◌∷◌, map, Result, Ok, Some, IfOk, IsSomeAnd}
use Rattle.std.specs.List.{AllByRecursion, AllZip, flat_map}
use Rattle.ivy_base.specs.declared.memory.Memory.{Memory}
use Rattle.ivy_base.specs.declared.operation.Moment.{Moment}
use Rattle.hash_signature_model.specs.Saved.{hss}
use Rattle.hash_signature_model.specs.Signer.{Signer}
use Rattle.agent_model.specs.Agent.{own_key}
use Rattle.value_gate.specs.Histories.{calls_by}
use Rattle.value_gate.specs.Passes.{IsPassOf}
use Rattle.agent_gate.specs.Sharing.{made_by, made_of}
use Rattle.agent_gate.specs.Taking.{AgentEntry, AgentKind}
use Rattle.agent_gate.specs.declared.gate.Closed.{Closed}
use Rattle.ivy_agent.specs.Holders.{Holder}
use Rattle.ring_run.specs.Live.{LiveState}
use Rattle.ivy_crowd.specs.Crowds.{IsOpening}
use Rattle.rpc_wire.specs.Frames.{Fits, Framed, marked, message}
use Rattle.ivy_server.specs.Laws.{IsAnyCall}
use Rattle.ivy_crowd.specs.Requests.{alone, stream}
use Rattle.ivy_crowd.specs.Sessions.{Asking, HasServed, HaveRun, MemberGate, MemberPass, Serving, Session, serving_by, threads_of}
use Rattle.ivy_crowd.specs.declared.job.Job.{Job}
use Rattle.ivy_crowd.specs.declared.opening.Opened.{Opened}

-- the agent was opened at that moment, and is in this view
pub record IsOpened (moment : Moment) (opened : Opened) : Type 0 where
  pub signer : Signer
  pub opens : IsOpening signer moment opened.agent
  pub its_view : opened.view ≡ alone (own_key hss signer)
  pub in_view : opened.agent.agent.view ≡ Some opened.view

-- the bytes are whole calls within the limit, one after the other
pub record AreCalls (bytes : List ℕ) : Type 0 where
  pub framed : List Framed
  pub fit : AllByRecursion Fits framed
  pub calls : AllByRecursion (λ f. IsAnyCall (message f)) framed
  pub spelled : bytes ≡ flat_map marked framed

module _ {K S C : Type 0} where
  -- its pass is one of the gate, whose agent has entered a view, has one part, and made no call yet; its source gives whole calls, and
  -- nothing was written
  pub record IsNew (gate : MemberGate K S) (job : Job K S C) : Type 0 where
    pub entered : IsSomeAnd gate.opening.agent.view (λ view. Unit {0})
    pub fits : IsPassOf gate job.pass
    pub part : job.pass.parts ≡ 1
    pub unused : job.pass.calls ≡ []
    pub calls : AreCalls job.source
    pub unwritten : job.sink ≡ []

  -- it is that of the thread with that number
  pub record IsJob (asking : Asking C) (gate : MemberGate K S) (thread : ℕ) (job : Job K S C) : Type 0 where
    pub new : IsNew gate job
    pub asked : stream asking.view thread asking.calls ≡ Some job.source
    pub its_moment : asking.moment job.clock ≡ asking.moment asking.clock

module _ {K S C : Type 0} (serving : Serving K S C) where
  -- its link was served to its end, and the pass came back with its part
  pub record CameBack (job : Job K S C) (pass : MemberPass K S) : Type 0 where
    pub fits : IsPassOf serving.gate pass
    pub part : pass.parts ≡ 1
    pub served : HasServed serving job.source job.clock (made_by pass)

  -- it came back, or the answer is the error
  abbrev pub EndsAs : Job K S C → Result (MemberPass K S) Memory → Type 0
  EndsAs job ended = IfOk ended (CameBack job)

  -- its turns are those of this pass in the history
  abbrev pub HasTurns : List AgentEntry → Job K S C → ℕ → Type 0
  HasTurns history job pass = HasServed serving job.source job.clock (map made_of (calls_by pass history))

-- these passes came back, and the first one
pub record AreWith {K S : Type 0} (first : MemberPass K S) (ended : List (Result (MemberPass K S) Memory)) (passes : List (MemberPass K S))
    : Type 0 where
  pub others : List (MemberPass K S)
  pub are : passes ≡ first ∷ others
  pub came : AllZip (λ e p. e ≡ Ok p) ended others

-- how threads are to serve, where the gate isn't made yet
pub record Over (K S C : Type 0) : Type 1 where
  pub kind : AgentKind K S
  pub ring : LiveState
  pub gives : C → ℕ × ℕ → C → Type 0

abbrev pub over_ring : {K S C : Type 0} → AgentKind K S → LiveState → (C → ℕ × ℕ → C → Type 0) → Over K S C
over_ring kind ring gives = record { kind = kind; ring = ring; gives = gives }

abbrev pub over_gate : {K S C : Type 0} → Over K S C → MemberGate K S → Serving K S C
over_gate over gate = serving_by over.kind gate over.ring over.gives

-- So many threads took their turns with the agent behind some gate, by a session each, and left this.
pub record HasRun {K S C : Type 0} (over : Over K S C) (asking : Asking C) (threads : ℕ) (opening : Holder K S) (closed : Closed K S)
    : Type 0 where
  pub gate : MemberGate K S
  pub its_opening : gate.opening ≡ opening
  pub run : HaveRun (over_gate over gate) (Session (over_gate over gate) asking) (threads_of threads) closed.agent closed.turns
