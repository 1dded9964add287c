-- The sessions of a crowd's threads, and what its agent became by them.
use Rattle.std.specs.Prelude.{◌≡◌, ℕ, List, [], length, flat_map, map, Option, Some}
use Rattle.std.specs.List.{AllZip, range_with_len}
use Rattle.dhash_model.specs.Signed.{hss_judged}
use Rattle.log_model.specs.View.{View}
use Rattle.log_fetch.specs.declared.turned.Turned.{Turned}
use Rattle.value_gate.specs.Histories.{HaveTheSame, IsLegal, calls_by}
use Rattle.value_gate.specs.Passes.{GateView, PassView}
use Rattle.ivy_agent.specs.Calls.{Made}
use Rattle.ivy_agent.specs.Holders.{Holder}
use Rattle.agent_gate.specs.declared.request.TurnRequest.{TurnRequest}
use Rattle.agent_gate.specs.Sharing.{Comes, Leaves, made_of}
use Rattle.agent_gate.specs.Taking.{AgentEntry, AgentKind, HasTaken}
use Rattle.ring_run.specs.Live.{LiveState}
use Rattle.server_model.specs.declared.ended.Ended.TheVariants as ended
use Rattle.ivy_server.specs.Passes.{by_passes, passes}
use Rattle.ivy_server.specs.Served.{IsServed, Server, Surroundings}
use Rattle.ivy_crowd.specs.Requests.{stream}

-- ---- who takes the turns

-- a gate over an agent with its keeper, and a pass of that gate
abbrev pub MemberGate : Type 0 → Type 0 → Type 0
MemberGate K S = GateView (Holder K S)

abbrev pub MemberPass : Type 0 → Type 0 → Type 0
MemberPass K S = PassView (Holder K S) (TurnRequest × Turned)

-- How links are served: by which kind of agent, the gate over it, over this ring, with clocks that may give such moments.
pub record Serving (K S C : Type 0) : Type 1 where
  pub kind : AgentKind K S
  pub gate : MemberGate K S
  pub ring : LiveState
  pub gives : C → ℕ × ℕ → C → Type 0

abbrev pub serving_by : {K S C : Type 0} → AgentKind K S → MemberGate K S → LiveState → (C → ℕ × ℕ → C → Type 0) → Serving K S C
serving_by kind gate ring gives = record { kind = kind; gate = gate; ring = ring; gives = gives }

abbrev pub server_of : {K S C : Type 0} → Serving K S C → Server (MemberPass K S) C
server_of serving = record {
  taker = by_passes (passes serving.kind.signs serving.kind.IsWhole serving.kind.saves (Comes serving.kind serving.gate)
      (Leaves serving.kind serving.gate));
  ring = record { judged = hss_judged; replicas = serving.ring.replicas; entries = serving.ring.made };
  gives = serving.gives;
}

-- ---- a session

-- A link of just these bytes was served to its end, beginning with that clock, and these turns were made with its pass.
pub record HasServed {K S C : Type 0} (serving : Serving K S C) (bytes : List ℕ) (clock : C) (made : List Made) : Type 0 where
  pub before : Surroundings (MemberPass K S) C
  pub after : Surroundings (MemberPass K S) C
  pub bytes_left : before.left ≡ Some bytes
  pub nothing_held : before.held ≡ Some []
  pub none_made : before.marks.made ≡ Some []
  pub its_clock : before.marks.clock ≡ clock
  pub all_made : after.marks.made ≡ Some made
  pub served : IsServed (server_of serving) before after ended.Done

-- What the threads ask: in which view, how many calls each, and by clocks of which clock, by the moments that are known.
pub record Asking (C : Type 0) : Type 0 where
  pub view : View
  pub calls : ℕ
  pub moment : C → Option (ℕ × ℕ)
  pub clock : C

abbrev pub asking_in : {C : Type 0} → View → ℕ → (C → Option (ℕ × ℕ)) → C → Asking C
asking_in view calls moment clock = record { view = view; calls = calls; moment = moment; clock = clock }

-- The session of the thread with that number served just its calls, and its turns are those of its pass in the history.
pub record Session {K S C : Type 0} (serving : Serving K S C) (asking : Asking C) (history : List AgentEntry) (thread pass : ℕ)
    : Type 0 where
  pub bytes : List ℕ
  pub asked : stream asking.view thread asking.calls ≡ Some bytes
  pub clock : C
  pub its_moment : asking.moment clock ≡ asking.moment asking.clock
  pub served : HasServed serving bytes clock (map made_of (calls_by pass history))

-- ---- the threads

-- The agent behind the gate became this one by so many turns, which are one legal history. Each of these jobs had a pass for its session,
-- by number, and the history has no turns but those of these passes.
pub record HaveRun {K S C J : Type 0} (serving : Serving K S C) (session : List AgentEntry → J → ℕ → Type 0) (jobs : List J)
    (closed : Holder K S) (turns : ℕ) : Type 0 where
  pub history : List AgentEntry
  pub has_taken : HasTaken serving.kind serving.gate.opening history closed
  pub legal : IsLegal (HasTaken serving.kind) serving.gate.opening history
  pub count : turns ≡ length history
  pub passes : List ℕ
  pub sessions : AllZip (session history) jobs passes
  pub no_others : HaveTheSame history (flat_map (λ pass. calls_by pass history) passes)

-- so many threads, numbered from 1
abbrev pub threads_of : ℕ → List ℕ
threads_of count = range_with_len 1 count
