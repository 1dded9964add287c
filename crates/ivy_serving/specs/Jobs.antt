-- A link that is served with a pass of its own.
use Rattle.std.specs.Prelude.{◌≡◌, ℕ, List, Option, Some, None}
use mathlib.Core.List.{IsPrefix}
use Rattle.dhash_model.specs.Signed.{hss_judged}
use Rattle.log_fetch.specs.declared.turned.Turned.{Turned}
use Rattle.ivy_agent.specs.Holders.{Holder}
use Rattle.value_gate.specs.Passes.{GateView, IsPassOf, PassView}
use Rattle.agent_gate.specs.declared.request.TurnRequest.{TurnRequest}
use Rattle.agent_gate.specs.Sharing.{Comes, Leaves, made_by}
use Rattle.agent_gate.specs.Taking.{AgentKind}
use Rattle.server_model.specs.declared.ended.Ended.{Ended}
use Rattle.ivy_server.specs.Passes.{by_passes, passes}
use Rattle.ivy_server.specs.Served.{IsServed, Server, Surroundings}
use Rattle.ring_run.specs.Live.{LiveState}

-- What is seen of a link's two ends: the bytes left of what is read, those held of what is written, and how often each failed.
pub record EndsKind (Q W : Type 0) : Type 1 where
  pub left : Q → Option (List ℕ)
  pub held : W → Option (List ℕ)
  pub reads : Q → ℕ
  pub writes : W → ℕ

abbrev pub ends_of : {Q W : Type 0} → (Q → Option (List ℕ)) → (W → Option (List ℕ)) → (Q → ℕ) → (W → ℕ) → EndsKind Q W
ends_of left held reads writes = record { left = left; held = held; reads = reads; writes = writes }

-- How links are served: how agents sign and save, what is seen of a link's ends, and which moments a clock may give.
pub record ServingKind (K S Q W C : Type 0) : Type 1 where
  pub agents : AgentKind K S
  pub ends : EndsKind Q W
  pub moments : C → ℕ × ℕ → C → Type 0

abbrev pub serving_of : {K S Q W C : Type 0} → AgentKind K S → EndsKind Q W → (C → ℕ × ℕ → C → Type 0) → ServingKind K S Q W C
serving_of agents ends moments = record { agents = agents; ends = ends; moments = moments }

-- a gate over an agent, and a pass of one
abbrev pub Gate : Type 0 → Type 0 → Type 0
Gate K S = GateView (Holder K S)

abbrev pub Pass : Type 0 → Type 0 → Type 0
Pass K S = PassView (Holder K S) (TurnRequest × Turned)

-- A link with what serves it alone: its two ends, a pass, and a clock.
pub record OnLink (K S Q W C : Type 0) : Type 0 where
  pub reads : Q
  pub writes : W
  pub pass : Pass K S
  pub clock : C

-- A link that is to be served, by which gate and over which ring.
pub record Job (K S Q W C : Type 0) : Type 0 where
  pub gate : Gate K S
  pub ring : LiveState
  pub link : OnLink K S Q W C

-- A link that was served, and how that ended.
pub record Done (K S Q W C : Type 0) : Type 0 where
  pub how : Ended
  pub link : OnLink K S Q W C

-- The pass came of that one by calls alone: it is of the gate, has its number and its parts, and has seen all that that one had seen.
pub record CameOf {K S : Type 0} (gate : Gate K S) (first p : Pass K S) : Type 0 where
  pub of : IsPassOf gate p
  pub number : p.number ≡ first.number
  pub parts : p.parts ≡ first.parts
  pub seen : IsPrefix first.history p.history

module _ {K S Q W C : Type 0} (serving : ServingKind K S Q W C) where
  -- who serves: the agents behind the gate, to which the passes come; the nodes of the ring; and the clock
  abbrev pub server_over : Gate K S → LiveState → Server (Pass K S) C
  server_over gate ring = record {
    taker = by_passes (passes serving.agents.signs serving.agents.IsWhole serving.agents.saves (Comes serving.agents gate)
        (Leaves serving.agents gate));
    ring = record { judged = hss_judged; replicas = ring.replicas; entries = ring.made };
    gives = serving.moments;
  }

  -- what a session touches of a link: the turns that were made with its pass are the pass's calls; of the asks nothing is reported
  abbrev pub surroundings_of : OnLink K S Q W C → Surroundings (Pass K S) C
  surroundings_of l = record {
    left = serving.ends.left l.reads;
    held = serving.ends.held l.writes;
    reads = serving.ends.reads l.reads;
    writes = serving.ends.writes l.writes;
    pass = l.pass;
    marks = record { made = Some (made_by l.pass); trail = None; clock = l.clock };
  }

  -- The link was served from its first byte to its end, and its pass came of the one that it had.
  pub record IsServedLink (job : Job K S Q W C) (done : Done K S Q W C) : Type 0 where
    pub session : IsServed (server_over job.gate job.ring) (surroundings_of job.link) (surroundings_of done.link) done.how
    pub pass : CameOf job.gate job.link.pass done.link.pass
