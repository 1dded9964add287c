-- How a service goes, from its keeper to its end.
use Rattle.std.specs.Prelude.{◌≡◌, ◌<◌, ◌≤◌, ℕ, Bool, true, false, List, [], ◌∷◌, ◌++◌, codes, length, take, Option, Some, None, Result, Ok}
use Rattle.std.specs.Prelude.{Err}
use Rattle.std.specs.Fmt.{decimal}
use Rattle.hash_signature_model.specs.Signer.{Signer}
use Rattle.ivy_io.specs.Causes.{Rose}
use Rattle.ivy_io.specs.Faults.{Refuses}
use Rattle.ivy_io.specs.Known.{then}
use Rattle.ivy_io.specs.declared.open_fault.OpenFault.{OpenFault}
use Rattle.ivy_io.specs.declared.open_fault.OpenFault.TheVariants as refusal
use Rattle.ivy_io.specs.declared.fault.SinkFault.{SinkFault}
use Rattle.ivy_io.specs.declared.fault.SinkFault.TheVariants as sink
use Rattle.value_gate.specs.Passes.{IsPassOf, IsWhole}
use Rattle.ivy_agent.specs.Holders.{Holder}
use Rattle.agent_gate.specs.Taking.{HasTaken}
use Rattle.ivy_server.specs.Served.{moment_of}
use Rattle.ring_run.specs.Live.{new_ring}
use Rattle.ivy_serving.specs.declared.fault.ServeFault.{ServeFault}
use Rattle.ivy_serving.specs.declared.fault.ServeFault.TheVariants as fault
use Rattle.ivy_serving.specs.Jobs.{Gate, Pass, ServingKind}
use Rattle.ivy_serving.specs.Serving.{Counts, Outcome, PortsKind, ServesLinks, at_ports}
use Rattle.ivy_service.specs.Opening.{IsOpened}

-- How keepers by name are: which keeper a name may get, how one is taken back, and how often one wasn't given or came back failed.
pub record KeepersKind (Ks K : Type 0) : Type 1 where
  pub lends : Ks → List ℕ → K → Ks → Type 0
  pub takes : Ks → List ℕ → K → Ks → Type 0
  pub faults : Ks → ℕ

abbrev pub keepers_of : {Ks K : Type 0} → (Ks → List ℕ → K → Ks → Type 0) → (Ks → List ℕ → K → Ks → Type 0) → (Ks → ℕ) → KeepersKind Ks K
keepers_of lends takes faults = record { lends = lends; takes = takes; faults = faults }

-- What a service is made of: ports, the serving of their links, keepers by name, and which moment a clock gives, where that is known.
pub record ServiceKind (P Ks K Q W C : Type 0) : Type 1 where
  pub ports : PortsKind P Q W
  pub serving : ServingKind K Signer Q W C
  pub keepers : KeepersKind Ks K
  pub moment : C → Option (ℕ × ℕ)

abbrev pub service_of : {P Ks K Q W C : Type 0} → PortsKind P Q W → ServingKind K Signer Q W C → KeepersKind Ks K → (C → Option (ℕ × ℕ))
    → ServiceKind P Ks K Q W C
service_of ports serving keepers moment = record { ports = ports; serving = serving; keepers = keepers; moment = moment }

-- what is asked of it: the port, the participant's name, and the key, with which nothing was signed yet
pub record ServiceAsked : Type 0 where
  pub port : ℕ
  pub name : List ℕ
  pub signer : Signer

-- ---- statuses

-- the status where something outside is refused: it failed, or memory ran out
abbrev pub status_refused : OpenFault → ℕ
status_refused refusal.Failed = 8
status_refused refusal.Memory = 6

-- so where a line can't be written
abbrev pub status_untold : SinkFault → ℕ
status_untold sink.Failed = 5
status_untold sink.Memory = 6

-- The status by why no further link was accepted, and whether a session wanted memory.
abbrev pub status_served : Result Unit ServeFault → Bool → ℕ
status_served (Ok _) false = 0
status_served (Ok _) true = 6
status_served (Err fault.Failed) lacked = 8
status_served (Err fault.Memory) lacked = 6
status_served (Err fault.NoPart) lacked = 6

-- ---- the ports and the sink

-- the line that tells of the port
abbrev pub serving_line : ℕ → List ℕ
serving_line port = codes "serving " ++ decimal port ++ codes "\n"

-- the ports, and a sink: what it holds, where that is known, and how often it failed
pub record Around (P : Type 0) : Type 0 where
  pub ports : P
  pub held : Option (List ℕ)
  pub writes : ℕ

-- The ports were asked to listen: they gave no link, and came to no end.
pub record AskedToListen {P Q W : Type 0} (ports : PortsKind P Q W) (before now : P) : Type 0 where
  pub links : ports.links now ≡ ports.links before
  pub ends : ports.ends now ≡ ports.ends before
  pub faults : ports.faults before ≤ ports.faults now

-- they don't: their count of faults rose, or memory ran out and they are as they were
pub record RefusesToListen {P Q W : Type 0} (ports : PortsKind P Q W) (why : OpenFault) (before now : P) : Type 0 where
  pub asked : AskedToListen ports before now
  pub cause : Refuses ports.faults before now why

-- the line was told whole
pub record TellsLine {P : Type 0} (port : ℕ) (before after : Around P) : Type 0 where
  pub told : after.held ≡ then before.held (serving_line port)
  pub writes : before.writes ≤ after.writes

-- a part of it was reported, and the sink's count of faults rose, or memory ran out
pub record TellsPart {P : Type 0} (port : ℕ) (why : SinkFault) (before after : Around P) : Type 0 where
  pub count : ℕ
  pub less : count < length (serving_line port)
  pub told : after.held ≡ then before.held (take count (serving_line port))
  pub cause : why ≡ sink.Failed → Rose before.writes after.writes
  pub writes : before.writes ≤ after.writes

-- ---- the agent

module _ {P K Q W C : Type 0} (ports : PortsKind P Q W) (serving : ServingKind K Signer Q W C) (moment : C → Option (ℕ × ℕ)) where
  -- The agent was behind a gate while the links of the ports were served, over a new ring of 5 nodes, of which 3 own a key. Then the gate
  -- was closed, and this is the agent after all turns.
  pub record HasServed (clock : C) (opening closed : Holder K Signer) (before now : P) (outcome : Outcome) : Type 0 where
    pub gate : Gate K Signer
    pub opens : gate.opening ≡ opening
    pub pass : Pass K Signer
    pub of : IsPassOf gate pass
    pub unseen : pass.history ≡ []
    pub passes : List (Pass K Signer)
    pub serves : ServesLinks (at_ports ports serving moment (record { gate = gate; ring = new_ring 5 3; moment = moment clock }))
        (record { ports = before; passes = pass ∷ [] }) (record { ports = now; passes = passes }) outcome
    pub counts : Counts ports outcome.why before now
    pub turns : ℕ
    pub whole : IsWhole (HasTaken serving.agents) gate.opening passes closed turns

  -- How the serving of an agent goes: the agent afterwards, the status, and what is around.
  pub data Serves (port : ℕ) (clock : C) (opening : Holder K Signer) (before : Around P)
      : Option (Holder K Signer) → ℕ → Around P → Type 0 where
    -- memory ran out before the ports were asked to listen
    idle : Serves port clock opening before (Some opening) 6 before
    unheard : {now : P} (why : OpenFault) → RefusesToListen ports why before.ports now
        → Serves port clock opening before (Some opening) (status_refused why) (record before { ports = now })
    untold : {after : Around P} (why : SinkFault) → AskedToListen ports before.ports after.ports → TellsPart port why before after
        → Serves port clock opening before (Some opening) (status_untold why) after
    -- memory ran out for the gate, and the agent is lost
    ungated : {after : Around P} → AskedToListen ports before.ports after.ports → TellsLine port before after
        → Serves port clock opening before None 6 after
    served : {listening : P} {closed : Holder K Signer} {after : Around P} (outcome : Outcome)
        → AskedToListen ports before.ports listening → TellsLine port before after
        → HasServed clock opening closed listening after.ports outcome
        → Serves port clock opening before (Some closed) (status_served outcome.why outcome.lacked) after

-- ---- the whole

-- What a service touches: the ports and the sink, the keepers, and the clock.
pub record Outside (P Ks C : Type 0) : Type 0 where
  pub around : Around P
  pub keepers : Ks
  pub clock : C

module _ {P Ks K Q W C : Type 0} (kind : ServiceKind P Ks K Q W C) where
  -- a keeper was given for the name, and the clock gave a moment
  pub record HasKeeper (asked : ServiceAsked) (before : Outside P Ks C) (keeper : K) (lent : Ks) (moment : ℕ × ℕ) (clock : C) : Type 0 where
    pub lends : kind.keepers.lends before.keepers asked.name keeper lent
    pub gave : kind.serving.moments before.clock moment clock

  -- How a service goes, its status, and what is outside afterwards. A keeper that was given is given back, but where the agent is lost.
  pub data Goes (asked : ServiceAsked) (before : Outside P Ks C) : ℕ → Outside P Ks C → Type 0 where
    no_keeper : {now : Ks} (why : OpenFault) → Refuses kind.keepers.faults before.keepers now why
        → Goes asked before (status_refused why) (record before { keepers = now })
    -- no agent could be opened: its keeper failed, so that the keepers' count of faults rose, or memory ran out
    unopened : {keeper left : K} {lent now : Ks} {moment : ℕ × ℕ} {clock : C} (why : OpenFault)
        → HasKeeper asked before keeper lent moment clock → kind.keepers.takes lent asked.name left now
        → (why ≡ refusal.Failed → Rose (kind.keepers.faults before.keepers) (kind.keepers.faults now))
        → Goes asked before (status_refused why) (record { around = before.around; keepers = now; clock = clock })
    given_back : {keeper : K} {lent now : Ks} {moment : ℕ
        × ℕ} {clock : C} {opening closed : Holder K Signer} {status : ℕ} {after : Around P}
        → HasKeeper asked before keeper lent moment clock
        → IsOpened kind.serving.agents.saves keeper asked.signer (moment_of moment) opening
        → Serves kind.ports kind.serving kind.moment asked.port clock opening before.around (Some closed) status after
        → kind.keepers.takes lent asked.name closed.keeper now
        → Goes asked before status (record { around = after; keepers = now; clock = clock })
    lost : {keeper : K} {lent : Ks} {moment : ℕ × ℕ} {clock : C} {opening : Holder K Signer} {status : ℕ} {after : Around P}
        → HasKeeper asked before keeper lent moment clock
        → IsOpened kind.serving.agents.saves keeper asked.signer (moment_of moment) opening
        → Serves kind.ports kind.serving kind.moment asked.port clock opening before.around None status after
        → Goes asked before status (record { around = after; keepers = lent; clock = clock })
