-- All links of some ports, each served with a pass of its own at one gate.
use Rattle.std.specs.Prelude.{◌≡◌, ◌≤◌, ℕ, ◌+◌, Bool, true, false, List, [], ◌∷◌, ◌++◌, map, length, Option, Some, None, Result, Ok, Err}
use Rattle.std.specs.List.{list_any}
use Rattle.ivy_io.specs.Causes.{Rose, counted}
use Rattle.ivy_io.specs.Faults.{EndsCount}
use Rattle.ivy_io.specs.Links.{GivesNext, Links}
use Rattle.value_gate.specs.Passes.{IsPassOf, with_parts}
use Rattle.job_desk.specs.Chains.{CameBack, DeskKind, kind_of}
use Rattle.server_model.specs.declared.ended.Ended.{Ended}
use Rattle.server_model.specs.declared.ended.Ended.TheVariants as ended
use Rattle.ring_run.specs.Live.{LiveState}
use Rattle.ivy_serving.specs.declared.fault.ServeFault.{ServeFault}
use Rattle.ivy_serving.specs.declared.fault.ServeFault.TheVariants as fault
use Rattle.ivy_serving.specs.Jobs.{Done, Gate, IsServedLink, Job, Pass, ServingKind}

-- How ports are: the links that are known, their counts of faults and of ends, which link they may give, and how they take one back.
pub record PortsKind (P Q W : Type 0) : Type 1 where
  pub links : P → Option (Links (Q × W))
  pub faults : P → ℕ
  pub ends : P → ℕ
  pub gives : P → Option (Q × W) → P → Type 0
  pub takes : P → Q → W → P → Type 0

abbrev pub ports_of : {P Q W : Type 0} → (P → Option (Links (Q × W))) → (P → ℕ) → (P → ℕ) → (P → Option (Q × W) → P → Type 0)
    → (P → Q → W → P → Type 0) → PortsKind P Q W
ports_of links faults ends gives takes = record { links = links; faults = faults; ends = ends; gives = gives; takes = takes }

module _ {P Q W : Type 0} (ports : PortsKind P Q W) where
  -- The ports give this link, or none. The count of ends rises exactly where there is none.
  pub record GivesLink (before : P) (link : Option (Q × W)) (now : P) : Type 0 where
    pub gives : ports.gives before link now
    pub links : GivesNext (ports.links before) (ports.links now) link
    pub ends : EndsCount (ports.ends before) (ports.ends now) (Ok link)
    pub faults : ports.faults before ≤ ports.faults now

  -- The ports take this link back.
  pub record TakesLink (before : P) (reads : Q) (writes : W) (now : P) : Type 0 where
    pub takes : ports.takes before reads writes now
    pub ends : ports.ends now ≡ ports.ends before
    pub faults : ports.faults before ≤ ports.faults now

  -- Why no further link is accepted, and how that leaves the ports: their count of faults rose, or nothing has changed.
  pub data RefusesLink (before : P) : ServeFault → P → Type 0 where
    failed : {now : P} → Rose (ports.faults before) (ports.faults now) → ports.faults before ≤ ports.faults now
        → ports.ends now ≡ ports.ends before → ports.links now ≡ ports.links before → RefusesLink before fault.Failed now
    memory : RefusesLink before fault.Memory before
    no_part : RefusesLink before fault.NoPart before

-- By which gate links are served, over which ring, and at which moment, where it is known.
pub record Base (K S : Type 0) : Type 0 where
  pub gate : Gate K S
  pub ring : LiveState
  pub moment : Option (ℕ × ℕ)

-- A link that is to be served over that base: with a pass of one part that came of the first one and made no call, and with a clock of
-- its own.
pub record IsFresh {K S Q W C : Type 0} (moment : C → Option (ℕ × ℕ)) (base : Base K S) (first : Pass K S)
    (job : Job K S Q W C) : Type 0 where
  pub gate : job.gate ≡ base.gate
  pub ring : job.ring ≡ base.ring
  pub clock : moment job.link.clock ≡ base.moment
  pub of : IsPassOf base.gate job.link.pass
  pub part : job.link.pass.parts ≡ 1
  pub seen : job.link.pass.history ≡ first.history
  pub no_call : job.link.pass.calls ≡ []

module _ {P K S Q W C : Type 0} (ports : PortsKind P Q W) (moment : C → Option (ℕ × ℕ)) (base : Base K S) (first : Pass K S) where
  -- the ports give the link of this job, or none
  abbrev pub GivesJob : P → Option (Job K S Q W C) → P → Type 0
  GivesJob before None now = GivesLink ports before None now
  GivesJob before (Some job) now = GivesLink ports before (Some (job.link.reads, job.link.writes)) now × IsFresh moment base first job

-- The ports as a desk of links that are to be served.
abbrev pub at_ports : {P K S Q W C : Type 0} → PortsKind P Q W → ServingKind K S Q W C → (C → Option (ℕ × ℕ)) → Base K S → Pass K S
    → DeskKind P (Job K S Q W C) (Done K S Q W C) ServeFault
at_ports ports serving moment base first = kind_of (GivesJob ports moment base first) (RefusesLink ports)
    (λ before done now. TakesLink ports before done.link.reads done.link.writes now) (IsServedLink serving)

-- the session wanted memory
abbrev pub lacked_memory : Ended → Bool
lacked_memory ended.Memory = true
lacked_memory _ = false

-- The passes from which links were served: the last one was split, and the others stay as they are.
pub record Kept {K S : Type 0} (before : List (Pass K S)) (first : Pass K S) (of_links now : List (Pass K S)) : Type 0 where
  pub others : List (Pass K S)
  pub parts : ℕ
  pub were : before ≡ others ++ first ∷ []
  -- a part for each link
  pub split : parts + length of_links ≡ first.parts
  pub are : now ≡ (others ++ of_links) ++ with_parts first parts ∷ []

-- Where it stands: the ports, and the passes.
pub record Stand (P K S : Type 0) : Type 0 where
  pub ports : P
  pub passes : List (Pass K S)

-- What came of it: why it ended, and whether a session wanted memory.
pub record Outcome : Type 0 where
  pub why : Result Unit ServeFault
  pub lacked : Bool

-- The ports went from one state to another by exactly these calls: they gave these links, took each back once, served from its first
-- byte to its end, and stopped once. The passes are those that were there, and that of each link.
pub record ServesLinks {P K S Q W C : Type 0} (at : Pass K S → DeskKind P (Job K S Q W C) (Done K S Q W C) ServeFault)
    (before now : Stand P K S) (outcome : Outcome) : Type 0 where
  pub first : Pass K S
  pub back : CameBack (at first) before.ports now.ports [] (outcome.why ∷ [])
  pub kept : Kept before.passes first (map (λ d. d.link.pass) back.done) now.passes
  pub lacked : outcome.lacked ≡ list_any (λ d. lacked_memory d.how) back.done

-- the count of ends rises exactly where there was no further link
abbrev pub EndsAfter : Result Unit ServeFault → ℕ → ℕ → Type 0
EndsAfter (Ok _) old new = new ≡ counted old
EndsAfter (Err fault) old new = new ≡ old

-- the count of faults rises where the ports failed
abbrev pub FailsAfter : Result Unit ServeFault → ℕ → ℕ → Type 0
FailsAfter (Err fault.Failed) old new = Rose old new
FailsAfter _ old new = Unit {0}

-- What the counts of the ports tell of why it ended.
pub record Counts {P Q W : Type 0} (ports : PortsKind P Q W) (why : Result Unit ServeFault) (before now : P) : Type 0 where
  pub ends : EndsAfter why (ports.ends before) (ports.ends now)
  pub failed : FailsAfter why (ports.faults before) (ports.faults now)
  pub never_falls : ports.faults before ≤ ports.faults now
