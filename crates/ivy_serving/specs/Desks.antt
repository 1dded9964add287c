-- The desk that accepts links, within: the ports with the passes.
use Rattle.std.specs.Prelude.{◌≡◌, ℕ, ◌+◌, Bool, ◌||◌, List, [], ◌∷◌, ◌++◌, Option, Some, None}
use Rattle.value_gate.specs.Passes.{with_parts}
use Rattle.job_desk.specs.Chains.{DeskKind, kind_of}
use Rattle.ivy_serving.specs.declared.fault.ServeFault.{ServeFault}
use Rattle.ivy_serving.specs.Jobs.{Done, IsServedLink, Job, Pass, ServingKind}
use Rattle.ivy_serving.specs.Serving.{Base, GivesJob, GivesLink, PortsKind, RefusesLink, TakesLink, lacked_memory}

-- The ports, the pass that is split, those that came back, whether a session wanted memory, and what links are served over; how many
-- links are out, and where the ports lie.
pub record DeskState (P K S : Type 0) : Type 0 where
  pub ports : P
  pub first : Pass K S
  pub passes : List (Pass K S)
  pub lacked : Bool
  pub base : Base K S
  pub out : ℕ
  pub place : ℕ

module _ {P K S Q W C : Type 0} (ports : PortsKind P Q W) (moment : C → Option (ℕ × ℕ)) where
  -- it gives a link, for which a part is split from the first pass, or none
  abbrev pub GivesAt : DeskState P K S → Option (Job K S Q W C) → DeskState P K S → Type 0
  GivesAt d None e = GivesLink ports d.ports None e.ports × (e ≡ record d { ports = e.ports })
  GivesAt d (Some job) e = GivesJob ports moment d.base d.first d.ports (Some job) e.ports × (e.first.parts + 1 ≡ d.first.parts)
      × (e ≡ record d { ports = e.ports; first = with_parts d.first e.first.parts; out = d.out + 1 })

module _ {P K S Q W : Type 0} (ports : PortsKind P Q W) where
  -- it gives no further link
  abbrev pub RefusesAt : DeskState P K S → ServeFault → DeskState P K S → Type 0
  RefusesAt d why e = RefusesLink ports d.ports why e.ports × (e ≡ record d { ports = e.ports })

module _ {P K S Q W C : Type 0} (ports : PortsKind P Q W) where
  -- it takes a link back, with its pass
  abbrev pub TakesAt : DeskState P K S → Done K S Q W C → DeskState P K S → Type 0
  TakesAt d done e = TakesLink ports d.ports done.link.reads done.link.writes e.ports × (e.out + 1 ≡ d.out)
      × (e ≡ record d {
        ports = e.ports;
        passes = d.passes ++ done.link.pass ∷ [];
        lacked = d.lacked || lacked_memory done.how;
        out = e.out;
      })

-- The desk that accepts links.
abbrev pub link_desk : {P K S Q W C : Type 0} → PortsKind P Q W → ServingKind K S Q W C → (C → Option (ℕ × ℕ))
    → DeskKind (DeskState P K S) (Job K S Q W C) (Done K S Q W C) ServeFault
link_desk ports serving moment = kind_of (GivesAt ports moment) (RefusesAt ports) (TakesAt ports) (IsServedLink serving)
