-- Links of a TCP port.
use Rattle.std.specs.Prelude.{◌≡◌, ◌==◌, ◌++◌, ◌∷◌, [], ℕ, not, List, filter, Option, None, Some}
use Rattle.ivy_io.specs.Causes.{counted}
use Rattle.ivy_io.specs.States.{WriterState}
use Rattle.ivy_io.specs.declared.open_fault.OpenFault.{OpenFault}
use Rattle.ivy_host.specs.Files.{count_after}

-- Ports: how many links were given, the numbers of those that are out, how often the ports failed, and how often there was no
-- further link (counts that reached 2 ^ 64 - 1 stay there).
pub record TcpState : Type 0 where
  pub given : ℕ
  pub out : List ℕ
  pub faults : ℕ
  pub ends : ℕ

-- what is read of a link: its number, and how often it failed
pub record TcpSourceState : Type 0 where
  pub number : ℕ
  pub faults : ℕ

-- after a link was given, whose number is how many were given before it
abbrev pub after_link : TcpState → TcpState
after_link p = record p { given = counted p.given; out = p.out ++ p.given ∷ [] }

-- after there was no further link
abbrev pub after_end : TcpState → TcpState
after_end p = record p { ends = counted p.ends }

-- after a refusal, which counts unless it is running out of memory
abbrev pub after_refusal : OpenFault → TcpState → TcpState
after_refusal fault p = record p { faults = count_after fault p.faults }

-- a link with the next number may be given, that has not failed, or none
abbrev pub GivesLink : {Stream : Type 0} → TcpState → Option (TcpSourceState × WriterState Stream) → TcpState → Type 0
GivesLink p None new = new ≡ after_end p
GivesLink p (Some link) new = (link.0 ≡ record { number = p.given; faults = 0 }) × (link.1.faults ≡ 0) × (new ≡ after_link p)

-- the numbers but this one
abbrev pub others_than : ℕ → List ℕ → List ℕ
others_than number numbers = filter (λ other. not (other == number)) numbers

-- after the link of this number came back
abbrev pub without : ℕ → TcpState → TcpState
without number p = record p { out = others_than number p.out }
