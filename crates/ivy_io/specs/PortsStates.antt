-- Ports in memory.
use Rattle.std.specs.Prelude.{ℕ, List, Option, Some, is_none, if◌then◌else◌}
use Rattle.ivy_io.specs.Causes.{counted}
use Rattle.ivy_io.specs.States.{SourceState, SinkState}
use Rattle.ivy_io.specs.Links.{Links, next_link, after_next, taken_back}

-- The links of ports in memory; the port that is listened to; which calls fail, by their numbers; how many calls of
-- `listen` and `accept` there were, how many failed, and how many found no link (counts that reached 2^64 - 1 stay there).
pub record PortsState : Type 0 where
  pub links : Links (SourceState × SinkState)
  pub port : Option ℕ
  pub failing : List ℕ
  pub calls : ℕ
  pub faults : ℕ
  pub ends : ℕ

abbrev pub after_call : PortsState → PortsState
after_call p = record p { calls = counted p.calls }

abbrev pub after_fault : PortsState → PortsState
after_fault p = record p { calls = counted p.calls; faults = counted p.faults }

abbrev pub listening : ℕ → PortsState → PortsState
listening port p = record p { calls = counted p.calls; port = Some port }

-- after a link was given, or none was left
abbrev pub after_accept : PortsState → PortsState
after_accept p = record p {
  calls = counted p.calls;
  links = after_next p.links;
  ends = (if is_none (next_link p.links) then counted p.ends else p.ends);
}

abbrev pub with_returned : SourceState × SinkState → PortsState → PortsState
with_returned link p = record p { links = taken_back link p.links }
