-- A participant that starts again.
use Rattle.std.specs.Prelude.{◌≡◌, ℕ, [], List, Option, Some, None, IsTrue, is_some, Result, IsErr, IsOkAnd}
use Rattle.ivy_base.specs.declared.memory.Memory.{Memory}
use Rattle.agent_model.specs.Agent.{restored}
use Rattle.ivy_agent.specs.declared.fault.RestartFault.{RestartFault}
use Rattle.ivy_agent.specs.declared.fault.RestartFault.TheVariants as fault
use Rattle.world_model.specs.Agents.{IsHssKept, HssKept, hss_kept_bytes}
use Rattle.script_participants.specs.declared.end.RestartEnd.{RestartEnd}
use Rattle.script_participants.specs.declared.end.RestartEnd.TheVariants as end
use Rattle.script_participants.specs.ParticipantState.{ParticipantState, counting}

-- when out of memory nothing is reported
abbrev pub IsLostFor : RestartFault → Result RestartEnd Memory → Type 0
IsLostFor fault.Nothing result = IsOkAnd result (λ e. e ≡ end.Lost)
IsLostFor fault.Malformed result = IsOkAnd result (λ e. e ≡ end.Lost)
IsLostFor fault.Keeper result = IsOkAnd result (λ e. e ≡ end.Lost)
IsLostFor fault.Memory result = IsErr result

-- a keeper holds the bytes of nothing that may be saved
abbrev pub HoldsNobody : Option (List ℕ) → Type 0
HoldsNobody kept = (k : HssKept) → IsHssKept k → kept ≡ Some (hss_kept_bytes k) → ⊥

-- the participant whose agent starts again from that, with an empty cache
abbrev pub returned : ParticipantState → HssKept → ParticipantState
returned p k = record p { agent = restored k; cache = [] }

-- how it ends, whether or not it is in a view, and the participant then
abbrev pub HasReturned : ParticipantState → RestartEnd → ParticipantState → Type 0
HasReturned before end.Restarted after =
    (k : HssKept) × IsHssKept k × (before.keeper.kept ≡ Some (hss_kept_bytes k)) × (after ≡ returned before k)
HasReturned before end.Outside after = ⊥
HasReturned before end.Lost after = HoldsNobody before.keeper.kept × (after ≡ before)

-- how it ends, and the participant then: what its agent has to publish counts as made
abbrev pub HasStartedAgain : ParticipantState → RestartEnd → ParticipantState → Type 0
HasStartedAgain before end.Restarted after =
    (k : HssKept) × IsTrue (is_some before.agent.view) × IsHssKept k × (before.keeper.kept ≡ Some (hss_kept_bytes k))
    × (after ≡ counting (returned before k))
HasStartedAgain before end.Outside after = (before.agent.view ≡ None) × (after ≡ before)
HasStartedAgain before end.Lost after = HoldsNobody before.keeper.kept × (after ≡ before)
