-- How entering a view ends for an agent that isn't in it then.
use Rattle.std.specs.Prelude.{◌≡◌, Result, IsErr, IsOkAnd}
use Rattle.ivy_base.specs.declared.memory.Memory.{Memory}
use Rattle.ivy_agent.specs.declared.fault.EnterFault.{EnterFault}
use Rattle.ivy_agent.specs.declared.fault.EnterFault.TheVariants as fault
use Rattle.script_participants.specs.declared.end.EnterEnd.{EnterEnd}
use Rattle.script_participants.specs.declared.end.EnterEnd.TheVariants as end

-- when out of memory nothing is reported
abbrev pub EndsFor : EnterFault → Result EnterEnd Memory → Type 0
EndsFor fault.NotMember result = IsOkAnd result (λ e. e ≡ end.Refused)
EndsFor (fault.NotNamed log) result = IsOkAnd result (λ e. e ≡ end.Refused)
EndsFor fault.Keeper result = IsOkAnd result (λ e. e ≡ end.Failed)
EndsFor fault.Memory result = IsErr result
