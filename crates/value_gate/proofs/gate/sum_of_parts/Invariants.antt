use Rattle.std.proofs.Common.{◌≡◌, ◌-◌, ◌^◌, min, take}
use Rattle.value_gate.specs.Passes.{parts_of}
use Rattle.value_gate.proofs.gate.sum_of_parts.Given as goal

-- the sum so far
abbrev pub invariant-loop-pass : goal.invariant-loop-pass
invariant-loop-pass g l = l.sum ≡ min (parts_of (take l.pass-index l.fn.passes)) (2 ^ 64 - 1)
