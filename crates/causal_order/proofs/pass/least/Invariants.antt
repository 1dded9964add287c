use Rattle.std.proofs.Common.{take}
use Rattle.std.specs.Prelude.{IfSome, IfNone}
use Rattle.causal_order.specs.Kept.{IsNextOf, HaveNone}
use Rattle.causal_order.proofs.pass.least.Given as goal

-- it is the least of those that were passed
abbrev pub invariant-logs : goal.invariant-logs
invariant-logs l = IfSome l.least (IsNextOf l.logs (take l.i l.logs)) × IfNone l.least (HaveNone (take l.i l.logs))
