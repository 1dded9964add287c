use Rattle.std.proofs.Common.{refl, arith}
use Rattle.agent_gate.proofs.laws.leaves_are_counted.Goals as goal

pub returns : goal.returns
returns c = record { key = λ s some. refl; left = λ s some. omega (arith, some) }
