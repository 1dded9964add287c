use Rattle.std.proofs.Common.{rules, ◌≡◌, ◌+◌, suc, take, ap, arith}
use Rattle.value_gate.specs.Passes.{parts_of}
use Rattle.value_gate.proofs.Gathering.{parts_take}
use Rattle.value_gate.proofs.gate.sum_of_parts.Goals as goal

pub loop-pass-preserved : goal.loop-pass-preserved
loop-pass-preserved g c =
    let i = c.loop-pass.pass-index in
    let next : suc i ≡ i + 1 = omega arith in
    omega (arith, parts_take c.args.passes.now i c.pass-item.result (search rules), ap (λ k. parts_of (take k c.args.passes.now)) next, ap (λ p. p.parts) c.pass-item.is, c.loop-pass.invariant, c.parts.ensures, c.saturating_add-sum.ensures)
