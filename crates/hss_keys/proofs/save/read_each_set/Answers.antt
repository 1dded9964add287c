use Rattle.std.proofs.Common.{arith}
use Rattle.std.proofs.lemmas.List.{length-take-le}
use Rattle.hss_keys.proofs.Saving.{no_next_set}
use Rattle.hss_keys.proofs.save.read_each_set.Goals as goal

pub returns-in_err-sets-clause-none : goal.returns-in_err-sets-clause-none
returns-in_err-sets-clause-none c =
    rw c.from_residual.ensures (no_next_set c.sets.invariant.front (omega (arith, c.sets-test.true, length-take-le c.sets.i c.sets.sets (omega (arith, c.sets-test.true, c.sets.invariant.size, c.requires)))) c.in_err-sets.ensures.none)
