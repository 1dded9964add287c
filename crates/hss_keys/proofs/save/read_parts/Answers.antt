use Rattle.std.proofs.Common.{rules}
use Rattle.wire_model.specs.Xdr.{double_word, IsDoubleWord}
use Rattle.wire_model.specs.OneReading.{HasNoFront}
use Rattle.hss_keys.proofs.Saving.{no_levels, no_made}
use Rattle.hss_keys.proofs.save.read_parts.Goals as goal

pub returns-in_err-sets-clause-none : goal.returns-in_err-sets-clause-none
returns-in_err-sets-clause-none c = rw c.from_residual-in_err-sets.ensures (no_levels c.in_ok-id.ensures.some c.in_err-sets.ensures.none)

pub returns-in_err-made-clause-none : goal.returns-in_err-made-clause-none
returns-in_err-made-clause-none c =
    let absent : HasNoFront IsDoubleWord double_word c.read_sets.new.reader = search rules in
    rw c.from_residual-in_err-made.ensures (no_made c.in_ok-id.ensures.some c.in_ok-sets.ensures.some absent)
