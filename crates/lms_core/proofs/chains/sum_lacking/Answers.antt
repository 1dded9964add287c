use Rattle.std.proofs.Common.{sym, refl, arith}
use Rattle.hash_signature_model.proofs.Chains.{lacking_none, lacking_more}
use Rattle.lms_core.proofs.chains.sum_lacking.Goals as goal

pub digits-init : goal.digits-init
digits-init c = record { sum_is = sym (lacking_none c.args.w c.args.digest.now); bound = omega arith }

pub digits-preserved : goal.digits-preserved
digits-preserved c = record {
  sum_is = rw (lacking_more c.args.w c.args.digest.now c.digits.i, c.step_count-greatest.ensures, c.digit.ensures.value, c.digits.invariant.sum_is) refl;
  bound = omega arith;
}
