use Rattle.std.proofs.Common.{◌*◌, ◌^◌, ◌<◌, ◌∙◌, length, arith, sym, ap}
use Rattle.hash_signature_model.proofs.Chains.{checksum_fits}
use Rattle.lms_core.proofs.Pieces.{code_bytes}
use Rattle.lms_core.proofs.chains.with_checksum.Goals as goal

pub overflow_mul-sum : goal.overflow_mul-sum
overflow_mul-sum c =
    let fits : c.sum_lacking.result * c.checksum_scale.result < 2 ^ 16 = rw (c.sum_lacking.ensures, c.checksum_scale.ensures) (checksum_fits c.args.w c.args.digest.now) in
    omega arith

pub returns : goal.returns
returns c = rw (c.copy_from_slice.ensures.after, c.to_be_bytes.ensures, c.sum_lacking.ensures, c.checksum_scale.ensures) (code_bytes c.args.digest.now _ _ (sym (ap length c.copy_from_slice.ensures.after) ∙ c.copy_from_slice.ensures.len))
