use Rattle.std.proofs.Common.{arith}
use Rattle.hash_signature_model.proofs.Readings.{whole_signature_takes}
use Rattle.lms_core.specs.Readers.{fields_of}
use Rattle.lms_core.proofs.verifying.judge.Goals as goal

pub recompute_root-root-requires : goal.recompute_root-root-requires
recompute_root-root-requires c = (whole_signature_takes c.in_ok-key.key.set c.args.signature.now (fields_of c.in_ok-parts.parts) (λ i. omega (arith, c.type_inv.signature i)) c.in_ok-parts.ensures).0
