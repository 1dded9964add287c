use Rattle.std.proofs.Common.{arith, ◌∙◌, sym}
use Rattle.hash_signature_model.proofs.Readings.{signature_takes}
use Rattle.lms_core.specs.Readers.{fields_of}
use Rattle.hss_keys.proofs.Levels.{last_read}
use Rattle.hss_keys.proofs.verifying.check_last.Goals as goal

pub gives_root-requires : goal.gives_root-requires
gives_root-requires c = (signature_takes c.args.key.now.set c.args.bytes.now (fields_of c.in_ok-parts.parts) c.in_ok-parts.left.now (λ i. omega (arith, c.type_inv.bytes i)) c.in_ok-parts.ensures).0

pub returns : goal.returns
returns c = rw c.gives_root.ensures (sym (last_read c.args.key.now c.args.message.now c.args.bytes.now (fields_of c.in_ok-parts.parts) c.in_ok-parts.left.now c.in_ok-parts.ensures (sym c.is_empty.ensures ∙ c.if-not-is_empty.false)))
