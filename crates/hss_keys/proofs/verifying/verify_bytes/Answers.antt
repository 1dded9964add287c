use Rattle.std.proofs.Common.{arith, sym, ◌∙◌}
use Rattle.hash_signature_model.proofs.Readings.{ok_is_yes, yes_is_ok}
use Rattle.hss_keys.proofs.Acceptance.{hss_accepts_from, hss_yes_from}
use Rattle.hss_keys.proofs.verifying.verify_bytes.Goals as goal

pub returns-clause-accepted : goal.returns-clause-accepted
returns-clause-accepted c = (
  λ ok. hss_accepts_from c.args.public.now c.args.message.now c.args.signature.now (λ i. omega (arith, c.type_inv.public i)) (λ i. omega (arith, c.type_inv.signature i)) (sym c.judge.ensures ∙ ok_is_yes c.judge.result ok),
  λ accepted. yes_is_ok c.judge.result (c.judge.ensures ∙ hss_yes_from c.args.public.now c.args.message.now c.args.signature.now accepted),
)
