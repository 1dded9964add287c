use Rattle.hss_keys.specs.SavedReading.{said}
use Rattle.hss_keys.proofs.signer.Hss.load.Goals as goal

pub returns-in-Err-clause-malformed : goal.returns-in-Err-clause-malformed
returns-in-Err-clause-malformed c = (λ e signer f g. cc, λ none. absurd (none (said c.in-Some.saved) c.in-Some.ensures.some.0 c.in-Some.ensures.some.1))
