use Rattle.std.proofs.Common.{◌≡◌, ◌∙◌, ap, arith, take}
use Rattle.hash_signature_model.specs.Signer.{capacity}
use Rattle.hss_keys.proofs.Saving.{no_signer_above}
use Rattle.hss_keys.proofs.save.Saved.read.Goals as goal

pub returns-then-saved-count_messages-clause-none : goal.returns-then-saved-count_messages-clause-none
returns-then-saved-count_messages-clause-none c =
    let count : c.count_messages.result ≡ capacity (take c.in_ok-saved.saved.count c.in_ok-saved.saved.sets) = c.count_messages.ensures ∙ ap capacity c.levels.ensures in
    no_signer_above c.in_ok-saved.ensures.some (λ few. omega (arith, few, count, c.if-saved-count_messages.true))
