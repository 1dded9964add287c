use Rattle.std.proofs.Common.{◌<◌, ℕ, sym, subst}
use Rattle.hss_keys.proofs.Signing.{capacity_some}
use Rattle.hss_keys.proofs.spelling.choose_leaf.Goals as goal

pub nonzero_div-result : goal.nonzero_div-result
nonzero_div-result c = subst (λ (n : ℕ). 0 < n) (sym c.count_messages.ensures) (capacity_some c.args.lower.now)
