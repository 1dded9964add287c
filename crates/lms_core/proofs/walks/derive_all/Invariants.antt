use Rattle.std.proofs.Common.{◌≡◌, ◌*◌, length}
use Rattle.hash_signature_model.specs.OneTime.{derived}
use Rattle.lms_core.proofs.Fours.{Fills}
use Rattle.lms_core.proofs.walks.derive_all.Given as goal

abbrev pub invariant-fours : goal.invariant-fours
invariant-fours l = (length l.values ≡ 68) × Fills (λ i. derived l.leaf.id l.seed l.leaf.number i) l.values (4 * l.four)
