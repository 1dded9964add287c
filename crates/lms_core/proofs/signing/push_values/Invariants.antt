use Rattle.std.proofs.Common.{◌≡◌, ◌++◌}
use Rattle.hash_signature_model.specs.OneTime.{joined_values, signed_value}
use Rattle.lms_core.proofs.signing.push_values.Given as goal

abbrev pub invariant-chains : goal.invariant-chains
invariant-chains l = l.out.items ≡ l.initial.out.items ++ joined_values (signed_value l.key.set.w l.key.id l.key.seed l.fn.leaf l.code) l.i
