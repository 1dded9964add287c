use Rattle.std.proofs.Common.{ℕ, ◌≤◌, refl, sym, subst, arith}
use Rattle.std.proofs.lemmas.List.{get_or-replicate}
use Rattle.hash_signature_model.specs.Parameters.{top}
use Rattle.lms_core.proofs.walks.digits.Goals as goal

pub chains-init : goal.chains-init
chains-init c = record {
  long = refl;
  values = λ i lt. absurd (omega arith);
  bound = λ i lt. subst (λ (n : ℕ). n ≤ top c.args.w) (sym (get_or-replicate 68 i c.args.otherwise 0 lt)) c.requires;
}
