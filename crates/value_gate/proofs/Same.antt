-- Lists that have the same entries.
use Rattle.std.proofs.Common.{◌≡◌, List, [], ◌∷◌, length, sum_by, sym, ◌∙◌, arith}
use Rattle.std.proofs.lemmas.List.Sums.{sum_by-cons}
use Rattle.value_gate.specs.declared.history.Entry.{Entry}
use Rattle.value_gate.specs.Histories.{HaveTheSame}

module _ {T : Type 0} where
  ones : (xs : List (Entry T)) → sum_by (λ _. 1) xs ≡ length xs
  ones [] = omega arith
  ones (x ∷ xs) = omega (arith, ones xs, sum_by-cons (λ _. 1) x xs)

  pub same_length : (xs ys : List (Entry T)) → HaveTheSame xs ys → length xs ≡ length ys
  same_length xs ys same = sym (ones xs) ∙ (same (λ _. 1) ∙ ones ys)
