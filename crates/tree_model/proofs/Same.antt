-- The test that `==` makes of keys and bytes is the one that their orders make.
use Rattle.std.proofs.Common.{◌≡◌, ℕ, List, ◌&&◌, refl, sym, ap, ◌∙◌, subst, nat_eq}
use Rattle.std.specs.Bool.{one_answer}
use Rattle.std.specs.Cmp.{Equal-is, tied_itself}
use Rattle.std.specs.Cmp.Lexicographic.{slice_cmp, nat_list_cmp_total, pointwise, bytes_decides}
use Rattle.std.specs.Ordering.{nat_cmp, is_eq, eq_by_cmp, ordering_then}
use Rattle.std.specs.declared.cmp.Ordering.{Ordering}
use Rattle.std.specs.declared.cmp.Ordering.TheVariants.{Less, Equal, Greater}
use Rattle.std.proofs.lemmas.Map.Lookups.{exact_bytes}
use Rattle.ivy_base.specs.declared.key.Key.{Key}
use Rattle.tree_model.specs.Tree.{Place, place_cmp, same_key}

pub same_answer : (xs ys : List ℕ) → pointwise nat_eq xs ys ≡ is_eq (slice_cmp nat_cmp xs ys)
same_answer xs ys = one_answer _ _ (bytes_decides xs ys) (λ h. exact_bytes xs ys ((Equal-is (slice_cmp nat_cmp xs ys)).0 h), λ e. ap is_eq (subst (λ (zs : List ℕ). slice_cmp nat_cmp xs zs ≡ Equal) e (tied_itself nat_list_cmp_total xs)))

both_eq : (r s : Ordering) → is_eq (ordering_then r s) ≡ (is_eq r && is_eq s)
both_eq Less s = refl
both_eq Equal s = refl
both_eq Greater s = refl

pub same_place_answer : (p q : Place) → eq_by_cmp place_cmp p q ≡ (pointwise nat_eq p.0.0 q.0.0 && pointwise nat_eq p.1 q.1)
same_place_answer p q = both_eq _ _ ∙ (λ i. sym (same_answer p.0.0 q.0.0) i && sym (same_answer p.1 q.1) i)

pub same_key_answer : (a b : Key) → same_key a b ≡ pointwise nat_eq a.0 b.0
same_key_answer a b = sym (same_answer a.0 b.0)
