-- One step of going up.
use Rattle.std.proofs.Common.{◌≡◌, ℕ, zero, suc, ◌-◌, ◌≤◌, List, Bool, false, refl, arith}
use Rattle.std.specs.List.{list_all}
use Rattle.ivy_base.specs.declared.key.Key.{Key}
use Rattle.tree_model.specs.Tree.{Place, same_key, parents_in, ends_without}

module _ (names : List (Place × Key)) (dir : Key) where
  -- the climb from each of those ends
  abbrev pub all_end : ℕ → List Key → Bool
  all_end most ks = list_all (λ above. ends_without most names above dir) ks

  pub climbs_on : (most : ℕ) (x : Key) → 1 ≤ most → same_key x dir ≡ false → ends_without most names x dir ≡ all_end (most - 1) (parents_in names x)
  climbs_on zero x some other = let none : ⊥ = omega (arith, some) in absurd none
  climbs_on (suc n) x some other = let e : suc n - 1 ≡ n = omega arith in rw (other, e) refl
