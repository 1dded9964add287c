-- What stands in order does so in pieces, and as the listing of a directory.
use Rattle.std.proofs.Common.{◌≡◌, ℕ, zero, suc, Bool, true, false, List, [], ◌∷◌, take, drop, refl, sym, subst, Some, None}
use Rattle.std.specs.Prelude.{if◌then◌else◌}
use Rattle.std.specs.List.{AllByRecursion, filter_map, cons_option}
use Rattle.std.specs.Cmp.Lexicographic.{slice_cmp}
use Rattle.std.specs.Ordering.{is_lt, is_eq, nat_cmp, ordering_then}
use Rattle.std.specs.declared.cmp.Ordering.{Ordering}
use Rattle.std.specs.declared.cmp.Ordering.TheVariants.{Less, Equal, Greater}
use Rattle.std.specs.FinMap.Entries.{is_sorted, below_all}
use Rattle.ivy_base.specs.declared.key.Key.{Key}
use Rattle.ivy_base.specs.Naming.{key_cmp}
use Rattle.tree_model.specs.Tree.{Place, place_cmp, same_key}
use Rattle.tree_model.proofs.Keys.{same_key_is}
use Rattle.tree_model.proofs.Sound.{both_true}
use Rattle.log_model.proofs.Lists.{both}
use Rattle.snapshot_model.specs.Blocks.{Ascend}
use Rattle.snapshot_model.specs.Spelling.{pieces}

-- ---- pieces

module _ {K X : Type 0} (R : K → K → Ordering) where
  below_take : (x : K) (n : ℕ) (es : List (K × X)) → below_all R x es ≡ true → below_all R x (take n es) ≡ true
  below_take x zero es h = refl
  below_take x (suc n) [] h = refl
  below_take x (suc n) (e ∷ es) h =
      let p = both_true (is_lt (R x e.0)) (below_all R x es) h in
      both (is_lt (R x e.0)) (below_all R x (take n es)) p.0 (below_take x n es p.1)

  sorted_take : (n : ℕ) (es : List (K × X)) → is_sorted R es ≡ true → is_sorted R (take n es) ≡ true
  sorted_take zero es h = refl
  sorted_take (suc n) [] h = refl
  sorted_take (suc n) (e ∷ es) h =
      let p = both_true (below_all R e.0 es) (is_sorted R es) h in
      both (below_all R e.0 (take n es)) (is_sorted R (take n es)) (below_take e.0 n es p.0) (sorted_take n es p.1)

  sorted_drop : (n : ℕ) (es : List (K × X)) → is_sorted R es ≡ true → is_sorted R (drop n es) ≡ true
  sorted_drop zero es h = h
  sorted_drop (suc n) [] h = refl
  sorted_drop (suc n) (e ∷ es) h = sorted_drop n es (both_true (below_all R e.0 es) (is_sorted R es) h).1

pub pieces_ascend : (n size : ℕ) (es : List (List ℕ × Key)) → Ascend es → AllByRecursion Ascend (pieces n size es)
pieces_ascend zero size es h = tt
pieces_ascend (suc n) size [] h = tt
pieces_ascend (suc n) size (e ∷ es) h = (sorted_take (slice_cmp nat_cmp) size (e ∷ es) h, pieces_ascend n size (drop size (e ∷ es)) (sorted_drop (slice_cmp nat_cmp) size (e ∷ es) h))

-- ---- the listing of a directory

abbrev listed : List (Place × Key) → Key → List (List ℕ × Key)
listed names d = filter_map (λ e. if same_key d e.0.0 then Some (e.0.1, e.1) else None) names

second_less : (o p : Ordering) → true ≡ is_eq o → is_lt (ordering_then o p) ≡ true → is_lt p ≡ true
second_less Less p same h = cc
second_less Equal p same h = h
second_less Greater p same h = cc

listed_behind : (names : List (Place × Key)) (d : Key) (n : List ℕ) → below_all place_cmp (d, n) names ≡ true → below_all (slice_cmp nat_cmp) n (listed names d) ≡ true
listed_behind [] d n h = refl
listed_behind (e ∷ names) d n h =
    let p = both_true (is_lt (place_cmp (d, n) e.0)) (below_all place_cmp (d, n) names) h in
    by (same_key d e.0.0) refl p.0 (listed_behind names d n p.1)
  where
    by : (b : Bool) → b ≡ same_key d e.0.0 → is_lt (place_cmp (d, n) e.0) ≡ true → below_all (slice_cmp nat_cmp) n (listed names d) ≡ true
        → below_all (slice_cmp nat_cmp) n (cons_option (if b then Some (e.0.1, e.1) else None) (listed names d)) ≡ true
    by true same less rest = both (is_lt (slice_cmp nat_cmp n e.0.1)) (below_all (slice_cmp nat_cmp) n (listed names d)) (second_less (key_cmp d e.0.0) (slice_cmp nat_cmp n e.0.1) same less) rest
    by false same less rest = rest

pub listed_ascend : (names : List (Place × Key)) (d : Key) → is_sorted place_cmp names ≡ true → Ascend (listed names d)
listed_ascend [] d h = refl
listed_ascend (e ∷ names) d h =
    let p = both_true (below_all place_cmp e.0 names) (is_sorted place_cmp names) h in
    by (same_key d e.0.0) refl p.0 (listed_ascend names d p.1)
  where
    by : (b : Bool) → b ≡ same_key d e.0.0 → below_all place_cmp e.0 names ≡ true → Ascend (listed names d) → Ascend (cons_option (if b then Some (e.0.1, e.1) else None) (listed names d))
    by true same after rest =
        let d_is : e.0.0 ≡ d = sym (same_key_is d e.0.0 (sym same)) in
        both (below_all (slice_cmp nat_cmp) e.0.1 (listed names d)) (is_sorted (slice_cmp nat_cmp) (listed names d))
        (listed_behind names d e.0.1 (subst (λ (k : Key). below_all place_cmp (k, e.0.1) names ≡ true) d_is after)) rest
    by false same after rest = rest
