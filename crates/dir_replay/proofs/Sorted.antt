-- Entries in the order of their keys.
use Rattle.std.proofs.Common.{◌≡◌, List, [], ◌∷◌, Some, None, true, cond, ◌&&◌, refl, sym, ap, ◌∙◌}
use Rattle.std.specs.declared.cmp.Ordering.{Ordering}
use Rattle.std.specs.declared.cmp.Ordering.TheVariants.{Less, Equal, Greater}
use Rattle.std.specs.Cmp.{IsTotalOrder}
use Rattle.std.specs.Ordering.{is_eq, is_lt}
use Rattle.std.specs.FinMap.Entries.{find as value_at, put, by_order, below_all, is_sorted}
use Rattle.ivy_base.specs.declared.key.Key.{Key}
use Rattle.ivy_base.specs.Naming.{key_cmp}
use Rattle.tree_model.proofs.Sound.{both_true}
use Rattle.dir_replay.specs.declared.nodes.Node.{Node}
use Rattle.dir_replay.specs.View.{all_inodes}
use Rattle.dir_replay.specs.Tied.{IsTied}

pub is_less : (r : Ordering) → is_lt r ≡ true → r ≡ Less
is_less Less h = refl
is_less Equal h = cc
is_less Greater h = cc

module _ {K X : Type 0} (cmp : K → K → Ordering) where
  -- a key below all others is not found
  pub find_below : (k : K) (es : List (K × X)) → below_all cmp k es ≡ true → value_at cmp k es ≡ None
  find_below k [] h = refl
  find_below k (e ∷ es) h =
      let both = both_true (is_lt (cmp k e.0)) (below_all cmp k es) h in
      ap (λ r. cond (is_eq r) (Some e.1) (value_at cmp k es)) (is_less _ both.0) ∙ find_below k es both.1

  further_below : (o : IsTotalOrder cmp) (k e : K) (es : List (K × X)) → cmp k e ≡ Less → below_all cmp e es ≡ true → below_all cmp k es ≡ true
  further_below o k e [] less h = refl
  further_below o k e (f ∷ es) less h =
      let both = both_true (is_lt (cmp e f.0)) (below_all cmp e es) h in
      (λ i. is_lt (o.trans k e f.0 less (is_less _ both.0) i) && further_below o k e es less both.1 i)

  -- what is found does not come before the first
  pub found_later : (o : IsTotalOrder cmp) (k : K) (v : X) (e : K × X) (es : List (K × X)) → cmp k e.0 ≡ Less → below_all cmp e.0 es ≡ true → value_at cmp k es ≡ Some v → ⊥
  found_later o k v e es less below found = let none = find_below k es (further_below o k e.0 es less below) in cc

  -- the value that is there changes nothing
  pub put_same : (o : IsTotalOrder cmp) (k : K) (v : X) (es : List (K × X)) → is_sorted cmp es ≡ true → value_at cmp k es ≡ Some v → put cmp k v es ≡ es
  put_same o k v [] sorted found = cc
  put_same o k v (e ∷ es) sorted found =
      let both = both_true (below_all cmp e.0 es) (is_sorted cmp es) sorted in
      by (put_same o k v es both.1) (cmp k e.0) refl both.0 found
    where
      by : (value_at cmp k es ≡ Some v → put cmp k v es ≡ es) → (r : Ordering) → cmp k e.0 ≡ r → below_all cmp e.0 es ≡ true → cond (is_eq r) (Some e.1) (value_at cmp k es) ≡ Some v → by_order r ((k, v) ∷ e ∷ es) ((e.0, v) ∷ es) (e ∷ put cmp k v es) ≡ e ∷ es
      by again Less less below found = absurd (found_later o k v e es less below found)
      by again Equal tied below found = let is : v ≡ e.1 = cc in ap (λ x. (e.0, x) ∷ es) is
      by again Greater more below found = ap (λ l. e ∷ l) (again found)

below-all_inodes : (k : Key) (nodes : List (Key × Node)) → below_all key_cmp k (all_inodes nodes) ≡ below_all key_cmp k nodes
below-all_inodes k [] = refl
below-all_inodes k (e ∷ es) = ap (λ b. is_lt (key_cmp k e.0) && b) (below-all_inodes k es)

pub sorted-all_inodes : (nodes : List (Key × Node)) → is_sorted key_cmp (all_inodes nodes) ≡ is_sorted key_cmp nodes
sorted-all_inodes [] = refl
sorted-all_inodes (e ∷ es) = λ i. below-all_inodes e.0 es i && sorted-all_inodes es i

pub sorted_nodes : (nodes : List (Key × Node)) → IsTied nodes → is_sorted key_cmp nodes ≡ true
sorted_nodes nodes tied = sym (sorted-all_inodes nodes) ∙ tied.sound.order.inodes
