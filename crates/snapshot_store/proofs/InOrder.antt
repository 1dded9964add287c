-- The inode at a place among all, which are in the order of their numbers.
use Rattle.std.proofs.Common.{◌≡◌, ℕ, zero, suc, ◌+◌, ◌<◌, Bool, true, false, cond, List, [], ◌∷◌, ◌++◌, length, map, take, get_or, Some, None, Contains, refl, sym, ap, ◌∙◌, subst, arith}
use Rattle.std.specs.FinMap.Entries.{find as value_at, below_all, is_sorted}
use Rattle.std.specs.List.{AllByRecursion}
use Rattle.std.specs.Ordering.{is_lt}
use Rattle.std.proofs.lemmas.List.{map-append}
use Rattle.ivy_base.specs.declared.key.Key.{Key}
use Rattle.ivy_base.specs.Naming.{key_cmp}
use Rattle.tree_model.specs.Tree.{Inode, IsInOrder, Tree, inode_at, same_key}
use Rattle.tree_model.proofs.Keys.{same_key_is, same_key_itself}
use Rattle.tree_model.proofs.Sound.{both_true}
use Rattle.tree_model.proofs.Climb.{less_is_not_equal}
use Rattle.log_model.proofs.Lists.{each, there}
use Rattle.snapshot_model.specs.Spelling.{inode_made}

-- that number's inode stands there, and is found by it
record IsHere (es : List (Key × Inode)) (i : ℕ) (k : Key) : Type 0 where
  inode : Inode
  among : Contains es (k, inode)
  found : value_at key_cmp k es ≡ Some inode
  next : take (suc i) es ≡ take i es ++ (k, inode) ∷ []

abbrev numbers : List (Key × Inode) → List Key
numbers es = map (λ e. e.0) es

behind : (first k other : Key) (es : List (Key × Inode)) (i : ℕ) → below_all key_cmp first es ≡ true → i < length (numbers es) → get_or (numbers es) i other ≡ k → is_lt (key_cmp first k) ≡ true
behind first k other [] i below within is = absurd (omega (arith, within))
behind first k other (e ∷ es) zero below within is = ap (λ q. is_lt (key_cmp first q)) (sym is) ∙ (both_true (is_lt (key_cmp first e.0)) (below_all key_cmp first es) below).0
behind first k other (e ∷ es) (suc i) below within is = behind first k other es i (both_true (is_lt (key_cmp first e.0)) (below_all key_cmp first es) below).1 (omega (arith, within)) is

inode_here : (es : List (Key × Inode)) (i : ℕ) (k d : Key) → is_sorted key_cmp es ≡ true → i < length (numbers es) → get_or (numbers es) i d ≡ k → IsHere es i k
inode_here [] i k d sorted within is = absurd (omega (arith, within))
inode_here (e ∷ es) zero k d sorted within is =
    let same : e ≡ (k, e.1) = ap (λ q. (q, e.1)) is in
    record {
      inode = e.1;
      among = (0, omega arith, same);
      found = ap (λ b. cond b (Some e.1) (value_at key_cmp k es)) (ap (λ q. same_key k q) is ∙ same_key_itself k);
      next = ap (λ f. f ∷ []) same;
    }
inode_here (e ∷ es) (suc i) k d sorted within is =
    let parts = both_true (below_all key_cmp e.0 es) (is_sorted key_cmp es) sorted in
    let rest = inode_here es i k d parts.1 (omega (arith, within)) is in
    record {
      inode = rest.inode;
      among = there e es (k, rest.inode) rest.among;
      found = ap (λ b. cond b (Some e.1) (value_at key_cmp k es)) (other (same_key k e.0) refl (behind e.0 k d es i parts.0 (omega (arith, within)) is)) ∙ rest.found;
      next = ap (λ l. e ∷ l) rest.next;
    }
  where
    other : (b : Bool) → same_key k e.0 ≡ b → is_lt (key_cmp e.0 k) ≡ true → b ≡ false
    other false same less = refl
    other true same less =
        let itself : same_key e.0 k ≡ true = ap (λ q. same_key q k) (sym (same_key_is k e.0 same)) ∙ same_key_itself k in
        sym itself ∙ less_is_not_equal (key_cmp e.0 k) less

-- ---- the inode of a number that stands at a place

module _ (t : Tree) (order : IsInOrder t) (ks : List Key) (all : ks ≡ numbers t.inodes) (i : ℕ) (within : i < length ks) (d : Key) where
  stands : IsHere t.inodes i (get_or ks i d)
  stands = inode_here t.inodes i (get_or ks i d) d order.inodes (subst (λ l. i < length l) all within) (ap (λ l. get_or l i d) (sym all))

  -- there is one
  pub not_missing : None ≡ inode_at t (get_or ks i d) → ⊥
  not_missing missing = let none : None ≡ Some stands.inode = missing ∙ stands.found in cc

  module _ (inode : Inode) (found : Some inode ≡ inode_at t (get_or ks i d)) where
    same : stands.inode ≡ inode
    same = let is : Some stands.inode ≡ Some inode = sym (found ∙ stands.found) in cc

    -- it is the next one
    pub made_next : map (inode_made t) (take (i + 1) t.inodes) ≡ map (inode_made t) (take i t.inodes) ++ inode_made t (get_or ks i d, inode) ∷ []
    made_next =
        let suc_i : i + 1 ≡ suc i = omega arith in
        ap (λ n. map (inode_made t) (take n t.inodes)) suc_i ∙ ap (map (inode_made t)) (stands.next ∙ ap (λ j. take i t.inodes ++ (get_or ks i d, j) ∷ []) same)
        ∙ map-append (inode_made t) (take i t.inodes) ((get_or ks i d, inode) ∷ [])
