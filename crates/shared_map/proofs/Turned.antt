-- Nodes that were turned in place.
use Rattle.std.proofs.Common.{◌≡◌, ℕ, Bool, true, false, ◌+◌, ◌^◌, ◌<◌, ◌≤◌, List, [], length, Some, refl, sym, ap, ◌∙◌, subst, Global, arith}
use Rattle.std.specs.Prelude.{max, MatchBool}
use Rattle.std.specs.declared.sync.Arc.{Arc}
use Rattle.shared_map.specs.declared.tree.Fork.{Fork}
use Rattle.shared_map.specs.declared.tree.Side.{Side}
use Rattle.shared_map.specs.declared.tree.Side.TheVariants.{Left, Right}
use Rattle.shared_map.specs.Trees.{seen, side_on, with_side, of_parts, opposite, in_order, IsBalanced, IsLow, IsTree, IsStraight, DifferByAtMost}
use Rattle.shared_map.proofs.Forks.{lengths, side_lengths}
use Rattle.shared_map.proofs.Joined.{assoc, seen_on, balanced_on}

module _ {K V : Type 0} (o n : List (K × V) × ℕ) (k : K) (v : Arc V Global) (h : ℕ) where
  pub seen_parts : (on : Side) → seen (Some (of_parts on o k v h n)) ≡ (in_order on o.0 (k, v.value) n.0, h)
  seen_parts Left = refl
  seen_parts Right = refl

  pub side_parts : (on : Side) → side_on on (of_parts on o k v h n) ≡ o
  side_parts Left = refl
  side_parts Right = refl

  pub other_parts : (on : Side) → side_on (opposite on) (of_parts on o k v h n) ≡ n
  other_parts Left = refl
  other_parts Right = refl

  pub with_parts : (on : Side) (x : List (K × V) × ℕ) → with_side (opposite on) x (of_parts on o k v h n) ≡ of_parts on o k v h x
  with_parts Left x = refl
  with_parts Right x = refl

pub opposite_twice : (on : Side) → opposite (opposite on) ≡ on
opposite_twice Left = refl
opposite_twice Right = refl

module _ {K V : Type 0} (f : Fork K V) where
  pub level_on : (on : Side) → DifferByAtMost 2 (side_on on f).1 (side_on (opposite on) f).1 → DifferByAtMost 2 f.left.1 f.right.1
  level_on Left d = d
  level_on Right d = (d.1, d.0)

  pub max_on : (on : Side) → max f.left.1 f.right.1 ≡ max (side_on on f).1 (side_on (opposite on) f).1
  max_on Left = refl
  max_on Right = omega arith

  -- a side that was taken out and is put back
  pub put_back : (on : Side) (t : List (K × V) × ℕ) (g h : Fork K V) → g ≡ with_side on ([], 0) f → h ≡ with_side on t g → t ≡ side_on on f → h ≡ f
  put_back on t g h taken back is = back ∙ ap (with_side on t) taken ∙ by_side on t is
    where
      by_side : (on : Side) (t : List (K × V) × ℕ) → t ≡ side_on on f → with_side on t (with_side on ([], 0) f) ≡ f
      by_side Left t is = ap (λ (x : List (K × V) × ℕ). record f { left = x }) is
      by_side Right t is = ap (λ (x : List (K × V) × ℕ). record f { right = x }) is

-- ---- a node f, of which the side there was taken out (g): its node b is the upper one now (h), the other one (c) stands on the other side, and so it is k

module _ {K V : Type 0} (on out : Side) (away : out ≡ opposite on) (f g h k b c : Fork K V) (t : List (K × V) × ℕ) (taken : g ≡ with_side on ([], 0) f)
    (upper : h ≡ of_parts on (side_on on b) b.key b.value g.height (side_on on g))
    (lower : c ≡ of_parts on (side_on (opposite on) b) g.key g.value (max (side_on (opposite on) b).1 (side_on (opposite on) g).1 + 1) (side_on (opposite on) g)) (over : t ≡ seen (Some c)) (set : k ≡ with_side out t h) where
  turned_is : k ≡ of_parts on (side_on on b) b.key b.value g.height t
  turned_is = set ∙ ap (λ (i : Side). with_side i t h) away ∙ ap (with_side (opposite on) t) upper ∙ with_parts _ _ _ _ _ on t

  lower_is : t ≡ (in_order on (side_on (opposite on) b).0 (f.key, f.value.value) (side_on (opposite on) f).0, max (side_on (opposite on) b).1 (side_on (opposite on) f).1 + 1)
  lower_is = over ∙ ap (λ (x : Fork K V). seen (Some x)) lower ∙ seen_parts _ _ _ _ _ on
      ∙ ap (λ (x : Fork K V). (in_order on (side_on (opposite on) b).0 (x.key, x.value.value) (side_on (opposite on) x).0, max (side_on (opposite on) b).1 (side_on (opposite on) x).1 + 1)) taken ∙ by_side on (side_on (opposite on) b)
    where
      by_side : (on : Side) (y : List (K × V) × ℕ) → ◌≡◌ {A = List (K × V) × ℕ} (in_order on y.0 ((with_side on ([], 0) f).key, (with_side on ([], 0) f).value.value) (side_on (opposite on) (with_side on ([], 0) f)).0, max y.1 (side_on (opposite on) (with_side on ([], 0) f)).1 + 1)
          (in_order on y.0 (f.key, f.value.value) (side_on (opposite on) f).0, max y.1 (side_on (opposite on) f).1 + 1)
      by_side Left y = refl
      by_side Right y = refl

  turned_far : side_on on k ≡ side_on on b
  turned_far = ap (side_on on) turned_is ∙ side_parts _ _ _ _ _ on

  turned_near : (side_on (opposite on) k).1 ≡ max (side_on (opposite on) b).1 (side_on (opposite on) f).1 + 1
  turned_near = ap (λ (x : Fork K V). (side_on (opposite on) x).1) turned_is ∙ ap (λ (x : List (K × V) × ℕ). x.1) (other_parts _ _ _ _ _ on) ∙ ap (λ (x : List (K × V) × ℕ). x.1) lower_is

  pub turned_entries : (seen (Some b)).0 ≡ (side_on on f).0 → (seen (Some k)).0 ≡ (seen (Some f)).0
  turned_entries same = ap (λ (x : Fork K V). (seen (Some x)).0) turned_is ∙ ap (λ (x : List (K × V) × ℕ). x.0) (seen_parts _ _ _ _ _ on)
      ∙ ap (λ (x : List (K × V) × ℕ). in_order on (side_on on b).0 (b.key, b.value.value) x.0) lower_is
      ∙ sym (assoc on (side_on on b).0 (side_on (opposite on) b).0 (side_on (opposite on) f).0 (b.key, b.value.value) (f.key, f.value.value))
      ∙ ap (λ (l : List (K × V)). in_order on l (f.key, f.value.value) (side_on (opposite on) f).0) (seen_on on b ∙ same) ∙ seen_on on f

  -- where the node was straight before
  module _ (straight : IsStraight (side_on on f).1 (side_on on b).1 (side_on (opposite on) b).1) (high : (side_on on f).1 ≡ (side_on (opposite on) f).1 + 2) where
    pub turned_level : DifferByAtMost 2 k.left.1 k.right.1
    turned_level =
        let far = ap (λ (x : List (K × V) × ℕ). x.1) turned_far in
        level_on k on (omega (arith, far, turned_near, high, straight.0, straight.1, straight.2, straight.3, straight.4), omega (arith, far, turned_near, high, straight.0, straight.1, straight.2, straight.3, straight.4))

    pub turned_height : ((side_on on f).1 ≤ max k.left.1 k.right.1 + 1) × (max k.left.1 k.right.1 ≤ (side_on on f).1)
    turned_height =
        let far = ap (λ (x : List (K × V) × ℕ). x.1) turned_far in
        (omega (arith, max_on k on, far, turned_near, high, straight.0, straight.1, straight.2, straight.3, straight.4), omega (arith, max_on k on, far, turned_near, high, straight.0, straight.1, straight.2, straight.3, straight.4))

  -- where it is to be straight itself, and away from the side there
  pub turned_straight : IsBalanced (Some f) → IsBalanced (Some b) → b.height ≡ (side_on on f).1 → (side_on (opposite on) f).1 < (side_on on f).1 → IsStraight f.height (side_on (opposite on) k).1 (side_on on k).1
  turned_straight bf bb high leans =
      let far = ap (λ (x : List (K × V) × ℕ). x.1) turned_far in
      let nf = balanced_on on f bf in
      let nb = balanced_on on b bb in
      (omega (arith, far, turned_near, nf.0, nf.1.0, nb.0, nb.1.0, nb.1.1, high, leans), omega (arith, far, turned_near, nf.0, nf.1.0, nb.0, nb.1.0, nb.1.1, high, leans), omega (arith, far, turned_near, nf.0, nf.1.0, nb.0, nb.1.0, nb.1.1, high, leans), omega (arith, far, turned_near, nf.0, nf.1.0, nb.0, nb.1.0, nb.1.1, high, leans), omega (arith, far, turned_near, nf.0, nf.1.0, nb.0, nb.1.0, nb.1.1, high, leans))

-- ---- what a turn asks

module _ {K V : Type 0} (f : Fork K V) where
  pub kept_on : (on : Side) (g : Fork K V) (x : List (K × V) × ℕ) → g ≡ with_side on x f → side_on (opposite on) g ≡ side_on (opposite on) f
  kept_on on g x is = ap (side_on (opposite on)) is ∙ by_side on
    where
      by_side : (on : Side) → side_on (opposite on) (with_side on x f) ≡ side_on (opposite on) f
      by_side Left = refl
      by_side Right = refl

  pub few_on : (on : Side) → length f.left.0 + length f.right.0 ≡ length (side_on on f).0 + length (side_on (opposite on) f).0
  few_on Left = refl
  few_on Right = omega arith

  -- the node of a side has no more entries than can be counted
  pub few_in : (on : Side) (b : Fork K V) → seen (Some b) ≡ side_on on f → length f.left.0 + length f.right.0 + 1 < 2 ^ 64 → length b.left.0 + length b.right.0 + 1 < 2 ^ 64
  few_in on b is few = omega (arith, lengths b _ refl, ap (λ (x : List (K × V) × ℕ). length x.0) is, few_on on, few)

  -- its side there isn't higher
  pub level_straight : (on : Side) → IsBalanced (Some f) → (side_on on f).1 ≤ (side_on (opposite on) f).1 → IsStraight f.height (side_on (opposite on) f).1 (side_on on f).1
  level_straight on b le =
      let n = balanced_on on f b in
      (omega (arith, n.0, n.1.0, n.1.1, le), omega (arith, n.0, n.1.0, n.1.1, le), omega (arith, n.0, n.1.0, n.1.1, le), omega (arith, n.0, n.1.0, n.1.1, le), omega (arith, n.0, n.1.0, n.1.1, le))

  module _ (on : Side) (g b : Fork K V) (taken : g ≡ with_side on ([], 0) f) (few : length f.left.0 + length f.right.0 + 1 < 2 ^ 64) where
    -- its side there is the higher one, of which b is the node
    pub leaning_fits : IsBalanced (Some f) → IsBalanced (Some b) → seen (Some b) ≡ side_on on f → (side_on (opposite on) f).1 < (side_on on f).1
        → DifferByAtMost 2 (side_on (opposite on) b).1 (side_on (opposite on) g).1 × (length (side_on (opposite on) b).0 + length (side_on (opposite on) g).0 + 1 < 2 ^ 64)
    leaning_fits bf bb is leans =
        let kept = kept_on on g ([], 0) taken in
        let far = ap (λ (x : List (K × V) × ℕ). x.1) kept in
        let many = ap (λ (x : List (K × V) × ℕ). length x.0) kept in
        let high = ap (λ (x : List (K × V) × ℕ). x.1) is in
        let all = ap (λ (x : List (K × V) × ℕ). length x.0) is in
        let nf = balanced_on on f bf in
        let nb = balanced_on on b bb in
        ((omega (arith, far, high, nf.1.0, nf.1.1, nb.0, nb.1.0, nb.1.1, leans), omega (arith, far, high, nf.1.0, nf.1.1, nb.0, nb.1.0, nb.1.1, leans)), omega (arith, many, all, side_lengths b _ refl on, few_on on, few))

    -- it is two higher, and b its node, which is straight
    pub straight_fits : (seen (Some b)).0 ≡ (side_on on f).0 → IsStraight (side_on on f).1 (side_on on b).1 (side_on (opposite on) b).1 → (side_on on f).1 ≡ (side_on (opposite on) f).1 + 2
        → DifferByAtMost 2 (side_on (opposite on) b).1 (side_on (opposite on) g).1 × (length (side_on (opposite on) b).0 + length (side_on (opposite on) g).0 + 1 < 2 ^ 64)
    straight_fits is straight high =
        let kept = kept_on on g ([], 0) taken in
        let far = ap (λ (x : List (K × V) × ℕ). x.1) kept in
        let many = ap (λ (x : List (K × V) × ℕ). length x.0) kept in
        ((omega (arith, far, high, straight.0, straight.1, straight.2, straight.3, straight.4), omega (arith, far, high, straight.0, straight.1, straight.2, straight.3, straight.4)), omega (arith, many, ap length is, side_lengths b _ refl on, few_on on, few))

-- a node of a tree that is a side
pub side_tree : {K V : Type 0} (b : Fork K V) (s : List (K × V) × ℕ) → seen (Some b) ≡ s → IsBalanced (Some b) → IsLow (length s.0) s.1 → IsTree b
side_tree {K} {V} b s is balanced low = (balanced, subst (λ (x : List (K × V) × ℕ). IsLow (length x.0) x.1) (sym is) low)

-- the node is straight the other way round
pub straight_on : {K V : Type 0} (on other : Side) (b : Fork K V) (h n : ℕ) → other ≡ opposite on → h ≡ n → IsStraight h (side_on (opposite other) b).1 (side_on other b).1 → IsStraight n (side_on on b).1 (side_on (opposite on) b).1
straight_on {K} {V} on other b h n is high straight =
    subst (λ m. IsStraight m (side_on on b).1 (side_on (opposite on) b).1) high
    (subst (λ i. IsStraight h (side_on i b).1 (side_on (opposite on) b).1) (opposite_twice on) (subst (λ i. IsStraight h (side_on (opposite i) b).1 (side_on i b).1) is straight))

pub when_true : (P Q : Type 0) (b : Bool) → b ≡ true → MatchBool b P Q → P
when_true P Q true e h = h
when_true P Q false e h = cc e

pub when_false : (P Q : Type 0) (b : Bool) → b ≡ false → MatchBool b P Q → Q
when_false P Q true e h = cc e
when_false P Q false e h = h

-- a node of which a side is two higher, and that stays as it is
module _ {K V : Type 0} (f h : Fork K V) (same : h ≡ f) (on : Side) (high : (side_on on f).1 ≡ (side_on (opposite on) f).1 + 2) where
  pub still_level : DifferByAtMost 2 h.left.1 h.right.1
  still_level = subst (λ (x : Fork K V). DifferByAtMost 2 x.left.1 x.right.1) (sym same) (level_on f on (omega (arith, high), omega (arith, high)))

  pub still_high : ((side_on on f).1 ≤ max h.left.1 h.right.1 + 1) × (max h.left.1 h.right.1 ≤ (side_on on f).1)
  still_high = subst (λ (x : Fork K V). ((side_on on f).1 ≤ max x.left.1 x.right.1 + 1) × (max x.left.1 x.right.1 ≤ (side_on on f).1)) (sym same) (omega (arith, max_on f on, high), omega (arith, max_on f on, high))
