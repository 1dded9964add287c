-- Nodes that are put together again over the parts of a side that is too high.
use Rattle.std.proofs.Common.{◌≡◌, ℕ, suc, ◌+◌, ◌^◌, ◌<◌, ◌≤◌, List, ◌∷◌, ◌++◌, length, Some, Result, Ok, Err, inl, inr, refl, sym, ap, ◌∙◌, length-append, append_assoc, Global, arith}
use Rattle.std.specs.Prelude.{max, IfOk}
use Rattle.std.specs.declared.sync.Arc.{Arc}
use Rattle.std.proofs.lemmas.Bool.{cases_lt}
use Rattle.shared_map.specs.declared.tree.Fork.{Fork}
use Rattle.shared_map.specs.declared.tree.Side.{Side}
use Rattle.shared_map.specs.declared.tree.Side.TheVariants.{Left, Right}
use Rattle.shared_map.specs.Trees.{seen, side_on, opposite, in_order, IsBalanced, IsNear, IsSettled, DifferByAtMost}
use Rattle.shared_map.proofs.Forks.{side_lengths}

pub if_ok : {A E : Type 0} {P Q : A → Type 0} (r : Result A E) → ((x : A) → P x → Q x) → IfOk r P → IfOk r Q
if_ok (Ok x) f h = f x h
if_ok (Err e) f h = h

-- the tree of a node that was made of these parts
pub made : {K V : Type 0} (f : Fork K V) (t l r : List (K × V) × ℕ) (key k : K) (value w : Arc V Global) (h : ℕ) → t ≡ seen (Some f) → f ≡ record { left = l; key = key; value = value; height = h; right = r }
    → h ≡ max l.1 r.1 + 1 → (key ≡ k) × (value.value ≡ w.value) → t ≡ (l.0 ++ (k, w.value) ∷ r.0, max l.1 r.1 + 1)
made {K} {V} f t l r key k value w h is parts height entry =
    is ∙ ap (λ (x : Fork K V). seen (Some x)) parts ∙ ap (λ (x : ℕ). (l.0 ++ (key, value.value) ∷ r.0, x)) height
    ∙ ap (λ (x : K). (l.0 ++ (x, value.value) ∷ r.0, max l.1 r.1 + 1)) entry.0 ∙ ap (λ (x : V). (l.0 ++ (k, x) ∷ r.0, max l.1 r.1 + 1)) entry.1

-- ---- heights where a node of height h, of which the outer side isn't lower than the inner one, is beside a tree of height s

module _ (outer inner h s : ℕ) (is : h ≡ outer + 1) (level : outer ≤ inner + 2) (leans : inner ≤ outer) (high : (s + 2 ≤ h) × (h ≤ s + 3)) where
  pub once_below : DifferByAtMost 2 inner s
  once_below = (omega (arith, is, level, leans, high.0, high.1), omega (arith, is, level, leans, high.0, high.1))

  pub once_above : (m : ℕ) → m ≡ max inner s + 1 → DifferByAtMost 2 outer m
  once_above m e = (omega (arith, is, level, leans, high.0, high.1, e), omega (arith, is, level, leans, high.0, high.1, e))

  pub once_height : (m : ℕ) → m ≡ max inner s + 1 → (h ≤ max outer m + 1) × (max outer m + 1 ≤ h + 1)
  once_height m e = (omega (arith, is, level, leans, high.0, high.1, e), omega (arith, is, level, leans, high.0, high.1, e))

-- ---- and where the inner side, of which the sides are p and q from the outside, is higher than the outer one

module _ (outer inner p q h s : ℕ) (is : h ≡ inner + 1) (level : inner ≤ outer + 2) (leans : outer < inner) (sides : inner ≡ max p q + 1) (near : DifferByAtMost 2 p q) (high : (s + 2 ≤ h) × (h ≤ s + 3)) where
  pub twice_below : DifferByAtMost 2 outer p × DifferByAtMost 2 q s
  twice_below = ((omega (arith, is, level, leans, sides, near.0, near.1, high.0, high.1), omega (arith, is, level, leans, sides, near.0, near.1, high.0, high.1)), (omega (arith, is, level, leans, sides, near.0, near.1, high.0, high.1), omega (arith, is, level, leans, sides, near.0, near.1, high.0, high.1)))

  pub twice_above : (n m : ℕ) → n ≡ max outer p + 1 → m ≡ max q s + 1 → DifferByAtMost 2 n m
  twice_above n m d e = (omega (arith, is, level, leans, sides, near.0, near.1, high.0, high.1, d, e), omega (arith, is, level, leans, sides, near.0, near.1, high.0, high.1, d, e))

  pub twice_height : (n m : ℕ) → n ≡ max outer p + 1 → m ≡ max q s + 1 → (h ≤ max n m + 1) × (max n m + 1 ≤ h + 1)
  twice_height n m d e = (omega (arith, is, level, leans, sides, near.0, near.1, high.0, high.1, d, e), omega (arith, is, level, leans, sides, near.0, near.1, high.0, high.1, d, e))

-- ---- entries with one between them, on this side and on the other

pub assoc : {A : Type 0} (on : Side) (xs ys zs : List A) (f e : A) → in_order on (in_order on xs f ys) e zs ≡ in_order on xs f (in_order on ys e zs)
assoc Left xs ys zs f e = append_assoc xs (f ∷ ys) (e ∷ zs)
assoc Right xs ys zs f e = sym (append_assoc zs (e ∷ ys) (f ∷ xs))

pub length_on : {A : Type 0} (on : Side) (xs : List A) (e : A) (ys : List A) → length (in_order on xs e ys) ≡ length xs + suc (length ys)
length_on Left xs e ys = length-append xs (e ∷ ys)
length_on Right xs e ys = omega (arith, length-append ys (e ∷ xs))

module _ {K V : Type 0} (on : Side) (f : Fork K V) where
  pub seen_on : in_order on (side_on on f).0 (f.key, f.value.value) (side_on (opposite on) f).0 ≡ (seen (Some f)).0
  seen_on = by_side on
    where
      by_side : (on : Side) → in_order on (side_on on f).0 (f.key, f.value.value) (side_on (opposite on) f).0 ≡ (seen (Some f)).0
      by_side Left = refl
      by_side Right = refl

  pub lengths_on : length (side_on on f).0 + suc (length (side_on (opposite on) f).0) ≡ length (seen (Some f)).0
  lengths_on = side_lengths f _ refl on

  pub balanced_on : IsBalanced (Some f) → (f.height ≡ max (side_on on f).1 (side_on (opposite on) f).1 + 1) × DifferByAtMost 2 (side_on on f).1 (side_on (opposite on) f).1
  balanced_on b = by_side on
    where
      by_side : (on : Side) → (f.height ≡ max (side_on on f).1 (side_on (opposite on) f).1 + 1) × DifferByAtMost 2 (side_on on f).1 (side_on (opposite on) f).1
      by_side Left = b
      by_side Right = (omega (arith, b.0), (b.1.1, b.1.0))

module _ {K V : Type 0} (on : Side) (l r t : List (K × V) × ℕ) (e : K × V) (is : t ≡ (in_order on l.0 e r.0, max l.1 r.1 + 1)) where
  joined_length : length l.0 + suc (length r.0) ≡ length t.0
  joined_length = sym (length_on on l.0 e r.0) ∙ sym (ap (λ (x : List (K × V) × ℕ). length x.0) is)

  joined_height : t.1 ≡ max l.1 r.1 + 1
  joined_height = ap (λ (x : List (K × V) × ℕ). x.1) is

  joined_entries : t.0 ≡ in_order on l.0 e r.0
  joined_entries = ap (λ (x : List (K × V) × ℕ). x.0) is

module _ {K V : Type 0} (on : Side) (l r t : List (K × V) × ℕ) (e : K × V) where
  pub of_side : (a : List (K × V) × ℕ) → a ≡ l → t ≡ (in_order on a.0 e r.0, max a.1 r.1 + 1) → t ≡ (in_order on l.0 e r.0, max l.1 r.1 + 1)
  of_side a p is = is ∙ ap (λ (y : List (K × V) × ℕ). (in_order on y.0 e r.0, max y.1 r.1 + 1)) p

  pub of_other : (b : List (K × V) × ℕ) → b ≡ r → t ≡ (in_order on l.0 e b.0, max l.1 b.1 + 1) → t ≡ (in_order on l.0 e r.0, max l.1 r.1 + 1)
  of_other b q is = is ∙ ap (λ (y : List (K × V) × ℕ). (in_order on l.0 e y.0, max l.1 y.1 + 1)) q

-- the sides in the other order
pub other_order : {K V E : Type 0} (r : Result (List (K × V) × ℕ) E) (es : List (K × V)) (a b : ℕ) → IfOk r (λ t. t ≡ (es, max a b + 1)) → IfOk r (λ t. t ≡ (es, max b a + 1))
other_order r es a b = if_ok r (λ t is. let same : max a b + 1 ≡ max b a + 1 = omega arith in is ∙ ap (λ (n : ℕ). (es, n)) same)

-- ---- a node f, and an entry e with a tree s on the side away from this one, which is two or three lower

module _ {K V : Type 0} (on : Side) (f : Fork K V) (e : K × V) (s : List (K × V) × ℕ) (b : IsBalanced (Some f)) (high : (s.1 + 2 ≤ f.height) × (f.height ≤ s.1 + 3)) (few : length (seen (Some f)).0 + length s.0 + 1 < 2 ^ 64) where
  -- the tree is joined with the node's other side first
  module _ (leans : (side_on (opposite on) f).1 ≤ (side_on on f).1) where
    once_is : f.height ≡ (side_on on f).1 + 1
    once_is = omega (arith, (balanced_on on f b).0, leans)

    pub once : DifferByAtMost 2 (side_on (opposite on) f).1 s.1 × (length (side_on (opposite on) f).0 + length s.0 + 1 < 2 ^ 64)
    once = (once_below (side_on on f).1 (side_on (opposite on) f).1 f.height s.1 once_is (balanced_on on f b).1.0 leans high, omega (arith, lengths_on on f, few))

    module _ (t : List (K × V) × ℕ) (below : t ≡ (in_order on (side_on (opposite on) f).0 e s.0, max (side_on (opposite on) f).1 s.1 + 1)) where
      once_tall : t.1 ≡ max (side_on (opposite on) f).1 s.1 + 1
      once_tall = joined_height on _ _ t e below

      pub once_next : DifferByAtMost 2 (side_on on f).1 t.1 × (length (side_on on f).0 + length t.0 + 1 < 2 ^ 64)
      once_next = (once_above (side_on on f).1 (side_on (opposite on) f).1 f.height s.1 once_is (balanced_on on f b).1.0 leans high t.1 once_tall, omega (arith, lengths_on on f, joined_length on _ _ t e below, few))

      pub once_joined : {E : Type 0} (r : Result (List (K × V) × ℕ) E) → IfOk r (λ u. u ≡ (in_order on (side_on on f).0 (f.key, f.value.value) t.0, max (side_on on f).1 t.1 + 1))
          → IfOk r (λ u. (u.0 ≡ in_order on (seen (Some f)).0 e s.0) × (f.height ≤ u.1) × (u.1 ≤ f.height + 1))
      once_joined r = if_ok r (λ u is.
          let tall = once_height (side_on on f).1 (side_on (opposite on) f).1 f.height s.1 once_is (balanced_on on f b).1.0 leans high t.1 once_tall in
          let same : u.1 ≡ max (side_on on f).1 t.1 + 1 = joined_height on _ _ u _ is in (
            joined_entries on _ _ u _ is ∙ ap (in_order on (side_on on f).0 (f.key, f.value.value)) (joined_entries on _ _ t e below)
                ∙ sym (assoc on (side_on on f).0 (side_on (opposite on) f).0 s.0 (f.key, f.value.value) e) ∙ ap (λ (l : List (K × V)). in_order on l e s.0) (seen_on on f),
            omega (arith, tall.0, same),
            omega (arith, tall.1, same),
          ))

  -- the two are joined with the sides of the node i, which is at the top of the node's other side
  module _ (leans : (side_on on f).1 < (side_on (opposite on) f).1) (i : Fork K V) (bi : IsBalanced (Some i)) (top : seen (Some i) ≡ side_on (opposite on) f) where
    twice_inner : i.height ≡ (side_on (opposite on) f).1
    twice_inner = ap (λ (x : List (K × V) × ℕ). x.1) top

    twice_is : f.height ≡ i.height + 1
    twice_is = omega (arith, (balanced_on on f b).0, leans, twice_inner)

    twice_near : (i.height ≤ (side_on on f).1 + 2) × ((side_on on f).1 < i.height)
    twice_near = (omega (arith, (balanced_on on f b).1.1, twice_inner), omega (arith, leans, twice_inner))

    twice_length : length (side_on on i).0 + suc (length (side_on (opposite on) i).0) ≡ length (side_on (opposite on) f).0
    twice_length = lengths_on on i ∙ ap (λ (x : List (K × V) × ℕ). length x.0) top

    twice_level : DifferByAtMost 2 (side_on on f).1 (side_on on i).1 × DifferByAtMost 2 (side_on (opposite on) i).1 s.1
    twice_level = twice_below (side_on on f).1 i.height (side_on on i).1 (side_on (opposite on) i).1 f.height s.1 twice_is twice_near.0 twice_near.1 (balanced_on on i bi).0 (balanced_on on i bi).1 high

    pub twice : DifferByAtMost 2 (side_on (opposite on) i).1 s.1 × (length (side_on (opposite on) i).0 + length s.0 + 1 < 2 ^ 64)
    twice = (twice_level.1, omega (arith, lengths_on on f, twice_length, few))

    pub twice_other : DifferByAtMost 2 (side_on on f).1 (side_on on i).1 × (length (side_on on f).0 + length (side_on on i).0 + 1 < 2 ^ 64)
    twice_other = (twice_level.0, omega (arith, lengths_on on f, twice_length, few))

    module _ (m n : List (K × V) × ℕ) (after : m ≡ (in_order on (side_on (opposite on) i).0 e s.0, max (side_on (opposite on) i).1 s.1 + 1)) (before : n ≡ (in_order on (side_on on f).0 (f.key, f.value.value) (side_on on i).0, max (side_on on f).1 (side_on on i).1 + 1)) where
      pub twice_next : DifferByAtMost 2 n.1 m.1 × (length n.0 + length m.0 + 1 < 2 ^ 64)
      twice_next = (
        twice_above (side_on on f).1 i.height (side_on on i).1 (side_on (opposite on) i).1 f.height s.1 twice_is twice_near.0 twice_near.1 (balanced_on on i bi).0 (balanced_on on i bi).1 high n.1 m.1 (joined_height on _ _ n _ before) (joined_height on _ _ m e after),
        omega (arith, lengths_on on f, twice_length, joined_length on _ _ n _ before, joined_length on _ _ m e after, few),
      )

      pub twice_joined : {E : Type 0} (r : Result (List (K × V) × ℕ) E) → IfOk r (λ u. u ≡ (in_order on n.0 (i.key, i.value.value) m.0, max n.1 m.1 + 1))
          → IfOk r (λ u. (u.0 ≡ in_order on (seen (Some f)).0 e s.0) × (f.height ≤ u.1) × (u.1 ≤ f.height + 1))
      twice_joined r = if_ok r (λ u is.
          let tall = twice_height (side_on on f).1 i.height (side_on on i).1 (side_on (opposite on) i).1 f.height s.1 twice_is twice_near.0 twice_near.1 (balanced_on on i bi).0 (balanced_on on i bi).1 high n.1 m.1 (joined_height on _ _ n _ before) (joined_height on _ _ m e after) in
          let same : u.1 ≡ max n.1 m.1 + 1 = joined_height on _ _ u _ is in
          let middle : in_order on (side_on on i).0 (i.key, i.value.value) (side_on (opposite on) i).0 ≡ (side_on (opposite on) f).0 = seen_on on i ∙ ap (λ (x : List (K × V) × ℕ). x.0) top in (
            joined_entries on _ _ u _ is ∙ ap (λ (l : List (K × V)). in_order on l (i.key, i.value.value) m.0) (joined_entries on _ _ n _ before)
                ∙ ap (in_order on (in_order on (side_on on f).0 (f.key, f.value.value) (side_on on i).0) (i.key, i.value.value)) (joined_entries on _ _ m e after)
                ∙ assoc on (side_on on f).0 (side_on on i).0 (in_order on (side_on (opposite on) i).0 e s.0) (f.key, f.value.value) (i.key, i.value.value)
                ∙ ap (in_order on (side_on on f).0 (f.key, f.value.value)) (sym (assoc on (side_on on i).0 (side_on (opposite on) i).0 s.0 (i.key, i.value.value) e))
                ∙ sym (assoc on (side_on on f).0 (in_order on (side_on on i).0 (i.key, i.value.value) (side_on (opposite on) i).0) s.0 (f.key, f.value.value) e)
                ∙ ap (λ (l : List (K × V)). in_order on (in_order on (side_on on f).0 (f.key, f.value.value) l) e s.0) middle
                ∙ ap (λ (l : List (K × V)). in_order on l e s.0) (seen_on on f),
            omega (arith, tall.0, same),
            omega (arith, tall.1, same),
          ))

-- ---- a side of a node that has changed by one level at most

near_height : (side other old now h : ℕ) → old ≡ max side other + 1 → DifferByAtMost 2 side other → DifferByAtMost 1 now side → (max now other ≤ h) × (h ≤ max now other + 1) → (DifferByAtMost 1 now other → h ≡ max now other + 1) → DifferByAtMost 1 h old
near_height side other old now h is level near within exact = elim (cases_lt now side) [
  | inl lt ↦ elim (cases_lt other side) [
    | inl below ↦
        let e = exact (omega (arith, lt, below, near.0, near.1, level.0), omega (arith, lt, below, near.0, near.1, level.0)) in
        (omega (arith, is, lt, below, e, near.0, near.1), omega (arith, is, lt, below, e, near.0, near.1))
    | inr above ↦ (omega (arith, is, above, lt, within.0, within.1), omega (arith, is, above, lt, within.0, within.1))
  ]
  | inr ge ↦ (omega (arith, is, ge, near.0, near.1, within.0, within.1), omega (arith, is, ge, near.0, near.1, within.0, within.1))
]

module _ {K V : Type 0} (f : Fork K V) (b : IsBalanced (Some f)) (on : Side) (t c : List (K × V) × ℕ) (copied : c ≡ side_on (opposite on) f) (level : DifferByAtMost 1 t.1 (side_on on f).1) where
  pub with_side_level : DifferByAtMost 3 t.1 c.1
  with_side_level =
      let d = (balanced_on on f b).1 in
      let high : c.1 ≡ (side_on (opposite on) f).1 = ap (λ (x : List (K × V) × ℕ). x.1) copied in
      (omega (arith, d.0, d.1, high, level.0, level.1), omega (arith, d.0, d.1, high, level.0, level.1))

  pub with_side_near : {E : Type 0} (e : K × V) (r : Result (List (K × V) × ℕ) E) → IfOk r (λ u. (u.0 ≡ in_order on t.0 e c.0) × IsSettled t.1 c.1 u.1) → IfOk r (IsNear (in_order on t.0 e (side_on (opposite on) f).0) f.height)
  with_side_near e r = rw copied (if_ok r (λ u h. (h.0, near_height (side_on on f).1 (side_on (opposite on) f).1 f.height t.1 u.1 (balanced_on on f b).0 (balanced_on on f b).1 level (h.1.0, h.1.1) h.1.2)))
