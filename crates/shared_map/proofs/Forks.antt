-- A tree at its top: its entries are those of the left side, its own and those of the right side.
use Rattle.std.proofs.Common.{◌≡◌, ◌⊎◌, inl, inr, ℕ, suc, ◌+◌, ◌^◌, ◌<◌, ◌≤◌, T, true, not, List, [], ◌∷◌, ◌++◌, length, length-append, drop, Option, Some, None, Result, refl, sym, ap, ◌∙◌, subst, arith}
use Rattle.std.specs.Prelude.{IfOk}
use Rattle.std.specs.Ordering.{eq_by_cmp, is_le}
use Rattle.std.specs.Cmp.{IsTotalOrder}
use Rattle.std.specs.declared.cmp.Ordering.{Ordering}
use Rattle.std.specs.declared.cmp.Ordering.TheVariants.{Less, Equal, Greater}
use Rattle.std.specs.FinMap.Entries.{find as value_at, put, where_key, is_sorted}
use Rattle.shared_map.specs.declared.tree.Fork.{Fork}
use Rattle.shared_map.specs.declared.tree.Side.{Side}
use Rattle.shared_map.specs.declared.tree.Side.TheVariants.{Left, Right}
use Rattle.shared_map.specs.Trees.{seen, side_on, side_to, opposite, in_order, IsBalanced, IsTree, IsLow, IsCopy, IsNear}
use Rattle.shared_map.proofs.Sides as sides

pub near_is : {A E : Type 0} {B : Type 0} (r : Result (List (A × B) × ℕ) E) (es fs : List (A × B)) (h i : ℕ) → es ≡ fs → h ≡ i → IfOk r (IsNear es h) → IfOk r (IsNear fs i)
near_is r es fs h i e f n = subst (λ j. IfOk r (IsNear fs j)) f (subst (λ l. IfOk r (IsNear l h)) e n)

less_is : (o : Ordering) → side_to o ≡ Some Left → o ≡ Less
less_is Less e = refl
less_is Equal e = cc e
less_is Greater e = cc e

greater_is : (o : Ordering) → side_to o ≡ Some Right → o ≡ Greater
greater_is Less e = cc e
greater_is Equal e = cc e
greater_is Greater e = refl

pub equal_is : (o : Ordering) → side_to o ≡ None → o ≡ Equal
equal_is Less e = cc e
equal_is Equal e = refl
equal_is Greater e = cc e

module _ {K V : Type 0} (f : Fork K V) (now : List (K × V) × ℕ) (is : seen (Some f) ≡ now) where
  pub entries_are : f.left.0 ++ (f.key, f.value.value) ∷ f.right.0 ≡ now.0
  entries_are = ap (λ t. t.0) is

  pub height_is : f.height ≡ now.1
  height_is = ap (λ t. t.1) is

  pub lengths : length f.left.0 + suc (length f.right.0) ≡ length now.0
  lengths = sym (length-append f.left.0 ((f.key, f.value.value) ∷ f.right.0)) ∙ ap length entries_are

  pub shorter : (length f.left.0 < length now.0) × (length f.right.0 < length now.0)
  shorter = (omega (arith, lengths), omega (arith, lengths))

  -- ---- a side, whichever it is

  pub side_lengths : (on : Side) → length (side_on on f).0 + suc (length (side_on (opposite on) f).0) ≡ length now.0
  side_lengths Left = lengths
  side_lengths Right = omega (arith, lengths)

  pub shorter_side : (on : Side) → length (side_on on f).0 < length now.0
  shorter_side on = omega (arith, side_lengths on)

  -- one that was copied
  pub near_side : {E : Type 0} (on : Side) (es goal : List (K × V)) (t : List (K × V) × ℕ) → IsNear es (side_on on f).1 t → in_order on es (f.key, f.value.value) (side_on (opposite on) f).0 ≡ goal → (r : Result (List (K × V) × ℕ) E)
      → IfOk r (IsNear (in_order on t.0 (f.key, f.value.value) (side_on (opposite on) f).0) f.height) → IfOk r (IsNear goal now.1)
  near_side on es goal t n e r = near_is r _ _ _ _ (ap (λ l. in_order on l (f.key, f.value.value) (side_on (opposite on) f).0) n.0 ∙ e) height_is

  -- no more entries than can be counted
  pub few_side : (on : Side) (es : List (K × V)) (t : List (K × V) × ℕ) → IsNear es (side_on on f).1 t → length es ≤ length (side_on on f).0 + 1 → length now.0 + 1 < 2 ^ 64 → length t.0 + length (side_on (opposite on) f).0 + 1 < 2 ^ 64
  few_side on es t n short few = omega (arith, side_lengths on, ap length n.0, short, few)

  pub fewer_side : (on : Side) (es : List (K × V)) (t : List (K × V) × ℕ) → IsNear es (side_on on f).1 t → length es ≤ length (side_on on f).0 → length now.0 < 2 ^ 64 → length t.0 + length (side_on (opposite on) f).0 + 1 < 2 ^ 64
  fewer_side on es t n short few = omega (arith, side_lengths on, ap length n.0, short, few)

  pub few_sides : length now.0 < 2 ^ 64 → length f.left.0 + length f.right.0 + 1 < 2 ^ 64
  few_sides few = omega (arith, lengths, few)

  -- ---- the first entry

  -- it is the node's own where the left side is empty
  pub first_gone : ([], 0) ≡ f.left → IsBalanced (Some f) → (t : List (K × V) × ℕ) → t ≡ f.right → IsNear (drop 1 now.0) now.1 t
  first_gone empty b t e =
      let after : f.right.0 ≡ drop 1 now.0 = ap (λ (l : List (K × V) × ℕ). drop 1 (l.0 ++ (f.key, f.value.value) ∷ f.right.0)) empty ∙ ap (drop 1) entries_are in
      let none : 0 ≡ f.left.1 = ap (λ (l : List (K × V) × ℕ). l.1) empty in
      let high : t.1 ≡ f.right.1 = ap (λ (l : List (K × V) × ℕ). l.1) e in
      (ap (λ (l : List (K × V) × ℕ). l.0) e ∙ after, (omega (arith, none, high, b.0, b.1.0, b.1.1, height_is), omega (arith, none, high, b.0, b.1.0, b.1.1, height_is)))

  drop_front : (xs ys : List (K × V)) → 0 < length xs → drop 1 xs ++ ys ≡ drop 1 (xs ++ ys)
  drop_front [] ys h = absurd (omega (arith, h))
  drop_front (x ∷ xs) ys h = refl

  drop_shorter : (xs : List (K × V)) → length (drop 1 xs) ≤ length xs
  drop_shorter [] = omega arith
  drop_shorter (x ∷ xs) = omega arith

  pub fewer_first : (t : List (K × V) × ℕ) → IsNear (drop 1 f.left.0) f.left.1 t → length now.0 < 2 ^ 64 → length t.0 + length f.right.0 + 1 < 2 ^ 64
  fewer_first t n few = fewer_side Left _ t n (drop_shorter f.left.0) few

  -- else the left side's
  pub first_left_gone : 0 < length f.left.0 → drop 1 f.left.0 ++ (f.key, f.value.value) ∷ f.right.0 ≡ drop 1 now.0
  first_left_gone some = drop_front f.left.0 _ some ∙ ap (drop 1) entries_are

  module _ (R : K → K → Ordering) (o : IsTotalOrder R) (sorted : T (is_sorted R now.0)) where
    whole : T (is_sorted R (f.left.0 ++ (f.key, f.value.value) ∷ f.right.0))
    whole = subst (λ l. T (is_sorted R l)) (sym entries_are) sorted

    pub sorted_sides : T (is_sorted R f.left.0) × T (is_sorted R f.right.0)
    sorted_sides = (sides.sorted_left R f.left.0 _ whole, sides.sorted_right R f.left.0 f.right.0 _ whole)

    pub sorted_side : (on : Side) → T (is_sorted R (side_on on f).0)
    sorted_side Left = sorted_sides.0
    sorted_side Right = sorted_sides.1

    module _ (k : K) where
      pub found_left : R k f.key ≡ Less → value_at R k f.left.0 ≡ value_at R k now.0
      found_left lt = sym (sides.find_left R o k f.left.0 f.right.0 _ whole lt) ∙ ap (λ l. value_at R k l) entries_are

      pub found_here : R k f.key ≡ Equal → Some f.value.value ≡ value_at R k now.0
      found_here eq = sym (sides.find_here R o k f.left.0 f.right.0 _ whole eq) ∙ ap (λ l. value_at R k l) entries_are

      pub found_right : R k f.key ≡ Greater → value_at R k f.right.0 ≡ value_at R k now.0
      found_right gt = sym (sides.find_right R o k f.left.0 f.right.0 _ whole gt) ∙ ap (λ l. value_at R k l) entries_are

      pub put_left : (v : V) → R k f.key ≡ Less → put R k v f.left.0 ++ (f.key, f.value.value) ∷ f.right.0 ≡ put R k v now.0
      put_left v lt = sym (sides.put_left R o k f.left.0 f.right.0 _ whole v lt) ∙ ap (λ l. put R k v l) entries_are

      pub put_here : (v : V) → R k f.key ≡ Equal → f.left.0 ++ (f.key, v) ∷ f.right.0 ≡ put R k v now.0
      put_here v eq = sym (sides.put_here R o k f.left.0 f.right.0 _ whole v eq) ∙ ap (λ l. put R k v l) entries_are

      pub put_right : (v : V) → R k f.key ≡ Greater → f.left.0 ++ (f.key, f.value.value) ∷ put R k v f.right.0 ≡ put R k v now.0
      put_right v gt = sym (sides.put_right R o k f.left.0 f.right.0 _ whole v gt) ∙ ap (λ l. put R k v l) entries_are

      pub without_left : R k f.key ≡ Less → where_key R (λ x. not (eq_by_cmp R k x)) f.left.0 ++ (f.key, f.value.value) ∷ f.right.0 ≡ where_key R (λ x. not (eq_by_cmp R k x)) now.0
      without_left lt = sym (sides.without_left R o k f.left.0 f.right.0 _ whole lt) ∙ ap (λ l. where_key R (λ x. not (eq_by_cmp R k x)) l) entries_are

      pub without_here : R k f.key ≡ Equal → f.left.0 ++ f.right.0 ≡ where_key R (λ x. not (eq_by_cmp R k x)) now.0
      without_here eq = sym (sides.without_here R o k f.left.0 f.right.0 _ whole eq) ∙ ap (λ l. where_key R (λ x. not (eq_by_cmp R k x)) l) entries_are

      pub without_right : R k f.key ≡ Greater → f.left.0 ++ (f.key, f.value.value) ∷ where_key R (λ x. not (eq_by_cmp R k x)) f.right.0 ≡ where_key R (λ x. not (eq_by_cmp R k x)) now.0
      without_right gt = sym (sides.without_right R o k f.left.0 f.right.0 _ whole gt) ∙ ap (λ l. where_key R (λ x. not (eq_by_cmp R k x)) l) entries_are

      -- a key that is on one side, or the node's own
      module _ (to : Option Side) (goes : to ≡ side_to (R k f.key)) where
        pub found_side : (on : Side) → to ≡ Some on → value_at R k (side_on on f).0 ≡ value_at R k now.0
        found_side Left e = found_left (less_is _ (sym goes ∙ e))
        found_side Right e = found_right (greater_is _ (sym goes ∙ e))

        pub found_own : to ≡ None → Some f.value.value ≡ value_at R k now.0
        found_own e = found_here (equal_is _ (sym goes ∙ e))

        pub put_side : (v : V) (on : Side) → to ≡ Some on → in_order on (put R k v (side_on on f).0) (f.key, f.value.value) (side_on (opposite on) f).0 ≡ put R k v now.0
        put_side v Left e = put_left v (less_is _ (sym goes ∙ e))
        put_side v Right e = put_right v (greater_is _ (sym goes ∙ e))

        pub put_own : (v : V) → to ≡ None → f.left.0 ++ (f.key, v) ∷ f.right.0 ≡ put R k v now.0
        put_own v e = put_here v (equal_is _ (sym goes ∙ e))

        pub without_side : (on : Side) → to ≡ Some on → in_order on (where_key R (λ x. not (eq_by_cmp R k x)) (side_on on f).0) (f.key, f.value.value) (side_on (opposite on) f).0 ≡ where_key R (λ x. not (eq_by_cmp R k x)) now.0
        without_side Left e = without_left (less_is _ (sym goes ∙ e))
        without_side Right e = without_right (greater_is _ (sym goes ∙ e))

        pub without_own : to ≡ None → f.left.0 ++ f.right.0 ≡ where_key R (λ x. not (eq_by_cmp R k x)) now.0
        without_own e = without_here (equal_is _ (sym goes ∙ e))

      pub from_left : is_le (R k f.key) ≡ true → where_key R (λ x. is_le (R k x)) f.left.0 ++ (f.key, f.value.value) ∷ f.right.0 ≡ where_key R (λ x. is_le (R k x)) now.0
      from_left le = sym (sides.from_left R o k f.left.0 f.right.0 _ whole (R k f.key) refl le) ∙ ap (λ l. where_key R (λ x. is_le (R k x)) l) entries_are

      pub from_right : R k f.key ≡ Greater → where_key R (λ x. is_le (R k x)) f.right.0 ≡ where_key R (λ x. is_le (R k x)) now.0
      from_right gt = sym (sides.from_right R o k f.left.0 f.right.0 _ whole gt) ∙ ap (λ l. where_key R (λ x. is_le (R k x)) l) entries_are

-- a tree with a node at its top has entries
pub some_entries : {K V : Type 0} (f : Fork K V) (now : List (K × V) × ℕ) → seen (Some f) ≡ now → 0 < length now.0
some_entries f now is = omega (arith, lengths f now is)

-- as many entries as before have as much room
pub few_again : {K V : Type 0} (f g : Fork K V) → (seen (Some g)).0 ≡ (seen (Some f)).0 → length f.left.0 + length f.right.0 + 1 < 2 ^ 64 → length g.left.0 + length g.right.0 + 1 < 2 ^ 64
few_again f g is few = omega (arith, lengths f _ refl, lengths g _ refl, ap length is, few)

-- ---- a node f that was to have one owner, which is itself or a copy: g, that becomes h, and stands where k does then

own_sides : {K V : Type 0} (f g : Fork K V) → (g ≡ f) ⊎ IsCopy f g → (g.left.1 ≡ f.left.1) × (g.right.1 ≡ f.right.1)
own_sides {K} {V} f g (inl e) = (ap (λ (x : Fork K V). x.left.1) e, ap (λ (x : Fork K V). x.right.1) e)
own_sides {K} {V} f g (inr c) = (ap (λ (x : List (K × V) × ℕ). x.1) c.0, ap (λ (x : List (K × V) × ℕ). x.1) c.4)

own_seen : {K V : Type 0} (f g : Fork K V) → (g ≡ f) ⊎ IsCopy f g → seen (Some g) ≡ seen (Some f)
own_seen {K} {V} f g (inl e) = ap (λ (x : Fork K V). seen (Some x)) e
own_seen {K} {V} f g (inr c) =
    ap (λ (x : List (K × V) × ℕ). (x.0 ++ (g.key, g.value.value) ∷ g.right.0, g.height)) c.0 ∙ ap (λ (x : K). (f.left.0 ++ (x, g.value.value) ∷ g.right.0, g.height)) c.1
    ∙ ap (λ (x : V). (f.left.0 ++ (f.key, x) ∷ g.right.0, g.height)) c.2 ∙ ap (λ (x : ℕ). (f.left.0 ++ (f.key, f.value.value) ∷ g.right.0, x)) c.3
    ∙ ap (λ (x : List (K × V) × ℕ). (f.left.0 ++ (f.key, f.value.value) ∷ x.0, f.height)) c.4

module _ {K V : Type 0} (f g h k : Fork K V) (own : (g ≡ f) ⊎ IsCopy f g) (back : k ≡ h) where
  -- what is known of g and h is so of f and k
  pub over_own : (P : List (K × V) × ℕ → List (K × V) × ℕ → Type 0) → P (seen (Some g)) (seen (Some h)) → P (seen (Some f)) (seen (Some k))
  over_own P p = subst (λ x. P x (seen (Some k))) (own_seen f g own) (subst (λ (x : Fork K V). P (seen (Some g)) (seen (Some x))) (sym back) p)

  module _ (left : (length h.left.0 ≡ length g.left.0) × (h.left.1 ≡ g.left.1)) (right : (length h.right.0 ≡ length g.right.0) × (h.right.1 ≡ g.right.1)) (height : h.height ≡ g.height) where
    own_length : length (seen (Some h)).0 ≡ length (seen (Some f)).0
    own_length = omega (arith, lengths h _ refl, lengths g _ refl, left.0, right.0, ap (λ (x : List (K × V) × ℕ). length x.0) (own_seen f g own))

    own_height : h.height ≡ f.height
    own_height = height ∙ ap (λ (x : List (K × V) × ℕ). x.1) (own_seen f g own)

    pub own_shape : (length (seen (Some k)).0 ≡ length (seen (Some f)).0) × (k.height ≡ f.height)
    own_shape = subst (λ (x : Fork K V). (length (seen (Some x)).0 ≡ length (seen (Some f)).0) × (x.height ≡ f.height)) (sym back) (own_length, own_height)

    pub own_tree : IsTree f → IsTree k
    own_tree tree =
        let sides = own_sides f g own in
        let low : IsLow (length (seen (Some h)).0) h.height = subst (λ n. IsLow n h.height) (sym own_length) (subst (λ n. IsLow (length (seen (Some f)).0) n) (sym own_height) tree.1) in
        let level : IsBalanced (Some h) =
        (omega (arith, tree.0.0, own_height, sides.0, sides.1, left.1, right.1), (omega (arith, tree.0.1.0, sides.0, sides.1, left.1, right.1), omega (arith, tree.0.1.1, sides.0, sides.1, left.1, right.1))) in
        subst (λ (x : Fork K V). IsTree x) (sym back) (level, low)
