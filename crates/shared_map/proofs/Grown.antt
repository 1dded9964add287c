-- A node f, of which a side was taken out (g), that has grown by one entry at most and is put back.
use Rattle.std.proofs.Common.{◌≡◌, ℕ, ◌+◌, ◌^◌, ◌<◌, ◌≤◌, T, List, [], ◌∷◌, ◌++◌, length, length-append, Option, Some, None, Result, Ok, Err, inl, inr, refl, sym, ap, ◌∙◌, subst, arith}
use Rattle.std.specs.Prelude.{max, OnOk, OnErr}
use Rattle.std.specs.Cmp.{IsTotalOrder}
use Rattle.std.specs.declared.cmp.Ordering.{Ordering}
use Rattle.std.specs.FinMap.Entries.{put, is_sorted}
use Rattle.std.proofs.lemmas.Bool.{cases_lt}
use Rattle.shared_map.specs.declared.tree.Fork.{Fork}
use Rattle.shared_map.specs.declared.tree.Side.{Side}
use Rattle.shared_map.specs.declared.tree.Side.TheVariants.{Left, Right}
use Rattle.shared_map.specs.Trees.{seen, side_on, with_side, side_to, opposite, in_order, IsTree, IsLow, IsGrown, IsSettled, DifferByAtMost}
use Rattle.shared_map.proofs.Forks.{side_lengths, put_side, put_own}
use Rattle.shared_map.proofs.Heights.{low_with_more, settled_grown}
use Rattle.shared_map.proofs.Joined.{balanced_on}
use Rattle.shared_map.proofs.Rows.{onto_on, err_on}
use Rattle.shared_map.proofs.Sides.{length_put, put_length}
use Rattle.shared_map.proofs.Turned.{kept_on, few_on, level_on, max_on, put_back}

settled_on : {K V : Type 0} (f : Fork K V) (n : ℕ) (on : Side) → IsSettled f.left.1 f.right.1 n → IsSettled (side_on on f).1 (side_on (opposite on) f).1 n
settled_on f n Left s = s
settled_on f n Right s = (omega (arith, s.0), omega (arith, s.1), λ d. omega (arith, s.2 (d.1, d.0)))

-- ---- a node h that is f with t on that side

module _ {K V : Type 0} (f h : Fork K V) (on : Side) (t : List (K × V) × ℕ) (set : h ≡ with_side on t f) where
  pub set_height : h.height ≡ f.height
  set_height = ap (λ (x : Fork K V). x.height) set ∙ by_side on
    where
      by_side : (on : Side) → (with_side on t f).height ≡ f.height
      by_side Left = refl
      by_side Right = refl

  pub set_side : side_on on h ≡ t
  set_side = ap (side_on on) set ∙ by_side on
    where
      by_side : (on : Side) → side_on on (with_side on t f) ≡ t
      by_side Left = refl
      by_side Right = refl

  pub set_entries : (seen (Some h)).0 ≡ in_order on t.0 (f.key, f.value.value) (side_on (opposite on) f).0
  set_entries = ap (λ (x : Fork K V). (seen (Some x)).0) set ∙ by_side on
    where
      by_side : (on : Side) → (seen (Some (with_side on t f))).0 ≡ in_order on t.0 (f.key, f.value.value) (side_on (opposite on) f).0
      by_side Left = refl
      by_side Right = refl

  pub set_fits : DifferByAtMost 2 t.1 (side_on (opposite on) f).1 → length t.0 + length (side_on (opposite on) f).0 + 1 < 2 ^ 64 → DifferByAtMost 2 h.left.1 h.right.1 × (length h.left.0 + length h.right.0 + 1 < 2 ^ 64)
  set_fits level few =
      let high = ap (λ (x : List (K × V) × ℕ). x.1) set_side in
      let far = ap (λ (x : List (K × V) × ℕ). x.1) (kept_on f on h t set) in
      let many = ap (λ (x : List (K × V) × ℕ). length x.0) set_side in
      let rest = ap (λ (x : List (K × V) × ℕ). length x.0) (kept_on f on h t set) in
      (level_on h on (omega (arith, high, far, level.0), omega (arith, high, far, level.1)), omega (arith, many, rest, few_on h on, few))

  pub set_settled : (n : ℕ) → IsSettled h.left.1 h.right.1 n → IsSettled t.1 (side_on (opposite on) f).1 n
  set_settled n s =
      subst (λ (x : List (K × V) × ℕ). IsSettled x.1 (side_on (opposite on) f).1 n) set_side
      (subst (λ (x : List (K × V) × ℕ). IsSettled (side_on on h).1 x.1 n) (kept_on f on h t set) (settled_on h n on s))

-- ---- another value under the node's own key

pub value_tree : {K V : Type 0} (l r : List (K × V)) (k : K) (v w : V) (h : ℕ) → IsLow (length (l ++ (k, v) ∷ r)) h → IsLow (length (l ++ (k, w) ∷ r)) h
value_tree l r k v w h low = subst (λ n. IsLow n h) (length-append l ((k, v) ∷ r) ∙ sym (length-append l ((k, w) ∷ r))) low

pub own_ok : {A E K V : Type 0} (M : Type 0) (r : Result A E) (f : Fork K V) (R : K → K → Ordering) → IsTotalOrder R → T (is_sorted R (seen (Some f)).0) → (k : K) (to : Option Side) → to ≡ side_to (R k f.key) → to ≡ None → (v w : V)
    → OnOk r ((w ≡ v) × M) → OnOk r (IsGrown (put R k v (seen (Some f)).0) f.height (f.left.0 ++ (f.key, w) ∷ f.right.0, f.height) × M)
own_ok {A} {E} {K} {V} M r f R o sorted k to goes none v w ok =
    onto_on r (λ h. ((ap (λ (x : V). f.left.0 ++ (f.key, x) ∷ f.right.0) h.0 ∙ put_own f _ refl R o sorted k to goes v none, omega arith, omega arith), h.1)) ok

-- ---- a key is put into the side, if that goes

module _ {K V : Type 0} (R : K → K → Ordering) (k : K) (v : V) (f g : Fork K V) (on : Side) (side t : List (K × V) × ℕ) (taken : g ≡ with_side on ([], 0) f) (was : side ≡ side_on on f) (tree : IsTree f) where
  again : in_order on t.0 (g.key, g.value.value) (side_on (opposite on) g).0 ≡ in_order on t.0 (f.key, f.value.value) (side_on (opposite on) f).0
  again = ap (λ (x : Fork K V). in_order on t.0 (x.key, x.value.value) (side_on (opposite on) x).0) taken ∙ by_side on
    where
      by_side : (on : Side) → in_order on t.0 ((with_side on ([], 0) f).key, (with_side on ([], 0) f).value.value) (side_on (opposite on) (with_side on ([], 0) f)).0 ≡ in_order on t.0 (f.key, f.value.value) (side_on (opposite on) f).0
      by_side Left = refl
      by_side Right = refl

  -- one that has grown, and is lower than the node, leaves a tree
  still_tree : length side.0 ≤ length t.0 → DifferByAtMost 2 t.1 (side_on (opposite on) f).1 → side.1 ≤ t.1 → t.1 ≤ side.1 + 1 → t.1 < g.height → IsTree (with_side on t g)
  still_tree more level low high below =
      let h : Fork K V = with_side on t g in
      let n = balanced_on on f tree.0 in
      let tall = set_height g h on t refl in
      let before = set_height f g on ([], 0) taken in
      let near = ap (λ (x : List (K × V) × ℕ). x.1) (set_side g h on t refl) in
      let many = ap (λ (x : List (K × V) × ℕ). length x.0) (set_side g h on t refl) in
      let rest = kept_on g on h t refl ∙ kept_on f on g ([], 0) taken in
      let far = ap (λ (x : List (K × V) × ℕ). x.1) rest in
      let others = ap (λ (x : List (K × V) × ℕ). length x.0) rest in
      let own = ap (λ (x : List (K × V) × ℕ). x.1) was in
      let owned = ap (λ (x : List (K × V) × ℕ). length x.0) was in
      let longer : length (seen (Some f)).0 ≤ length (seen (Some h)).0 = omega (arith, side_lengths f _ refl on, side_lengths h _ refl on, many, others, owned, more) in
      let same : f.height ≡ h.height = omega (arith, tall, before) in
      let height : h.height ≡ max h.left.1 h.right.1 + 1 = omega (arith, max_on h on, near, far, own, tall, before, n.0, low, high, below) in
      ((height, level_on h on (omega (arith, near, far, level.0), omega (arith, near, far, level.1))), low_with_more _ _ h.height (subst (λ m. IsLow (length (seen (Some f)).0) m) same tree.1) longer)

  module _ {A E : Type 0} (M N : Type 0) (r : Result A E) (ok : OnOk r (IsGrown (put R k v side.0) side.1 t × M)) (err : OnErr r ((t ≡ side) × N)) where
    near_by : (r : Result A E) → OnOk r (IsGrown (put R k v side.0) side.1 t × M) → OnErr r ((t ≡ side) × N) → (length side.0 ≤ length t.0) × (length t.0 ≤ length side.0 + 1) × (side.1 ≤ t.1) × (t.1 ≤ side.1 + 1)
    near_by (Ok x) ok err = (omega (arith, ap length ok.0.0, put_length R k v side.0), omega (arith, ap length ok.0.0, length_put R k v side.0), ok.0.1, ok.0.2)
    near_by (Err e) ok err =
        let high = ap (λ (x : List (K × V) × ℕ). x.1) err.0 in
        let many = ap (λ (x : List (K × V) × ℕ). length x.0) err.0 in
        (omega (arith, many), omega (arith, many), omega (arith, high), omega (arith, high))

    -- it can be put back
    pub grown_fits : (side_on on f).1 ≤ (side_on (opposite on) f).1 + 1 → length (seen (Some f)).0 + 1 < 2 ^ 64
        → DifferByAtMost 2 t.1 (side_on (opposite on) g).1 × (length t.0 + length (side_on (opposite on) g).0 + 1 < 2 ^ 64) × (t.1 < g.height → IsTree (with_side on t g))
    grown_fits lower few =
        let now = near_by r ok err in
        let n = balanced_on on f tree.0 in
        let far = ap (λ (x : List (K × V) × ℕ). x.1) (kept_on f on g ([], 0) taken) in
        let others = ap (λ (x : List (K × V) × ℕ). length x.0) (kept_on f on g ([], 0) taken) in
        let own = ap (λ (x : List (K × V) × ℕ). x.1) was in
        let owned = ap (λ (x : List (K × V) × ℕ). length x.0) was in
        let level : DifferByAtMost 2 t.1 (side_on (opposite on) f).1 = (omega (arith, own, now.2, now.3, lower), omega (arith, own, now.2, now.3, n.1.1)) in
        ((omega (arith, far, level.0), omega (arith, far, level.1)), omega (arith, side_lengths f _ refl on, others, owned, now.1, few), λ below. still_tree now.0 level now.2 now.3 below)

    -- ---- and the node is n then

    module _ (n : Fork K V) (lower : t.1 < g.height → n ≡ with_side on t g) where
      pub grown_ok : (o : IsTotalOrder R) → T (is_sorted R (seen (Some f)).0) → (to : Option Side) → to ≡ side_to (R k f.key) → to ≡ Some on
          → (seen (Some n)).0 ≡ in_order on t.0 (g.key, g.value.value) (side_on (opposite on) g).0 → (g.height ≤ t.1 → IsSettled t.1 (side_on (opposite on) g).1 n.height)
          → OnOk r (IsGrown (put R k v (seen (Some f)).0) f.height (seen (Some n)) × M)
      grown_ok o sorted to goes way entries settled =
          let is = balanced_on on f tree.0 in
          let before = set_height f g on ([], 0) taken in
          let own = ap (λ (x : List (K × V) × ℕ). x.1) was in
          let far = ap (λ (x : List (K × V) × ℕ). x.1) (kept_on f on g ([], 0) taken) in
          let all : (es : List (K × V)) → es ≡ put R k v side.0 → in_order on es (f.key, f.value.value) (side_on (opposite on) f).0 ≡ put R k v (seen (Some f)).0 =
          λ es e. ap (λ (l : List (K × V)). in_order on l (f.key, f.value.value) (side_on (opposite on) f).0) (e ∙ ap (λ (x : List (K × V) × ℕ). put R k v x.0) was) ∙ put_side f _ refl R o sorted k to goes v on way in
          let height : t.1 ≤ side.1 + 1 → (f.height ≤ n.height) × (n.height ≤ f.height + 1) =
          λ high. elim (cases_lt t.1 g.height) [
            | inl lt ↦ let as_was = ap (λ (x : Fork K V). x.height) (lower lt) ∙ set_height g _ on t refl in (omega (arith, as_was, before), omega (arith, as_was, before))
            | inr ge ↦
                let near = settled_grown side.1 (side_on (opposite on) g).1 t.1 n.height (omega (arith, is.0, before, own, far, ge)) high (settled ge) in
                (omega (arith, is.0, own, far, near.0), omega (arith, is.0, own, far, near.1))
          ] in
          onto_on r (λ h. ((entries ∙ again ∙ all t.0 h.0.0, (height h.0.2).0, (height h.0.2).1), h.1)) ok

      pub grown_err : OnErr r ((seen (Some n) ≡ seen (Some f)) × N)
      grown_err =
          let is = balanced_on on f tree.0 in
          let before = set_height f g on ([], 0) taken in
          err_on r (λ h. let same = ap (λ (x : List (K × V) × ℕ). x.1) (h.0 ∙ was) in (ap (λ (x : Fork K V). seen (Some x)) (put_back f on t g n taken (lower (omega (arith, same, before, is.0))) (h.0 ∙ was)), h.1)) err
