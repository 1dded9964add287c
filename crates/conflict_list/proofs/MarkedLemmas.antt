-- The records under their numbers: one record more, in order, and parts of them.
use Rattle.std.proofs.Common.{◌≡◌, ℕ, ◌+◌, ◌-◌, ◌<◌, ◌≤◌, ◌^◌, true, false, Bool, List, [], ◌++◌, length, get_or, take, drop, map, min, sym, ap, ◌∙◌, subst, ⊎_elim, arith, Contains, length-take, length-drop, leb, ltb, leb-true, IsPermutation}
use Rattle.std.specs.List.{All}
use Rattle.std.specs.List.Sorted.{IsNonDecreasingBy, IsPartitionPoint}
use Rattle.std.proofs.lemmas.Bool.{cases_lt, ltb-true, ltb-false, leb-false}
use Rattle.std.proofs.lemmas.List.{get_or_default, get_or-take, get_or-drop, get_or-map, length-map}
use Rattle.std.proofs.lemmas.List.Elements.{All-append, All-map, All-weaker, Contains-append_left, Contains-append_right}
use Rattle.std.proofs.lemmas.List.Sorted.{All-permutation, Contains-permutation}
use Rattle.log_records.specs.declared.record.Record as kept
use Rattle.conflict_list.specs.declared.marked.Marked.{Marked}
use Rattle.conflict_list.specs.Numbers.{numbers_of}
use Rattle.conflict_list.specs.Order.{marked, order, order_of}
use Rattle.conflict_list.specs.Tables.{AreLate, AreMarked, At, Clashing, IsMarkOf, IsRun}
use Rattle.conflict_list.proofs.Places.{all_at, all_contained, at_contains, at_one, below_or_at}

pub in_map : {X Y : Type 0} (f : X → Y) (xs : List X) (x : X) → Contains xs x → Contains (map f xs) (f x)
in_map f xs x c = (
  c.0,
  (let l : length (map f xs) ≡ length xs = length-map xs f in let lt = c.1 in omega (arith, l, lt)),
  get_or-map f xs c.0 x (f x) c.1 ∙ ap f c.2,
)

-- ---- one record more

pub marked_more : (rs : List kept.Record) (of : List ℕ) (n : ℕ) (ms more : List Marked) (ks : List ℕ) (r : kept.Record) (log : ℕ) → At rs n r → AreMarked rs of n ms
    → log ≡ get_or of n 0 → log < 2 ^ 32 → ks ≡ numbers_of r.op → more ≡ ms ++ map (marked log n) ks → AreMarked rs of (n + 1) more
marked_more rs of n ms more ks r log here so_far is fits ks_are added = record {
  each = λ i j s k before lt clash stand c. ⊎_elim (λ less. earlier i j s k before less clash stand c) (λ now. latest j s k now stand c) (below_or_at j n lt);
  only = subst (λ (l : List Marked). All (IsMarkOf (n + 1) of) l) (sym added) (All-append (IsMarkOf (n + 1) of) ms (map (marked log n) ks)
      (All-weaker (IsMarkOf n of) (IsMarkOf (n + 1) of) (λ m h. (let lt = h.0 in omega (arith, lt), h.1, h.2)) ms so_far.only)
      (All-map (IsMarkOf (n + 1) of) (marked log n) ks (λ k d lt. (omega arith, is, fits))));
}
  where
    earlier : (i j : ℕ) (s : kept.Record) (k : ℕ) → i < j → j < n → Clashing rs i j → At rs j s → Contains (numbers_of s.op) k → Contains more (marked (get_or of j 0) j k)
    earlier i j s k before less clash stand c = subst (λ (l : List Marked). Contains l (marked (get_or of j 0) j k)) (sym added) (Contains-append_left ms (map (marked log n) ks) (marked (get_or of j 0) j k) (so_far.each i j s k before less clash stand c))

    latest : (j : ℕ) (s : kept.Record) (k : ℕ) → j ≡ n → At rs j s → Contains (numbers_of s.op) k → Contains more (marked (get_or of j 0) j k)
    latest j s k now stand c =
        let same : r ≡ s = at_one rs j r s (subst (λ (i : ℕ). At rs i r) (sym now) here) stand in
        let there : Contains ks k = subst (λ (l : List ℕ). Contains l k) (ap (λ (q : kept.Record). numbers_of q.op) (sym same) ∙ sym ks_are) c in
        let one : Contains more (marked log n k) = subst (λ (l : List Marked). Contains l (marked log n k)) (sym added) (Contains-append_right ms (map (marked log n) ks) (marked log n k) (in_map (marked log n) ks k there)) in
        subst (λ (i : ℕ). Contains more (marked (get_or of i 0) i k)) (sym now) (subst (λ (l : ℕ). Contains more (marked l n k)) is one)

pub none_marked : (rs : List kept.Record) (of : List ℕ) (ms : List Marked) → ms ≡ [] → AreMarked rs of 0 ms
none_marked rs of ms none = record {
  each = λ i j s k before lt clash stand c. absurd (omega (arith, lt));
  only = subst (All (IsMarkOf 0 of)) (sym none) (λ k d lt. absurd (omega (arith, lt)));
}

-- a record that isn't late has no marks
pub unmarked_more : (rs : List kept.Record) (of : List ℕ) (n : ℕ) (ms : List Marked) (late : List Bool) → n < length rs → AreLate rs (length rs) late → get_or late n false ≡ false
    → AreMarked rs of n ms → AreMarked rs of (n + 1) ms
unmarked_more rs of n ms late within lates early so_far = record {
  each = λ i j s k before lt clash stand c. ⊎_elim
      (λ less. so_far.each i j s k before less clash stand c)
      (λ now. absurd (cc (sym (lates i j before stand.0 clash) ∙ (ap (λ (x : ℕ). get_or late x false) now ∙ early))))
      (below_or_at j n lt);
  only = All-weaker (IsMarkOf n of) (IsMarkOf (n + 1) of) (λ m h. (let lt = h.0 in omega (arith, lt), h.1, h.2)) ms so_far.only;
}

-- in another order
pub marked_sorted : (rs : List kept.Record) (of : List ℕ) (n : ℕ) (ms more : List Marked) → IsPermutation ms more → AreMarked rs of n ms → AreMarked rs of n more
marked_sorted rs of n ms more p h = record {
  each = λ i j s k before lt clash stand c. Contains-permutation ms more (marked (get_or of j 0) j k) p (h.each i j s k before lt clash stand c);
  only = All-permutation (IsMarkOf n of) ms more p h.only;
}

-- ---- those between two bounds

module _ {X : Type 0} (f : X → ℕ) where
  pub part_has : (xs : List X) (rest : List X) (i n low high : ℕ) (x : X) → rest ≡ drop i xs → IsPartitionPoint (λ y. ltb (f y) low ≡ true) (λ y. ltb (f y) low ≡ false) xs i
      → IsPartitionPoint (λ y. leb (f y) high ≡ true) (λ y. leb (f y) high ≡ false) rest n → Contains xs x → low ≤ f x → f x ≤ high → Contains (take n rest) x
  part_has xs rest i n low high x same lower upper c over under =
      let within = c.1 in
      let l : length rest ≡ length xs - i = ap length same ∙ length-drop i xs in
      ⊎_elim
      (λ less. absurd (let lt : f (get_or xs c.0 x) < low = ltb-true (f (get_or xs c.0 x)) low (lower.0 c.0 x (omega arith) less) in let e : f (get_or xs c.0 x) ≡ f x = ap f c.2 in omega (arith, lt, e, over)))
      (λ from.
      let stand : i + (c.0 - i) ≡ c.0 = omega (arith, from) in
      let found : get_or rest (c.0 - i) x ≡ x = ap (λ (z : List X). get_or z (c.0 - i) x) same ∙ get_or-drop i xs (c.0 - i) x ∙ ap (λ (j : ℕ). get_or xs j x) stand ∙ c.2 in
      let inside : c.0 - i < length rest = omega (arith, l, within, from) in
      ⊎_elim
      (λ few. (
        c.0 - i,
        (let m : length (take n rest) ≡ min n (length rest) = length-take n rest in omega (arith, m, few, inside)),
        get_or-take n rest (c.0 - i) x few ∙ found,
      ))
      (λ many. absurd (let e : f (get_or rest (c.0 - i) x) ≡ f x = ap f found in let gt : high < f (get_or rest (c.0 - i) x) = leb-false (f (get_or rest (c.0 - i) x)) high (upper.1 (c.0 - i) x many inside) in omega (arith, e, gt, under)))
      (cases_lt (c.0 - i) n))
      (cases_lt c.0 i)

  pub part_is : (xs : List X) (rest : List X) (i n low high : ℕ) → rest ≡ drop i xs → IsPartitionPoint (λ y. ltb (f y) low ≡ true) (λ y. ltb (f y) low ≡ false) xs i
      → IsPartitionPoint (λ y. leb (f y) high ≡ true) (λ y. leb (f y) high ≡ false) rest n → All (λ x. Contains xs x × (low ≤ f x) × (f x ≤ high)) (take n rest)
  part_is xs rest i n low high same lower upper k d lt =
      let l : length rest ≡ length xs - i = ap length same ∙ length-drop i xs in
      let m : length (take n rest) ≡ min n (length rest) = length-take n rest in
      let few : k < n = omega (arith, m, lt) in
      let inside : k < length rest = omega (arith, m, lt) in
      let there : i + k < length xs = omega (arith, l, inside) in
      let e : get_or (take n rest) k d ≡ get_or xs (i + k) d = get_or-take n rest k d few ∙ (ap (λ (z : List X). get_or z k d) same ∙ get_or-drop i xs k d) in
      let high_enough : low ≤ f (get_or xs (i + k) d) = ltb-false (f (get_or xs (i + k) d)) low (lower.1 (i + k) d (omega arith) there) in
      let low_enough : f (get_or rest k d) ≤ high = leb-true (f (get_or rest k d)) high (upper.0 k d (omega arith) few) in
      subst (λ (x : X). Contains xs x × (low ≤ f x) × (f x ≤ high)) (sym e) (
        at_contains xs (i + k) (get_or xs (i + k) d) (there, get_or_default xs (i + k) d (get_or xs (i + k) d) there),
        high_enough,
        subst (λ (x : X). f x ≤ high) (ap (λ (z : List X). get_or z k d) same ∙ get_or-drop i xs k d) low_enough,
      )

-- ---- a run

abbrev pub IsOf : ℕ → Marked → Type 0
IsOf number m = (m.number ≡ number) × (m.log < 2 ^ 32) × (m.place < 2 ^ 32)

abbrev pub In : List Marked → ℕ → ℕ → Marked → Type 0
In group low high m = Contains group m × (low ≤ order m) × (order m ≤ high)

-- what is in a run is of its log
pub of_log : (m : Marked) (number log place : ℕ) → IsOf number m → log < 2 ^ 32 → order_of number log place + 1 ≤ order m → order m ≤ order_of number log 4294967295 → m.log ≡ log
of_log m number log place is fits low high =
    let n = is.0 in let l = is.1 in let p = is.2 in
    omega (arith, n, l, p, fits, low, high)

pub in_run : (m : Marked) (number log place : ℕ) → IsOf number m → m.log ≡ log → place < m.place → (order_of number log place + 1 ≤ order m) × (order m ≤ order_of number log 4294967295)
in_run m number log place is same later =
    let n = is.0 in let p = is.2 in
    (omega (arith, n, p, same, later), omega (arith, n, p, same, later))

pub run_is : (group run : List Marked) (number log place : ℕ) → log < 2 ^ 32 → All (IsOf number) group → All (In group (order_of number log place + 1) (order_of number log 4294967295)) run → IsNonDecreasingBy order run → IsRun run
run_is group run number log place fits ours parts up a b m n le at_a at_b =
    let one = facts a m at_a in
    let other = facts b n at_b in
    let rise : order (get_or run a m) ≤ order (get_or run b m) = up a b m le at_b.0 in
    let e : get_or run a m ≡ m = sym at_a.1 in
    let d : get_or run b m ≡ n = get_or_default run b m n at_b.0 ∙ sym at_b.1 in
    let rises : order m ≤ order n = subst (λ (x : Marked). order x ≤ order n) e (subst (λ (x : Marked). order (get_or run a m) ≤ order x) d rise) in
    let i = one.0 in let j = other.0 in let k = one.1 in let l = other.1 in
    (one.1 ∙ sym other.1, omega (arith, rises, i, j, k, l))
  where
    facts : (k : ℕ) (m : Marked) → At run k m → (m.number ≡ number) × (m.log ≡ log)
    facts k m h =
        let part = all_at (In group (order_of number log place + 1) (order_of number log 4294967295)) run k m parts h in
        let is = all_contained (IsOf number) group m ours part.0 in
        (is.0, of_log m number log place is fits part.1 part.2)
