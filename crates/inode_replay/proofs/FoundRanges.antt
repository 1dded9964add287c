-- What the map's entries say of ranges and marks.
use Rattle.std.proofs.Common.{◌≡◌, ◌≢◌, ℕ, Bool, true, false, not, ◌&&◌, ◌<◌, ◌≤◌, ltb, leb, T, List, [], ◌∷◌, length, get_or, map, take, drop, Option, Bor, Some, None, refl, sym, ap, subst, ◌∙◌, cond, inl, inr, arith}
use Rattle.std.proofs.lemmas.Bool.{cases_lt, cases_eq, both_ways, and_parts, and_from, or_cases, or_left, or_right, false≢true, ltb-true, leb-true, lt-ltb, le-leb}
use Rattle.std.proofs.lemmas.List.{nil_from_length}
use Rattle.std.specs.declared.cmp.Ordering.TheVariants.{Less, Equal, Greater}
use Rattle.std.specs.Ordering.{nat_cmp, is_eq, is_lt, is_le, eq_by_cmp}
use Rattle.std.specs.Cmp.{IsTotalOrder, nat_cmp_total, nat_cmp_is}
use Rattle.std.proofs.lemmas.Cmp.{on_total}
use Rattle.std.specs.FinMap.Entries.{find as value_at, put, where_key, is_sorted, below_all, find-put, find-where_key, is_sorted-where_key}
use Rattle.inode_replay.specs.declared.ranges.RangeEnd.{RangeEnd}
use Rattle.inode_replay.specs.Ends.{end_cmp}
use Rattle.inode_replay.specs.Marks.{start_of, contains, is_marked, IsFirstFrom}

abbrev pub Entries : Type 0
Entries = List (RangeEnd × ℕ)

pub total : IsTotalOrder end_cmp
total = on_total (λ e. e.0) nat_cmp_total

-- at one end another start, and at the others the same
abbrev pub ChangesOne : (ℕ → Option ℕ) → (ℕ → Option ℕ) → ℕ → Option ℕ → Type 0
ChangesOne old new end start = (new end ≡ start) × ((e : ℕ) → e ≢ end → new e ≡ old e)

-- a place is marked just where a range has it
pub record Shows (starts : ℕ → Option ℕ) (marked : ℕ → Bool) : Type 0 where
  pub inside : (p e s : ℕ) → starts e ≡ Some s → s ≤ p → p < e → marked p ≡ true
  pub from : (p : ℕ) → marked p ≡ true → (e : ℕ) × (s : ℕ) × (starts e ≡ Some s) × (s ≤ p) × (p < e)

-- ---- numbers as keys

same_eq : (n : ℕ) → is_eq (nat_cmp n n) ≡ true
same_eq n = ap is_eq (sym (nat_cmp_is n n Equal refl))

apart_eq : (n k : ℕ) → n ≢ k → is_eq (nat_cmp n k) ≡ false
apart_eq n k h = elim (cases_lt n k) [
  | inl l ↦ ap is_eq (sym (nat_cmp_is n k Less l))
  | inr g ↦
      let above : k < n = omega arith in
      ap is_eq (sym (nat_cmp_is n k Greater above))
]

equal_is : (n k : ℕ) → nat_cmp n k ≡ Equal → n ≡ k
equal_is n k e = elim (cases_eq n k) [
  | inl same ↦ same
  | inr apart ↦ let no : is_eq (nat_cmp n k) ≡ false = apart_eq n k apart in let yes : is_eq (nat_cmp n k) ≡ true = ap is_eq e in absurd (cc)
]

-- ---- one entry changed

module _ (k : ℕ) (es : Entries) where
  found : ℕ → Option ℕ
  found n = value_at end_cmp (record { 0 = n }) es

  pub put_one : (v : ℕ) → ChangesOne (start_of es) (start_of (put end_cmp (record { 0 = k }) v es)) k (Some v)
  unfolding found
  put_one v =
      let after = λ (n : ℕ). find-put end_cmp total (record { 0 = n }) (record { 0 = k }) v es in (
        after k ∙ ap (λ b. cond b (Some v) (found k)) (same_eq k),
        λ n h. after n ∙ ap (λ b. cond b (Some v) (found n)) (apart_eq n k h),
      )

  after_removal : (n : ℕ) → start_of (where_key end_cmp (λ x. not (eq_by_cmp end_cmp (record { 0 = k }) x)) es) n ≡ cond (not (is_eq (nat_cmp k n))) (found n) None
  unfolding found
  after_removal n = find-where_key end_cmp (λ x. not (is_eq (nat_cmp k x.0))) (record { 0 = n }) (λ x e. ap (λ m. not (is_eq (nat_cmp k m))) (sym (equal_is n x.0 e))) es

  pub removed_one : ChangesOne (start_of es) (start_of (where_key end_cmp (λ x. not (eq_by_cmp end_cmp (record { 0 = k }) x)) es)) k None
  unfolding found
  removed_one = (
    after_removal k ∙ ap (λ b. cond (not b) (found k) None) (same_eq k),
    λ n h. after_removal n ∙ ap (λ b. cond (not b) (found n) None) (apart_eq k n (λ e. h (sym e))),
  )

-- ---- marks

T-true : (b : Bool) → T b → b ≡ true
T-true true h = refl
T-true false h = absurd h

T-from : (b : Bool) → b ≡ true → T b
T-from b e = subst T (sym e) tt

both_parts : (a b : Bool) → T (a && b) → T a × T b
both_parts true b h = (tt, h)
both_parts false b h = absurd h

less_is : (n k : ℕ) → T (is_lt (nat_cmp n k)) → n < k
less_is n k h = elim (cases_lt n k) [
  | inl less ↦ less
  | inr above ↦ elim (cases_eq n k) [
    | inl same ↦ let no : is_lt (nat_cmp n k) ≡ false = ap is_lt (sym (nat_cmp_is n k Equal same)) in absurd (both_ways _ no (T-true _ h))
    | inr apart ↦
        let more : k < n = omega arith in
        let no : is_lt (nat_cmp n k) ≡ false = ap is_lt (sym (nat_cmp_is n k Greater more)) in
        absurd (both_ways _ no (T-true _ h))
  ]
]

-- no range of the rest ends at the first end or before it
none_before : (k : RangeEnd) (es : Entries) (n : ℕ) → T (below_all end_cmp k es) → n ≤ k.0 → start_of es n ≡ None
none_before k [] n h l = refl
none_before k (e ∷ es) n h l =
    let parts = both_parts (is_lt (nat_cmp k.0 e.0.0)) (below_all end_cmp k es) h in
    let above : k.0 < e.0.0 = less_is k.0 e.0.0 parts.0 in
    ap (λ b. cond b (Some e.1) (start_of es n)) (apart_eq n e.0.0 (λ same. omega arith)) ∙ none_before k es n parts.1 l

first_found : (e : RangeEnd × ℕ) (es : Entries) → start_of (e ∷ es) e.0.0 ≡ Some e.1
first_found e es = ap (λ b. cond b (Some e.1) (start_of es e.0.0)) (same_eq e.0.0)

-- what is found in the rest is found in the whole: no two ends are the same
found_later : (e : RangeEnd × ℕ) (es : Entries) (n v : ℕ) → T (below_all end_cmp e.0 es) → start_of es n ≡ Some v → start_of (e ∷ es) n ≡ Some v
found_later e es n v below is = elim (cases_eq n e.0.0) [
  | inl same ↦
      let none : start_of es e.0.0 ≡ None = none_before e.0 es e.0.0 below (omega arith) in
      let some : start_of es e.0.0 ≡ Some v = ap (start_of es) (sym same) ∙ is in
      absurd (cc)
  | inr apart ↦ ap (λ b. cond b (Some e.1) (start_of es n)) (apart_eq n e.0.0 apart) ∙ is
]

marked_from : (es : Entries) → T (is_sorted end_cmp es) → (p : ℕ) → is_marked es p ≡ true → (e : ℕ) × (s : ℕ) × (start_of es e ≡ Some s) × (s ≤ p) × (p < e)
marked_from [] h p m = absurd (false≢true m)
marked_from (e ∷ es) h p m =
    let parts = both_parts (below_all end_cmp e.0 es) (is_sorted end_cmp es) h in
    elim (or_cases (contains p e) (is_marked es p) m) [
      | inl here ↦
          let ends = and_parts (leb e.1 p) (ltb p e.0.0) here in
          (e.0.0, e.1, first_found e es, leb-true e.1 p ends.0, ltb-true p e.0.0 ends.1)
      | inr later ↦
          let r = marked_from es parts.1 p later in
          (r.0, r.1, found_later e es r.0 r.1 parts.0 r.2, r.3, r.4)
    ]

marked_inside : (es : Entries) (p e s : ℕ) → start_of es e ≡ Some s → s ≤ p → p < e → is_marked es p ≡ true
marked_inside [] p e s is low high = absurd (cc)
marked_inside (x ∷ es) p e s is low high = elim (cases_eq e x.0.0) [
  | inl same ↦
      let here : start_of (x ∷ es) e ≡ Some x.1 = ap (λ b. cond b (Some x.1) (start_of es e)) (ap (λ n. is_eq (nat_cmp e n)) (sym same) ∙ same_eq e) in
      let start : s ≡ x.1 = cc in
      let from : x.1 ≤ p = omega arith in
      let to : p < x.0.0 = omega arith in
      or_left (contains p x) (is_marked es p) (and_from (leb x.1 p) (ltb p x.0.0) (le-leb x.1 p from) (lt-ltb p x.0.0 to))
  | inr apart ↦
      let later : start_of (x ∷ es) e ≡ start_of es e = ap (λ b. cond b (Some x.1) (start_of es e)) (apart_eq e x.0.0 apart) in
      or_right (contains p x) (is_marked es p) (marked_inside es p e s (sym later ∙ is) low high)
]

pub shows : (es : Entries) → T (is_sorted end_cmp es) → Shows (start_of es) (is_marked es)
shows es ordered = record {
  inside = marked_inside es;
  from = marked_from es ordered;
}

-- ---- the first range from a place on

first_in : (es others : Entries) (end start : ℕ) → T (is_sorted end_cmp es) → take 1 es ≡ (record { 0 = end }, start) ∷ others → (start_of es end ≡ Some start) × ((n : ℕ) → n < end → start_of es n ≡ None)
first_in [] others end start h is = absurd (cc)
first_in (e ∷ es) others end start h is =
    let parts = both_parts (below_all end_cmp e.0 es) (is_sorted end_cmp es) h in
    let ends : e.0.0 ≡ end = ap (λ l. (get_or l 0 e).0.0) is in
    let starts : e.1 ≡ start = ap (λ l. (get_or l 0 e).1) is in (
      ap (start_of (e ∷ es)) (sym ends) ∙ first_found e es ∙ ap Some starts,
      λ n l.
          let below : n < e.0.0 = omega arith in
          ap (λ b. cond b (Some e.1) (start_of es n)) (apart_eq n e.0.0 (λ same. omega arith)) ∙ none_before e.0 es n parts.0 (omega arith),
    )

empty : (es : Entries) → take 1 es ≡ [] → (n : ℕ) → start_of es n ≡ None
empty [] is n = refl
empty (e ∷ es) is n = absurd (cc)

begins : {X : Type 0} (xs : List X) (x : X) → 0 < length xs → x ≡ get_or xs 0 x → xs ≡ x ∷ drop 1 xs
begins [] x some at = absurd (omega arith)
begins (y ∷ ys) x some at = ap (λ z. z ∷ ys) (sym at)

true_of : (b : Bool) (o : Option ℕ) (v : ℕ) → cond b o None ≡ Some v → b ≡ true
true_of true o v is = refl
true_of false o v is = absurd (cc)

module _ (place : ℕ) where
  from_here : RangeEnd → Bool
  from_here x = is_le (nat_cmp place x.0)

  le_from : (n : ℕ) → place ≤ n → is_le (nat_cmp place n) ≡ true
  le_from n h = elim (cases_eq place n) [
    | inl same ↦ ap is_le (sym (nat_cmp_is place n Equal same))
    | inr apart ↦
        let below : place < n = omega arith in
        ap is_le (sym (nat_cmp_is place n Less below))
  ]

  from_le : (n : ℕ) → is_le (nat_cmp place n) ≡ true → place ≤ n
  from_le n h = elim (cases_lt n place) [
    | inl below ↦ let no : is_le (nat_cmp place n) ≡ false = ap is_le (sym (nat_cmp_is place n Greater below)) in absurd (both_ways _ no h)
    | inr above ↦ above
  ]

  module _ (es : Entries) where
    rest : Entries
    rest = where_key end_cmp from_here es

    in_rest : (n : ℕ) → start_of rest n ≡ cond (is_le (nat_cmp place n)) (start_of es n) None
    unfolding rest from_here
    in_rest n = find-where_key end_cmp from_here (record { 0 = n }) (λ x e. ap (λ m. is_le (nat_cmp place m)) (sym (equal_is n x.0 e))) es

    in_rest_from : (n : ℕ) → place ≤ n → start_of es n ≡ start_of rest n
    in_rest_from n h = sym (in_rest n ∙ ap (λ b. cond b (start_of es n) None) (le_from n h))

    -- as the list of entries from the place on, of which there is at most one, tells it
    module _ (items : List (Bor RangeEnd × Bor ℕ)) (listed : map {B = RangeEnd × ℕ} (λ e. (e.0.now, e.1.now)) items ≡ take 1 (where_key end_cmp (λ x. is_le (nat_cmp place x.0)) es)) where
      pub none_from : length items ≤ 0 → (n : ℕ) → place ≤ n → start_of es n ≡ None
      unfolding rest from_here
      none_from short n h =
          let nothing : take 1 rest ≡ [] = sym listed ∙ ap (map {B = RangeEnd × ℕ} (λ e. (e.0.now, e.1.now))) (nil_from_length items (omega arith)) in
          in_rest_from n h ∙ empty rest nothing n

      pub first_is : T (is_sorted end_cmp es) → (x : Bor RangeEnd × Bor ℕ) → 0 < length items → x ≡ get_or items 0 x → IsFirstFrom (start_of es) place (record { start = x.1.now; end = x.0.now.0 })
      unfolding rest from_here
      first_is ordered x some at =
          let shown = λ (l : List (Bor RangeEnd × Bor ℕ)). map {B = RangeEnd × ℕ} (λ e. (e.0.now, e.1.now)) l in
          let is : take 1 rest ≡ (x.0.now, x.1.now) ∷ shown (drop 1 items) = sym listed ∙ ap shown (begins items x some at) in
          let h = first_in rest (shown (drop 1 items)) x.0.now.0 x.1.now (is_sorted-where_key end_cmp from_here es ordered) is in
          let passes : cond (is_le (nat_cmp place x.0.now.0)) (start_of es x.0.now.0) None ≡ Some x.1.now = sym (in_rest x.0.now.0) ∙ h.0 in
          let behind : place ≤ x.0.now.0 = from_le x.0.now.0 (true_of (is_le (nat_cmp place x.0.now.0)) (start_of es x.0.now.0) x.1.now passes) in
          record {
            there = in_rest_from x.0.now.0 behind ∙ h.0;
            behind = behind;
            first = λ e low high. in_rest_from e low ∙ h.1 e high;
          }
