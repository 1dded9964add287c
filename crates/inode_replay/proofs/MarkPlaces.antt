-- Lists of marks, place by place.
use Rattle.std.proofs.Common.{◌≡◌, ℕ, zero, suc, Bool, true, false, ◌+◌, ◌-◌, ◌<◌, ◌≤◌, min, max, List, [], ◌∷◌, ◌++◌, length, map, take, drop, replicate, cond, refl, sym, ap, ◌∙◌, inl, inr, arith, length-append, length-take, length-drop}
use Rattle.std.proofs.lemmas.Bool.{cases_lt}
use Rattle.std.proofs.lemmas.List.{ext_get_or, get_or_append_left, get_or-append_right, get_or-take, get_or-drop, get_or_past, get_or-replicate, length-replicate, take_all}
use Rattle.std.proofs.lemmas.List.Sums.{sum_by-cons, sum_by_more}
use Rattle.std.proofs.lemmas.List.FromFn.{length-map-range_with_len, get_or-map-range_with_len}
use Rattle.std.specs.List.{range_with_len}
use Rattle.inode_replay.specs.Marks.{start_of, is_marked, marks_of, count_marked, mark_at, AreApart, AreSet}
use Rattle.inode_replay.proofs.FoundRanges.{Entries, Shows}
use Rattle.inode_replay.proofs.Changes.{none_behind}

pub length-marks_of : (es : Entries) (size : ℕ) → length (marks_of es size) ≡ size
unfolding marks_of
length-marks_of es size = length-map-range_with_len (is_marked es) 0 size

pub at_marks : (es : Entries) (size : ℕ) → Shows (start_of es) (is_marked es) → AreApart (start_of es) size → (p : ℕ) → mark_at (marks_of es size) p ≡ is_marked es p
unfolding marks_of
at_marks es size shows apart p = elim (cases_lt p size) [
  | inl l ↦ get_or-map-range_with_len (is_marked es) 0 size p p false l (omega arith)
  | inr l ↦
      let long : length (map (is_marked es) (range_with_len 0 size)) ≡ size = length-map-range_with_len (is_marked es) 0 size in
      get_or_past (map (is_marked es) (range_with_len 0 size)) p false (omega arith) ∙ sym (none_behind (start_of es) (is_marked es) shows size apart p l)
]

-- ---- how many are marked

one : Bool → ℕ
one m = cond m 1 0

none_counted : (xs : List Bool) → ((p : ℕ) → mark_at xs p ≡ false) → count_marked xs ≡ 0
unfolding one
none_counted [] same = refl
none_counted (x ∷ xs) same =
    let first : one x ≡ 0 = ap one (same 0) in
    let rest = none_counted xs (λ p. same (suc p)) in
    sum_by-cons one x xs ∙ omega arith

pub same_count : (xs ys : List Bool) → ((p : ℕ) → mark_at xs p ≡ mark_at ys p) → count_marked xs ≡ count_marked ys
unfolding one
same_count [] ys same = sym (none_counted ys (λ p. sym (same p)))
same_count (x ∷ xs) [] same = none_counted (x ∷ xs) same
same_count (x ∷ xs) (y ∷ ys) same =
    let first : one x ≡ one y = ap one (same 0) in
    let rest = same_count xs ys (λ p. same (suc p)) in
    sum_by-cons one x xs ∙ (omega arith) ∙ sym (sum_by-cons one y ys)

module _ (xs ys : List Bool) (s e : ℕ) (order : s ≤ e) (long : length ys ≡ length xs) (bare : (p : ℕ) → s ≤ p → p < e → mark_at xs p ≡ false) (set : AreSet (mark_at xs) (mark_at ys) s e true) where
  counted_below : (n : ℕ) → n ≤ length xs → count_marked (take n ys) + min n s ≡ count_marked (take n xs) + min n e
  unfolding one
  counted_below zero h = omega arith
  counted_below (suc n) h =
      let next : n + 1 ≡ suc n = omega arith in
      let some : count_marked (take (suc n) xs) ≡ count_marked (take n xs) + one (mark_at xs n) = ap (λ k. count_marked (take k xs)) (sym next) ∙ sum_by_more one xs n false (omega arith) in
      let more : count_marked (take (suc n) ys) ≡ count_marked (take n ys) + one (mark_at ys n) = ap (λ k. count_marked (take k ys)) (sym next) ∙ sum_by_more one ys n false (omega arith) in
      let so_far = counted_below n (omega arith) in
      elim (cases_lt n s) [
        | inl l ↦ let same : one (mark_at ys n) ≡ one (mark_at xs n) = ap one (set.before n l) in omega arith
        | inr l ↦ elim (cases_lt n e) [
          | inl inside ↦
              let marked : one (mark_at ys n) ≡ 1 = ap one (set.inside n l inside) in
              let not_marked : one (mark_at xs n) ≡ 0 = ap one (bare n l inside) in
              omega arith
          | inr behind ↦ let same : one (mark_at ys n) ≡ one (mark_at xs n) = ap one (set.behind n behind) in omega arith
        ]
      ]

  pub counted : e ≤ length xs → count_marked ys ≡ count_marked xs + (e - s)
  counted fits =
      let n = length xs in
      let all = counted_below n (omega arith) in
      let whole : count_marked (take n xs) ≡ count_marked xs = ap count_marked (take_all n xs (omega arith)) in
      let wholes : count_marked (take n ys) ≡ count_marked ys = ap count_marked (take_all n ys (omega arith)) in
      omega arith

-- ---- lists that have the same marks

front_of : List Bool → ℕ → List Bool
front_of old size = take size old ++ replicate (size - length old) false

length-front : (old : List Bool) (size : ℕ) → length (front_of old size) ≡ size
unfolding front_of
length-front old size = simp (length-append, length-take, length-replicate) (omega arith)

at_front : (old : List Bool) (size p : ℕ) → p < size → mark_at (front_of old size) p ≡ mark_at old p
unfolding front_of
at_front old size p h =
    let long : length (take size old) ≡ min size (length old) = length-take size old in
    elim (cases_lt p (length old)) [
      | inl l ↦ get_or_append_left (take size old) (replicate (size - length old) false) false p (omega arith) ∙ get_or-take size old p false h
      | inr l ↦
          get_or-append_right (take size old) (replicate (size - length old) false) (length (take size old)) p false refl (omega arith)
          ∙ get_or-replicate (size - length old) (p - length (take size old)) false false (omega arith)
          ∙ sym (get_or_past old p false l)
    ]

pub resized_list : (old new : List Bool) (size : ℕ) → length new ≡ size → ((p : ℕ) → p < size → mark_at new p ≡ mark_at old p) → new ≡ take size old ++ replicate (size - length old) false
unfolding front_of
resized_list old new size long same = ext_get_or false new (front_of old size) (long ∙ sym (length-front old size)) (λ p h. same p (omega arith) ∙ sym (at_front old size p (omega arith)))

pub marked_list : (old new : List Bool) (start count : ℕ) → length new ≡ max (length old) (start + count) → AreSet (mark_at old) (mark_at new) start (start + count) true → new ≡ take start old ++ replicate (start - length old) false ++ replicate count true ++ drop (start + count) old
unfolding front_of
marked_list old new start count long set =
    let front = front_of old start in
    let ones = replicate count true in
    let rest = drop (start + count) old in
    let front_long : length front ≡ start = length-front old start in
    let ones_long : length ones ≡ count = length-replicate count true in
    let both_long : length (front ++ ones) ≡ start + count = length-append front ones ∙ omega arith in
    let rest_long : length rest ≡ length old - (start + count) = length-drop (start + count) old in
    let whole_long : length (front ++ ones ++ rest) ≡ length (front ++ ones) + length rest = length-append (front ++ ones) rest in
    let longs : length new ≡ length (front ++ ones ++ rest) = omega arith in
    ext_get_or false new (front ++ ones ++ rest) longs (λ p h. elim (cases_lt p (start + count)) [
      | inl l ↦ elim (cases_lt p start) [
        | inl first ↦
            set.before p first
            ∙ sym (at_front old start p first)
            ∙ sym (get_or_append_left front ones false p (omega arith))
            ∙ sym (get_or_append_left (front ++ ones) rest false p (omega arith))
        | inr second ↦
            set.inside p second l
            ∙ sym (get_or-replicate count (p - start) true false (omega arith))
            ∙ sym (get_or-append_right front ones start p false front_long second)
            ∙ sym (get_or_append_left (front ++ ones) rest false p (omega arith))
      ]
      | inr last ↦
          let same : (start + count) + (p - (start + count)) ≡ p = omega arith in
          set.behind p last
          ∙ ap (mark_at old) (sym same)
          ∙ sym (get_or-drop (start + count) old (p - (start + count)) false)
          ∙ sym (get_or-append_right (front ++ ones) rest (start + count) p false both_long last)
    ])

-- the same where the list first grows
pub grown_list : (old grown new : List Bool) (start count : ℕ) → length grown ≡ max (length old) (start + count) → ((p : ℕ) → mark_at grown p ≡ mark_at old p) → length new ≡ length grown → AreSet (mark_at grown) (mark_at new) start (start + count) true → new ≡ take start old ++ replicate (start - length old) false ++ replicate count true ++ drop (start + count) old
grown_list old grown new start count long same longs set = marked_list old new start count (longs ∙ long) (record {
  inside = set.inside;
  before = λ p l. set.before p l ∙ same p;
  behind = λ p l. set.behind p l ∙ same p;
})
