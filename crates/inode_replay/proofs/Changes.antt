-- Ranges put in and taken out, and what that makes of the marks.
use Rattle.std.proofs.Common.{◌≡◌, ◌≢◌, ℕ, Bool, true, false, ◌-◌, ◌<◌, ◌≤◌, Option, Some, None, refl, sym, ap, ◌∙◌, inl, inr, arith}
use Rattle.std.proofs.lemmas.Bool.{cases_lt, cases_eq, both_ways, false_from_ne_true}
use Rattle.inode_replay.specs.declared.ranges.Range.{Range}
use Rattle.inode_replay.specs.Marks.{AreApart, AreSet, IsBare, IsFirstFrom}
use Rattle.inode_replay.proofs.FoundRanges.{ChangesOne, Shows}

same_test : (a b : Bool) → (a ≡ true → b ≡ true) → (b ≡ true → a ≡ true) → a ≡ b
same_test true true f g = refl
same_test true false f g = sym (f refl)
same_test false true f g = g refl
same_test false false f g = refl

not_both : (o : Option ℕ) (s : ℕ) → o ≡ Some s → o ≡ None → ⊥
not_both o s p q = cc

same_start : (o : Option ℕ) (s t : ℕ) → o ≡ Some s → o ≡ Some t → s ≡ t
same_start o s t p q = cc

module _ (old : ℕ → Option ℕ) (marked : ℕ → Bool) (shows : Shows old marked) (size : ℕ) (apart : AreApart old size) where
  pub none_behind : (p : ℕ) → size ≤ p → marked p ≡ false
  none_behind p h = false_from_ne_true (marked p) (λ m. let r = shows.from p m in let w = apart.within r.0 r.1 r.2 in omega arith)

  -- ---- no range beside the places

  pub bare_none : (start end : ℕ) → ((e : ℕ) → start ≤ e → old e ≡ None) → IsBare marked start end
  bare_none start end none p low high = false_from_ne_true (marked p) (λ m.
      let r = shows.from p m in
      not_both (old r.0) r.1 r.2 (none r.0 (omega arith)))

  pub bare_far : (start end : ℕ) (range : Range) → IsFirstFrom old start range → end < range.start → IsBare marked start end
  bare_far start end range is far p low high = false_from_ne_true (marked p) (λ m.
      let r = shows.from p m in
      let last : p < r.0 = r.4 in
      elim (cases_lt r.0 range.end) [
        | inl l ↦ not_both (old r.0) r.1 r.2 (is.first r.0 (omega arith) l)
        | inr l ↦ elim (cases_eq range.end r.0) [
          | inl same ↦
              let starts : range.start ≡ r.1 = same_start (old r.0) range.start r.1 (ap old (sym same) ∙ is.there) r.2 in
              omega arith
          | inr other ↦
              let w = apart.within range.end range.start is.there in
              let g = apart.gap range.end range.start r.0 r.1 is.there r.2 (omega arith) in
              omega arith
        ]
      ])

  module _ (new : ℕ → Option ℕ) (seen : ℕ → Bool) (shown : Shows new seen) (e s : ℕ) (some : s < e) where
    -- ---- a range put in

    module _ (bare : IsBare marked s e) (change : ChangesOne old new e (Some s)) where
      none_there : (a : ℕ) → old e ≡ Some a → ⊥
      none_there a is =
          let w = apart.within e a is in
          both_ways (marked (e - 1)) (bare (e - 1) (omega arith) (omega arith)) (shows.inside (e - 1) e a is (omega arith) (omega arith))

      put_outside : (p : ℕ) → (s ≤ p → p < e → ⊥) → seen p ≡ marked p
      put_outside p outside = same_test (seen p) (marked p)
          (λ m. let r = shown.from p m in elim (cases_eq r.0 e) [
            | inl same ↦
                let starts : s ≡ r.1 = same_start (new e) s r.1 change.0 (ap new (sym same) ∙ r.2) in
                absurd (outside (omega arith) (omega arith))
            | inr other ↦ shows.inside p r.0 r.1 (sym (change.1 r.0 other) ∙ r.2) r.3 r.4
          ])
          (λ m. let r = shows.from p m in elim (cases_eq r.0 e) [
            | inl same ↦ absurd (none_there r.1 (ap old (sym same) ∙ r.2))
            | inr other ↦ shown.inside p r.0 r.1 (change.1 r.0 other ∙ r.2) r.3 r.4
          ])

      pub put_sets : AreSet marked seen s e true
      put_sets = record {
        inside = λ p low high. shown.inside p e s change.0 low high;
        before = λ p l. put_outside p (λ low high. omega arith);
        behind = λ p l. put_outside p (λ low high. omega arith);
      }

      pub put_apart : e ≤ size → AreApart new size
      put_apart fits = record {
        within = λ x a is. elim (cases_eq x e) [
          | inl same ↦
              let starts : s ≡ a = same_start (new e) s a change.0 (ap new (sym same) ∙ is) in
              (omega arith, omega arith)
          | inr other ↦ apart.within x a (sym (change.1 x other) ∙ is)
        ];
        gap = λ x a y b has next less. elim (cases_eq x e) [
          | inl same ↦
              let other : y ≢ e = λ h. omega arith in
              let is : old y ≡ Some b = sym (change.1 y other) ∙ next in
              elim (cases_lt x b) [
                | inl l ↦ l
                | inr l ↦ absurd (both_ways (marked e) (bare e (omega arith) (omega arith)) (shows.inside e y b is (omega arith) (omega arith)))
              ]
          | inr other ↦
              let is : old x ≡ Some a = sym (change.1 x other) ∙ has in
              elim (cases_eq y e) [
                | inl same ↦
                    let starts : s ≡ b = same_start (new e) s b change.0 (ap new (sym same) ∙ next) in
                    let w = apart.within x a is in
                    elim (cases_lt x b) [
                      | inl l ↦ l
                      | inr l ↦ absurd (both_ways (marked (x - 1)) (bare (x - 1) (omega arith) (omega arith)) (shows.inside (x - 1) x a is (omega arith) (omega arith)))
                    ]
                | inr more ↦ apart.gap x a y b is (sym (change.1 y more) ∙ next) less
              ]
        ];
      }

    -- ---- a range taken out

    module _ (there : old e ≡ Some s) (change : ChangesOne old new e None) where
      kept : (x a : ℕ) → new x ≡ Some a → (x ≢ e) × (old x ≡ Some a)
      kept x a is = elim (cases_eq x e) [
        | inl same ↦ absurd (not_both (new e) a (ap new (sym same) ∙ is) change.0)
        | inr other ↦ (other, sym (change.1 x other) ∙ is)
      ]

      pub taken_apart : AreApart new size
      taken_apart = record {
        within = λ x a is. apart.within x a (kept x a is).1;
        gap = λ x a y b has next less. apart.gap x a y b (kept x a has).1 (kept y b next).1 less;
      }

      pub taken_bare : IsBare seen s e
      taken_bare p low high = false_from_ne_true (seen p) (λ m.
          let r = shown.from p m in
          let k = kept r.0 r.1 r.2 in
          let other : r.0 ≢ e = k.0 in
          elim (cases_lt r.0 e) [
            | inl l ↦ let g = apart.gap r.0 r.1 e s k.1 there l in omega arith
            | inr l ↦ let g = apart.gap e s r.0 r.1 there k.1 (omega arith) in omega arith
          ])

      taken_outside : (p : ℕ) → (s ≤ p → p < e → ⊥) → seen p ≡ marked p
      taken_outside p outside = same_test (seen p) (marked p)
          (λ m. let r = shown.from p m in shows.inside p r.0 r.1 (kept r.0 r.1 r.2).1 r.3 r.4)
          (λ m. let r = shows.from p m in elim (cases_eq r.0 e) [
            | inl same ↦
                let starts : s ≡ r.1 = same_start (old e) s r.1 there (ap old (sym same) ∙ r.2) in
                absurd (outside (omega arith) (omega arith))
            | inr other ↦ shown.inside p r.0 r.1 (change.1 r.0 other ∙ r.2) r.3 r.4
          ])

      pub taken_sets : AreSet marked seen s e false
      taken_sets = record {
        inside = λ p low high. taken_bare p (omega arith) (omega arith);
        before = λ p l. taken_outside p (λ low high. omega arith);
        behind = λ p l. taken_outside p (λ low high. omega arith);
      }
