-- Beginnings of histories, and the calls of one pass.
use Rattle.std.proofs.Common.{◌≡◌, ◌≢◌, ◌⊎◌, ℕ, ◌+◌, ◌≤◌, ◌==◌, Bool, true, false, if◌then◌else◌, nat_lt, List, [], ◌∷◌, ◌++◌, length, refl, ap, sym, ◌∙◌, subst, inl, inr, ⊎_elim, arith, append_assoc, length-append, eq-eqb, ne_eqb}
use Rattle.std.proofs.lemmas.List.{append-nil}
use mathlib.Core.List.{IsPrefix}
use mathlib.Core.Logic.{dite}
use native.Mathlib.Decide.{dec_le}
use Rattle.value_gate.specs.declared.history.Entry.{Entry}
use Rattle.value_gate.specs.Histories.{calls_by, AreNumbered, longer, IsLegal}

module _ {A : Type 0} where
  pub prefix_self : (xs : List A) → IsPrefix xs xs
  prefix_self xs = ([], append-nil xs)

  pub prefix_trans : (xs ys zs : List A) → IsPrefix xs ys → IsPrefix ys zs → IsPrefix xs zs
  prefix_trans xs ys zs p q = (p.0 ++ q.0, sym (append_assoc xs p.0 q.0) ∙ (ap (λ w. w ++ q.0) p.1 ∙ q.1))

  pub prefix_more : (xs ys zs : List A) → IsPrefix xs ys → IsPrefix xs (ys ++ zs)
  prefix_more xs ys zs p = prefix_trans xs ys (ys ++ zs) p (zs, refl)

  pub prefix_length : (xs ys : List A) → IsPrefix xs ys → length xs ≤ length ys
  prefix_length xs ys p = omega (arith, length-append xs p.0, ap length p.1)

  -- of two beginnings of one list the shorter begins the longer
  pub prefix_shorter : (xs ys zs : List A) → IsPrefix xs zs → IsPrefix ys zs → length xs ≤ length ys → IsPrefix xs ys
  prefix_shorter [] ys zs p q le = (ys, refl)
  prefix_shorter (x ∷ xs) [] zs p q le = absurd (omega arith)
  prefix_shorter (x ∷ xs) (y ∷ ys) [] p q le = absurd (cc (p.1))
  prefix_shorter (x ∷ xs) (y ∷ ys) (z ∷ zs) p q le =
      let heads : x ≡ y = cc (p.1, q.1) in
      let rest = prefix_shorter xs ys zs (p.0, cc (p.1)) (q.0, cc (q.1)) (omega arith) in
      (rest.0, cc (heads, rest.1))

  pub nothing_long : (xs : List A) → length xs ≡ 0 → xs ≡ []
  nothing_long [] e = refl
  nothing_long (x ∷ xs) e = absurd (omega arith)

  -- a beginning as long as the whole is the whole
  pub prefix_whole : (xs ys : List A) → IsPrefix xs ys → length ys ≤ length xs → xs ≡ ys
  prefix_whole xs ys p le =
      let none_left : p.0 ≡ [] = nothing_long p.0 (omega (arith, length-append xs p.0, ap length p.1)) in
      sym (append-nil xs) ∙ (ap (λ w. xs ++ w) (sym none_left) ∙ p.1)

  -- a beginning of a list one longer is a beginning of the list, or the whole
  pub prefix_end : (xs ys : List A) (y : A) → IsPrefix xs (ys ++ y ∷ []) → IsPrefix xs ys ⊎ (xs ≡ ys ++ y ∷ [])
  prefix_end xs ys y p = dite (dec_le (length xs) (length ys))
      (λ le. inl (prefix_shorter xs ys (ys ++ y ∷ []) p (y ∷ [], refl) le))
      (λ more. inr (prefix_whole xs (ys ++ y ∷ []) p (omega (arith, length-append ys (y ∷ []), more))))

module _ {T : Type 0} where
  pub calls_append : (n : ℕ) (xs ys : List (Entry T)) → calls_by n (xs ++ ys) ≡ calls_by n xs ++ calls_by n ys
  calls_append n [] ys = refl
  calls_append n (e ∷ es) ys = elim (n == e.pass) as (λ b. (if b then e ∷ calls_by n (es ++ ys) else calls_by n (es ++ ys)) ≡ (if b then e ∷ calls_by n es else calls_by n es) ++ calls_by n ys)
      [ true ↦ ap (λ l. e ∷ l) (calls_append n es ys) | false ↦ calls_append n es ys ]

  -- where the shortest and the longest of three have the same calls of a pass, the one between has these too
  pub calls_between : (n : ℕ) (xs ys zs : List (Entry T)) → IsPrefix xs ys → IsPrefix ys zs → calls_by n xs ≡ calls_by n zs → calls_by n ys ≡ calls_by n zs
  calls_between n xs ys zs p q same =
      let first : calls_by n ys ≡ calls_by n xs ++ calls_by n p.0 = ap (calls_by n) (sym p.1) ∙ calls_append n xs p.0 in
      let second : calls_by n zs ≡ calls_by n ys ++ calls_by n q.0 = ap (calls_by n) (sym q.1) ∙ calls_append n ys q.0 in
      let none_more : calls_by n q.0 ≡ [] = nothing_long (calls_by n q.0)
      (omega (arith, ap length first, ap length second, ap length same, length-append (calls_by n xs) (calls_by n p.0), length-append (calls_by n ys) (calls_by n q.0))) in
      sym (append-nil (calls_by n ys)) ∙ (ap (λ w. calls_by n ys ++ w) (sym none_more) ∙ sym second)

  pub calls_mine : (n : ℕ) (h : List (Entry T)) (e : Entry T) → e.pass ≡ n → calls_by n (h ++ e ∷ []) ≡ calls_by n h ++ e ∷ []
  calls_mine n h e mine = calls_append n h (e ∷ []) ∙ ap (λ b. calls_by n h ++ (if b then e ∷ [] else [])) (eq-eqb n e.pass (sym mine))

  pub calls_others : (n : ℕ) (h : List (Entry T)) (e : Entry T) → n ≢ e.pass → calls_by n (h ++ e ∷ []) ≡ calls_by n h
  calls_others n h e other = calls_append n h (e ∷ []) ∙ (ap (λ b. calls_by n h ++ (if b then e ∷ [] else [])) (ne_eqb n e.pass other) ∙ append-nil (calls_by n h))

  pub numbered_on : (n : ℕ) (es : List (Entry T)) (e : Entry T) → AreNumbered n es → e.call ≡ n + length es + 1 → AreNumbered n (es ++ e ∷ [])
  numbered_on n [] e all next = (omega arith, tt)
  numbered_on n (d ∷ ds) e all next = (all.0, numbered_on (n + 1) ds e all.1 (omega arith))

  pub numbered_front : (n : ℕ) (xs ys : List (Entry T)) → AreNumbered n (xs ++ ys) → AreNumbered n xs
  numbered_front n [] ys all = tt
  numbered_front n (x ∷ xs) ys all = (all.0, numbered_front (n + 1) xs ys all.1)

  either_of : (b : Bool) (xs ys : List (Entry T)) (F : List (Entry T) → Type 0) → (b ≡ true → F ys) → (b ≡ false → F xs) → F (if b then ys else xs)
  either_of true xs ys F second first = second refl
  either_of false xs ys F second first = first refl

  -- the longer of two is one of them, and no shorter than either
  pub longer_one : (xs ys : List (Entry T)) → (longer xs ys ≡ xs) ⊎ (longer xs ys ≡ ys)
  longer_one xs ys = either_of (nat_lt (length xs) (length ys)) xs ys (λ l. (l ≡ xs) ⊎ (l ≡ ys)) (λ _. inr refl) (λ _. inl refl)

  pub longer_length : (xs ys : List (Entry T)) → (length xs ≤ length (longer xs ys)) × (length ys ≤ length (longer xs ys))
  longer_length xs ys = either_of (nat_lt (length xs) (length ys)) xs ys (λ l. (length xs ≤ length l) × (length ys ≤ length l))
      (λ less. (grind (arith, less), omega arith)) (λ more. (omega arith, grind (arith, more)))

  pub longer_begins : (xs ys h : List (Entry T)) → IsPrefix xs h → IsPrefix ys h → IsPrefix (longer xs ys) h
  longer_begins xs ys h p q = either_of (nat_lt (length xs) (length ys)) xs ys (λ l. IsPrefix l h) (λ _. q) (λ _. p)

  pub longer_nothing : (ys : List (Entry T)) → longer [] ys ≡ ys
  longer_nothing ys = ⊎_elim
      (λ (none : longer [] ys ≡ []). let l = longer_length [] ys in none ∙ sym (nothing_long ys (omega (arith, l.1, ap length none))))
      (λ (all : longer [] ys ≡ ys). all)
      (longer_one [] ys)

module _ {A T : Type 0} (stands : A → List (Entry T) → A → Type 0) (opening : A) where
  pub legal_on : (h : List (Entry T)) (e : Entry T) (value : A) → IsLegal stands opening h → e.call ≡ length (calls_by e.pass h) + 1 → stands opening (h ++ e ∷ []) value → IsLegal stands opening (h ++ e ∷ [])
  legal_on h e value legal next now = record {
    numbered = λ n. dite (native.Mathlib.Decide.ℕ_discrete e.pass n)
        (λ mine. subst (AreNumbered 0) (sym (calls_mine n h e mine)) (numbered_on 0 (calls_by n h) e (legal.numbered n) (omega (arith, next, ap (λ (k : ℕ). length (calls_by k h)) mine))))
        (λ other. subst (AreNumbered 0) (sym (calls_others n h e (λ same. other (sym same)))) (legal.numbered n));
    reached = λ before p. ⊎_elim (λ q. legal.reached before q) (λ all. (value, subst (λ l. stands opening l value) (sym all) now)) (prefix_end before h e p);
  }

  pub legal_beginning : (xs h : List (Entry T)) → IsPrefix xs h → IsLegal stands opening h → IsLegal stands opening xs
  legal_beginning xs h p legal = record {
    numbered = λ n. numbered_front 0 (calls_by n xs) (calls_by n p.0) (subst (AreNumbered 0) (ap (calls_by n) (sym p.1) ∙ calls_append n xs p.0) (legal.numbered n));
    reached = λ before q. legal.reached before (prefix_trans before xs h q p);
  }
