-- Elements of lists at their places.
use Rattle.std.proofs.Common.{◌≡◌, ℕ, zero, suc, ◌+◌, ◌<◌, ◌≤◌, List, [], ◌∷◌, ◌++◌, length, get_or, take, refl, sym, ap, ◌∙◌, subst, arith, Contains, ◌⊎◌, inl, inr, ⊎_elim, length-append}
use Rattle.std.specs.List.{All, AllByRecursion}
use Rattle.std.proofs.lemmas.Bool.{cases_lt}
use Rattle.std.proofs.lemmas.List.{get_or_default, get_or_append_left, get_or_push, take_more, take_all}
use Rattle.std.proofs.lemmas.List.Elements.{Contains-push_cases}
use Rattle.log_model.specs.Spelling.{HasSpelling}
use Rattle.log_records.specs.declared.record.Record as kept
use Rattle.log_records.specs.Records.{record_of, records_of}
use Rattle.conflict_list.specs.Tables.{At}

-- below one more number: below the number, or the number itself
pub below_or_at : (j n : ℕ) → j < n + 1 → (j < n) ⊎ (j ≡ n)
below_or_at j n h = ⊎_elim (λ lt. inl lt) (λ le. inr (omega (arith, h, le))) (cases_lt j n)

module _ {X : Type 0} where
  pub at_one : (xs : List X) (i : ℕ) (x y : X) → At xs i x → At xs i y → x ≡ y
  at_one xs i x y h g = h.1 ∙ get_or_default xs i x y h.0 ∙ sym g.1

  pub at_some : (xs : List X) (i : ℕ) → i < length xs → (x : X) × At xs i x
  at_some [] i lt = absurd (omega (arith, lt))
  at_some (x ∷ xs) i lt = (get_or (x ∷ xs) i x, (lt, get_or_default (x ∷ xs) i x (get_or (x ∷ xs) i x) lt))

  pub at_read : (xs : List X) (i : ℕ) (d : X) → i < length xs → At xs i (get_or xs i d)
  at_read xs i d lt = (lt, get_or_default xs i d (get_or xs i d) lt)

  pub at_contains : (xs : List X) (i : ℕ) (x : X) → At xs i x → Contains xs x
  at_contains xs i x h = (i, h.0, sym h.1)

  pub at_left : (xs ys : List X) (i : ℕ) (x : X) → At xs i x → At (xs ++ ys) i x
  at_left xs ys i x h = (
    (let l : length (xs ++ ys) ≡ length xs + length ys = length-append xs ys in let lt = h.0 in omega (arith, l, lt)),
    h.1 ∙ sym (get_or_append_left xs ys x i h.0),
  )

  pub at_push : (xs : List X) (y : X) → At (xs ++ y ∷ []) (length xs) y
  at_push xs y = (
    (let l : length (xs ++ y ∷ []) ≡ length xs + length (y ∷ []) = length-append xs (y ∷ []) in omega (arith, l)),
    sym (get_or_push xs y y (length xs) refl),
  )

  -- what holds of each element holds at each place
  pub all_at : (P : X → Type 0) (xs : List X) (i : ℕ) (x : X) → All P xs → At xs i x → P x
  all_at P xs i x all h = subst P (sym h.1) (all i x h.0)

  pub all_from_contains : (P : X → Type 0) (xs : List X) → ((x : X) → Contains xs x → P x) → All P xs
  all_from_contains P xs h k d lt = h (get_or xs k d) (k, lt, get_or_default xs k (get_or xs k d) d lt)

  pub all_contained : (P : X → Type 0) (xs : List X) (x : X) → All P xs → Contains xs x → P x
  all_contained P xs x all c = subst P c.2 (all c.0 x c.1)

  -- among the first ones and one more
  pub in_more : (xs : List X) (i : ℕ) (x y : X) → At xs i x → Contains (take (i + 1) xs) y → Contains (take i xs) y ⊎ (x ≡ y)
  in_more xs i x y h c = Contains-push_cases (take i xs) x y (subst (λ (l : List X). Contains l y) (take_more xs i x h.0 ∙ ap (λ (z : X). take i xs ++ z ∷ []) (sym h.1)) c)

  pub in_all : (xs : List X) (n : ℕ) (y : X) → length xs ≤ n → Contains xs y → Contains (take n xs) y
  in_all xs n y le c = subst (λ (l : List X). Contains l y) (sym (take_all n xs le)) c

pub spelled_at : (rs : List kept.Record) (i : ℕ) (x : kept.Record) → At rs i x → AllByRecursion HasSpelling (records_of rs) → HasSpelling (record_of x)
spelled_at [] i x h all = absurd (let lt = h.0 in omega (arith, lt))
spelled_at (r ∷ rs) zero x h all = subst (λ (y : kept.Record). HasSpelling (record_of y)) (sym h.1) all.0
spelled_at (r ∷ rs) (suc i) x h all = let lt = h.0 in let le : i < length rs = omega (arith, lt) in spelled_at rs i x (le, h.1) all.1
