-- Runs of a directory's entries with their places.
use Rattle.std.proofs.Common.{◌≡◌, ℕ, zero, suc, ◌+◌, ◌-◌, ◌<◌, ◌≤◌, min, Bool, true, false, cond, List, [], ◌∷◌, ◌++◌, length, get_or, take, drop, map, refl, sym, ap, ◌∙◌, arith, append_assoc, nat_lt, nat_eq}
use Rattle.std.proofs.lemmas.List.{append-nil, take_rest, take_all, drop_all, drop_more, take_more, drop_min, map_push}
use Rattle.std.proofs.lemmas.Bool.{le-ltb, lt-ltb}
use Rattle.ivy_base.specs.declared.key.Key.{Key}
use Rattle.nfs_model.specs.Pages.{placed, fitting, at_least_one}

abbrev Pair : Type 0
Pair = List ℕ × Key

abbrev Place : Type 0
Place = ℕ × Pair

-- ---- places

drop-placed : (n k : ℕ) (es : List Pair) → drop n (placed k es) ≡ placed (k + n) (drop n es)
drop-placed zero k es = ap (λ (m : ℕ). placed m es) (omega arith)
drop-placed (suc n) k [] = refl
drop-placed (suc n) k (e ∷ es) = drop-placed n (k + 1) es ∙ ap (λ (m : ℕ). placed m (drop n es)) (omega arith)

take-placed : (n k : ℕ) (es : List Pair) → take n (placed k es) ≡ placed k (take n es)
take-placed zero k es = refl
take-placed (suc n) k [] = refl
take-placed (suc n) k (e ∷ es) = ap (λ (ps : List Place). (k + 1, e) ∷ ps) (take-placed n (k + 1) es)

pub length-placed : (k : ℕ) (es : List Pair) → length (placed k es) ≡ length es
length-placed k [] = refl
length-placed k (e ∷ es) = ap (λ (n : ℕ). suc n) (length-placed (k + 1) es)

get_or-placed : (k i : ℕ) (es : List Pair) (n : ℕ) (d : Pair) → i < length es → get_or (placed k es) i (n, d) ≡ (k + i + 1, get_or es i d)
get_or-placed k i [] n d lt = absurd (omega (arith, lt))
get_or-placed k zero (e ∷ es) n d lt = ap (λ (m : ℕ). (m, e)) (omega arith)
get_or-placed k (suc i) (e ∷ es) n d lt = get_or-placed (k + 1) i es n d (omega (arith, lt)) ∙ ap (λ (m : ℕ). (m, get_or es i d)) (omega arith)

-- the entry at a place
placed_at : (k i : ℕ) (es : List Pair) (e : Pair) → i < length es → e ≡ get_or es i e → get_or (placed k es) i (k + i + 1, e) ≡ (k + i + 1, e)
placed_at k i es e lt at = get_or-placed k i es (k + i + 1) e lt ∙ ap (λ (d : Pair). (k + i + 1, d)) (sym at)

within_places : (k i : ℕ) (es : List Pair) → i < length es → i < length (placed k es)
within_places k i es lt = omega (arith, lt, length-placed k es)

one_taken : (k i : ℕ) (es : List Pair) (e : Pair) → i < length es → e ≡ get_or es i e → take (i + 1) (placed k es) ≡ take i (placed k es) ++ (k + i + 1, e) ∷ []
one_taken k i es e lt at =
    take_more (placed k es) i (k + i + 1, e) (within_places k i es lt)
    ∙ ap (λ (p : Place). take i (placed k es) ++ p ∷ []) (placed_at k i es e lt at)

one_dropped : (k i : ℕ) (es : List Pair) (e : Pair) → i < length es → e ≡ get_or es i e → drop i (placed k es) ≡ (k + i + 1, e) ∷ drop (i + 1) (placed k es)
one_dropped k i es e lt at =
    drop_more (placed k es) i (k + i + 1, e) (within_places k i es lt)
    ∙ ap (λ (p : Place). p ∷ drop (i + 1) (placed k es)) (placed_at k i es e lt at)

-- ---- parts of a run

-- those after a cookie, which may be past the end
pub behind_cookie : (all : List Pair) (cookie n : ℕ) → n ≡ min cookie (length all) → placed n (take (length all - n) (drop n all)) ≡ drop cookie (placed 0 all)
behind_cookie all cookie n is =
    ap (λ (es : List Pair). placed n es) (take_rest all n)
    ∙ ap (λ (m : ℕ). placed m (drop n all)) (omega arith)
    ∙ sym (drop-placed n 0 all)
    ∙ ap (λ (m : ℕ). drop m (placed 0 all)) (is ∙ ap (min cookie) (sym (length-placed 0 all)))
    ∙ drop_min cookie (placed 0 all)

pub first_of : (k n : ℕ) (es : List Pair) → placed k (take n es) ≡ take n (placed k es)
first_of k n es = sym (take-placed n k es)

pub no_places : (k : ℕ) (es : List Pair) → length es ≡ 0 → placed k es ≡ []
no_places k [] h = refl
no_places k (e ∷ es) h = absurd (omega (arith, h))

-- the first entry alone, where nothing fits
pub one_at_least : (k j : ℕ) (es fit : List Pair) → length fit ≡ 0 → placed k (take (min (length es) 1) es) ≡ at_least_one (placed k es) (placed j fit)
one_at_least k j [] fit h = sym (no_places j fit h)
one_at_least k j (e ∷ es) fit h =
    let one : min (suc (length es)) 1 ≡ 1 = omega arith in
    ap (λ (m : ℕ). placed k (take m (e ∷ es))) one
    ∙ sym (ap (at_least_one ((k + 1, e) ∷ placed (k + 1) es)) (no_places j fit h))

pub some_there : (n : ℕ) → nat_eq n 0 ≡ false → 0 < n
some_there zero h = cc
some_there (suc n) h = omega arith

pub some_fit : (ps : List Place) (j : ℕ) (fit : List Pair) → 0 < length fit → placed j fit ≡ at_least_one ps (placed j fit)
some_fit ps j [] h = absurd (omega (arith, h))
some_fit [] j (f ∷ fs) h = refl
some_fit (p ∷ ps) j (f ∷ fs) h = refl

-- a page ends where its entries do, by their places too
pub same_end : (j k : ℕ) (page left : List Pair) → nat_eq (length page) (length left) ≡ nat_eq (length (placed j page)) (length (placed k left))
same_end j k page left = sym (λ i. nat_eq (length-placed j page i) (length-placed k left i))

-- ---- what fits

-- after the first entries there is so much room left
pub record FitsBefore (size : List ℕ → ℕ) (room : ℕ) (ps : List Place) (i left : ℕ) : Type 0 where
  pub split : fitting size room ps ≡ take i ps ++ fitting size left (drop i ps)

pub fits_at_first : (size : List ℕ → ℕ) (room : ℕ) (ps : List Place) → FitsBefore size room ps 0 room
fits_at_first size room ps = record { split = refl }

by_test : (b : Bool) (p : Place) (rest : List Place) → b ≡ false → cond b [] (p ∷ rest) ≡ p ∷ rest
by_test b p rest h = rw h refl

stopped : (b : Bool) (p : Place) (rest : List Place) → b ≡ true → cond b [] (p ∷ rest) ≡ []
stopped b p rest h = rw h refl

pub one_fits : (size : List ℕ → ℕ) (room k i left : ℕ) (es : List Pair) (e : Pair) → i < length es → e ≡ get_or es i e → size e.0 ≤ left
    → FitsBefore size room (placed k es) i left → FitsBefore size room (placed k es) (i + 1) (left - size e.0)
one_fits size room k i left es e lt at fits before = record {
  split =
      let ps : List Place = placed k es in
      let p : Place = (k + i + 1, e) in
      let rest : List Place = fitting size (left - size e.0) (drop (i + 1) ps) in
      let step : fitting size left (drop i ps) ≡ p ∷ rest = ap (fitting size left) (one_dropped k i es e lt at) ∙ by_test (nat_lt left (size e.0)) p rest (le-ltb left (size e.0) fits) in
      before.split ∙ ap (λ (l : List Place). take i ps ++ l) step
      ∙ sym (append_assoc (take i ps) (p ∷ []) rest)
      ∙ ap (λ (l : List Place). l ++ rest) (sym (one_taken k i es e lt at));
}

pub one_is_too_long : (size : List ℕ → ℕ) (room k i left : ℕ) (es : List Pair) (e : Pair) → i < length es → e ≡ get_or es i e → left < size e.0
    → FitsBefore size room (placed k es) i left → fitting size room (placed k es) ≡ take i (placed k es)
one_is_too_long size room k i left es e lt at long before =
    let ps : List Place = placed k es in
    let p : Place = (k + i + 1, e) in
    let step : fitting size left (drop i ps) ≡ [] = ap (fitting size left) (one_dropped k i es e lt at) ∙ stopped (nat_lt left (size e.0)) p _ (lt-ltb left (size e.0) long) in
    before.split ∙ ap (λ (l : List Place). take i ps ++ l) step ∙ append-nil (take i ps)

pub all_fit : (size : List ℕ → ℕ) (room k i left : ℕ) (es : List Pair) → length es ≤ i → FitsBefore size room (placed k es) i left → fitting size room (placed k es) ≡ take i (placed k es)
all_fit size room k i left es ge before =
    let ps : List Place = placed k es in
    before.split ∙ ap (λ (l : List Place). take i ps ++ fitting size left l) (drop_all i ps (omega (arith, ge, length-placed k es))) ∙ append-nil (take i ps)

-- ---- a page that is made entry by entry

pub one_listed : {B : Type 0} (f : Place → B) (k i : ℕ) (es : List Pair) (e : Pair) (page : List B) → i < length es → e ≡ get_or es i e
    → page ≡ map f (take i (placed k es)) → page ++ f (k + i + 1, e) ∷ [] ≡ map f (take (i + 1) (placed k es))
one_listed {B} f k i es e page lt at so_far =
    ap (λ (l : List B). l ++ f (k + i + 1, e) ∷ []) so_far
    ∙ sym (map_push f (take i (placed k es)) (k + i + 1, e))
    ∙ ap (map f) (sym (one_taken k i es e lt at))

pub all_listed : {B : Type 0} (f : Place → B) (k i : ℕ) (es : List Pair) (page : List B) → length es ≤ i → page ≡ map f (take i (placed k es)) → page ≡ map f (placed k es)
all_listed f k i es page ge so_far = so_far ∙ ap (map f) (take_all i (placed k es) (omega (arith, ge, length-placed k es)))
