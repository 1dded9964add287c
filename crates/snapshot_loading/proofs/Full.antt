-- Full pieces are those of their list.
use Rattle.std.proofs.Common.{◌≡◌, ℕ, zero, suc, ◌-◌, ◌<◌, ◌≤◌, List, [], ◌∷◌, ◌++◌, length, take, drop, refl, sym, ap, ◌∙◌, arith, append-nil, length-append, length-drop}
use Rattle.std.proofs.lemmas.List.{length-take, take_all}
use Rattle.snapshot_model.specs.Spelling.{pieces, in_pieces}
use Rattle.snapshot_loading.specs.Forests.{AreFull}
use Rattle.snapshot_loading.proofs.Forests.{flattened}

pub take_first : {A : Type 0} (xs ys : List A) → take (length xs) (xs ++ ys) ≡ xs
take_first [] ys = refl
take_first (x ∷ xs) ys = ap (λ l. x ∷ l) (take_first xs ys)

pub drop_first : {A : Type 0} (xs ys : List A) → drop (length xs) (xs ++ ys) ≡ ys
drop_first [] ys = refl
drop_first (x ∷ xs) ys = drop_first xs ys

-- the first piece, of a list that isn't empty
one_piece : {A : Type 0} (n size : ℕ) (xs : List A) → 1 ≤ length xs → pieces (suc n) size xs ≡ take size xs ∷ pieces n size (drop size xs)
one_piece n size [] h = absurd (omega (arith, h))
one_piece n size (x ∷ xs) h = refl

no_pieces : {A : Type 0} (n size : ℕ) → pieces {A = A} n size [] ≡ []
no_pieces zero size = refl
no_pieces (suc n) size = refl

all_dropped : {A : Type 0} (size : ℕ) (xs : List A) → length xs ≤ size → drop size xs ≡ []
all_dropped zero [] h = refl
all_dropped zero (x ∷ xs) h = absurd (omega (arith, h))
all_dropped (suc size) [] h = refl
all_dropped (suc size) (x ∷ xs) h = all_dropped size xs (omega (arith, h))

full_by : {A : Type 0} (n size : ℕ) (xss : List (List A)) → 1 ≤ size → AreFull size xss → length (flattened xss) ≤ n → pieces n size (flattened xss) ≡ xss
full_by n size [] some h long = no_pieces n size
full_by zero size (xs ∷ []) some h long = let count = length-append xs [] in absurd (omega (arith, h.0, long, count))
full_by (suc n) size (xs ∷ []) some h long =
    let all : xs ++ [] ≡ xs = append-nil xs in
    ap (λ l. pieces (suc n) size l) all ∙ one_piece n size xs h.0 ∙ ap (λ l. l ∷ pieces n size (drop size xs)) (take_all size xs h.1)
    ∙ ap (λ l. xs ∷ pieces n size l) (all_dropped size xs h.1) ∙ ap (λ l. xs ∷ l) (no_pieces n size)
full_by zero size (xs ∷ ys ∷ others) some h long = let count = length-append xs (flattened (ys ∷ others)) in absurd (omega (arith, h.0, long, count, some))
full_by (suc n) size (xs ∷ ys ∷ others) some h long =
    let rest = flattened (ys ∷ others) in
    let count = length-append xs rest in
    let more = full_by n size (ys ∷ others) some h.1 (omega (arith, h.0, long, count, some)) in
    one_piece n size (xs ++ rest) (omega (arith, count, h.0, some))
    ∙ ap (λ l. l ∷ pieces n size (drop size (xs ++ rest))) (ap (λ k. take k (xs ++ rest)) (sym h.0) ∙ take_first xs rest)
    ∙ ap (λ l. xs ∷ pieces n size l) (ap (λ k. drop k (xs ++ rest)) (sym h.0) ∙ drop_first xs rest) ∙ ap (λ l. xs ∷ l) more

pub full_pieces : {A : Type 0} (size : ℕ) (xss : List (List A)) → 1 ≤ size → AreFull size xss → in_pieces size (flattened xss) ≡ xss
full_pieces size xss some h = full_by (length (flattened xss)) size xss some h (omega arith)

some_taken : {A : Type 0} (size : ℕ) (x : A) (xs : List A) → 1 ≤ size → 1 ≤ length (take size (x ∷ xs))
some_taken size x xs some = omega (arith, length-take size (x ∷ xs), some)

-- a list's pieces are full
pub pieces_full : {A : Type 0} (n size : ℕ) (xs : List A) → 1 ≤ size → length xs ≤ n → AreFull size (pieces n size xs)
pieces_full zero size [] some long = tt
pieces_full zero size (x ∷ xs) some long = absurd (omega (arith, long))
pieces_full (suc n) size [] some long = tt
pieces_full (suc n) size (x ∷ xs) some long = by n (drop size (x ∷ xs)) (length-drop size (x ∷ xs)) (pieces_full n size (drop size (x ∷ xs)) some (omega (arith, length-drop size (x ∷ xs), some, long))) long
  where
    by : (k : ℕ) (rest : List _) → length rest ≡ length (x ∷ xs) - size → AreFull size (pieces k size rest) → length (x ∷ xs) ≤ suc k → AreFull size (take size (x ∷ xs) ∷ pieces k size rest)
    by zero [] count full short = (some_taken size x xs some, omega (arith, length-take size (x ∷ xs)))
    by (suc k) [] count full short = (some_taken size x xs some, omega (arith, length-take size (x ∷ xs)))
    by zero (y ∷ ys) count full short = absurd (omega (arith, count, short, some))
    by (suc k) (y ∷ ys) count full short = (omega (arith, length-take size (x ∷ xs), count), full)

-- more than one where they are more than fit into one
pub two_pieces : {A : Type 0} (size : ℕ) (xs : List A) → 1 ≤ size → size < length xs → 2 ≤ length (in_pieces size xs)
two_pieces size [] some many = absurd (omega (arith, many))
two_pieces size (x ∷ xs) some many = by (length xs) (drop size (x ∷ xs)) (length-drop size (x ∷ xs)) (omega (arith, some, many))
  where
    by : (k : ℕ) (rest : List _) → length rest ≡ length (x ∷ xs) - size → 1 ≤ k → 2 ≤ length (take size (x ∷ xs) ∷ pieces k size rest)
    by k [] count short = absurd (omega (arith, count, many))
    by zero (y ∷ ys) count short = absurd (omega (arith, short))
    by (suc k) (y ∷ ys) count short = omega arith
