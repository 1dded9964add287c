-- Lists in pieces.
use Rattle.std.proofs.Common.{◌≡◌, ℕ, zero, suc, ◌*◌, ◌≤◌, List, [], ◌∷◌, ◌++◌, length, map, take, drop, refl, sym, ap, ◌∙◌, arith, length-drop, subst}
use Rattle.std.specs.List.{AllByRecursion, flat_map}
use Rattle.std.proofs.lemmas.List.{length-take, take-append-drop, take-map, drop-map}
use Rattle.std.proofs.Math.Nat.{mul-suc}
use Rattle.log_model.proofs.Lists.{each_left, each_right}
use Rattle.snapshot_model.specs.Spelling.{pieces, in_pieces}

abbrev pub joined : {A : Type 0} → List (List A) → List A
joined xss = flat_map (λ xs. xs) xss

join-pieces : {A : Type 0} (n size : ℕ) (xs : List A) → 1 ≤ size → length xs ≤ n → joined (pieces n size xs) ≡ xs
join-pieces zero size [] some long = refl
join-pieces zero size (x ∷ xs) some long = absurd (omega (arith, long))
join-pieces (suc n) size [] some long = refl
join-pieces (suc n) size (x ∷ xs) some long =
    let rest = join-pieces n size (drop size (x ∷ xs)) some (omega (arith, length-drop size (x ∷ xs), some, long)) in
    ap (λ ys. take size (x ∷ xs) ++ ys) rest ∙ take-append-drop size (x ∷ xs)

-- the list is what its pieces are
pub join-in_pieces : {A : Type 0} (size : ℕ) (xs : List A) → 1 ≤ size → joined (in_pieces size xs) ≡ xs
join-in_pieces size xs some = join-pieces (length xs) size xs some (omega arith)

pub same_pieces : {A : Type 0} (size : ℕ) (xs ys : List A) → 1 ≤ size → in_pieces size xs ≡ in_pieces size ys → xs ≡ ys
same_pieces size xs ys some e = sym (join-in_pieces size xs some) ∙ ap joined e ∙ join-in_pieces size ys some

pub map-pieces : {A B : Type 0} (f : A → B) (n size : ℕ) (xs : List A) → pieces n size (map f xs) ≡ map (λ ys. map f ys) (pieces n size xs)
map-pieces f zero size xs = refl
map-pieces f (suc n) size [] = refl
map-pieces f (suc n) size (x ∷ xs) =
    let rest = ap (λ ys. pieces n size ys) (drop-map f size (x ∷ xs)) ∙ map-pieces f n size (drop size (x ∷ xs)) in
    rw (take-map f size (x ∷ xs), rest) refl

pub few_pieces : {A : Type 0} (n size : ℕ) (xs : List A) (k : ℕ) → length xs ≤ size * k → length (pieces n size xs) ≤ k
few_pieces zero size xs k h = omega arith
few_pieces (suc n) size [] k h = omega arith
few_pieces (suc n) size (x ∷ xs) zero h = absurd (omega (arith, h))
few_pieces (suc n) size (x ∷ xs) (suc k) h =
    let rest = few_pieces n size (drop size (x ∷ xs)) k (omega (arith, length-drop size (x ∷ xs), h, mul-suc size k)) in
    omega (arith, rest)

pub short_pieces : {A : Type 0} (n size : ℕ) (xs : List A) → AllByRecursion (λ ys. length ys ≤ size) (pieces n size xs)
short_pieces zero size xs = tt
short_pieces (suc n) size [] = tt
short_pieces (suc n) size (x ∷ xs) = (omega (arith, length-take size (x ∷ xs)), short_pieces n size (drop size (x ∷ xs)))

pub each_joined : {A : Type 0} (P : A → Type 0) (n size : ℕ) (xs : List A) → AllByRecursion P xs → AllByRecursion (AllByRecursion P) (pieces n size xs)
each_joined P zero size xs h = tt
each_joined P (suc n) size [] h = tt
each_joined P (suc n) size (x ∷ xs) h =
    let parts = subst (λ ys. AllByRecursion P ys) (sym (take-append-drop size (x ∷ xs))) h in
    (each_left P (take size (x ∷ xs)) (drop size (x ∷ xs)) parts, each_joined P n size (drop size (x ∷ xs)) (each_right P (take size (x ∷ xs)) (drop size (x ∷ xs)) parts))

pub some_pieces : {A : Type 0} (size : ℕ) (xs : List A) → 1 ≤ length xs → 1 ≤ length (in_pieces size xs)
some_pieces size [] h = absurd (omega (arith, h))
some_pieces size (x ∷ xs) h = omega arith
