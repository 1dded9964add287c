-- Rows that are cut at a length, and put after one another.
use Rattle.std.proofs.Common.{◌≡◌, ℕ, zero, suc, ◌≤◌, List, [], ◌∷◌, ◌++◌, length, map, take, true, false, refl, ap, ◌∙◌, append_assoc, arith, Result, Ok, Err}
use Rattle.std.specs.Prelude.{OnOk, OnErr}
use Rattle.std.specs.Ordering.{is_gt, is_le}
use Rattle.std.specs.declared.cmp.Ordering.{Ordering}
use Rattle.std.specs.declared.cmp.Ordering.TheVariants.{Less, Equal, Greater}
use Rattle.std.proofs.lemmas.List.{length-map}

pub take_again : {A : Type 0} (n : ℕ) (xs ys : List A) → take n (take n xs ++ ys) ≡ take n (xs ++ ys)
take_again zero xs ys = refl
take_again (suc n) [] ys = refl
take_again (suc n) (x ∷ xs) ys = ap (λ l. x ∷ l) (take_again n xs ys)

pub take_whole : {A : Type 0} (n : ℕ) (xs : List A) → length xs ≤ n → take n xs ≡ xs
take_whole zero [] h = refl
take_whole zero (x ∷ xs) h = absurd (omega (arith, h))
take_whole (suc n) [] h = refl
take_whole (suc n) (x ∷ xs) h = ap (λ l. x ∷ l) (take_whole n xs (omega (arith, h)))

pub take_full : {A : Type 0} (n : ℕ) (xs ys : List A) → length xs ≡ n → take n (xs ++ ys) ≡ xs
take_full zero [] ys h = refl
take_full zero (x ∷ xs) ys h = absurd (omega (arith, h))
take_full (suc n) [] ys h = absurd (omega (arith, h))
take_full (suc n) (x ∷ xs) ys h = ap (λ l. x ∷ l) (take_full n xs ys (omega (arith, h)))

pub length_take : {A : Type 0} (n : ℕ) (xs : List A) → length (take n xs) ≤ n
length_take zero xs = omega arith
length_take (suc n) [] = omega arith
length_take (suc n) (x ∷ xs) = omega (arith, length_take n xs)

-- two further rows, one after the other
pub take_two : {A : Type 0} (n : ℕ) (xs ys zs front back : List A) → front ≡ take n (xs ++ ys) → back ≡ take n (front ++ zs) → back ≡ take n (xs ++ (ys ++ zs))
take_two n xs ys zs front back f b = b ∙ ap (λ l. take n (l ++ zs)) f ∙ take_again n (xs ++ ys) zs ∙ ap (take n) (append_assoc xs ys zs)

-- the entries of two sides, with one between them
pub take_sides : {A : Type 0} (n : ℕ) (old ys zs goal l1 l2 l3 : List A) (e : A) → ys ++ e ∷ zs ≡ goal → l1 ≡ take n (old ++ ys) → l2 ≡ take n (l1 ++ e ∷ []) → l3 ≡ take n (l2 ++ zs) → l3 ≡ take n (old ++ goal)
take_sides n old ys zs goal l1 l2 l3 e is a b c =
    take_two n old (ys ++ e ∷ []) zs l2 l3 (take_two n old ys (e ∷ []) l1 l2 a b) c ∙ ap (λ l. take n (old ++ l)) (append_assoc ys (e ∷ []) zs ∙ is)

-- a row that was cut at a length is no longer
pub short_row : {A B : Type 0} (f : A → B) (items : List A) (n : ℕ) (ys : List B) → map f items ≡ take n ys → length items ≤ n
short_row f items n ys e = omega (arith, length-map items f, ap length e, length_take n ys)

pub onto_on : {A E : Type 0} {P Q : Type 0} (r : Result A E) → (P → Q) → OnOk r P → OnOk r Q
onto_on (Ok x) f h = f h
onto_on (Err e) f h = h

pub err_on : {A E : Type 0} {P Q : Type 0} (r : Result A E) → (P → Q) → OnErr r P → OnErr r Q
err_on (Ok x) f h = h
err_on (Err e) f h = f h

-- equal sides, with equal values between them
pub same_sides : {A B : Type 0} (xs ls ys rs : List (A × B)) (k : A) (v w : B) → ls ≡ xs → w ≡ v → rs ≡ ys → ls ++ (k, w) ∷ rs ≡ xs ++ (k, v) ∷ ys
same_sides xs ls ys rs k v w l m r = ap (λ z. z ++ (k, w) ∷ rs) l ∙ ap (λ z. xs ++ (k, z) ∷ rs) m ∙ ap (λ z. xs ++ (k, v) ∷ z) r

pub gt_is : (o : Ordering) → is_gt o ≡ true → o ≡ Greater
gt_is Less h = cc h
gt_is Equal h = cc h
gt_is Greater h = refl

pub le_is : (o : Ordering) → is_gt o ≡ false → is_le o ≡ true
le_is Less h = refl
le_is Equal h = refl
le_is Greater h = cc h
