-- Lists: members, filters, fronts.
use Rattle.std.proofs.Common.{◌≡◌, ℕ, zero, suc, ◌+◌, ◌-◌, ◌<◌, ◌≤◌, Bool, true, false, cond, List, [], ◌∷◌, ◌++◌, length, take, filter, get_or, Option, Some, None, refl, sym, ap, ◌∙◌, subst, arith, inl, inr, ⊎_elim, ◌⊎◌, length-take}
use Rattle.std.specs.List.{AllByRecursion, find}
use Rattle.std.proofs.lemmas.Bool.{cases_Bool, cond-true, cond-false}
use Rattle.std.proofs.lemmas.List.{take-take, take-append-le}
use Rattle.ring_model.specs.Members.{IsAmong, first}

pub among-left : {X : Type 0} (x : X) (xs ys : List X) → IsAmong x xs → IsAmong x (xs ++ ys)
among-left x [] ys h = elim h [ ]
among-left x (z ∷ zs) ys (inl e) = inl e
among-left x (z ∷ zs) ys (inr h) = inr (among-left x zs ys h)

pub among-right : {X : Type 0} (x : X) (xs ys : List X) → IsAmong x ys → IsAmong x (xs ++ ys)
among-right x [] ys h = h
among-right x (z ∷ zs) ys h = inr (among-right x zs ys h)

pub among-cases : {X : Type 0} (x : X) (xs ys : List X) → IsAmong x (xs ++ ys) → IsAmong x xs ⊎ IsAmong x ys
among-cases x [] ys h = inr h
among-cases x (z ∷ zs) ys (inl e) = inl (inl e)
among-cases x (z ∷ zs) ys (inr h) = ⊎_elim (λ i. inl (inr i)) (λ i. inr i) (among-cases x zs ys h)

pub all-among : {X : Type 0} (P : X → Type 0) (x : X) (xs : List X) → AllByRecursion P xs → IsAmong x xs → P x
all-among P x [] a h = elim h [ ]
all-among P x (y ∷ ys) a (inl e) = subst P e a.0
all-among P x (y ∷ ys) a (inr h) = all-among P x ys a.1 h

pub all_from : {X : Type 0} (P : X → Type 0) (xs : List X) → ((x : X) → IsAmong x xs → P x) → AllByRecursion P xs
all_from P [] f = tt
all_from P (x ∷ xs) f = (f x (inl refl), all_from P xs (λ y h. f y (inr h)))

pub all-left : {X : Type 0} (P : X → Type 0) (xs ys : List X) → AllByRecursion P (xs ++ ys) → AllByRecursion P xs
all-left P [] ys a = tt
all-left P (x ∷ xs) ys a = (a.0, all-left P xs ys a.1)

pub all-right : {X : Type 0} (P : X → Type 0) (xs ys : List X) → AllByRecursion P (xs ++ ys) → AllByRecursion P ys
all-right P [] ys a = a
all-right P (x ∷ xs) ys a = all-right P xs ys a.1

pub all-both : {X : Type 0} (P : X → Type 0) (xs ys : List X) → AllByRecursion P xs → AllByRecursion P ys → AllByRecursion P (xs ++ ys)
all-both P [] ys a b = b
all-both P (x ∷ xs) ys a b = (a.0, all-both P xs ys a.1 b)

pub all_weaker : {X : Type 0} (P Q : X → Type 0) (xs : List X) → ((x : X) → P x → Q x) → AllByRecursion P xs → AllByRecursion Q xs
all_weaker P Q [] f a = tt
all_weaker P Q (x ∷ xs) f a = (f x a.0, all_weaker P Q xs f a.1)

pub filter_all : {X : Type 0} (p : X → Bool) (xs : List X) → AllByRecursion (λ x. p x ≡ true) xs → filter p xs ≡ xs
filter_all p [] a = refl
filter_all p (x ∷ xs) a = cond-true (p x) (x ∷ filter p xs) (filter p xs) a.0 ∙ ap (λ ys. x ∷ ys) (filter_all p xs a.1)

pub filter_none : {X : Type 0} (p : X → Bool) (xs : List X) → AllByRecursion (λ x. p x ≡ false) xs → filter p xs ≡ []
filter_none p [] a = refl
filter_none p (x ∷ xs) a = cond-false (p x) (x ∷ filter p xs) (filter p xs) a.0 ∙ filter_none p xs a.1

pub cons_head : {X : Type 0} (x : X) (xs : List X) (y : X) (ys : List X) → x ∷ xs ≡ y ∷ ys → x ≡ y
cons_head {X = X} x xs y ys e = ap (λ l. head_or x l) e
  where
    head_or : X → List X → X
    head_or d [] = d
    head_or d (z ∷ zs) = z

pub cons_tail : {X : Type 0} (x : X) (xs : List X) (y : X) (ys : List X) → x ∷ xs ≡ y ∷ ys → xs ≡ ys
cons_tail {X = X} x xs y ys e = ap (λ l. tail_of l) e
  where
    tail_of : List X → List X
    tail_of [] = []
    tail_of (z ∷ zs) = zs

pub nil_cons : {X : Type 0} (x : X) (xs : List X) → [] ≡ x ∷ xs → ⊥
nil_cons x xs e = cc

among_cond : {X : Type 0} (x y : X) (ys zs : List X) (b : Bool) → (IsAmong x ys → IsAmong x zs) → IsAmong x (cond b (y ∷ ys) ys) → (y ≡ x) ⊎ IsAmong x zs
among_cond x y ys zs true f (inl e) = inl e
among_cond x y ys zs true f (inr i) = inr (f i)
among_cond x y ys zs false f i = inr (f i)

pub among_filtered : {X : Type 0} (p : X → Bool) (x : X) (xs : List X) → IsAmong x (filter p xs) → IsAmong x xs
among_filtered p x [] h = elim h [ ]
among_filtered p x (y ∷ ys) h = among_cond x y (filter p ys) ys (p y) (among_filtered p x ys) h

pub filter_gives : {X : Type 0} (p : X → Bool) (P : X → Type 0) (xs : List X) → AllByRecursion (λ x. p x ≡ true → P x) xs → AllByRecursion P (filter p xs)
filter_gives p P [] a = tt
filter_gives p P (x ∷ xs) a =
    ⊎_elim
    (λ t. subst (AllByRecursion P) (sym (cond-true (p x) (x ∷ filter p xs) (filter p xs) t)) (a.0 t, filter_gives p P xs a.1))
    (λ f. subst (AllByRecursion P) (sym (cond-false (p x) (x ∷ filter p xs) (filter p xs) f)) (filter_gives p P xs a.1))
    (cases_Bool (p x))

-- what a filter may leave out first
pub filter-filter : {X : Type 0} (p q : X → Bool) (xs : List X) → AllByRecursion (λ x. p x ≡ true → q x ≡ true) xs → filter p (filter q xs) ≡ filter p xs
filter-filter p q [] a = refl
filter-filter p q (x ∷ xs) a =
    let rest = filter-filter p q xs a.1 in
    ⊎_elim
    (λ t.
    ap (filter p) (cond-true (q x) (x ∷ filter q xs) (filter q xs) (a.0 t)) ∙ cond-true (p x) (x ∷ filter p (filter q xs)) (filter p (filter q xs)) t ∙ ap (λ l. x ∷ l) rest ∙ sym (cond-true (p x) (x ∷ filter p xs) (filter p xs) t))
    (λ f. ⊎_elim
    (λ t. ap (filter p) (cond-true (q x) (x ∷ filter q xs) (filter q xs) t) ∙ cond-false (p x) (x ∷ filter p (filter q xs)) (filter p (filter q xs)) f ∙ rest ∙ sym (cond-false (p x) (x ∷ filter p xs) (filter p xs) f))
    (λ g. ap (filter p) (cond-false (q x) (x ∷ filter q xs) (filter q xs) g) ∙ rest ∙ sym (cond-false (p x) (x ∷ filter p xs) (filter p xs) f))
    (cases_Bool (q x)))
    (cases_Bool (p x))

-- the first r of a list are those of its first k, and of the list with more after it
pub take_enough : {X : Type 0} (r k : ℕ) (xs : List X) (ys zs : List X) → r ≤ length (take k xs) → take r (take k xs ++ ys) ≡ take r (xs ++ zs)
take_enough r k xs ys zs h =
    let s : r ≤ k = omega (arith, length-take k xs) in
    let t : r ≤ length xs = omega (arith, length-take k xs) in
    take-append-le r (take k xs) ys h ∙ take-take r k xs s ∙ sym (take-append-le r xs zs t)

pub filter-keeps : {X : Type 0} (p : X → Bool) (x : X) (xs : List X) → p x ≡ true → filter p (x ∷ xs) ≡ x ∷ filter p xs
filter-keeps p x xs t = cond-true (p x) (x ∷ filter p xs) (filter p xs) t

pub filter-drops : {X : Type 0} (p : X → Bool) (x : X) (xs : List X) → p x ≡ false → filter p (x ∷ xs) ≡ filter p xs
filter-drops p x xs t = cond-false (p x) (x ∷ filter p xs) (filter p xs) t

pub filter_swap : {X : Type 0} (p q : X → Bool) (xs : List X) → filter p (filter q xs) ≡ filter q (filter p xs)
filter_swap p q [] = refl
filter_swap p q (x ∷ xs) =
    let rest = filter_swap p q xs in
    ⊎_elim
    (λ a. ⊎_elim
    (λ b. ap (filter p) (filter-keeps q x xs b) ∙ filter-keeps p x (filter q xs) a ∙ ap (λ l. x ∷ l) rest ∙ sym (filter-keeps q x (filter p xs) b) ∙ sym (ap (filter q) (filter-keeps p x xs a)))
    (λ b. ap (filter p) (filter-drops q x xs b) ∙ rest ∙ sym (filter-drops q x (filter p xs) b) ∙ sym (ap (filter q) (filter-keeps p x xs a)))
    (cases_Bool (q x)))
    (λ a. ⊎_elim
    (λ b. ap (filter p) (filter-keeps q x xs b) ∙ filter-drops p x (filter q xs) a ∙ rest ∙ sym (ap (filter q) (filter-drops p x xs a)))
    (λ b. ap (filter p) (filter-drops q x xs b) ∙ rest ∙ sym (ap (filter q) (filter-drops p x xs a)))
    (cases_Bool (q x)))
    (cases_Bool (p x))

-- what a filter keeps of a front is a front of what it keeps
pub filter_front : {X : Type 0} (p : X → Bool) (n : ℕ) (xs : List X) → filter p (take n xs) ≡ take (length (filter p (take n xs))) (filter p xs)
filter_front p zero xs = refl
filter_front p (suc n) [] = refl
filter_front {X = X} p (suc n) (x ∷ xs) =
    let rest = filter_front p n xs in
    let P : List X → List X → Type 0 = λ l m. l ≡ take (length l) m in
    ⊎_elim
    (λ a. subst (λ l. P l (filter p (x ∷ xs))) (sym (filter-keeps p x (take n xs) a)) (subst (P (x ∷ filter p (take n xs))) (sym (filter-keeps p x xs a)) (ap (λ l. x ∷ l) rest)))
    (λ a. subst (λ l. P l (filter p (x ∷ xs))) (sym (filter-drops p x (take n xs) a)) (subst (P (filter p (take n xs))) (sym (filter-drops p x xs a)) rest))
    (cases_Bool (p x))

-- the first that a filter keeps is the one found
pub find_filter : {A : Type 0} (p : A → Bool) (xs : List A) → find p xs ≡ first (filter p xs)
find_filter p [] = refl
find_filter p (x ∷ xs) =
    ⊎_elim
    (λ a. cond-true (p x) (Some x) (find p xs) a ∙ sym (ap (first) (filter-keeps p x xs a)))
    (λ a. cond-false (p x) (Some x) (find p xs) a ∙ find_filter p xs ∙ sym (ap (first) (filter-drops p x xs a)))
    (cases_Bool (p x))

-- of elements that two tests never share, both together keep no more than there are
pub length_both : {X : Type 0} (a b : X → Bool) → ((x : X) → a x ≡ true → b x ≡ false) → (xs : List X) → length (filter a xs) + length (filter b xs) ≤ length xs
length_both a b f [] = omega arith
length_both a b f (x ∷ xs) =
    let rest = length_both a b f xs in
    ⊎_elim
    (λ t. let e = ap length (filter-keeps a x xs t) in let g = ap length (filter-drops b x xs (f x t)) in omega arith)
    (λ t. let e = ap length (filter-drops a x xs t) in ⊎_elim (λ u. let g = ap length (filter-keeps b x xs u) in omega arith) (λ u. let g = ap length (filter-drops b x xs u) in omega arith) (cases_Bool (b x)))
    (cases_Bool (a x))

pub length_front : {X : Type 0} (p : X → Bool) (n : ℕ) (xs : List X) → length (filter p (take n xs)) ≤ length (filter p xs)
length_front p n xs = let e = ap length (filter_front p n xs) in omega (arith, length-take (length (filter p (take n xs))) (filter p xs))

pub some_same : {X : Type 0} (x y : X) → Some x ≡ Some y → x ≡ y
some_same {X = X} x y e = ap (λ o. or_else o) e
  where
    or_else : Option X → X
    or_else None = x
    or_else (Some z) = z

pub none_some : {X : Type 0} (x : X) → None ≡ Some x → ⊥
none_some x e = cc

pub take_first : {X : Type 0} (n : ℕ) (x : X) (xs : List X) → 0 < n → take n (x ∷ xs) ≡ x ∷ take (n - 1) xs
take_first zero x xs h = absurd (omega arith)
take_first (suc k) x xs h = let e : suc k - 1 ≡ k = omega arith in rw e refl

pub among_take : {X : Type 0} (k : ℕ) (m : X) (xs : List X) → IsAmong m (take k xs) → IsAmong m xs
among_take zero m xs h = elim h [ ]
among_take (suc k) m [] h = elim h [ ]
among_take (suc k) m (z ∷ zs) (inl e) = inl e
among_take (suc k) m (z ∷ zs) (inr h) = inr (among_take k m zs h)

pub among_index : {X : Type 0} (xs : List X) (m d : X) → IsAmong m xs → (k : ℕ) × (k < length xs) × (get_or xs k d ≡ m)
among_index [] m d h = elim h [ ]
among_index (x ∷ xs) m d (inl e) = (0, omega arith, e)
among_index (x ∷ xs) m d (inr h) = let r = among_index xs m d h in let l : r.0 < length xs = r.1 in (suc r.0, omega arith, r.2)

pub index_among : {X : Type 0} (xs : List X) (k : ℕ) (d : X) → k < length xs → IsAmong (get_or xs k d) xs
index_among [] k d h = absurd (omega arith)
index_among (x ∷ xs) zero d h = inl refl
index_among (x ∷ xs) (suc k) d h = inr (index_among xs k d (omega arith))

pub among_filter : {X : Type 0} (p : X → Bool) (m : X) (l : List X) → IsAmong m l → p m ≡ true → IsAmong m (filter p l)
among_filter p m [] h t = elim h [ ]
among_filter p m (x ∷ xs) (inl e) t = subst (λ b. IsAmong m (cond b (x ∷ filter p xs) (filter p xs))) (sym (ap p e ∙ t)) (inl e)
among_filter {X = X} p m (x ∷ xs) (inr h) t = put (p x) (among_filter p m xs h t)
  where
    put : (b : Bool) → IsAmong m (filter p xs) → IsAmong m (cond b (x ∷ filter p xs) (filter p xs))
    put true i = inr i
    put false i = i

pub first_among : {X : Type 0} (l : List X) (f : X) → first l ≡ Some f → IsAmong f l
first_among [] f e = absurd (none_some f e)
first_among (x ∷ xs) f e = inl (some_same x f e)

pub first_of : {X : Type 0} (l : List X) (n : X) → IsAmong n l → (f : X) × (first l ≡ Some f) × IsAmong f l
first_of [] n h = elim h [ ]
first_of (x ∷ xs) n h = (x, refl, inl refl)
