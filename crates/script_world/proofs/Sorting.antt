-- Keys that were sorted are the keys in order.
use Rattle.std.proofs.Common.{◌≡◌, ℕ, suc, ◌+◌, ◌<◌, ◌≤◌, Bool, true, false, cond, List, [], ◌∷◌, length, get_or, IsPermutation, refl, sym, ap, ◌∙◌, arith}
use Rattle.std.specs.Prelude.{fold, sum_by, IsSorted}
use Rattle.std.specs.List.{AllByRecursion}
use Rattle.std.specs.Ordering.{is_lt, ordering_reverse}
use Rattle.std.specs.declared.cmp.Ordering.{Ordering}
use Rattle.std.specs.declared.cmp.Ordering.TheVariants.{Less, Equal, Greater}
use Rattle.std.specs.Cmp.{IsStrictWeakOrder, tied_itself}
use Rattle.std.specs.FinMap.Entries.{by_order}
use Rattle.std.proofs.lemmas.List.MinMax.{ranks_by}
use Rattle.std.proofs.lemmas.List.Sorted.{sorted_far, sum_by-IsPermutation}
use Rattle.std.proofs.lemmas.List.Sums.{sum_by-cons}
use Rattle.std.proofs.lemmas.Map.Lookups.{exact_bytes}
use Rattle.ivy_base.specs.declared.key.PubKey.{PubKey}
use Rattle.ivy_base.specs.Naming.{owner_cmp}
use Rattle.log_model.proofs.Owners.{owners_total}
use Rattle.world_model.specs.Logs.{with_key, in_key_order}
use Rattle.ring_model.proofs.Lists.{all_weaker}

abbrev is_below : PubKey → PubKey → Bool
is_below k l = is_lt (owner_cmp k l)

ranks : IsStrictWeakOrder is_below
ranks = ranks_by owners_total (λ k. k)

-- none of the keys is below this one
abbrev IsFloor : PubKey → List PubKey → Type 0
IsFloor k = AllByRecursion (λ l. is_below l k ≡ false)

-- none of the keys is below one before it
abbrev DoRise : List PubKey → Type 0
DoRise [] = Unit {0}
DoRise (k ∷ ks) = IsFloor k ks × DoRise ks

not_below_itself : (k : PubKey) → is_below k k ≡ false
not_below_itself k = ap is_lt (tied_itself owners_total k)

lower_floor : (k l : PubKey) (ms : List PubKey) → is_below l k ≡ false → IsFloor l ms → IsFloor k ms
lower_floor k l ms h f = all_weaker (λ m. is_below m l ≡ false) (λ m. is_below m k ≡ false) ms (λ m g. ranks.chain m l k g h) f

-- ---- sums over keys

-- whatever number each key has, the sums of both lists are one
abbrev HaveSameSums : List PubKey → List PubKey → Type 0
HaveSameSums ks ls = (f : PubKey → ℕ) → sum_by f ks ≡ sum_by f ls

permutation_sums : (ks ls : List PubKey) → IsPermutation ks ls → HaveSameSums ls ks
permutation_sums ks ls h f = sum_by-IsPermutation f ks ls h

with_sum : (f : PubKey → ℕ) (ls : List PubKey) (k : PubKey) → sum_by f (with_key ls k) ≡ f k + sum_by f ls
with_sum f [] k = sum_by-cons f k []
with_sum f (l ∷ ls) k = by (owner_cmp k l) (with_sum f ls k)
  where
    by : (o : Ordering) → sum_by f (with_key ls k) ≡ f k + sum_by f ls → sum_by f (by_order o (k ∷ l ∷ ls) (k ∷ l ∷ ls) (l ∷ with_key ls k)) ≡ f k + sum_by f (l ∷ ls)
    by Less rest = sum_by-cons f k (l ∷ ls)
    by Equal rest = sum_by-cons f k (l ∷ ls)
    by Greater rest =
        let more = sum_by-cons f l (with_key ls k) in
        let was = sum_by-cons f l ls in
        omega (arith, more, was, rest)

fold_sum : (f : PubKey → ℕ) (ks ls : List PubKey) → sum_by f (fold with_key ls ks) ≡ sum_by f ls + sum_by f ks
fold_sum f [] ls = let none : sum_by f [] ≡ 0 = refl in omega (arith, none)
fold_sum f (k ∷ ks) ls =
    let rest = fold_sum f ks (with_key ls k) in
    let one = with_sum f ls k in
    let first = sum_by-cons f k ks in
    omega (arith, rest, one, first)

order_sums : (ks : List PubKey) → HaveSameSums (in_key_order ks) ks
order_sums ks f = let none : sum_by f [] ≡ 0 = refl in let all = fold_sum f ks [] in omega (arith, none, all)

-- ---- rising rows

with_floor : (k : PubKey) (ls : List PubKey) (new : PubKey) → IsFloor k ls → is_below new k ≡ false → IsFloor k (with_key ls new)
with_floor k [] new f h = (h, tt)
with_floor k (l ∷ ls) new f h = by (owner_cmp new l) (with_floor k ls new f.1 h)
  where
    by : (o : Ordering) → IsFloor k (with_key ls new) → IsFloor k (by_order o (new ∷ l ∷ ls) (new ∷ l ∷ ls) (l ∷ with_key ls new))
    by Less rest = (h, f)
    by Equal rest = (h, f)
    by Greater rest = (f.0, rest)

with_rises : (ls : List PubKey) (k : PubKey) → DoRise ls → DoRise (with_key ls k)
with_rises [] k h = (tt, tt)
with_rises (l ∷ ls) k h = by (owner_cmp k l) refl (with_rises ls k h.1)
  where
    back : owner_cmp l k ≡ ordering_reverse (owner_cmp k l)
    back = owners_total.antisymm l k

    by : (o : Ordering) → owner_cmp k l ≡ o → DoRise (with_key ls k) → DoRise (by_order o (k ∷ l ∷ ls) (k ∷ l ∷ ls) (l ∷ with_key ls k))
    by Less e rest = let low : is_below l k ≡ false = ap is_lt (back ∙ ap ordering_reverse e) in ((low, lower_floor k l ls low h.0), h)
    by Equal e rest = let low : is_below l k ≡ false = ap is_lt (back ∙ ap ordering_reverse e) in ((low, lower_floor k l ls low h.0), h)
    by Greater e rest = (with_floor l ls k h.0 (ap is_lt e), rest)

fold_rises : (ks ls : List PubKey) → DoRise ls → DoRise (fold with_key ls ks)
fold_rises [] ls h = h
fold_rises (k ∷ ks) ls h = fold_rises ks (with_key ls k) (with_rises ls k h)

floor_from : (k : PubKey) (ls : List PubKey) → ((j : ℕ) (d : PubKey) → j < length ls → is_below (get_or ls j d) k ≡ false) → IsFloor k ls
floor_from k [] h = tt
floor_from k (l ∷ ls) h = (h 0 l (omega arith), floor_from k ls (λ j d within. h (suc j) d (omega (arith, within))))

rises_from : (ks : List PubKey) → ((i j : ℕ) (d : PubKey) → i ≤ j → j < length ks → is_below (get_or ks j d) (get_or ks i d) ≡ false) → DoRise ks
rises_from [] h = tt
rises_from (k ∷ ks) h = (
  floor_from k ks (λ j d within. h 0 (suc j) d (omega arith) (omega (arith, within))),
  rises_from ks (λ i j d order within. h (suc i) (suc j) d (omega (arith, order)) (omega (arith, within))),
)

sorted_rises : (ks : List PubKey) → IsSorted owner_cmp ks → DoRise ks
sorted_rises ks h = rises_from ks (sorted_far is_below ranks ks h)

-- ---- rising rows with the same sums

-- how many keys are below k
below : PubKey → PubKey → ℕ
below k l = cond (is_below l k) 1 0

floor_sum : (k : PubKey) (ls : List PubKey) → IsFloor k ls → sum_by (below k) ls ≡ 0
unfolding below
floor_sum k [] f = refl
floor_sum k (l ∷ ls) f = sum_by-cons (below k) l ls ∙ (λ i. cond (f.0 i) 1 0 + floor_sum k ls f.1 i)

-- the first of a list below which nothing stands by their sum
first_not_below : (k l : PubKey) (ls : List PubKey) → sum_by (below k) (l ∷ ls) ≡ 0 → is_below l k ≡ false
unfolding below
first_not_below k l ls h = by (is_below l k) refl
  where
    by : (b : Bool) → is_below l k ≡ b → is_below l k ≡ false
    by false e = e
    by true e =
        let first = sum_by-cons (below k) l ls in
        let one : below k l ≡ 1 = ap (λ (b : Bool). cond b 1 0) e in
        absurd (omega (arith, first, one, h))

neither_below : (k l : PubKey) → is_below k l ≡ false → is_below l k ≡ false → k ≡ l
neither_below k l h g = by (owner_cmp k l) refl
  where
    by : (o : Ordering) → owner_cmp k l ≡ o → k ≡ l
    by Less e = absurd (cc (sym h ∙ ap is_lt e))
    by Equal e = ap (λ (bytes : List ℕ). record { 0 = bytes }) (exact_bytes k.0 l.0 e)
    by Greater e = absurd (cc (sym g ∙ ap is_lt (owners_total.antisymm l k ∙ ap ordering_reverse e)))

one_row : (ks ls : List PubKey) → DoRise ks → DoRise ls → HaveSameSums ks ls → ks ≡ ls
one_row [] [] h g same = refl
one_row [] (l ∷ ls) h g same = absurd (let e = same (λ x. 1) in let c = sum_by-cons (λ x. 1) l ls in let none : sum_by (λ (x : PubKey). 1) [] ≡ 0 = refl in omega (arith, e, c, none))
one_row (k ∷ ks) [] h g same = absurd (let e = same (λ x. 1) in let c = sum_by-cons (λ x. 1) k ks in let none : sum_by (λ (x : PubKey). 1) [] ≡ 0 = refl in omega (arith, e, c, none))
one_row (k ∷ ks) (l ∷ ls) h g same =
    let low : is_below k l ≡ false = first_not_below l k ks (same (below l) ∙ floor_sum l (l ∷ ls) (not_below_itself l, g.0)) in
    let high : is_below l k ≡ false = first_not_below k l ls (sym (same (below k)) ∙ floor_sum k (k ∷ ks) (not_below_itself k, h.0)) in
    let first : k ≡ l = neither_below k l low high in
    let rest : HaveSameSums ks ls = λ f. fewer f (same f) (sum_by-cons f k ks) (sum_by-cons f l ls) (ap f first) in
    λ i. first i ∷ one_row ks ls h.1 g.1 rest i
  where
    fewer : (f : PubKey → ℕ) → sum_by f (k ∷ ks) ≡ sum_by f (l ∷ ls) → sum_by f (k ∷ ks) ≡ f k + sum_by f ks → sum_by f (l ∷ ls) ≡ f l + sum_by f ls → f k ≡ f l → sum_by f ks ≡ sum_by f ls
    fewer f e of_ks of_ls firsts = omega (arith, e, of_ks, of_ls, firsts)

-- keys with the elements of a list, none below the one before it, are that list in order
pub sorted_is : (keys sorted : List PubKey) → IsPermutation keys sorted → IsSorted owner_cmp sorted → sorted ≡ in_key_order keys
sorted_is keys sorted same rises =
    one_row sorted (in_key_order keys) (sorted_rises sorted rises) (fold_rises keys [] tt) (λ f. permutation_sums keys sorted same f ∙ sym (order_sums keys f))
