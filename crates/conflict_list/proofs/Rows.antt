-- The list as far as it was made.
use Rattle.std.proofs.Common.{◌≡◌, ◌⊎◌, inl, inr, ⊎_elim, ℕ, zero, suc, ◌+◌, ◌-◌, ◌<◌, ◌≤◌, Bool, true, false, cond, List, [], ◌∷◌, ◌++◌, length, get_or, drop, map, flat_map, refl, sym, ap, ◌∙◌, subst, append_assoc, length-append, arith, Contains}
use Rattle.std.proofs.lemmas.Bool.{cases_lt}
use Rattle.std.proofs.lemmas.List.{append-nil, at_drop_all, at_drop_more, get_or_default, map-append}
use Rattle.std.specs.List.Sorted.{IsNonDecreasing}
use Rattle.log_model.specs.Record.{Record}
use Rattle.log_records.specs.declared.record.Record as kept
use Rattle.log_records.specs.Records.{record_of, records_of}
use Rattle.conflict_list.specs.declared.list.Clash as listed
use Rattle.conflict_list.specs.declared.list.ListFault.{ListFault}
use Rattle.conflict_list.specs.declared.list.ListFault.TheVariants as fault
use Rattle.log_model.specs.Conflicts.{Clash, clash_of, clash_with, clashes, in_conflict}
use Rattle.conflict_list.specs.Conflicts.{IsTooMany, seen, seen_all}
use Rattle.conflict_list.specs.Pairs.{HasNoPair, HasNoRow, IsWithPair, IsWithRow, row}
use Rattle.conflict_list.specs.Tables.{AllAreFound, At}
use Rattle.conflict_list.proofs.Places.{at_one, at_some, below_or_at}

-- ---- a pair

pub with_answer : (r s : Record) (b : Bool) → in_conflict r s ≡ b → clash_with r s ≡ cond b (clash_of r s ∷ []) []
with_answer r s b e = ap (λ (t : Bool). cond t (clash_of r s ∷ []) []) e

-- more are too many, too
pub too_many_more : (some rest all : List Clash) (why : ListFault) → some ++ rest ≡ all → IsTooMany some why → IsTooMany all why
too_many_more some rest all fault.TooMany e many = let l : length some + length rest ≡ length all = sym (length-append some rest) ∙ ap length e in omega (arith, l, many)
too_many_more some rest all fault.Memory e many = tt

-- a pair more
pub pair_with : (rs : List kept.Record) (i j : ℕ) (x y : kept.Record) (list more : List listed.Clash) (c : listed.Clash) → At rs i x → At rs j y → in_conflict (record_of x) (record_of y) ≡ true
    → seen c ≡ clash_of (record_of x) (record_of y) → more ≡ list ++ c ∷ [] → IsWithPair rs i j (seen_all list) (seen_all more)
pair_with rs i j x y list more c hx hy touched told added r s hr hs =
    ap (map seen) added ∙ map-append seen list (c ∷ []) ∙ ap (λ (d : Clash). seen_all list ++ d ∷ []) told
    ∙ ap (λ (l : List Clash). seen_all list ++ l) (sym (with_answer (record_of x) (record_of y) true touched))
    ∙ ap (λ (q : kept.Record). seen_all list ++ clash_with (record_of q) (record_of y)) (at_one rs i x r hx hr)
    ∙ ap (λ (q : kept.Record). seen_all list ++ clash_with (record_of r) (record_of q)) (at_one rs j y s hy hs)

-- the pair for which there is no room
pub pair_full : (rs : List kept.Record) (i j : ℕ) (x y : kept.Record) (list : List listed.Clash) (c : listed.Clash) (why : ListFault) → At rs i x → At rs j y → in_conflict (record_of x) (record_of y) ≡ true
    → seen c ≡ clash_of (record_of x) (record_of y) → IsTooMany (seen_all list ++ seen c ∷ []) why → HasNoPair rs i j (seen_all list) why
pair_full rs i j x y list c why hx hy touched told many r s hr hs = subst (λ (l : List Clash). IsTooMany l why)
    (ap (λ (d : Clash). seen_all list ++ d ∷ []) told
    ∙ ap (λ (l : List Clash). seen_all list ++ l) (sym (with_answer (record_of x) (record_of y) true touched))
    ∙ ap (λ (q : kept.Record). seen_all list ++ clash_with (record_of q) (record_of y)) (at_one rs i x r hx hr)
    ∙ ap (λ (q : kept.Record). seen_all list ++ clash_with (record_of r) (record_of q)) (at_one rs j y s hy hs)) many

-- ---- a row

abbrev pub rest_of_row : List kept.Record → Record → ℕ → List Clash
rest_of_row rs r n = flat_map (clash_with r) (records_of (drop n rs))

row_on : (r : Record) (rs : List kept.Record) (j : ℕ) (s : kept.Record) → At rs j s → rest_of_row rs r j ≡ clash_with r (record_of s) ++ rest_of_row rs r (j + 1)
row_on r rs j s stand = at_drop_more (λ rest. flat_map (clash_with r) (records_of rest)) rs j s stand.0 ∙ ap (λ y. clash_with r (record_of y) ++ rest_of_row rs r (j + 1)) (sym stand.1)

-- the record is in conflict with none from n on, for so many records
abbrev NoneFrom : List kept.Record → Record → ℕ → ℕ → Type 0
NoneFrom rs r n m = (j : ℕ) (s : kept.Record) → n ≤ j → j < m → At rs j s → in_conflict r (record_of s) ≡ false

skip : (r : Record) (rs : List kept.Record) (n d : ℕ) → n + d ≤ length rs → NoneFrom rs r n (n + d) → rest_of_row rs r n ≡ rest_of_row rs r (n + d)
skip r rs n zero within none = let e : n ≡ n + zero = omega arith in ap (λ k. rest_of_row rs r k) e
skip r rs n (suc d) within none =
    let lt : n < length rs = omega (arith, within) in
    let s = at_some rs n lt in
    let apart : in_conflict r (record_of s.0) ≡ false = none n s.0 (omega arith) (omega arith) s.1 in
    let e : n + 1 + d ≡ n + suc d = omega arith in
    row_on r rs n s.0 s.1 ∙ ap (λ (l : List Clash). l ++ rest_of_row rs r (n + 1)) (with_answer r (record_of s.0) false apart)
    ∙ skip r rs (n + 1) d (omega (arith, within)) (λ j q le less stand. none j q (omega (arith, le)) (omega (arith, less)) stand) ∙ ap (λ k. rest_of_row rs r k) e

skip_to : (r : Record) (rs : List kept.Record) (n m : ℕ) → n ≤ m → m ≤ length rs → NoneFrom rs r n m → rest_of_row rs r n ≡ rest_of_row rs r m
skip_to r rs n m le within none =
    let e : n + (m - n) ≡ m = omega (arith, le) in
    skip r rs n (m - n) (omega (arith, e, within)) (λ j s low less stand. none j s low (omega (arith, e, less)) stand) ∙ ap (λ k. rest_of_row rs r k) e

-- what isn't found isn't in conflict
not_found : (rs : List kept.Record) (i : ℕ) (r : kept.Record) (found : List ℕ) (j : ℕ) (s : kept.Record) → At rs i r → AllAreFound rs i found → i < j → At rs j s → (Contains found j → ⊥) → in_conflict (record_of r) (record_of s) ≡ false
not_found rs i r found j s stand all less there out = by (in_conflict (record_of r) (record_of s)) refl
  where
    by : (b : Bool) → in_conflict (record_of r) (record_of s) ≡ b → b ≡ false
    by false e = refl
    by true e = absurd (out (all j less there.0 (λ p q at_p at_q. subst (λ (x : kept.Record). in_conflict (record_of x) (record_of q) ≡ true) (at_one rs i r p stand at_p) (subst (λ (y : kept.Record). in_conflict (record_of r) (record_of y) ≡ true) (at_one rs j s q there at_q) e))))

-- the places of which the first k were gone through are below next, or no record is there
abbrev pub Passed : ℕ → List ℕ → ℕ → ℕ → Type 0
Passed n found k next = (x : ℕ) → x < k → (get_or found x 0 < next) ⊎ (n ≤ get_or found x 0)

-- up to the next place that was found there is no conflict
none_up_to : (rs : List kept.Record) (i : ℕ) (r : kept.Record) (found : List ℕ) (k next j : ℕ) → At rs i r → AllAreFound rs i found → IsNonDecreasing found → i + 1 ≤ next → Passed (length rs) found k next
    → j ≤ length rs → ((x : ℕ) → k ≤ x → x < length found → j ≤ get_or found x 0) → NoneFrom rs (record_of r) next j
none_up_to rs i r found k next j stand all up low passed within ahead m s le less there =
    not_found rs i r found m s stand all (omega (arith, low, le)) there (λ c. ⊎_elim
    (λ before. ⊎_elim
    (λ lower. let e : get_or found c.0 0 ≡ m = at_zero c in omega (arith, lower, e, le))
    (λ outside. let e : get_or found c.0 0 ≡ m = at_zero c in omega (arith, outside, e, less, within))
    (passed c.0 before))
    (λ after. let e : get_or found c.0 0 ≡ m = at_zero c in let far : j ≤ get_or found c.0 0 = ahead c.0 after c.1 in omega (arith, far, e, less))
    (cases_lt c.0 k))
  where
    at_zero : (c : Contains found m) → get_or found c.0 0 ≡ m
    at_zero c = get_or_default found c.0 0 m c.1 ∙ c.2

ahead_of : (found : List ℕ) (k j : ℕ) → IsNonDecreasing found → get_or found k 0 ≡ j → (x : ℕ) → k ≤ x → x < length found → j ≤ get_or found x 0
ahead_of found k j up is x le lt = let rise : get_or found k 0 ≤ get_or found x 0 = up k x 0 le lt in omega (arith, rise, is)

abbrev pub IsRowSoFar : List kept.Record → ℕ → ℕ → List Clash → List Clash → Type 0
IsRowSoFar rs i next list whole = (r : kept.Record) → At rs i r → list ++ rest_of_row rs (record_of r) next ≡ whole ++ row rs i r

pub row_begins : (rs : List kept.Record) (i : ℕ) (list : List Clash) → IsRowSoFar rs i (i + 1) list list
row_begins rs i list r stand = refl

-- one pair more
pub row_with : (rs : List kept.Record) (i : ℕ) (found : List ℕ) (k next j : ℕ) (list more whole : List Clash) → AllAreFound rs i found → IsNonDecreasing found → i + 1 ≤ next → Passed (length rs) found k next
    → next ≤ j → j < length rs → get_or found k 0 ≡ j → IsWithPair rs i j list more → IsRowSoFar rs i next list whole → IsRowSoFar rs i (j + 1) more whole
row_with rs i found k next j list more whole all up low passed le within is with before r stand =
    let s = at_some rs j within in
    let tail = rest_of_row rs (record_of r) (j + 1) in
    let none = none_up_to rs i r found k next j stand all up low passed (omega (arith, within)) (ahead_of found k j up is) in
    ap (λ (l : List Clash). l ++ tail) (with r s.0 stand s.1) ∙ append_assoc list (clash_with (record_of r) (record_of s.0)) tail
    ∙ ap (λ (l : List Clash). list ++ l) (sym (row_on (record_of r) rs j s.0 s.1) ∙ sym (skip_to (record_of r) rs next j le (omega (arith, within)) none)) ∙ before r stand

-- the pair that finds no room is one of the row
pub row_full : (rs : List kept.Record) (i : ℕ) (found : List ℕ) (k next j : ℕ) (list whole : List Clash) (why : ListFault) → AllAreFound rs i found → IsNonDecreasing found → i + 1 ≤ next → Passed (length rs) found k next
    → next ≤ j → j < length rs → get_or found k 0 ≡ j → HasNoPair rs i j list why → IsRowSoFar rs i next list whole → HasNoRow rs i whole why
row_full rs i found k next j list whole why all up low passed le within is full before r stand =
    let s = at_some rs j within in
    let tail = rest_of_row rs (record_of r) (j + 1) in
    let none = none_up_to rs i r found k next j stand all up low passed (omega (arith, within)) (ahead_of found k j up is) in
    too_many_more (list ++ clash_with (record_of r) (record_of s.0)) tail (whole ++ row rs i r) why
    (append_assoc list (clash_with (record_of r) (record_of s.0)) tail
    ∙ ap (λ (l : List Clash). list ++ l) (sym (row_on (record_of r) rs j s.0 s.1) ∙ sym (skip_to (record_of r) rs next j le (omega (arith, within)) none)) ∙ before r stand)
    (full r s.0 stand s.1)

-- no place is left
pub row_ends : (rs : List kept.Record) (i : ℕ) (found : List ℕ) (k next : ℕ) (list whole : List Clash) → AllAreFound rs i found → IsNonDecreasing found → i + 1 ≤ next → next ≤ length rs → Passed (length rs) found k next → length found ≤ k
    → IsRowSoFar rs i next list whole → IsWithRow rs i whole list
row_ends rs i found k next list whole all up low high passed done before r stand =
    let none = none_up_to rs i r found k next (length rs) stand all up low passed (omega arith) (λ x le lt. absurd (omega (arith, le, lt, done))) in
    let gone : rest_of_row rs (record_of r) next ≡ [] = skip_to (record_of r) rs next (length rs) high (omega arith) none ∙ at_drop_all (λ rest. flat_map (clash_with (record_of r)) (records_of rest)) rs (length rs) (omega arith) in
    sym (append-nil list) ∙ ap (λ (l : List Clash). list ++ l) (sym gone) ∙ before r stand

pub passed_more : (n : ℕ) (found : List ℕ) (k next more : ℕ) → next ≤ more → (get_or found k 0 < more) ⊎ (n ≤ get_or found k 0) → Passed n found k next → Passed n found (k + 1) more
passed_more n found k next more le here so_far x lt = ⊎_elim
    (λ less. ⊎_elim (λ lower. inl (omega (arith, lower, le))) (λ out. inr out) (so_far x less))
    (λ is. subst (λ (y : ℕ). (get_or found y 0 < more) ⊎ (n ≤ get_or found y 0)) (sym is) here)
    (below_or_at x k lt)

-- ---- rows

abbrev pub AreRowsSoFar : List kept.Record → ℕ → List Clash → Type 0
AreRowsSoFar rs i list = list ++ clashes (records_of (drop i rs)) ≡ clashes (records_of rs)

rows_on : (rs : List kept.Record) (i : ℕ) (r : kept.Record) → At rs i r → clashes (records_of (drop i rs)) ≡ row rs i r ++ clashes (records_of (drop (i + 1) rs))
rows_on rs i r stand = at_drop_more (λ rest. clashes (records_of rest)) rs i r stand.0
    ∙ ap (λ y. flat_map (clash_with (record_of y)) (records_of (drop (i + 1) rs)) ++ clashes (records_of (drop (i + 1) rs))) (sym stand.1)

-- a row more
pub rows_with : (rs : List kept.Record) (i : ℕ) (list more : List Clash) → i < length rs → IsWithRow rs i list more → AreRowsSoFar rs i list → AreRowsSoFar rs (i + 1) more
rows_with rs i list more lt with before =
    let r = at_some rs i lt in
    let tail = clashes (records_of (drop (i + 1) rs)) in
    ap (λ (l : List Clash). l ++ tail) (with r.0 r.1) ∙ append_assoc list (row rs i r.0) tail ∙ ap (λ (l : List Clash). list ++ l) (sym (rows_on rs i r.0 r.1)) ∙ before

-- a row that is too long
pub rows_full : (rs : List kept.Record) (i : ℕ) (list : List Clash) (why : ListFault) → i < length rs → HasNoRow rs i list why → AreRowsSoFar rs i list → IsTooMany (clashes (records_of rs)) why
rows_full rs i list why lt full before =
    let r = at_some rs i lt in
    let tail = clashes (records_of (drop (i + 1) rs)) in
    too_many_more (list ++ row rs i r.0) tail (clashes (records_of rs)) why
    (append_assoc list (row rs i r.0) tail ∙ ap (λ (l : List Clash). list ++ l) (sym (rows_on rs i r.0 r.1)) ∙ before) (full r.0 r.1)

pub rows_end : (rs : List kept.Record) (i : ℕ) (list : List Clash) → length rs ≤ i → AreRowsSoFar rs i list → list ≡ clashes (records_of rs)
rows_end rs i list done before = sym (append-nil list) ∙ ap (λ (l : List Clash). list ++ l) (sym (at_drop_all (λ rest. clashes (records_of rest)) rs i done)) ∙ before
