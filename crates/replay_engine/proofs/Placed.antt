-- Where new records go among held ones.
use Rattle.std.proofs.Common.{◌≡◌, ℕ, suc, ◌+◌, ◌-◌, ◌*◌, ◌/◌, ◌%◌, ◌==◌, ◌≤◌, Bool, true, false, cond, not, List, [], ◌∷◌, ◌++◌, length, take, drop, refl, sym, ap, ◌∙◌, subst, arith}
use Rattle.std.specs.Prelude.{IsTrue, fold, if◌then◌else◌}
use Rattle.std.proofs.lemmas.Bool.{eq-eqb, eqb-true}
use Rattle.std.specs.List.{AllByRecursion}
use Rattle.std.specs.Ordering.{is_lt, is_eq, ordering_reverse}
use Rattle.std.specs.declared.cmp.Ordering.{Ordering}
use Rattle.std.specs.declared.cmp.Ordering.TheVariants.{Less, Equal, Greater}
use Rattle.std.specs.FinMap.Entries.{by_order}
use Rattle.std.proofs.lemmas.List.{take-append-drop}
use Rattle.log_model.specs.Record.{Record}
use Rattle.log_model.specs.Rank.{rank, record_cmp}
use Rattle.log_model.specs.Spelling.{HasSpelling}
use Rattle.log_model.specs.Closed.{IsAscending}
use Rattle.log_model.specs.Replay.{with_record, in_order}
use Rattle.log_model.proofs.Lists.{each_from, each, each_left, each_right}
use Rattle.log_model.proofs.Owners.{records_total}
use Rattle.log_model.proofs.Sets.{IsBefore, before_trans, in_order_ascends}
use Rattle.replay_engine.specs.Rows.{IsRow, union}
use Rattle.replay_engine.proofs.Unions.{union_in_order, spelled_in_order}
use Rattle.log_records.specs.Places.{merge_place}
use Rattle.log_records.proofs.PlaceLemmas.{is_under, place_cons, place_within, under_place}
use Rattle.replay_engine.specs.Places.{first_place, AreNew, AreBehind, start_of}
use Rattle.turn_model.specs.Work.{applied_for}

reversed : (o : Ordering) → is_lt o ≡ true → ordering_reverse o ≡ Greater
reversed Less h = refl
reversed Equal h = cc
reversed Greater h = cc

after : (q r : Record) → IsBefore q r → record_cmp r q ≡ Greater
after q r h = records_total.antisymm r q ∙ reversed (record_cmp q r) h

-- ---- records that are after a front of the held ones

with_behind : (s t : List Record) (r : Record) → AllByRecursion (λ q. IsBefore q r) s → with_record (s ++ t) r ≡ s ++ with_record t r
with_behind [] t r h = refl
with_behind (q ∷ s) t r h =
    ap (λ (o : Ordering). by_order o (r ∷ q ∷ s ++ t) (q ∷ s ++ t) (q ∷ with_record (s ++ t) r)) (after q r h.0)
    ∙ ap (λ (l : List Record). q ∷ l) (with_behind s t r h.1)

pub union_behind : (s t more : List Record) → AreBehind s more → union (s ++ t) more ≡ s ++ union t more
union_behind s t [] h = refl
union_behind s t (r ∷ more) h =
    ap (λ (l : List Record). fold with_record l more) (with_behind s t r h.0) ∙ union_behind s (with_record t r) more h.1

ascends_left : (s t : List Record) → IsAscending (s ++ t) → IsAscending s
ascends_left [] t h = tt
ascends_left (q ∷ s) t h = (each_left (IsBefore q) s t h.0, ascends_left s t h.1)

ascends_right : (s t : List Record) → IsAscending (s ++ t) → IsAscending t
ascends_right [] t h = h
ascends_right (q ∷ s) t h = ascends_right s t h.1

pub row_left : (s t : List Record) → IsRow (s ++ t) → IsRow s
row_left s t row = record { ascending = ascends_left s t row.ascending; spelled = each_left HasSpelling s t row.spelled }

pub row_right : (s t : List Record) → IsRow (s ++ t) → IsRow t
row_right s t row = record { ascending = ascends_right s t row.ascending; spelled = each_right HasSpelling s t row.spelled }

pub row_take : (n : ℕ) (s : List Record) → IsRow s → IsRow (take n s)
row_take n s row = row_left (take n s) (drop n s) (subst IsRow (sym (take-append-drop n s)) row)

pub row_drop : (n : ℕ) (s : List Record) → IsRow s → IsRow (drop n s)
row_drop n s row = row_right (take n s) (drop n s) (subst IsRow (sym (take-append-drop n s)) row)

-- the union leaves what is before the new records as it is
pub in_order_from : (n : ℕ) (held more : List Record) → IsAscending held → AreBehind (take n held) more → in_order (held ++ more) ≡ take n held ++ in_order (drop n held ++ more)
in_order_from n held more up behind =
    let split = take-append-drop n held in
    union_in_order held more up
    ∙ ap (λ (l : List Record). union l more) (sym split)
    ∙ union_behind (take n held) (drop n held) more behind
    ∙ ap (λ (l : List Record). take n held ++ l) (sym (union_in_order (drop n held) more (ascends_right (take n held) (drop n held) (subst IsAscending (sym split) up))))

-- ---- the place of the first one

one_plus : (n : ℕ) → 1 + n ≡ suc n
one_plus n = omega arith

-- so they are behind by the new records, which ascend
pub behind_place : (held more : List Record) → IsAscending held → IsAscending more → AreBehind (take (first_place held more) held) more
behind_place held [] up new_up = tt
behind_place held (r ∷ more) up new_up =
    let under = under_place (rank r) held up in (
      under,
      each_from (λ x. AllByRecursion (λ q. IsBefore q x) (take (first_place held (r ∷ more)) held)) more
          (λ x c. each_from (λ q. IsBefore q x) (take (first_place held (r ∷ more)) held)
          (λ q d. before_trans q r x (each (λ q. is_under (rank r) q ≡ true) (take (first_place held (r ∷ more)) held) q under d) (each (IsBefore r) more x new_up.0 c))),
    )

pub first_within : (held more : List Record) → first_place held more ≤ length held
first_within held [] = omega arith
first_within held (r ∷ more) = place_within (rank r) held

-- the place of records that are after all others
pub last_place : (held more : List Record) → AreBehind held more → first_place held more ≡ length held
last_place held [] h = refl
last_place held (r ∷ more) h = all_under held h.0
  where
    all_under : (s : List Record) → AllByRecursion (λ q. IsTrue (is_lt (record_cmp q r))) s → merge_place s (rank r) ≡ length s
    all_under [] h = refl
    all_under (q ∷ s) h = place_cons (rank r) q s ∙ ap (λ b. cond b 1 0 + merge_place s (rank r)) h.0 ∙ one_plus (merge_place s (rank r)) ∙ ap suc (all_under s h.1)

pub behind_new : (held more : List Record) → AreBehind held more → AreNew held more
behind_new held [] h = tt
behind_new held (r ∷ more) h = (all held h.0, behind_new held more h.1)
  where
    differs : (o : Ordering) → o ≡ Greater → IsTrue (not (is_eq o))
    differs Less e = refl
    differs Equal e = cc e
    differs Greater e = refl

    all : (s : List Record) → AllByRecursion (λ q. IsTrue (is_lt (record_cmp q r))) s → AllByRecursion (λ q. IsTrue (not (is_eq (record_cmp r q)))) s
    all [] h = tt
    all (q ∷ s) h = (differs (record_cmp r q) (after q r h.0), all s h.1)

-- ---- how many there are then

longer_with : (s : List Record) (r : Record) → AllByRecursion (λ q. IsTrue (not (is_eq (record_cmp r q)))) s → length (with_record s r) ≡ suc (length s)
longer_with [] r h = refl
longer_with (q ∷ s) r h = by (record_cmp r q) h.0 (longer_with s r h.1)
  where
    by : (o : Ordering) → IsTrue (not (is_eq o)) → length (with_record s r) ≡ suc (length s) → length (by_order o (r ∷ q ∷ s) (q ∷ s) (q ∷ with_record s r)) ≡ suc (suc (length s))
    by Less h again = refl
    by Equal h again = cc
    by Greater h again = ap suc again

new_with : (s : List Record) (r x : Record) → AllByRecursion (λ q. IsTrue (not (is_eq (record_cmp x q)))) s → IsBefore r x → AllByRecursion (λ q. IsTrue (not (is_eq (record_cmp x q)))) (with_record s r)
new_with [] r x h lt = (differs (record_cmp x r) (after r x lt), tt)
  where
    differs : (o : Ordering) → o ≡ Greater → IsTrue (not (is_eq o))
    differs Less e = refl
    differs Equal e = cc e
    differs Greater e = refl
new_with (q ∷ s) r x h lt = by (record_cmp r q) (new_with s r x h.1 lt)
  where
    differs : (o : Ordering) → o ≡ Greater → IsTrue (not (is_eq o))
    differs Less e = refl
    differs Equal e = cc e
    differs Greater e = refl

    by : (o : Ordering) → AllByRecursion (λ q. IsTrue (not (is_eq (record_cmp x q)))) (with_record s r) → AllByRecursion (λ q. IsTrue (not (is_eq (record_cmp x q)))) (by_order o (r ∷ q ∷ s) (q ∷ s) (q ∷ with_record s r))
    by Less again = (differs (record_cmp x r) (after r x lt), h)
    by Equal again = h
    by Greater again = (h.0, again)

-- the later new ones are new still
pub new_with_all : (s : List Record) (r : Record) (more : List Record) → IsAscending (r ∷ more) → AreNew s (r ∷ more) → AreNew (with_record s r) more
new_with_all s r more up new =
    each_from (λ x. AllByRecursion (λ q. IsTrue (not (is_eq (record_cmp x q)))) (with_record s r)) more
    (λ x c. new_with s r x (each (λ x. AllByRecursion (λ q. IsTrue (not (is_eq (record_cmp x q)))) s) more x new.1 c) (each (IsBefore r) more x up.0 c))

pub union_length : (s more : List Record) → IsAscending more → AreNew s more → length (union s more) ≡ length s + length more
union_length s [] up new = omega arith
union_length s (r ∷ more) up new =
    let again = union_length (with_record s r) more up.1 (new_with_all s r more up new) in
    let one = longer_with s r new.0 in
    omega (arith, again, one)

-- ---- the records of a call that takes new ones in

pub taken_length : (held more : List Record) → IsRow held → IsRow more → AreNew held more → length (in_order (held ++ more)) ≡ length held + length more
taken_length held more row new_row new = ap length (union_in_order held more row.ascending) ∙ union_length held more new_row.ascending new

pub taken_from : (held more : List Record) → IsRow held → IsRow more → in_order (held ++ more) ≡ take (first_place held more) held ++ in_order (drop (first_place held more) held ++ more)
taken_from held more row new_row = in_order_from (first_place held more) held more row.ascending (behind_place held more row.ascending new_row.ascending)

pub taken_row : (held more : List Record) → IsRow held → IsRow more → IsRow (in_order (held ++ more))
taken_row held more row new_row = record { ascending = in_order_ascends (held ++ more); spelled = spelled_in_order held more row.spelled new_row.spelled }

-- how many records are applied
pub applied_is : (n m p t : ℕ) → p ≤ n → p + t ≡ n + m → (p - start_of n p) + t ≡ applied_for n m p
applied_is n m p t le sum = by (p == n) refl
  where
    by : (b : Bool) → (p == n) ≡ b → (p - (if b then p else p - p % 64)) + t ≡ (if b then m else n + m - 64 * (p / 64))
    by true e = let same : p ≡ n = eqb-true p n e in omega (arith, sum, same)
    by false e = omega (arith, sum, le)

pub applied_last : (n m p : ℕ) → p ≡ n → applied_for n m p ≡ m
applied_last n m p e = ap (λ b. if b then m else n + m - 64 * (p / 64)) (eq-eqb p n e)
