-- How many records are applied, by what was held and what is held then.
use Rattle.std.proofs.Common.{◌≡◌, ◌+◌, ◌-◌, Bool, true, false, cond, List, [], ◌∷◌, ◌++◌, length, refl, sym, ap, ◌∙◌, arith}
use Rattle.std.specs.Prelude.{IsTrue, not}
use Rattle.std.specs.List.{AllByRecursion}
use Rattle.std.specs.Ordering.{is_lt, is_eq, ordering_reverse}
use Rattle.std.specs.declared.cmp.Ordering.{Ordering}
use Rattle.std.specs.declared.cmp.Ordering.TheVariants.{Less, Equal, Greater}
use Rattle.std.specs.FinMap.Entries.{by_order}
use Rattle.std.proofs.lemmas.List.{append-nil}
use Rattle.log_model.specs.Record.{Record}
use Rattle.log_model.specs.Rank.{rank, record_cmp}
use Rattle.log_model.specs.Closed.{IsAscending}
use Rattle.log_model.specs.Replay.{with_record, in_order}
use Rattle.log_model.proofs.Lists.{each_from, each}
use Rattle.log_model.proofs.Owners.{records_total}
use Rattle.log_model.proofs.Sets.{IsBefore, ascending_in_order, before_trans, greater_is_before}
use Rattle.log_records.specs.Places.{merge_place}
use Rattle.log_records.proofs.PlaceLemmas.{is_under, not_under_from, place_cons, place_is}
use Rattle.replay_engine.specs.Rows.{IsRow, union}
use Rattle.replay_engine.proofs.Unions.{union_in_order}
use Rattle.replay_engine.specs.Places.{AreNew, AreBehind, first_place}
use Rattle.replay_engine.proofs.Placed.{taken_length, union_behind}
use Rattle.turn_model.specs.Work.{applied_between, applied_for, shared_front}

backward : (o : Ordering) → o ≡ Less → is_lt (ordering_reverse o) ≡ false
backward Less e = refl
backward Equal e = absurd (cc e)
backward Greater e = absurd (cc e)

apart : (o : Ordering) → o ≡ Less → is_eq (ordering_reverse o) ≡ false
apart Less e = refl
apart Equal e = absurd (cc e)
apart Greater e = absurd (cc e)

not_equal : (o : Ordering) → o ≡ Equal → IsTrue (not (is_eq o)) → ⊥
not_equal Less e h = cc e
not_equal Equal e h = cc h
not_equal Greater e h = cc e

level : (o : Ordering) → o ≡ ordering_reverse o → is_eq o ≡ true
level Less e = absurd (cc e)
level Equal e = refl
level Greater e = absurd (cc e)

itself : (q : Record) → is_eq (record_cmp q q) ≡ true
itself q = level (record_cmp q q) (records_total.antisymm q q)

module _ (r : Record) (more : List Record) (up : IsAscending (r ∷ more)) where
  behind_one : (q : Record) → IsBefore q r → AreBehind (q ∷ []) more
  behind_one q before = each_from (λ x. AllByRecursion (λ y. IsTrue (is_lt (record_cmp y x))) (q ∷ [])) more (λ x c. (before_trans q r x before (each (IsBefore r) more x up.0 c), tt))

  behind_r : AreBehind (r ∷ []) more
  behind_r = each_from (λ x. AllByRecursion (λ y. IsTrue (is_lt (record_cmp y x))) (r ∷ [])) more (λ x c. (each (IsBefore r) more x up.0 c, tt))

  -- the first new record is the first that wasn't held
  shared_place : (held : List Record) → IsAscending held → AllByRecursion (λ q. IsTrue (not (is_eq (record_cmp r q)))) held → shared_front held (union held (r ∷ more)) ≡ merge_place held (rank r)
  shared_place [] row new = refl
  shared_place (q ∷ s) row new = by (record_cmp r q) refl (shared_place s row.1 new.1)
    where
      by : (o : Ordering) → record_cmp r q ≡ o → shared_front s (union s (r ∷ more)) ≡ merge_place s (rank r) → shared_front (q ∷ s) (union (q ∷ s) (r ∷ more)) ≡ merge_place (q ∷ s) (rank r)
      by Less e again =
          let put : with_record (q ∷ s) r ≡ r ∷ q ∷ s = ap (λ (o : Ordering). by_order o (r ∷ q ∷ s) (q ∷ s) (q ∷ with_record s r)) e in
          let all : union (q ∷ s) (r ∷ more) ≡ r ∷ union (q ∷ s) more = ap (λ (l : List Record). union l more) put ∙ union_behind (r ∷ []) (q ∷ s) more behind_r in
          let differs : is_eq (record_cmp q r) ≡ false = ap is_eq (records_total.antisymm q r) ∙ apart (record_cmp r q) e in
          let not_under : is_under (rank r) q ≡ false = ap is_lt (records_total.antisymm q r) ∙ backward (record_cmp r q) e in
          ap (shared_front (q ∷ s)) all
          ∙ ap (λ (b : Bool). cond b (shared_front s (union (q ∷ s) more) + 1) 0) differs
          ∙ place_is (rank r) (q ∷ s) 0 (omega arith) tt (not_under_from (rank r) (q ∷ s) 0 q row (omega arith) refl not_under)
      by Equal e again = absurd (not_equal (record_cmp r q) e new.0)
      by Greater e again =
          let before : IsBefore q r = greater_is_before r q e in
          let put : with_record (q ∷ s) r ≡ q ∷ with_record s r = ap (λ (o : Ordering). by_order o (r ∷ q ∷ s) (q ∷ s) (q ∷ with_record s r)) e in
          let all : union (q ∷ s) (r ∷ more) ≡ q ∷ union s (r ∷ more) = ap (λ (l : List Record). union l more) put ∙ union_behind (q ∷ []) (with_record s r) more (behind_one q before) in
          let one : merge_place (q ∷ s) (rank r) ≡ 1 + merge_place s (rank r) = place_cons (rank r) q s ∙ ap (λ (b : Bool). cond b 1 0 + merge_place s (rank r)) before in
          ap (shared_front (q ∷ s)) all
          ∙ ap (λ (b : Bool). cond b (shared_front s (union s (r ∷ more)) + 1) 0) (itself q)
          ∙ omega (arith, again, one)

all_shared : (held : List Record) → shared_front held held ≡ length held
all_shared [] = refl
all_shared (q ∷ s) = ap (λ (b : Bool). cond b (shared_front s s + 1) 0) (itself q) ∙ omega (arith, all_shared s)

first_shared : (held more : List Record) → IsRow held → IsRow more → AreNew held more → shared_front held (in_order (held ++ more)) ≡ first_place held more
first_shared held [] row new_row new = ap (shared_front held) (ap in_order (append-nil held) ∙ ascending_in_order held row.ascending) ∙ all_shared held
first_shared held (r ∷ more) row new_row new = ap (shared_front held) (union_in_order held (r ∷ more) row.ascending) ∙ shared_place r more new_row.ascending held row.ascending new.0

-- what the engine applies for new records is what is applied between
pub applied_is_between : (held more : List Record) → IsRow held → IsRow more → AreNew held more → applied_for (length held) (length more) (first_place held more) ≡ applied_between held (in_order (held ++ more))
applied_is_between held more row new_row new =
    let count = taken_length held more row new_row new in
    let rest : length more ≡ length (in_order (held ++ more)) - length held = omega (arith, count) in
    let place = sym (first_shared held more row new_row new) in
    (λ i. applied_for (length held) (rest i) (place i))
