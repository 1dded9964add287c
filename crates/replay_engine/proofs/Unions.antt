-- The union of two ascending rows ends with the greater of their last records.
use Rattle.std.proofs.Common.{◌≡◌, ⊎_elim, ℕ, ◌-◌, true, List, [], ◌∷◌, ◌++◌, length, Option, Some, None, refl, sym, ap, ◌∙◌, subst, arith, Contains}
use Rattle.std.specs.Prelude.{fold, slice_get}
use Rattle.std.specs.List.{AllByRecursion}
use Rattle.std.specs.Cmp.{tied_back}
use Rattle.std.specs.Ordering.{is_lt, ordering_reverse}
use Rattle.std.specs.declared.cmp.Ordering.{Ordering}
use Rattle.std.specs.declared.cmp.Ordering.TheVariants.{Less, Equal, Greater}
use Rattle.std.specs.FinMap.Entries.{by_order}
use Rattle.std.proofs.lemmas.List.{length-append}
use Rattle.std.proofs.lemmas.Option.{slice_get_within, get_or_from_slice_get}
use Rattle.log_model.specs.Record.{Record}
use Rattle.log_model.specs.Rank.{record_cmp}
use Rattle.log_model.specs.Spelling.{HasSpelling}
use Rattle.log_model.specs.Closed.{IsAscending}
use Rattle.log_model.specs.Replay.{with_record, in_order}
use Rattle.log_model.proofs.Lists.{each_from, each, each_left, each_append}
use Rattle.log_model.proofs.Owners.{records_total}
use Rattle.log_model.proofs.Sets.{IsBefore, before_trans, in_with, in_order_in, all_before, with_last, ascending_in_order}
use Rattle.replay_engine.specs.Rows.{IsRow, union, TakesGreatest, last_of, order_of, last_order}

-- ---- rows without their last record

ascends_front : (s : List Record) (x : Record) → IsAscending (s ++ x ∷ []) → IsAscending s
ascends_front [] x h = tt
ascends_front (q ∷ s) x h = (each_left (IsBefore q) s (x ∷ []) h.0, ascends_front s x h.1)

pub row_front : (s : List Record) (x : Record) → IsRow (s ++ x ∷ []) → IsRow s
row_front s x h = record { ascending = ascends_front s x h.ascending; spelled = each_left HasSpelling s (x ∷ []) h.spelled }

-- ---- unions

fold_on : (acc xs ys : List Record) → fold with_record acc (xs ++ ys) ≡ fold with_record (fold with_record acc xs) ys
fold_on acc [] ys = refl
fold_on acc (x ∷ xs) ys = fold_on (with_record acc x) xs ys

pub union_in_order : (s t : List Record) → IsAscending s → in_order (s ++ t) ≡ union s t
union_in_order s t up = fold_on [] s t ∙ ap (λ (acc : List Record). fold with_record acc t) (ascending_in_order s up)

pub spelled_in_order : (s t : List Record) → AllByRecursion HasSpelling s → AllByRecursion HasSpelling t → AllByRecursion HasSpelling (in_order (s ++ t))
spelled_in_order s t left right = each_from HasSpelling (in_order (s ++ t)) (λ q c. each HasSpelling (s ++ t) q (each_append HasSpelling s t left right) (in_order_in (s ++ t) q c))

-- what holds of each record of both rows holds of their union
each_with : (P : Record → Type 0) (s : List Record) (r : Record) → AllByRecursion P s → P r → AllByRecursion P (with_record s r)
each_with P s r all one = each_from P (with_record s r) (λ q c. ⊎_elim (λ d. each P s q all d) (λ e. subst P e one) (in_with s r q c))

each_union : (P : Record → Type 0) (s t : List Record) → AllByRecursion P s → AllByRecursion P t → AllByRecursion P (union s t)
each_union P s [] all more = all
each_union P s (r ∷ t) all more = each_union P (with_record s r) t (each_with P s r all more.0) more.1

-- a record before the last one stands before it
with_before : (s : List Record) (x r : Record) → IsBefore r x → with_record (s ++ x ∷ []) r ≡ with_record s r ++ x ∷ []
with_before [] x r h = less (record_cmp r x) h
  where
    less : (o : Ordering) → is_lt o ≡ true → by_order o (r ∷ x ∷ []) (x ∷ []) (x ∷ r ∷ []) ≡ r ∷ x ∷ []
    less Less h = refl
    less Equal h = cc
    less Greater h = cc
with_before (q ∷ s) x r h = by (record_cmp r q) (with_before s x r h)
  where
    by : (o : Ordering) → with_record (s ++ x ∷ []) r ≡ with_record s r ++ x ∷ [] → by_order o (r ∷ q ∷ s ++ x ∷ []) (q ∷ s ++ x ∷ []) (q ∷ with_record (s ++ x ∷ []) r) ≡ by_order o (r ∷ q ∷ s) (q ∷ s) (q ∷ with_record s r) ++ x ∷ []
    by Less again = refl
    by Equal again = refl
    by Greater again = ap (λ (l : List Record). q ∷ l) again

reversed : (o : Ordering) → is_lt o ≡ true → ordering_reverse o ≡ Greater
reversed Less h = refl
reversed Equal h = cc
reversed Greater h = cc

after : (q r : Record) → IsBefore q r → record_cmp r q ≡ Greater
after q r h = records_total.antisymm r q ∙ reversed (record_cmp q r) h

-- one of the last one's rank leaves the row as it is
with_tied : (s : List Record) (x r : Record) → AllByRecursion (λ q. IsBefore q r) s → record_cmp r x ≡ Equal → with_record (s ++ x ∷ []) r ≡ s ++ x ∷ []
with_tied [] x r before e = ap (λ (o : Ordering). by_order o (r ∷ x ∷ []) (x ∷ []) (x ∷ r ∷ [])) e
with_tied (q ∷ s) x r before e =
    ap (λ (o : Ordering). by_order o (r ∷ q ∷ s ++ x ∷ []) (q ∷ s ++ x ∷ []) (q ∷ with_record (s ++ x ∷ []) r)) (after q r before.0)
    ∙ ap (λ (l : List Record). q ∷ l) (with_tied s x r before.1 e)

-- the last record of the new row is the greatest
pub new_greatest : (s t : List Record) (y : Record) → AllByRecursion (λ q. IsBefore q y) s → AllByRecursion (λ q. IsBefore q y) t → union s (t ++ y ∷ []) ≡ union s t ++ y ∷ []
new_greatest s t y left right = fold_on s t (y ∷ []) ∙ with_last (union s t) y (each_union (λ q. IsBefore q y) s t left right)

-- the last record of the held row is the greatest
pub held_greatest : (s t : List Record) (x : Record) → AllByRecursion (λ q. IsBefore q x) t → union (s ++ x ∷ []) t ≡ union s t ++ x ∷ []
held_greatest s [] x right = refl
held_greatest s (r ∷ t) x right = ap (λ (acc : List Record). fold with_record acc t) (with_before s x r right.0) ∙ held_greatest (with_record s r) t x right.1

-- of two of one rank the held one stands for both
pub both_greatest : (s t : List Record) (x y : Record) → AllByRecursion (λ q. IsBefore q x) t → AllByRecursion (λ q. IsBefore q y) s → AllByRecursion (λ q. IsBefore q y) t → record_cmp y x ≡ Equal
    → union (s ++ x ∷ []) (t ++ y ∷ []) ≡ union s t ++ x ∷ []
both_greatest s t x y below_x left right tied =
    fold_on (s ++ x ∷ []) t (y ∷ [])
    ∙ ap (λ (l : List Record). with_record l y) (held_greatest s t x below_x)
    ∙ with_tied (union s t) x y (each_union (λ q. IsBefore q y) s t left right) tied

-- ---- by the order of the last records

at_last : (s : List Record) (x : Record) → slice_get (s ++ x ∷ []) (length s) ≡ Some x
at_last [] x = refl
at_last (q ∷ s) x = at_last s x

pub last_push : (s : List Record) (x : Record) → last_of (s ++ x ∷ []) ≡ Some x
last_push s x =
    let e : length (s ++ x ∷ []) - 1 ≡ length s = omega (arith, length-append s (x ∷ [])) in
    ap (λ (k : ℕ). slice_get (s ++ x ∷ []) k) e ∙ at_last s x

pub last_has : (s : List Record) (x : Record) → last_of s ≡ Some x → Contains s x
last_has s x h = (length s - 1, slice_get_within s (length s - 1) x h, get_or_from_slice_get s (length s - 1) x x h)

-- what is before a record is before one of its rank
tied_below : (s : List Record) (x y : Record) → record_cmp x y ≡ Equal → AllByRecursion (λ q. IsBefore q y) s → AllByRecursion (λ q. IsBefore q x) s
tied_below [] x y tied h = tt
tied_below (q ∷ s) x y tied h =
    let same : record_cmp q x ≡ record_cmp q y = records_total.antisymm q x ∙ ap ordering_reverse (records_total.congr x y q tied) ∙ sym (records_total.antisymm q y) in
    (ap is_lt same ∙ h.0, tied_below s x y tied h.1)

front_below : (s : List Record) (x y : Record) → IsAscending (s ++ x ∷ []) → IsBefore x y → AllByRecursion (λ q. IsBefore q y) s
front_below s x y up lt = each_from (λ q. IsBefore q y) s (λ q c. before_trans q x y (each (λ p. IsBefore p x) s q (all_before s x [] up) c) lt)

-- a row is empty or has a last record
pub data Ends (s : List Record) : Type 0 where
  none : s ≡ [] → Ends s
  some : (t : List Record) (x : Record) → s ≡ t ++ x ∷ [] → Ends s

pub ends : (s : List Record) → Ends s
ends [] = none refl
ends (q ∷ s) = by (ends s)
  where
    by : Ends s → Ends (q ∷ s)
    by (none e) = some [] q (ap (λ (l : List Record). q ∷ l) e)
    by (some t x e) = some (q ∷ t) x (ap (λ (l : List Record). q ∷ l) e)

-- where the last record is before another, each one is
below : (s : List Record) (y : Record) → IsAscending s → order_of (last_of s) (Some y) ≡ Less → AllByRecursion (λ q. IsBefore q y) s
below s y up less = by (ends s)
  where
    by : Ends s → AllByRecursion (λ q. IsBefore q y) s
    by (none e) = subst (λ (l : List Record). AllByRecursion (λ q. IsBefore q y) l) (sym e) tt
    by (some t x e) =
        let lt : IsBefore x y = ap is_lt (ap (λ (o : Option Record). order_of o (Some y)) (sym (ap last_of e ∙ last_push t x)) ∙ less) in
        subst (λ (l : List Record). AllByRecursion (λ q. IsBefore q y) l) (sym e)
        (each_append (λ q. IsBefore q y) t (x ∷ []) (front_below t x y (subst IsAscending e up) lt) (lt, tt))

turned : (o : Option Record) (x : Record) → order_of (Some x) o ≡ Greater → order_of o (Some x) ≡ Less
turned None x h = refl
turned (Some y) x h = records_total.antisymm y x ∙ ap ordering_reverse h

-- ---- what is taken

pub takes_new : (h t : List Record) (y : Record) → IsAscending h → IsAscending (t ++ y ∷ []) → last_order h (t ++ y ∷ []) ≡ Less → TakesGreatest h (t ++ y ∷ []) h t y
takes_new h t y up new_up less =
    new_greatest h t y (below h y up (ap (λ (o : Option Record). order_of (last_of h) o) (sym (last_push t y)) ∙ less)) (all_before t y [] new_up)

pub takes_held : (s n : List Record) (x : Record) → IsAscending n → last_order (s ++ x ∷ []) n ≡ Greater → TakesGreatest (s ++ x ∷ []) n s n x
takes_held s n x up greater =
    held_greatest s n x (below n x up (turned (last_of n) x (ap (λ (o : Option Record). order_of o (last_of n)) (sym (last_push s x)) ∙ greater)))

pub takes_both : (s t : List Record) (x y : Record) → IsAscending (s ++ x ∷ []) → IsAscending (t ++ y ∷ []) → last_order (s ++ x ∷ []) (t ++ y ∷ []) ≡ Equal → TakesGreatest (s ++ x ∷ []) (t ++ y ∷ []) s t x
takes_both s t x y up new_up equal =
    let tied : record_cmp x y ≡ Equal = ap (λ (o : Option Record). order_of o (Some y)) (sym (last_push s x)) ∙ ap (λ (o : Option Record). order_of (last_of (s ++ x ∷ [])) o) (sym (last_push t y)) ∙ equal in
    let right = all_before t y [] new_up in
    both_greatest s t x y (tied_below t x y tied right) (tied_below s y x (tied_back records_total x y tied) (all_before s x [] up)) right (tied_back records_total x y tied)
