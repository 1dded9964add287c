-- A view that is made of keys with different head keys, in any order, is a view.
use Rattle.std.proofs.Common.{◌≡◌, ℕ, ◌+◌, ◌≤◌, Bool, true, false, not, List, [], ◌∷◌, ◌++◌, length, refl, sym, ap, ◌∙◌, subst, arith}
use Rattle.std.specs.Prelude.{IsTrue, fold}
use Rattle.std.specs.List.{AllByRecursion, list_all}
use Rattle.std.specs.Ordering.{is_lt, ordering_reverse}
use Rattle.std.specs.declared.cmp.Ordering.{Ordering}
use Rattle.std.specs.declared.cmp.Ordering.TheVariants.{Less, Equal, Greater}
use Rattle.std.specs.FinMap.Entries.{by_order}
use Rattle.std.proofs.lemmas.Map.Lookups.{exact_bytes}
use Rattle.ivy_base.specs.declared.key.Key.{Key}
use Rattle.ivy_base.specs.declared.key.PubKey.{PubKey}
use Rattle.ivy_base.specs.Naming.{owner_cmp, head_key_of}
use Rattle.tree_model.specs.Tree.{same_key}
use Rattle.tree_model.proofs.Keys.{same_key_is, same_key_itself}
use Rattle.tree_model.proofs.Sound.{both_true}
use Rattle.log_model.specs.View.{ascend, have_own_head_keys, most_former, most_members, IsView}
use Rattle.log_model.proofs.Lists.{both, each_append, each_left, each_right}
use Rattle.log_model.proofs.Owners.{owners_total}
use Rattle.world_model.specs.Logs.{with_key, in_key_order}
use Rattle.ring_model.proofs.Lists.{all_weaker}

all_to : {X : Type 0} (test : X → Bool) (xs : List X) → AllByRecursion (λ x. IsTrue (test x)) xs → list_all test xs ≡ true
all_to test [] h = refl
all_to test (x ∷ xs) h = both (test x) (list_all test xs) h.0 (all_to test xs h.1)

-- ---- keys of different head keys

abbrev IsOther : PubKey → PubKey → Type 0
IsOther k l = head_key_of k ≡ head_key_of l → ⊥

other_back : (k l : PubKey) → IsOther k l → IsOther l k
other_back k l h e = h (sym e)

abbrev AreDistinct : List PubKey → Type 0
AreDistinct [] = Unit {0}
AreDistinct (k ∷ ks) = AllByRecursion (IsOther k) ks × AreDistinct ks

-- each of those is another than each of these
abbrev AreOthers : List PubKey → List PubKey → Type 0
AreOthers ks ls = AllByRecursion (λ k. AllByRecursion (IsOther k) ls) ks

abbrev is_other : PubKey → PubKey → Bool
is_other k l = not (same_key (head_key_of k) (head_key_of l))

from_other : (k l : PubKey) → is_other k l ≡ true → IsOther k l
from_other k l h e = by (same_key (head_key_of k) (head_key_of l)) h (subst (λ (x : Key). same_key (head_key_of k) x ≡ true) e (same_key_itself (head_key_of k)))
  where
    by : (b : Bool) → not b ≡ true → b ≡ true → ⊥
    by true f g = cc f
    by false f g = cc g

to_other : (k l : PubKey) → IsOther k l → is_other k l ≡ true
to_other k l h = by (same_key (head_key_of k) (head_key_of l)) refl
  where
    by : (b : Bool) → same_key (head_key_of k) (head_key_of l) ≡ b → not b ≡ true
    by true e = absurd (h (same_key_is (head_key_of k) (head_key_of l) e))
    by false e = refl

others_from : (k : PubKey) (ks : List PubKey) → list_all (is_other k) ks ≡ true → AllByRecursion (IsOther k) ks
others_from k [] h = tt
others_from k (l ∷ ks) h = let p = both_true (is_other k l) (list_all (is_other k) ks) h in (from_other k l p.0, others_from k ks p.1)

distinct_from : (ks : List PubKey) → have_own_head_keys ks ≡ true → AreDistinct ks
distinct_from [] h = tt
distinct_from (k ∷ ks) h = let p = both_true (list_all (is_other k) ks) (have_own_head_keys ks) h in (others_from k ks p.0, distinct_from ks p.1)

distinct_to : (ks : List PubKey) → AreDistinct ks → have_own_head_keys ks ≡ true
distinct_to [] h = refl
distinct_to (k ∷ ks) h =
    both (list_all (is_other k) ks) (have_own_head_keys ks)
    (all_to (is_other k) ks (all_weaker (IsOther k) (λ l. is_other k l ≡ true) ks (λ l o. to_other k l o) h.0)) (distinct_to ks h.1)

-- ---- two lists in a row

distinct_left : (ks ls : List PubKey) → AreDistinct (ks ++ ls) → AreDistinct ks
distinct_left [] ls h = tt
distinct_left (k ∷ ks) ls h = (each_left (IsOther k) ks ls h.0, distinct_left ks ls h.1)

distinct_right : (ks ls : List PubKey) → AreDistinct (ks ++ ls) → AreDistinct ls
distinct_right [] ls h = h
distinct_right (k ∷ ks) ls h = distinct_right ks ls h.1

others_between : (ks ls : List PubKey) → AreDistinct (ks ++ ls) → AreOthers ks ls
others_between [] ls h = tt
others_between (k ∷ ks) ls h = (each_right (IsOther k) ks ls h.0, others_between ks ls h.1)

in_a_row : (ks ls : List PubKey) → AreDistinct ks → AreDistinct ls → AreOthers ks ls → AreDistinct (ks ++ ls)
in_a_row [] ls h g o = g
in_a_row (k ∷ ks) ls h g o = (each_append (IsOther k) ks ls h.0 o.0, in_a_row ks ls h.1 g o.1)

-- ---- a key in its place

with_each : (P : PubKey → Type 0) (ls : List PubKey) (k : PubKey) → AllByRecursion P ls → P k → AllByRecursion P (with_key ls k)
with_each P [] k h p = (p, tt)
with_each P (l ∷ ls) k h p = by (owner_cmp k l) (with_each P ls k h.1 p)
  where
    by : (o : Ordering) → AllByRecursion P (with_key ls k) → AllByRecursion P (by_order o (k ∷ l ∷ ls) (k ∷ l ∷ ls) (l ∷ with_key ls k))
    by Less again = (p, h)
    by Equal again = (p, h)
    by Greater again = (h.0, again)

with_distinct : (ls : List PubKey) (k : PubKey) → AreDistinct ls → AllByRecursion (IsOther k) ls → AreDistinct (with_key ls k)
with_distinct [] k h o = (tt, tt)
with_distinct (l ∷ ls) k h o = by (owner_cmp k l) (with_distinct ls k h.1 o.1)
  where
    by : (r : Ordering) → AreDistinct (with_key ls k) → AreDistinct (by_order r (k ∷ l ∷ ls) (k ∷ l ∷ ls) (l ∷ with_key ls k))
    by Less again = (o, h)
    by Equal again = (o, h)
    by Greater again = (with_each (IsOther l) ls k h.0 (other_back k l o.0), again)

abbrev IsBefore : PubKey → PubKey → Type 0
IsBefore k l = IsTrue (is_lt (owner_cmp k l))

abbrev DoAscend : List PubKey → Type 0
DoAscend [] = Unit {0}
DoAscend (k ∷ ks) = AllByRecursion (IsBefore k) ks × DoAscend ks

less_is : (o : Ordering) → is_lt o ≡ true → o ≡ Less
less_is Less h = refl
less_is Equal h = cc h
less_is Greater h = cc h

all_later : (k l : PubKey) (ls : List PubKey) → owner_cmp k l ≡ Less → AllByRecursion (IsBefore l) ls → AllByRecursion (IsBefore k) ls
all_later k l ls e h = all_weaker (IsBefore l) (IsBefore k) ls (λ m g. ap is_lt (owners_total.trans k l m e (less_is (owner_cmp l m) g))) h

with_ascends : (ls : List PubKey) (k : PubKey) → DoAscend ls → AllByRecursion (IsOther k) ls → DoAscend (with_key ls k)
with_ascends [] k h o = (tt, tt)
with_ascends (l ∷ ls) k h o = by (owner_cmp k l) refl (with_ascends ls k h.1 o.1)
  where
    by : (r : Ordering) → owner_cmp k l ≡ r → DoAscend (with_key ls k) → DoAscend (by_order r (k ∷ l ∷ ls) (k ∷ l ∷ ls) (l ∷ with_key ls k))
    by Less e again = ((ap is_lt e, all_later k l ls e h.0), h)
    by Equal e again = absurd (o.0 (ap (λ (bytes : List ℕ). head_key_of (record { 0 = bytes })) (exact_bytes k.0 l.0 e)))
    by Greater e again = (with_each (IsBefore l) ls k h.0 (ap is_lt (owners_total.antisymm l k ∙ ap ordering_reverse e)), again)

with_longer : (ls : List PubKey) (k : PubKey) → length (with_key ls k) ≡ length ls + 1
with_longer [] k = refl
with_longer (l ∷ ls) k = by (owner_cmp k l) (with_longer ls k)
  where
    by : (o : Ordering) → length (with_key ls k) ≡ length ls + 1 → length (by_order o (k ∷ l ∷ ls) (k ∷ l ∷ ls) (l ∷ with_key ls k)) ≡ length (l ∷ ls) + 1
    by Less again = omega arith
    by Equal again = omega arith
    by Greater again = omega (arith, again)

-- ---- all keys in their places

still_others : (k : PubKey) (ks acc : List PubKey) → AllByRecursion (IsOther k) ks → AreOthers ks acc → AreOthers ks (with_key acc k)
still_others k [] acc h o = tt
still_others k (l ∷ ks) acc h o = (with_each (IsOther l) acc k o.0 (other_back k l h.0), still_others k ks acc h.1 o.1)

fold_each : (P : PubKey → Type 0) (acc ks : List PubKey) → AllByRecursion P acc → AllByRecursion P ks → AllByRecursion P (fold with_key acc ks)
fold_each P acc [] h g = h
fold_each P acc (k ∷ ks) h g = fold_each P (with_key acc k) ks (with_each P acc k h g.0) g.1

fold_distinct : (acc ks : List PubKey) → AreDistinct acc → AreDistinct ks → AreOthers ks acc → AreDistinct (fold with_key acc ks)
fold_distinct acc [] h g o = h
fold_distinct acc (k ∷ ks) h g o = fold_distinct (with_key acc k) ks (with_distinct acc k h o.0) g.1 (still_others k ks acc g.0 o.1)

fold_ascends : (acc ks : List PubKey) → DoAscend acc → AreDistinct ks → AreOthers ks acc → DoAscend (fold with_key acc ks)
fold_ascends acc [] h g o = h
fold_ascends acc (k ∷ ks) h g o = fold_ascends (with_key acc k) ks (with_ascends acc k h o.0) g.1 (still_others k ks acc g.0 o.1)

fold_longer : (acc ks : List PubKey) → length (fold with_key acc ks) ≡ length acc + length ks
fold_longer acc [] = omega arith
fold_longer acc (k ∷ ks) =
    let more = fold_longer (with_key acc k) ks in
    let one = with_longer acc k in omega (arith, more, one)

none_before : (ks : List PubKey) → AreOthers ks []
none_before [] = tt
none_before (k ∷ ks) = (tt, none_before ks)

order_is_distinct : (ks : List PubKey) → AreDistinct ks → AreDistinct (in_key_order ks)
order_is_distinct ks h = fold_distinct [] ks tt h (none_before ks)

does_ascend : (ks : List PubKey) → DoAscend ks → ascend ks ≡ true
does_ascend [] h = refl
does_ascend (k ∷ ks) h = both (list_all (λ later. is_lt (owner_cmp k later)) ks) (ascend ks) (all_to (λ later. is_lt (owner_cmp k later)) ks h.0) (does_ascend ks h.1)

order_ascends : (ks : List PubKey) → AreDistinct ks → ascend (in_key_order ks) ≡ true
order_ascends ks h = does_ascend (in_key_order ks) (fold_ascends [] ks tt h (none_before ks))

-- what each is another than, each in order is another than
order_others : (ks ls : List PubKey) → AreOthers ks ls → AreOthers (in_key_order ks) (in_key_order ls)
order_others ks ls o =
    all_weaker (λ k. AllByRecursion (IsOther k) ls) (λ k. AllByRecursion (IsOther k) (in_key_order ls)) (in_key_order ks)
    (λ k h. fold_each (IsOther k) [] ls tt h) (fold_each (λ k. AllByRecursion (IsOther k) ls) [] ks tt o)

pub made_view_is_view : (members former : List PubKey) → 1 ≤ length members → length members ≤ most_members → length former ≤ most_former → have_own_head_keys (members ++ former) ≡ true
    → IsView (record { members = in_key_order members; former = in_key_order former })
made_view_is_view members former some few few_former own =
    let distinct = distinct_from (members ++ former) own in
    let of_members = distinct_left members former distinct in
    let of_former = distinct_right members former distinct in
    let count = fold_longer [] members in
    let count_former = fold_longer [] former in
    record {
      some = omega (arith, count, some);
      few = omega (arith, count, few);
      few_former = omega (arith, count_former, few_former);
      members_ascend = order_ascends members of_members;
      former_ascend = order_ascends former of_former;
      apart = distinct_to (in_key_order members ++ in_key_order former)
          (in_a_row (in_key_order members) (in_key_order former) (order_is_distinct members of_members) (order_is_distinct former of_former)
          (order_others members former (others_between members former distinct)));
    }

-- what holds of each key holds of each in order
pub each_in_order : (P : PubKey → Type 0) (keys : List PubKey) → AllByRecursion P keys → AllByRecursion P (in_key_order keys)
each_in_order P keys h = fold_each P [] keys tt h
