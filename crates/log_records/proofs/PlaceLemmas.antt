-- Where a record goes among others that ascend.
use Rattle.std.proofs.Common.{◌≡◌, ◌≢◌, ℕ, zero, suc, ◌+◌, ◌<◌, ◌≤◌, ◌^◌, Bool, true, false, cond, List, [], ◌∷◌, length, get_or, take, drop, refl, sym, ap, ◌∙◌, subst, arith}
use Rattle.std.specs.List.{AllByRecursion}
use Rattle.std.specs.Ordering.{is_lt}
use Rattle.std.specs.declared.cmp.Ordering.{Ordering}
use Rattle.std.specs.declared.cmp.Ordering.TheVariants.{Less, Equal, Greater}
use Rattle.std.proofs.lemmas.List.{length-map}
use Rattle.std.proofs.lemmas.List.Sums.{sum_by-cons}
use Rattle.log_model.specs.Record as log
use Rattle.log_model.specs.Rank.{Rank, rank, rank_cmp}
use Rattle.log_model.specs.View.{most_cited}
use Rattle.log_model.specs.Spelling.{HasSpelling}
use Rattle.log_model.specs.Closed.{IsAscending}
use Rattle.log_model.proofs.Lists.{each_from, each}
use Rattle.log_model.proofs.Owners.{ranks_total}
use Rattle.log_model.proofs.Sets.{IsBefore}
use Rattle.log_records.specs.declared.record.Record.{Record}
use Rattle.log_records.specs.Records.{record_of, records_of}
use Rattle.log_records.specs.Places.{merge_place}

abbrev pub is_under : Rank → log.Record → Bool
is_under first r = is_lt (rank_cmp (rank r) first)

less_is : (o : Ordering) → is_lt o ≡ true → o ≡ Less
less_is Less h = refl
less_is Equal h = cc
less_is Greater h = cc

under_trans : (first : Rank) (q r : log.Record) → IsBefore q r → is_under first r ≡ true → is_under first q ≡ true
under_trans first q r h g = ap is_lt (ranks_total.trans (rank q) (rank r) first (less_is _ h) (less_is _ g))

not_under : (first : Rank) (q r : log.Record) → IsBefore q r → is_under first q ≡ false → is_under first r ≡ false
not_under first q r h g = by (is_under first r) refl
  where
    by : (b : Bool) → is_under first r ≡ b → b ≡ false
    by false e = refl
    by true e = absurd (let y = under_trans first q r h e in cc (sym y ∙ g))

-- all up to one that is under the rank are under it
pub under_up_to : (first : Rank) (s : List log.Record) (i : ℕ) (x : log.Record) → IsAscending s → i < length s → get_or s i x ≡ x → is_under first x ≡ true → AllByRecursion (λ q. is_under first q ≡ true) (take (suc i) s)
under_up_to first [] i x up lt e h = absurd (omega arith)
under_up_to first (q ∷ s) zero x up lt e h = (ap (λ (r : log.Record). is_under first r) e ∙ h, tt)
under_up_to first (q ∷ s) (suc i) x up lt e h = (under_trans first q x (each (IsBefore q) s x up.0 (i, omega arith, e)) h, under_up_to first s i x up.1 (omega arith) e h)

-- all from one on that isn't are not
pub not_under_from : (first : Rank) (s : List log.Record) (i : ℕ) (x : log.Record) → IsAscending s → i < length s → get_or s i x ≡ x → is_under first x ≡ false → AllByRecursion (λ q. is_under first q ≡ false) (drop i s)
not_under_from first [] i x up lt e h = absurd (omega arith)
not_under_from first (q ∷ s) zero x up lt e h =
    let this : is_under first q ≡ false = ap (λ (r : log.Record). is_under first r) e ∙ h in
    (this, each_from (λ r. is_under first r ≡ false) s (λ r c. not_under first q r (each (IsBefore q) s r up.0 c) this))
not_under_from first (q ∷ s) (suc i) x up lt e h = not_under_from first s i x up.1 (omega arith) e h

zero_plus : (n : ℕ) → 0 + n ≡ n
zero_plus n = omega arith

one_plus : (n : ℕ) → 1 + n ≡ suc n
one_plus n = omega arith

pub place_cons : (first : Rank) (q : log.Record) (s : List log.Record) → merge_place (q ∷ s) first ≡ cond (is_under first q) 1 0 + merge_place s first
place_cons first q s = sum_by-cons (λ r. cond (is_under first r) 1 0) q s

none_under : (first : Rank) (s : List log.Record) → AllByRecursion (λ q. is_under first q ≡ false) s → merge_place s first ≡ 0
none_under first [] h = refl
none_under first (q ∷ s) h = place_cons first q s ∙ ap (λ b. cond b 1 0 + merge_place s first) h.0 ∙ zero_plus (merge_place s first) ∙ none_under first s h.1

-- the number of those under it, from a front of them and a rest that has none
pub place_is : (first : Rank) (s : List log.Record) (i : ℕ) → i ≤ length s → AllByRecursion (λ q. is_under first q ≡ true) (take i s) → AllByRecursion (λ q. is_under first q ≡ false) (drop i s) → i ≡ merge_place s first
place_is first s zero lt under rest = sym (none_under first s rest)
place_is first [] (suc i) lt under rest = absurd (omega arith)
place_is first (q ∷ s) (suc i) lt under rest =
    let again = place_is first s i (omega arith) under.1 rest in
    let one = place_cons first q s ∙ ap (λ b. cond b 1 0 + merge_place s first) under.0 in
    omega (arith, again, one)

pub place_within : (first : Rank) (s : List log.Record) → merge_place s first ≤ length s
place_within first [] = omega arith
place_within first (q ∷ s) = subst (λ k. k ≤ suc (length s)) (sym (place_cons first q s)) (by (is_under first q) (place_within first s))
  where
    by : (b : Bool) → merge_place s first ≤ length s → cond b 1 0 + merge_place s first ≤ suc (length s)
    by true h = omega arith
    by false h = omega arith

-- all up to the place are under it
pub under_place : (first : Rank) (s : List log.Record) → IsAscending s → AllByRecursion (λ q. is_under first q ≡ true) (take (merge_place s first) s)
under_place first [] up = tt
under_place first (q ∷ s) up = subst (λ k. AllByRecursion (λ x. is_under first x ≡ true) (take k (q ∷ s))) (sym (place_cons first q s)) (by (is_under first q) refl (under_place first s up.1))
  where
    by : (b : Bool) → is_under first q ≡ b → AllByRecursion (λ x. is_under first x ≡ true) (take (merge_place s first) s) → AllByRecursion (λ x. is_under first x ≡ true) (take (cond b 1 0 + merge_place s first) (q ∷ s))
    by true e again = subst (λ k. AllByRecursion (λ x. is_under first x ≡ true) (take k (q ∷ s))) (sym (one_plus (merge_place s first))) (e, again)
    by false e again =
        let none : cond false 1 0 + merge_place s first ≡ 0 = zero_plus (merge_place s first) ∙ none_under first s (each_from (λ r. is_under first r ≡ false) s (λ r c. not_under first q r (each (IsBefore q) s r up.0 c) e)) in
        subst (λ k. AllByRecursion (λ x. is_under first x ≡ true) (take k (q ∷ s))) (sym none) tt

-- ---- the search of the place

pub held_short : (rs : List Record) (i : ℕ) (x : Record) → i < length rs → x ≡ get_or rs i x → AllByRecursion HasSpelling (records_of rs) → length x.vector ≤ 2 ^ 31
held_short [] i x lt e all = absurd (omega arith)
held_short (r ∷ rs) zero x lt e all = let short : length x.vector ≤ most_cited = subst (λ (y : Record). length y.vector ≤ most_cited) (sym e) all.0.short in omega arith
held_short (r ∷ rs) (suc i) x lt e all = held_short rs i x (omega arith) e all.1

seen_at : (rs : List Record) (i : ℕ) (x : Record) → x ≡ get_or rs i x → get_or (records_of rs) i (record_of x) ≡ record_of x
seen_at [] i x e = refl
seen_at (r ∷ rs) zero x e = ap record_of (sym e)
seen_at (r ∷ rs) (suc i) x e = seen_at rs i x e

seen_within : (rs : List Record) (i : ℕ) → i < length rs → i < length (records_of rs)
seen_within rs i lt = let n = length-map rs record_of in omega (arith, n, lt)

is_less : (o : Ordering) → o ≡ Less → is_lt o ≡ true
is_less o e = ap is_lt e

isnt_less : (o : Ordering) → o ≢ Less → is_lt o ≡ false
isnt_less Less n = absurd (n refl)
isnt_less Equal n = refl
isnt_less Greater n = refl

pub less_under : (rs : List Record) (i : ℕ) (x : Record) (first found : Rank) (o : Ordering) → i < length rs → x ≡ get_or rs i x → IsAscending (records_of rs) → found ≡ rank (record_of x) → o ≡ rank_cmp found first → o ≡ Less
    → AllByRecursion (λ q. is_under first q ≡ true) (take (i + 1) (records_of rs))
less_under rs i x first found o lt e up ranked compared less =
    let under : is_under first (record_of x) ≡ true = ap (λ (r : Rank). is_lt (rank_cmp r first)) (sym ranked) ∙ ap is_lt (sym compared) ∙ is_less o less in
    let more : suc i ≡ i + 1 = omega arith in
    subst (λ k. AllByRecursion (λ q. is_under first q ≡ true) (take k (records_of rs))) more (under_up_to first (records_of rs) i (record_of x) up (seen_within rs i lt) (seen_at rs i x e) under)

pub not_less_under : (rs : List Record) (i : ℕ) (x : Record) (first found : Rank) (o : Ordering) → i < length rs → x ≡ get_or rs i x → IsAscending (records_of rs) → found ≡ rank (record_of x) → o ≡ rank_cmp found first → o ≢ Less
    → AllByRecursion (λ q. is_under first q ≡ false) (drop i (records_of rs))
not_less_under rs i x first found o lt e up ranked compared more =
    let under : is_under first (record_of x) ≡ false = ap (λ (r : Rank). is_lt (rank_cmp r first)) (sym ranked) ∙ ap is_lt (sym compared) ∙ isnt_less o more in
    not_under_from first (records_of rs) i (record_of x) up (seen_within rs i lt) (seen_at rs i x e) under

pub at_place : (first : Rank) (rs : List Record) (low high : ℕ) → low ≡ high → high ≤ length rs → AllByRecursion (λ q. is_under first q ≡ true) (take low (records_of rs)) → AllByRecursion (λ q. is_under first q ≡ false) (drop high (records_of rs))
    → low ≡ merge_place (records_of rs) first
at_place first rs low high same within under rest =
    let n = length-map rs record_of in
    place_is first (records_of rs) low (omega (arith, n, within, same)) under (subst (λ k. AllByRecursion (λ q. is_under first q ≡ false) (drop k (records_of rs))) (sym same) rest)
