-- Where a pass starts: the places of what is held, and what goes on from it.
use Rattle.std.proofs.Common.{◌≡◌, ◌↔◌, ℕ, zero, suc, ◌+◌, ◌-◌, ◌<◌, ◌≤◌, Bool, true, false, cond, List, [], ◌∷◌, ◌++◌, length, get_or, take, refl, sym, ap, ◌∙◌, subst, arith, Option, Some, None, lt-ltb, ltb-true}
use Rattle.std.specs.Prelude.{IsTrue, nat_lt}
use Rattle.std.specs.Option.{option_to_list}
use Rattle.std.specs.List.{AllByRecursion, slice_get}
use Rattle.std.specs.Ordering.{eq_by_cmp}
use Rattle.std.proofs.lemmas.List.{length-map, append-nil}
use Rattle.ivy_base.specs.declared.key.Key.{Key}
use Rattle.ivy_base.specs.declared.key.PubKey.{PubKey}
use Rattle.ivy_base.specs.Naming.{owner_cmp}
use Rattle.log_model.specs.View.{View}
use Rattle.log_model.specs.Vector.{Stamp, reach, Dominates}
use Rattle.log_model.specs.Record.{Record}
use Rattle.log_model.specs.Rank.{full_vector}
use Rattle.log_model.specs.Spelling.{HasSpelling}
use Rattle.log_model.specs.Chain.{IsGood, IsFirst, GoesOn}
use Rattle.log_model.specs.Closed.{log_of}
use Rattle.log_model.proofs.Lists.{each}
use Rattle.log_model.proofs.Opening.{same_owner}
use Rattle.log_model.proofs.Part.{Numbered, log_push}
use Rattle.log_records.specs.declared.record.Record as kept
use Rattle.log_records.specs.Records.{record_of}
use Rattle.log_records.specs.Records.{records_of}
use Rattle.causal_order.specs.Over.{GoesOnFrom}
use Rattle.causal_order.specs.Available.{IsLinked, above}
use Rattle.causal_order.specs.Kept.{IsAt, AreAt, newest_name}
use Rattle.causal_order.specs.Started.{NamesNewest, KnowsNewest, Joins}
use Rattle.causal_order.proofs.Logs.{good_over, numbers_after}
use Rattle.causal_order.proofs.Passes.{is_mine, of_log}
use Rattle.causal_order.proofs.Places.{first_at, next_at, rest_at, at_stands, some_at, one_at, place_holds, places_count, places_push, newest_at}

-- ---- what is held, by its places

pub get_is : (xs : List ℕ) (i x d : ℕ) → Some x ≡ slice_get xs i → (i < length xs) × (get_or xs i d ≡ x)
get_is [] i x d e = cc
get_is (y ∷ xs) zero x d e = (omega arith, cc)
get_is (y ∷ xs) (suc i) x d e = let w = get_is xs i x d e in (let l = w.0 in omega (arith, l), w.1)

pub held_at : (held : List kept.Record) (i : ℕ) (d : kept.Record) → i < length held → IsAt (records_of held) i (record_of (get_or held i d))
held_at [] i d h = absurd (omega (arith, h))
held_at (x ∷ held) zero d h = first_at (record_of x) (records_of held)
held_at (x ∷ held) (suc i) d h = next_at (record_of x) (records_of held) i (record_of (get_or held i d)) (held_at held i d (omega (arith, h)))

pub held_within : (held : List kept.Record) (i : ℕ) (r : Record) → IsAt (records_of held) i r → i < length held
held_within held i r h = let w = h.within in let n = length-map held record_of in omega (arith, w, n)

-- the record at the last place is the newest one
pub record LastAt (known rs : List Record) (place : ℕ) : Type 0 where
  pub last : Record
  pub index : ℕ
  pub count : length rs ≡ suc index
  pub at : IsAt rs index last
  pub placed : IsAt known place last

pub last_place : (known : List Record) (places items : List ℕ) (rs : List Record) (place : ℕ) → places ≡ items → Some place ≡ slice_get places (length places - 1) → AreAt known items rs → LastAt known rs place
last_place known places items rs place same e h =
    let stand = subst (λ (ps : List ℕ). AreAt known ps rs) (sym same) h in
    let count = places_count known places rs stand in
    let w = get_is places (length places - 1) place 0 e in
    let within = w.0 in
    let some = some_at rs (length places - 1) (omega (arith, within, count)) in
    record {
      last = some.0;
      index = length places - 1;
      count = omega (arith, within, count);
      at = some.1;
      placed = subst (λ (k : ℕ). IsAt known k some.0) w.1 (place_holds known places rs (length places - 1) 0 some.0 stand some.1);
    }

pub knows_at : (rs : List Record) (i : ℕ) (p r : Record) → length rs ≡ suc i → IsAt rs i p → (b : Bool) → (IsTrue b ↔ Dominates (full_vector r) (full_vector p)) → IsTrue b ↔ KnowsNewest rs r
knows_at [] i p r e h b k = absurd (omega (arith, e))
knows_at (x ∷ []) zero p r e h b k = subst (λ (y : Record). IsTrue b ↔ Dominates (full_vector r) (full_vector y)) (sym h.is) k
knows_at (x ∷ []) (suc i) p r e h b k = absurd (omega (arith, e))
knows_at (x ∷ y ∷ rs) zero p r e h b k = absurd (omega (arith, e))
knows_at (x ∷ y ∷ rs) (suc i) p r e h b k = knows_at (y ∷ rs) i p r (omega (arith, e)) (rest_at x (y ∷ rs) i p h) b k

module _ (view : View) (s : Option Stamp) (owner : PubKey) (held : List kept.Record) (place : ℕ) (d : kept.Record) (chain : GoesOnFrom view owner s (log_of owner (records_of held))) (p : LastAt (records_of held) (log_of owner (records_of held)) place) where
  pub newest_is : record_of (get_or held place d) ≡ p.last
  newest_is = one_at (records_of held) place (record_of (get_or held place d)) p.last (held_at held place d (held_within held place p.last p.placed)) p.placed

  pub newest_owner : (get_or held place d).owner ≡ owner
  newest_owner = ap (λ (x : Record). x.owner) newest_is ∙ (of_log owner (records_of held) p.last (at_stands (log_of owner (records_of held)) p.index p.last p.at)).1

  pub newest_spelled : HasSpelling (record_of (get_or held place d))
  newest_spelled = subst HasSpelling (sym newest_is) (each (IsGood view owner) (log_of owner (records_of held)) p.last (good_over view owner s (log_of owner (records_of held)) chain) (at_stands (log_of owner (records_of held)) p.index p.last p.at)).spelled

  pub newest_known : (r : Record) (b : Bool) → (IsTrue b ↔ Dominates (full_vector r) (full_vector (record_of (get_or held place d)))) → IsTrue b ↔ KnowsNewest (log_of owner (records_of held)) r
  newest_known r b k = knows_at (log_of owner (records_of held)) p.index p.last r p.count p.at b (subst (λ (x : Record). IsTrue b ↔ Dominates (full_vector r) (full_vector x)) newest_is k)

  pub newest_named : (o : Option Stamp) → newest_name o (log_of owner (records_of held)) ≡ Some ((record_of (get_or held place d)).name)
  newest_named o = newest_at o (log_of owner (records_of held)) p.index p.last p.count p.at ∙ ap (λ (x : Record). Some x.name) (sym newest_is)

-- one record more, of the log or not
pub places_more_held : (held : List kept.Record) (places : List ℕ) (owner : PubKey) (i : ℕ) (d : kept.Record) → i < length held
    → AreAt (records_of held) places (log_of owner (records_of (take i held)))
    → (b : Bool) → eq_by_cmp owner_cmp owner (get_or held i d).owner ≡ b
    → AreAt (records_of held) (cond b (places ++ i ∷ []) places) (log_of owner (records_of (take (i + 1) held)))
places_more_held held places owner i d within h b e =
    subst (λ (rs : List Record). AreAt (records_of held) (cond b (places ++ i ∷ []) places) (log_of owner rs)) (sym one_more)
    (subst (λ (rs : List Record). AreAt (records_of held) (cond b (places ++ i ∷ []) places) rs) (sym (log_push owner (records_of (take i held)) (record_of (get_or held i d)) b e)) (by b))
  where
    taken : (held : List kept.Record) (i : ℕ) → i < length held → records_of (take (suc i) held) ≡ records_of (take i held) ++ record_of (get_or held i d) ∷ []
    taken [] i h = absurd (omega (arith, h))
    taken (x ∷ held) zero h = refl
    taken (x ∷ held) (suc i) h = ap (λ (rs : List Record). record_of x ∷ rs) (taken held i (omega (arith, h)))

    one_more : records_of (take (i + 1) held) ≡ records_of (take i held) ++ record_of (get_or held i d) ∷ []
    one_more = let e : suc i ≡ i + 1 = omega arith in subst (λ (n : ℕ). records_of (take n held) ≡ records_of (take i held) ++ record_of (get_or held i d) ∷ []) e (taken held i within)

    by : (b : Bool) → AreAt (records_of held) (cond b (places ++ i ∷ []) places) (log_of owner (records_of (take i held)) ++ cond b (record_of (get_or held i d) ∷ []) [])
    by true = places_push (records_of held) places (log_of owner (records_of (take i held))) i (record_of (get_or held i d)) h (held_at held i d within)
    by false = subst (λ (rs : List Record). AreAt (records_of held) places rs) (sym (append-nil (log_of owner (records_of (take i held))))) h

pub places_taken : (held : List kept.Record) (places : List ℕ) (owner : PubKey) (i : ℕ) (d : kept.Record) → i < length held
    → AreAt (records_of held) places (log_of owner (records_of (take i held))) → (get_or held i d).owner ≡ owner
    → AreAt (records_of held) (places ++ i ∷ []) (log_of owner (records_of (take (i + 1) held)))
places_taken held places owner i d within h own = places_more_held held places owner i d within h true (is_mine owner (record_of (get_or held i d)) own)

pub places_passed : (held : List kept.Record) (places : List ℕ) (owner : PubKey) (i : ℕ) (d : kept.Record) → i < length held
    → AreAt (records_of held) places (log_of owner (records_of (take i held))) → ((get_or held i d).owner ≡ owner → ⊥)
    → AreAt (records_of held) places (log_of owner (records_of (take (i + 1) held)))
places_passed held places owner i d within h other = places_more_held held places owner i d within h false (by (eq_by_cmp owner_cmp owner (get_or held i d).owner) refl)
  where
    by : (b : Bool) → eq_by_cmp owner_cmp owner (get_or held i d).owner ≡ b → eq_by_cmp owner_cmp owner (get_or held i d).owner ≡ false
    by true e = absurd (other (same_owner owner (get_or held i d).owner e))
    by false e = e

pub tip_is : (o : Option Stamp) (held : List kept.Record) (rs : List Record) (place : ℕ) (d : kept.Record) → LastAt (records_of held) rs place → newest_name o rs ≡ Some ((record_of (get_or held place d)).name)
tip_is o held rs place d p = newest_at o rs p.index p.last p.count p.at
    ∙ ap (λ (x : Record). Some x.name) (one_at (records_of held) place p.last (record_of (get_or held place d)) p.placed (held_at held place d (held_within held place p.last p.placed)))

-- ---- the chain's records of greater numbers

-- what is left of a chain
abbrev pub IsOnward : View → List Record → Type 0
IsOnward view [] = Unit {0}
IsOnward view (r ∷ rs) = IsLinked view (r ∷ rs)

pub onward_rest : (view : View) (r : Record) (rs : List Record) → IsLinked view (r ∷ rs) → IsOnward view rs
onward_rest view r [] h = tt
onward_rest view r (q ∷ rs) h =
    let good : IsGood view q.owner q = owned_good view r.owner q h.2.0 in (
      good,
      λ one. absurd (let s = h.2.1.seq in let some = h.0.spelled.some in omega (arith, one, s, some)),
      subst (λ (o : PubKey). GoesOn view o q rs) (sym h.2.0.owned) h.2.2,
    )
  where
    owned_good : (view : View) (owner : PubKey) (q : Record) → IsGood view owner q → IsGood view q.owner q
    owned_good view owner q g = subst (λ (o : PubKey). IsGood view o q) (sym g.owned) g

pub above_from : (n m : ℕ) (rs : List Record) → Numbered m rs → n < m → above n rs ≡ rs
above_from n m [] h lt = refl
above_from n m (r ∷ rs) h lt = let e = h.0 in by (nat_lt n r.seq) (lt-ltb n r.seq (omega (arith, e, lt))) (above_from n (m + 1) rs h.1 (omega (arith, lt)))
  where
    by : (b : Bool) → b ≡ true → above n rs ≡ rs → cond b (r ∷ above n rs) (above n rs) ≡ r ∷ rs
    by true e same = ap (λ (xs : List Record). r ∷ xs) same
    by false e same = cc

above_all : (view : View) (n : ℕ) (r : Record) (rs : List Record) → IsLinked view (r ∷ rs) → n < r.seq → above n (r ∷ rs) ≡ r ∷ rs
above_all view n r rs h lt = above_from n r.seq (r ∷ rs) (refl, numbers_after view r.owner r (r.seq + 1) rs refl h.2) lt

pub above_less : (n : ℕ) (r : Record) (rs : List Record) → r.seq ≤ n → above n (r ∷ rs) ≡ above n rs
above_less n r rs le = by (nat_lt n r.seq) refl
  where
    by : (b : Bool) → nat_lt n r.seq ≡ b → cond b (r ∷ above n rs) (above n rs) ≡ above n rs
    by true e = absurd (let lt = ltb-true n r.seq e in omega (arith, lt, le))
    by false e = refl

-- the first of the queue is dropped
pub let_go : (view : View) (n : ℕ) (old new : List kept.Record) (o : Option kept.Record) (first : kept.Record) → old ≡ option_to_list o ++ new → first ≡ get_or old 0 first → first.seq ≤ n
    → IsOnward view (records_of old) → (above n (records_of old) ≡ above n (records_of new)) × IsOnward view (records_of new)
let_go view n old new None first e f le onward = (ap (λ (xs : List kept.Record). above n (records_of xs)) e, subst (λ (xs : List kept.Record). IsOnward view (records_of xs)) e onward)
let_go view n old new (Some x) first e f le onward =
    let same : first ≡ x = f ∙ ap (λ (xs : List kept.Record). get_or xs 0 first) e in
    let small : x.seq ≤ n = subst (λ (y : kept.Record). y.seq ≤ n) same le in (
      ap (λ (xs : List kept.Record). above n (records_of xs)) e ∙ above_less n (record_of x) (records_of new) small,
      onward_rest view (record_of x) (records_of new) (subst (λ (xs : List kept.Record). IsOnward view (records_of xs)) e onward),
    )

pub all_new : (view : View) (n : ℕ) (left : List kept.Record) (first : kept.Record) → first ≡ get_or left 0 first → n < first.seq → IsOnward view (records_of left) → above n (records_of left) ≡ records_of left
all_new view n [] first f lt onward = refl
all_new view n (x ∷ left) first f lt onward = above_all view n (record_of x) (records_of left) onward (subst (λ (y : kept.Record). n < y.seq) f lt)

pub none_new : (n : ℕ) (left : List kept.Record) → length left ≤ 0 → above n (records_of left) ≡ records_of left
none_new n [] h = refl
none_new n (x ∷ left) h = absurd (omega (arith, h))

-- ---- what joins on what is held

pub names_some : (s : Option Stamp) (rs : List Record) (tip : Key) (r : Record) → Some tip ≡ newest_name s rs → (r.prev ≡ tip) ↔ NamesNewest s rs r
names_some None [] tip r e = cc
names_some (Some s) [] tip r e = let same : tip ≡ s.name = cc in (λ p. p ∙ same, λ p. p ∙ sym same)
names_some s (x ∷ []) tip r e = let same : tip ≡ x.name = cc in (λ p. p ∙ same, λ p. p ∙ sym same)
names_some s (x ∷ y ∷ rs) tip r e = names_some s (y ∷ rs) tip r e

pub joins_none : (s : Option Stamp) (rs : List Record) (r : Record) → None ≡ newest_name s rs → Joins s rs r
joins_none None [] r e = (tt, tt)
joins_none (Some s) [] r e = cc
joins_none s (x ∷ []) r e = cc
joins_none s (x ∷ y ∷ rs) r e = joins_none s (y ∷ rs) r e

module _ (view : View) (owner : PubKey) (r : Record) (more : List Record) (good : IsGood view owner r) (onward : GoesOn view owner r more) where
  joined_after : (p : Record) (rs : List Record) → GoesOn view owner p rs → r.seq ≡ p.seq + length rs + 1 → NamesNewest None (p ∷ rs) r → KnowsNewest (p ∷ rs) r → GoesOn view owner p (rs ++ r ∷ more)
  joined_after p [] g n e k = (good, record { seq = omega (arith, n); prev = e; grows = k }, onward)
  joined_after p (q ∷ rs) g n e k = let s = g.1.seq in (g.0, g.1, joined_after q rs g.2 (omega (arith, n, s)) e k)

  split_after : (p : Record) (rs : List Record) → GoesOn view owner p (rs ++ r ∷ more) → NamesNewest None (p ∷ rs) r × KnowsNewest (p ∷ rs) r
  split_after p [] g = (g.1.prev, g.1.grows)
  split_after p (q ∷ rs) g = split_after q rs g.2

  any_stamp : (s t : Option Stamp) (p : Record) (rs : List Record) → NamesNewest s (p ∷ rs) r → NamesNewest t (p ∷ rs) r
  any_stamp s t p [] e = e
  any_stamp s t p (q ∷ rs) e = any_stamp s t q rs e

  -- the record, with what follows it, goes on from what is held if it joins it
  pub joined_over : (s : Option Stamp) (rs : List Record) → GoesOnFrom view owner s rs → r.seq ≡ reach s + length rs + 1 → (r.seq ≡ 1 → IsFirst r) → Joins s rs r → GoesOnFrom view owner s (rs ++ r ∷ more)
  joined_over None [] g n first j = (good, first (omega (arith, n)), onward)
  joined_over None (p ∷ rs) g n first j = let s = g.1.seq in (g.0, g.1, joined_after p rs g.2 (omega (arith, n, s)) j.0 j.1)
  joined_over (Some s) [] g n first j = (record { good = good; seq = omega (arith, n); prev = j.0 }, onward)
  joined_over (Some s) (p ∷ rs) g n first j = let e = g.0.seq in (g.0, joined_after p rs g.1 (omega (arith, n, e)) (any_stamp (Some s) None p rs j.0) j.1)

  pub split_over : (s : Option Stamp) (rs : List Record) → GoesOnFrom view owner s (rs ++ r ∷ more) → Joins s rs r
  split_over None [] g = (tt, tt)
  split_over None (p ∷ rs) g = split_after p rs g.2
  split_over (Some s) [] g = (g.0.prev, tt)
  split_over (Some s) (p ∷ rs) g = let w = split_after p rs g.1 in (any_stamp None (Some s) p rs w.0, w.1)

-- ---- places are within

pub places_within : (held : List kept.Record) (places : List ℕ) (rs : List Record) → AreAt (records_of held) places rs → AllByRecursion (λ place. place < length held) places
places_within held [] rs h = tt
places_within held (i ∷ places) [] h = absurd h
places_within held (i ∷ places) (r ∷ rs) h = (held_within held i r h.0, places_within held places rs h.1)
