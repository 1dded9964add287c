-- Sets of records as ascending lists: their order, and unions of closed ones.
use Rattle.std.proofs.Common.{◌≡◌, ◌⊎◌, inl, inr, ⊎_elim, ℕ, ◌+◌, ◌<◌, ◌≤◌, Bool, true, false, cond, List, [], ◌∷◌, ◌++◌, length, refl, sym, ap, ◌∙◌, subst, filter, append_assoc, arith, Contains}
use Rattle.std.specs.Prelude.{fold, IsTrue}
use Rattle.std.specs.List.{AllByRecursion}
use Rattle.std.specs.Cmp.{ranked, tied_itself}
use Rattle.std.specs.Ordering.{eq_by_cmp, is_lt, is_eq, nat_cmp, ordering_then, ordering_reverse}
use Rattle.std.specs.declared.cmp.Ordering.{Ordering}
use Rattle.std.specs.declared.cmp.Ordering.TheVariants.{Less, Equal, Greater}
use Rattle.std.specs.FinMap.Entries.{by_order}
use Rattle.std.proofs.lemmas.List.{append-nil}
use Rattle.std.proofs.lemmas.List.Elements.{Contains-append_left, Contains-append_right, Contains-append_cases}
use Rattle.std.proofs.lemmas.Bool.{cases_lt}
use Rattle.ivy_base.specs.declared.key.PubKey.{PubKey}
use Rattle.ivy_base.specs.Naming.{owner_cmp}
use Rattle.log_model.specs.View.{View}
use Rattle.log_model.specs.Record.{Record}
use Rattle.log_model.specs.Rank.{weight, record_cmp}
use Rattle.log_model.specs.Chain.{IsGood, GoesOn, IsChain}
use Rattle.log_model.specs.Closed.{log_of, IsAscending, HasCauses, IsClosed}
use Rattle.log_model.specs.Replay.{with_record, in_order}
use Rattle.log_model.proofs.Lists.{here, there, in_cons, in_nothing, each_from, each, in_filter, from_filter}
use Rattle.log_model.proofs.Opening.{same_owner}
use Rattle.log_model.proofs.Owners.{records_total}
use Rattle.log_model.proofs.Weights.{follows_heavier}
use Rattle.log_model.proofs.Part.{numbered, Numbered, numbers_below, numbers_from, chain_good, causes_weaken}

abbrev pub IsBefore : Record → Record → Type 0
IsBefore r q = IsTrue (is_lt (record_cmp r q))

less_is : (o : Ordering) → is_lt o ≡ true → o ≡ Less
less_is Less h = refl
less_is Equal h = cc
less_is Greater h = cc

pub before_trans : (a b c : Record) → IsBefore a b → IsBefore b c → IsBefore a c
before_trans a b c h g = ap is_lt (records_total.trans a b c (less_is _ h) (less_is _ g))

pub greater_is_before : (r q : Record) → record_cmp r q ≡ Greater → IsBefore q r
greater_is_before r q e = ap is_lt (records_total.antisymm q r ∙ ap ordering_reverse e)

before_is_greater : (q r : Record) → IsBefore q r → record_cmp r q ≡ Greater
before_is_greater q r h = records_total.antisymm r q ∙ ap ordering_reverse (less_is _ h)

not_before_itself : (r : Record) → IsBefore r r → ⊥
not_before_itself r h = let e = ap is_lt (tied_itself records_total r) in cc

not_both_before : (r q : Record) → IsBefore r q → IsBefore q r → ⊥
not_both_before r q h g = not_before_itself r (before_trans r q r h g)

lighter_wins : (wa wb : ℕ) (o : Ordering) → wa < wb → is_lt (ordering_then (nat_cmp wa wb) o) ≡ true
lighter_wins wa wb o h = by (nat_cmp wa wb) refl
  where
    by : (r : Ordering) → r ≡ nat_cmp wa wb → is_lt (ordering_then r o) ≡ true
    by Less e = refl
    by Equal e = let l : wa ≡ wb = ranked wa wb Equal e in absurd (omega arith)
    by Greater e = let l : wb < wa = ranked wa wb Greater e in absurd (omega arith)

pub lighter_is_before : (a b : Record) → weight a < weight b → IsBefore a b
lighter_is_before a b h = lighter_wins (weight a) (weight b) _ h

-- ---- putting a record in its place

pub in_with : (s : List Record) (r q : Record) → Contains (with_record s r) q → Contains s q ⊎ (r ≡ q)
in_with [] r q c = ⊎_elim (λ e. inr e) (λ d. inl d) (in_cons r [] q c)
in_with (x ∷ s) r q c = by (record_cmp r x) c (in_with s r q)
  where
    by : (o : Ordering) → Contains (by_order o (r ∷ x ∷ s) (x ∷ s) (x ∷ with_record s r)) q → (Contains (with_record s r) q → Contains s q ⊎ (r ≡ q)) → Contains (x ∷ s) q ⊎ (r ≡ q)
    by Less c again = ⊎_elim (λ e. inr e) (λ d. inl d) (in_cons r (x ∷ s) q c)
    by Equal c again = inl c
    by Greater c again = ⊎_elim (λ e. inl (subst (λ (y : Record). Contains (x ∷ s) y) e (here x s))) (λ d. ⊎_elim (λ f. inl (there x s q f)) (λ e. inr e) (again d)) (in_cons x (with_record s r) q c)

pub with_old : (s : List Record) (r q : Record) → Contains s q → Contains (with_record s r) q
with_old [] r q c = absurd (in_nothing q c)
with_old (x ∷ s) r q c = by (record_cmp r x) (λ d. with_old s r q d)
  where
    by : (o : Ordering) → (Contains s q → Contains (with_record s r) q) → Contains (by_order o (r ∷ x ∷ s) (x ∷ s) (x ∷ with_record s r)) q
    by Less again = there r (x ∷ s) q c
    by Equal again = c
    by Greater again = ⊎_elim (λ e. subst (λ (y : Record). Contains (x ∷ with_record s r) y) e (here x (with_record s r))) (λ d. there x (with_record s r) q (again d)) (in_cons x s q c)

-- the record stands in the set, or one of its rank does
abbrev pub IsIn : List Record → Record → Type 0
IsIn s r = (q : Record) × Contains s q × (record_cmp r q ≡ Equal)

pub with_new : (s : List Record) (r : Record) → IsIn (with_record s r) r
with_new [] r = (r, here r [], tied_itself records_total r)
with_new (x ∷ s) r = by (record_cmp r x) refl (with_new s r)
  where
    by : (o : Ordering) → record_cmp r x ≡ o → IsIn (with_record s r) r → IsIn (by_order o (r ∷ x ∷ s) (x ∷ s) (x ∷ with_record s r)) r
    by Less e again = (r, here r (x ∷ s), tied_itself records_total r)
    by Equal e again = (x, here x s, e)
    by Greater e again = (again.0, there x (with_record s r) again.0 again.1, again.2)

pub with_ascends : (s : List Record) (r : Record) → IsAscending s → IsAscending (with_record s r)
with_ascends [] r h = (tt, tt)
with_ascends (x ∷ s) r h = by (record_cmp r x) refl (with_ascends s r h.1)
  where
    by : (o : Ordering) → record_cmp r x ≡ o → IsAscending (with_record s r) → IsAscending (by_order o (r ∷ x ∷ s) (x ∷ s) (x ∷ with_record s r))
    by Less e again = let first : IsBefore r x = ap is_lt e in
        ((first, each_from (IsBefore r) s (λ q c. before_trans r x q first (each (IsBefore x) s q h.0 c))), h)
    by Equal e again = h
    by Greater e again = (each_from (IsBefore x) (with_record s r) (λ q c. ⊎_elim (λ d. each (IsBefore x) s q h.0 d) (λ same. subst (λ (y : Record). IsBefore x y) same (greater_is_before r x e)) (in_with s r q c)), again)

-- ---- putting all in order

fold_in : (acc xs : List Record) (q : Record) → Contains (fold with_record acc xs) q → Contains acc q ⊎ Contains xs q
fold_in acc [] q c = inl c
fold_in acc (x ∷ xs) q c = ⊎_elim (λ old. ⊎_elim (λ d. inl d) (λ e. inr (subst (λ (y : Record). Contains (x ∷ xs) y) e (here x xs))) (in_with acc x q old)) (λ d. inr (there x xs q d)) (fold_in (with_record acc x) xs q c)

fold_old : (acc xs : List Record) (q : Record) → Contains acc q → Contains (fold with_record acc xs) q
fold_old acc [] q c = c
fold_old acc (x ∷ xs) q c = fold_old (with_record acc x) xs q (with_old acc x q c)

fold_new : (acc xs : List Record) (q : Record) → Contains xs q → IsIn (fold with_record acc xs) q
fold_new acc [] q c = absurd (in_nothing q c)
fold_new acc (x ∷ xs) q c = ⊎_elim
    (λ e. let w = with_new acc x in subst (λ (y : Record). IsIn (fold with_record (with_record acc x) xs) y) e (w.0, fold_old (with_record acc x) xs w.0 w.1, w.2))
    (λ d. fold_new (with_record acc x) xs q d) (in_cons x xs q c)

fold_ascends : (acc xs : List Record) → IsAscending acc → IsAscending (fold with_record acc xs)
fold_ascends acc [] h = h
fold_ascends acc (x ∷ xs) h = fold_ascends (with_record acc x) xs (with_ascends acc x h)

pub in_order_ascends : (xs : List Record) → IsAscending (in_order xs)
in_order_ascends xs = fold_ascends [] xs tt

pub in_order_in : (xs : List Record) (q : Record) → Contains (in_order xs) q → Contains xs q
in_order_in xs q c = ⊎_elim (λ none. absurd (in_nothing q none)) (λ d. d) (fold_in [] xs q c)

pub in_order_has : (xs : List Record) (q : Record) → Contains xs q → IsIn (in_order xs) q
in_order_has xs q c = fold_new [] xs q c

-- ---- an ascending list is in order

ascends_left : (xs ys : List Record) → IsAscending (xs ++ ys) → IsAscending xs
ascends_left [] ys h = tt
ascends_left (x ∷ xs) ys h = (each_from (IsBefore x) xs (λ q c. each (IsBefore x) (xs ++ ys) q h.0 (Contains-append_left xs ys q c)), ascends_left xs ys h.1)

pub all_before : (acc : List Record) (r : Record) (rest : List Record) → IsAscending (acc ++ r ∷ rest) → AllByRecursion (λ q. IsBefore q r) acc
all_before [] r rest h = tt
all_before (x ∷ acc) r rest h = (each (IsBefore x) (acc ++ r ∷ rest) r h.0 (Contains-append_right acc (r ∷ rest) r (here r rest)), all_before acc r rest h.1)

pub with_last : (acc : List Record) (r : Record) → AllByRecursion (λ q. IsBefore q r) acc → with_record acc r ≡ acc ++ r ∷ []
with_last [] r h = refl
with_last (x ∷ acc) r h = ap (λ o. by_order o (r ∷ x ∷ acc) (x ∷ acc) (x ∷ with_record acc r)) (before_is_greater x r h.0) ∙ ap (λ l. x ∷ l) (with_last acc r h.1)

fold_last : (acc xs : List Record) → IsAscending (acc ++ xs) → fold with_record acc xs ≡ acc ++ xs
fold_last acc [] h = sym (append-nil acc)
fold_last acc (x ∷ xs) h =
    let placed = with_last acc x (all_before acc x xs h) in
    let same : (acc ++ x ∷ []) ++ xs ≡ acc ++ x ∷ xs = append_assoc acc (x ∷ []) xs in
    ap (λ a. fold with_record a xs) placed ∙ fold_last (acc ++ x ∷ []) xs (subst IsAscending (sym same) h) ∙ same

pub ascending_in_order : (xs : List Record) → IsAscending xs → in_order xs ≡ xs
ascending_in_order xs h = fold_last [] xs h

-- ---- ascending lists of the same records are one list

pub same_list : (s t : List Record) → IsAscending s → IsAscending t → ((q : Record) → Contains s q → Contains t q) → ((q : Record) → Contains t q → Contains s q) → s ≡ t
same_list [] [] up vp to from = refl
same_list [] (y ∷ t) up vp to from = absurd (in_nothing y (from y (here y t)))
same_list (x ∷ s) [] up vp to from = absurd (in_nothing x (to x (here x s)))
same_list (x ∷ s) (y ∷ t) up vp to from =
    let first : y ≡ x = ⊎_elim (λ e. e) (λ c. ⊎_elim (λ e. sym e) (λ d. absurd (not_both_before x y (each (IsBefore x) s y up.0 d) (each (IsBefore y) t x vp.0 c))) (in_cons x s y (from y (here y t)))) (in_cons y t x (to x (here x s))) in
    let rest : s ≡ t = same_list s t up.1 vp.1
    (λ q c. ⊎_elim (λ e. absurd (not_before_itself x (subst (λ (z : Record). IsBefore x z) (sym e ∙ first) (each (IsBefore x) s q up.0 c)))) (λ d. d) (in_cons y t q (to q (there x s q c))))
    (λ q c. ⊎_elim (λ e. absurd (not_before_itself y (subst (λ (z : Record). IsBefore y z) (sym e ∙ sym first) (each (IsBefore y) t q vp.0 c)))) (λ d. d) (in_cons x s q (from q (there y t q c)))) in
    ap (λ z. z ∷ s) (sym first) ∙ ap (λ l. y ∷ l) rest

-- ---- a chain ascends

heavier_after : (view : View) (owner : PubKey) (p : Record) (rs : List Record) → IsGood view owner p → GoesOn view owner p rs → AllByRecursion (λ q. weight p < weight q) rs
heavier_after view owner p [] good g = tt
heavier_after view owner p (r ∷ rs) good g =
    let next = follows_heavier p r good.spelled g.0.spelled (good.owned ∙ sym g.0.owned) g.1.seq g.1.grows in
    (next, each_from (λ q. weight p < weight q) rs (λ q c. let more : weight r < weight q = each (λ q. weight r < weight q) rs q (heavier_after view owner r rs g.0 g.2) c in omega arith))

ascends_after : (view : View) (owner : PubKey) (p : Record) (rs : List Record) → IsGood view owner p → GoesOn view owner p rs → IsAscending (p ∷ rs)
ascends_after view owner p [] good g = (tt, tt)
ascends_after view owner p (r ∷ rs) good g = (each_from (IsBefore p) (r ∷ rs) (λ q c. lighter_is_before p q (each (λ q. weight p < weight q) (r ∷ rs) q (heavier_after view owner p (r ∷ rs) good g) c)), ascends_after view owner r rs g.0 g.2)

pub chain_ascends : (view : View) (owner : PubKey) (rs : List Record) → IsChain view owner rs → IsAscending rs
chain_ascends view owner [] c = tt
chain_ascends view owner (r ∷ rs) c = ascends_after view owner r rs c.0 c.2

-- what a filter keeps ascends
pub filter_ascends : (test : Record → Bool) (s : List Record) → IsAscending s → IsAscending (filter test s)
filter_ascends test [] h = tt
filter_ascends test (x ∷ s) h = by (test x) (filter_ascends test s h.1)
  where
    by : (b : Bool) → IsAscending (filter test s) → IsAscending (cond b (x ∷ filter test s) (filter test s))
    by true again = (each_from (IsBefore x) (filter test s) (λ q c. each (IsBefore x) s q h.0 (from_filter test s q c).0), again)
    by false again = again

-- ---- the union of two closed sets

-- a log has one record of each number
abbrev pub OneEach : List Record → Type 0
OneEach s = (r q : Record) → Contains s r → Contains s q → r.owner ≡ q.owner → r.seq ≡ q.seq → r ≡ q

-- of a numbered list each number has one record
pub numbered_one : (n : ℕ) (xs : List Record) → Numbered n xs → (q r : Record) → Contains xs q → Contains xs r → q.seq ≡ r.seq → q ≡ r
numbered_one n [] h q r c d e = absurd (in_nothing q c)
numbered_one n (x ∷ xs) h q r c d e = by (in_cons x xs q c) (in_cons x xs r d) (λ f g. numbered_one (n + 1) xs h.1 q r f g e)
  where
    late : (z : Record) → Contains xs z → n + 1 ≤ z.seq
    late z within = each (λ (y : Record). n + 1 ≤ y.seq) xs z (numbers_from (n + 1) xs h.1 (n + 1) (omega arith)) within

    by : (x ≡ q) ⊎ Contains xs q → (x ≡ r) ⊎ Contains xs r → (Contains xs q → Contains xs r → q ≡ r) → q ≡ r
    by (inl f) (inl g) again = sym f ∙ g
    by (inl f) (inr g) again = let l = late r g in let s : x.seq ≡ q.seq = ap (λ (y : Record). y.seq) f in absurd (omega (arith, l, s, e, h.0))
    by (inr f) (inl g) again = let l = late q f in let s : x.seq ≡ r.seq = ap (λ (y : Record). y.seq) g in absurd (omega (arith, l, s, e, h.0))
    by (inr f) (inr g) again = again f g

-- and it has each number between
pub numbered_has : (n : ℕ) (xs : List Record) → Numbered n xs → (k : ℕ) → n ≤ k → k < n + length xs → (q : Record) × Contains xs q × (q.seq ≡ k)
numbered_has n [] h k low high = absurd (omega arith)
numbered_has n (x ∷ xs) h k low high = ⊎_elim
    (λ more. let w = numbered_has (n + 1) xs h.1 k more (omega arith) in (w.0, there x xs w.0 w.1, w.2))
    (λ no. let e = h.0 in (x, here x xs, omega arith))
    (at_or_after n k low)
  where
    at_or_after : (n k : ℕ) → n ≤ k → (n + 1 ≤ k) ⊎ (k ≡ n)
    at_or_after n k low = ⊎_elim (λ l. inl (omega arith)) (λ g. inr (omega arith)) (cases_lt n k)

-- records of one rank are of one owner and number
pub both_equal : (a b : Ordering) → ordering_then a b ≡ Equal → (a ≡ Equal) × (b ≡ Equal)
both_equal Less b h = cc
both_equal Equal b h = (refl, h)
both_equal Greater b h = cc

pub same_rank_is : (r q : Record) → record_cmp r q ≡ Equal → (r.owner ≡ q.owner) × (r.seq ≡ q.seq)
same_rank_is r q e =
    let first = both_equal (nat_cmp (weight r) (weight q)) _ e in
    let next = both_equal (owner_cmp r.owner q.owner) (nat_cmp r.seq q.seq) first.1 in
    (sym (same_owner r.owner q.owner (ap is_eq next.0)), ranked r.seq q.seq Equal (sym next.1))

module _ (view : View) (s t : List Record) (cs : IsClosed view s) (ct : IsClosed view t) (single : OneEach (s ++ t)) where
  all : List Record
  all = in_order (s ++ t)

  union_in : (q : Record) → Contains (in_order (s ++ t)) q → Contains s q ⊎ Contains t q
  union_in q c = Contains-append_cases s t q (in_order_in (s ++ t) q c)

  union_has : (q : Record) → Contains (s ++ t) q → Contains (in_order (s ++ t)) q
  union_has q c =
      let w = in_order_has (s ++ t) q c in
      let same = same_rank_is q w.0 w.2 in
      subst (λ (y : Record). Contains (in_order (s ++ t)) y) (sym (single q w.0 c (in_order_in (s ++ t) w.0 w.1) same.0 same.1)) w.1

  -- of two logs the shorter one is within the longer
  shorter_within : (owner : PubKey) (a b : List Record) → ((q : Record) → Contains a q → Contains (s ++ t) q) → ((q : Record) → Contains b q → Contains (s ++ t) q) → IsChain view owner a → IsChain view owner b → length a ≤ length b → (q : Record) → Contains a q → Contains b q
  shorter_within owner a b from_a from_b ca cb le q c =
      let low : 1 ≤ q.seq = each (λ x. 1 ≤ x.seq) a q (numbers_from 1 a (numbered view owner a ca) 1 (omega arith)) c in
      let high : q.seq < length a + 1 = each (λ x. x.seq < length a + 1) a q (numbers_below 1 (length a + 1) a (omega arith) (numbered view owner a ca)) c in
      let w = numbered_has 1 b (numbered view owner b cb) q.seq low (omega arith) in
      let owned_q = (each (IsGood view owner) a q (chain_good view owner a ca) c).owned in
      let owned_w = (each (IsGood view owner) b w.0 (chain_good view owner b cb) w.1).owned in
      subst (λ (y : Record). Contains b y) (sym (single q w.0 (from_a q c) (from_b w.0 w.1) (owned_q ∙ sym owned_w) (sym w.2))) w.1

  mine : (owner : PubKey) → Record → Bool
  mine owner x = eq_by_cmp owner_cmp owner x.owner

  -- the union's log is the log that has both
  union_log : (owner : PubKey) (a : List Record) → IsChain view owner a → ((q : Record) → Contains a q → Contains (s ++ t) q × (eq_by_cmp owner_cmp owner q.owner ≡ true))
      → ((q : Record) → Contains (log_of owner s) q → Contains a q) → ((q : Record) → Contains (log_of owner t) q → Contains a q) → IsChain view owner (log_of owner (in_order (s ++ t)))
  union_log owner a chain from left right =
      let same : a ≡ log_of owner (in_order (s ++ t)) = same_list a (log_of owner (in_order (s ++ t))) (chain_ascends view owner a chain)
      (filter_ascends (λ (x : Record). eq_by_cmp owner_cmp owner x.owner) (in_order (s ++ t)) (in_order_ascends (s ++ t)))
      (λ q c. in_filter (λ (x : Record). eq_by_cmp owner_cmp owner x.owner) (in_order (s ++ t)) q (union_has q (from q c).0) (from q c).1)
      (λ q c. let w = from_filter (λ (x : Record). eq_by_cmp owner_cmp owner x.owner) (in_order (s ++ t)) q c in
      ⊎_elim (λ d. left q (in_filter (λ (x : Record). eq_by_cmp owner_cmp owner x.owner) s q d w.1)) (λ d. right q (in_filter (λ (x : Record). eq_by_cmp owner_cmp owner x.owner) t q d w.1)) (union_in q w.0)) in
      subst (λ (l : List Record). IsChain view owner l) same chain

  from_left : (owner : PubKey) (q : Record) → Contains (log_of owner s) q → Contains (s ++ t) q × (eq_by_cmp owner_cmp owner q.owner ≡ true)
  from_left owner q c = let w = from_filter (λ (x : Record). eq_by_cmp owner_cmp owner x.owner) s q c in (Contains-append_left s t q w.0, w.1)

  from_right : (owner : PubKey) (q : Record) → Contains (log_of owner t) q → Contains (s ++ t) q × (eq_by_cmp owner_cmp owner q.owner ≡ true)
  from_right owner q c = let w = from_filter (λ (x : Record). eq_by_cmp owner_cmp owner x.owner) t q c in (Contains-append_right s t q w.0, w.1)

  union_chain : (owner : PubKey) → IsChain view owner (log_of owner (in_order (s ++ t)))
  union_chain owner =
      let a = log_of owner s in
      let b = log_of owner t in
      ⊎_elim
      (λ less. union_log owner b (ct.chains owner) (from_right owner) (shorter_within owner a b (λ q c. (from_left owner q c).0) (λ q c. (from_right owner q c).0) (cs.chains owner) (ct.chains owner) (omega arith)) (λ q c. c))
      (λ more. union_log owner a (cs.chains owner) (from_left owner) (λ q c. c) (shorter_within owner b a (λ q c. (from_right owner q c).0) (λ q c. (from_left owner q c).0) (ct.chains owner) (cs.chains owner) (omega arith)))
      (cases_lt (length a) (length b))

  -- the union of two closed sets is closed, where a log has one record of each number
  pub union_is_closed : IsClosed view (in_order (s ++ t))
  union_is_closed = record {
    ascending = in_order_ascends (s ++ t);
    members = each_from (λ r. Contains view.members r.owner) (in_order (s ++ t)) (λ r c. ⊎_elim (λ d. each (λ q. Contains view.members q.owner) s r cs.members d) (λ d. each (λ q. Contains view.members q.owner) t r ct.members d) (union_in r c));
    chains = union_chain;
    causes = each_from (HasCauses view (in_order (s ++ t))) (in_order (s ++ t)) (λ r c. ⊎_elim
        (λ d. causes_weaken view s (in_order (s ++ t)) r (λ q e. union_has q (Contains-append_left s t q e)) (each (HasCauses view s) s r cs.causes d))
        (λ d. causes_weaken view t (in_order (s ++ t)) r (λ q e. union_has q (Contains-append_right s t q e)) (each (HasCauses view t) t r ct.causes d))
        (union_in r c));
  }
