-- Records of one log, one after the other: their numbers, and what is left of them above a number.
use Rattle.std.proofs.Common.{◌≡◌, ⊎_elim, ℕ, ◌+◌, ◌<◌, ◌≤◌, Bool, true, false, cond, List, [], ◌∷◌, ◌++◌, length, Option, Some, None, refl, sym, ap, ◌∙◌, subst, filter, arith, Contains}
use Rattle.std.specs.Prelude.{nat_lt}
use Rattle.std.proofs.Common.{ltb-false, ltb-true, le-ltb, lt-ltb}
use Rattle.std.proofs.lemmas.List.Elements.{Contains-append_cases, filter-append}
use Rattle.ivy_base.specs.declared.key.PubKey.{PubKey}
use Rattle.log_model.specs.View.{View}
use Rattle.log_model.specs.Vector.{Stamp, Dominates}
use Rattle.log_model.specs.Record.{Record}
use Rattle.log_model.specs.Rank.{own_entry, full_vector}
use Rattle.log_model.specs.Chain.{IsGood, GoesOn, IsChain}
use Rattle.log_model.proofs.Lists.{here, there, in_cons, in_nothing, each, in_filter, from_filter}
use Rattle.log_model.proofs.Part.{Numbered, numbers_from, numbers_below}
use Rattle.turn_model.specs.Turn.{IsPrefixOf}
use Rattle.turn_model.specs.Known.{EndsAt}
use Rattle.causal_order.specs.Available.{above}
use Rattle.causal_order.specs.Over.{GoesOnFrom}

-- ---- what passes a test

pub all_pass_is : (test : Record → Bool) (xs : List Record) → ((r : Record) → Contains xs r → test r ≡ true) → filter test xs ≡ xs
all_pass_is test [] h = refl
all_pass_is test (x ∷ xs) h =
    ap (λ b. cond b (x ∷ filter test xs) (filter test xs)) (h x (here x xs)) ∙ ap (λ (l : List Record). x ∷ l) (all_pass_is test xs (λ r c. h r (there x xs r c)))

pub none_pass_is : (test : Record → Bool) (xs : List Record) → ((r : Record) → Contains xs r → test r ≡ false) → filter test xs ≡ []
none_pass_is test [] h = refl
none_pass_is test (x ∷ xs) h = ap (λ b. cond b (x ∷ filter test xs) (filter test xs)) (h x (here x xs)) ∙ none_pass_is test xs (λ r c. h r (there x xs r c))

pub is_above : (n : ℕ) (xs : List Record) (r : Record) → Contains (above n xs) r → Contains xs r × (n < r.seq)
is_above n xs r c = let w = from_filter (λ (x : Record). nat_lt n x.seq) xs r c in (w.0, ltb-true n r.seq w.1)

pub in_above : (n : ℕ) (xs : List Record) (r : Record) → Contains xs r → n < r.seq → Contains (above n xs) r
in_above n xs r c more = in_filter (λ (x : Record). nat_lt n x.seq) xs r c (lt-ltb n r.seq more)

-- what is above a number is so above a lesser one
pub above_above : (m n : ℕ) (xs : List Record) → m ≤ n → above n (above m xs) ≡ above n xs
above_above m n [] le = refl
above_above m n (x ∷ xs) le = by (above_above m n xs le) (nat_lt m x.seq) refl
  where
    by : above n (above m xs) ≡ above n xs → (b : Bool) → nat_lt m x.seq ≡ b → above n (cond b (x ∷ above m xs) (above m xs)) ≡ cond (nat_lt n x.seq) (x ∷ above n xs) (above n xs)
    by again true e = ap (λ (l : List Record). cond (nat_lt n x.seq) (x ∷ l) l) again
    by again false e =
        let low = ltb-false m x.seq e in
        again ∙ sym (ap (λ b. cond b (x ∷ above n xs) (above n xs)) (le-ltb n x.seq (omega (arith, low, le))))

-- ---- numbers

numbered_left : (n : ℕ) (xs ys : List Record) → Numbered n (xs ++ ys) → Numbered n xs
numbered_left n [] ys h = tt
numbered_left n (x ∷ xs) ys h = (h.0, numbered_left (n + 1) xs ys h.1)

numbered_right : (n m : ℕ) (xs ys : List Record) → m ≡ n + length xs → Numbered n (xs ++ ys) → Numbered m ys
numbered_right n m [] ys e h = subst (λ (k : ℕ). Numbered k ys) (omega arith) h
numbered_right n m (x ∷ xs) ys e h = numbered_right (n + 1) m xs ys (omega arith) h.1

-- of a whole log, what is above the numbers of its first part is the rest
pub above_split : (n : ℕ) (xs ys : List Record) → Numbered 1 (xs ++ ys) → n ≡ length xs → above n (xs ++ ys) ≡ ys
above_split n xs ys h e =
    let low = numbers_below 1 (1 + length xs) xs (omega arith) (numbered_left 1 xs ys h) in
    let high = numbers_from (1 + length xs) ys (numbered_right 1 (1 + length xs) xs ys (omega arith) h) (1 + length xs) (omega arith) in
    filter-append (λ (x : Record). nat_lt n x.seq) xs ys
    ∙ ap (λ (l : List Record). l ++ above n ys) (none_pass_is (λ (x : Record). nat_lt n x.seq) xs (λ r c. let less = each (λ q. q.seq < 1 + length xs) xs r low c in le-ltb n r.seq (omega (arith, less, e))))
    ∙ all_pass_is (λ (x : Record). nat_lt n x.seq) ys (λ r c. let more = each (λ q. 1 + length xs ≤ q.seq) ys r high c in lt-ltb n r.seq (omega (arith, more, e)))

-- a record of a whole log that is numbered within the first part is one of it
pub within_first : (xs ys : List Record) (r : Record) → Numbered 1 ys → IsPrefixOf xs ys → Contains ys r → r.seq ≤ length xs → Contains xs r
within_first xs ys r h p c le =
    let rest = p.0 in
    let all : Numbered 1 (xs ++ rest) = subst (λ (l : List Record). Numbered 1 l) (sym p.1) h in
    let high = numbers_from (1 + length xs) rest (numbered_right 1 (1 + length xs) xs rest (omega arith) all) (1 + length xs) (omega arith) in
    ⊎_elim (λ d. d) (λ d. let more = each (λ q. 1 + length xs ≤ q.seq) rest r high d in absurd (omega (arith, more, le)))
    (Contains-append_cases xs rest r (subst (λ (l : List Record). Contains l r) (sym p.1) c))

pub number_within : (xs : List Record) (r : Record) → Numbered 1 xs → Contains xs r → r.seq ≤ length xs
number_within xs r h c = let less = each (λ q. q.seq < 1 + length xs) xs r (numbers_below 1 (1 + length xs) xs (omega arith) h) c in omega (arith, less)

-- ---- rows

-- good records of the owner's, each of which follows the one before it
abbrev pub IsRow : View → PubKey → List Record → Type 0
IsRow view owner [] = Unit {0}
IsRow view owner (r ∷ rs) = IsGood view owner r × GoesOn view owner r rs

module _ (view : View) (owner : PubKey) where
  pub row_after : (p : Record) (rs : List Record) → GoesOn view owner p rs → IsRow view owner rs
  row_after p [] g = tt
  row_after p (r ∷ rs) g = (g.0, g.2)

  pub chain_row : (rs : List Record) → IsChain view owner rs → IsRow view owner rs
  chain_row [] c = tt
  chain_row (r ∷ rs) c = (c.0, c.2)

  pub row_good : (rs : List Record) → IsRow view owner rs → (r : Record) → Contains rs r → IsGood view owner r
  row_good [] h r c = absurd (in_nothing r c)
  row_good (q ∷ rs) h r c = ⊎_elim (λ e. subst (λ (x : Record). IsGood view owner x) e h.0) (λ d. row_good rs (row_after q rs h.1) r d) (in_cons q rs r c)

  -- after a record above a number, all are
  all_above : (p : Record) (rs : List Record) (n : ℕ) → n ≤ p.seq → GoesOn view owner p rs → above n rs ≡ rs
  all_above p [] n le g = refl
  all_above p (r ∷ rs) n le g =
      let next = g.1.seq in
      ap (λ b. cond b (r ∷ above n rs) (above n rs)) (lt-ltb n r.seq (omega (arith, next, le)))
      ∙ ap (λ (l : List Record). r ∷ l) (all_above r rs n (omega (arith, next, le)) g.2)

  pub row_above : (n : ℕ) (rs : List Record) → IsRow view owner rs → IsRow view owner (above n rs)
  row_above n [] h = tt
  row_above n (r ∷ rs) h = by (row_above n rs (row_after r rs h.1)) (nat_lt n r.seq) refl
    where
      by : IsRow view owner (above n rs) → (b : Bool) → nat_lt n r.seq ≡ b → IsRow view owner (cond b (r ∷ above n rs) (above n rs))
      by again true e =
          let more = ltb-true n r.seq e in
          subst (λ (l : List Record). IsRow view owner (r ∷ l)) (sym (all_above r rs n (omega (arith, more)) h.1)) h
      by again false e = again

  -- no record of a row has a greater number than the last
  pub last_greatest : (before : List Record) (last : Record) → IsRow view owner (before ++ last ∷ []) → (r : Record) → Contains (before ++ last ∷ []) r → r.seq ≤ last.seq
  last_greatest [] last h r c = ⊎_elim (λ e. let same : last.seq ≡ r.seq = ap (λ (x : Record). x.seq) e in omega (arith, same)) (λ d. absurd (in_nothing r d)) (in_cons last [] r c)
  last_greatest (b ∷ []) last h r c = ⊎_elim
      (λ e. let same : b.seq ≡ r.seq = ap (λ (x : Record). x.seq) e in let next = h.1.1.seq in omega (arith, same, next))
      (λ d. last_greatest [] last (row_after b (last ∷ []) h.1) r d)
      (in_cons b (last ∷ []) r c)
  last_greatest (b ∷ a ∷ before) last h r c = ⊎_elim
      (λ e.
      let same : b.seq ≡ r.seq = ap (λ (x : Record). x.seq) e in
      let next = h.1.1.seq in
      let far = last_greatest (a ∷ before) last (row_after b (a ∷ before ++ last ∷ []) h.1) a (here a (before ++ last ∷ [])) in
      omega (arith, same, next, far))
      (λ d. last_greatest (a ∷ before) last (row_after b (a ∷ before ++ last ∷ []) h.1) r d)
      (in_cons b (a ∷ before ++ last ∷ []) r c)

  -- what is above a number ends where all do, where there is something
  pub ends_above : (n : ℕ) (t : Stamp) (xs : List Record) → IsRow view owner xs → EndsAt (Some t) xs → (r : Record) → Contains (above n xs) r → EndsAt (Some t) (above n xs)
  ends_above n t xs h ends r c =
      let w = is_above n xs r c in
      let before = ends.0 in
      let last = ends.1 in
      let row : IsRow view owner (before ++ last ∷ []) = subst (λ (l : List Record). IsRow view owner l) ends.2 h in
      let far = last_greatest before last row r (subst (λ (l : List Record). Contains l r) ends.2 w.0) in
      let more = w.1 in (
        above n before,
        last,
        ap (above n) ends.2 ∙ filter-append (λ (x : Record). nat_lt n x.seq) before (last ∷ []) ∙ ap (λ b. above n before ++ cond b (last ∷ []) []) (lt-ltb n last.seq (omega (arith, more, far))),
        ends.3,
      )

-- ---- where records go on from

-- the stamp that a log ends at after that stamp, with these records
abbrev pub last_from : Option Stamp → List Record → Option Stamp
last_from o [] = o
last_from o (r ∷ rs) = last_from (Some (own_entry r).1) rs

pub last_from-append : (o : Option Stamp) (xs ys : List Record) → last_from o (xs ++ ys) ≡ last_from (last_from o xs) ys
last_from-append o [] ys = refl
last_from-append o (x ∷ xs) ys = last_from-append (Some (own_entry x).1) xs ys

module _ (view : View) (owner : PubKey) where
  after_one : (p : Record) (rs : List Record) → GoesOn view owner p rs → GoesOnFrom view owner (Some (own_entry p).1) rs
  after_one p [] g = tt
  after_one p (r ∷ rs) g = (record { good = g.0; seq = g.1.seq; prev = g.1.prev }, g.2)

  -- what goes on from a stamp does so from its first part on
  pub goes_after : (o : Option Stamp) (xs ys : List Record) → GoesOnFrom view owner o (xs ++ ys) → GoesOnFrom view owner (last_from o xs) ys
  goes_after o [] ys g = g
  goes_after None (x ∷ xs) ys g = goes_after (Some (own_entry x).1) xs ys (after_one x (xs ++ ys) g.2)
  goes_after (Some t) (x ∷ xs) ys g = goes_after (Some (own_entry x).1) xs ys (after_one x (xs ++ ys) g.1)

  pub from_row : (o : Option Stamp) (xs : List Record) → GoesOnFrom view owner o xs → IsRow view owner xs
  from_row None xs g = chain_row view owner xs g
  from_row (Some t) [] g = tt
  from_row (Some t) (x ∷ xs) g = (g.0.good, g.1)

  -- each of the later records knows all that each of the earlier ones does
  abbrev pub Grows : List Record → List Record → Type 0
  Grows xs ys = (q : Record) → Contains xs q → (y : Record) → Contains ys y → Dominates (full_vector y) (full_vector q)

  go_over : (p : Record) (ps ys : List Record) → GoesOn view owner p ps → GoesOnFrom view owner (last_from (Some (own_entry p).1) ps) ys → Grows (p ∷ ps) ys → GoesOn view owner p (ps ++ ys)
  go_over p [] [] gp g grows = tt
  go_over p [] (y ∷ ys) gp g grows = (g.0.good, record { seq = g.0.seq; prev = g.0.prev; grows = grows p (here p []) y (here y ys) }, g.1)
  go_over p (q ∷ ps) ys gp g grows = (gp.0, gp.1, go_over q ps ys gp.2 g (λ x c y d. grows x (there p (q ∷ ps) x c) y d))

  -- a chain goes on with what goes on from its end
  pub chain_over : (xs ys : List Record) → IsChain view owner xs → GoesOnFrom view owner (last_from None xs) ys → Grows xs ys → IsChain view owner (xs ++ ys)
  chain_over [] ys c g grows = g
  chain_over (x ∷ xs) ys c g grows = (c.0, c.1, go_over x xs ys c.2 g grows)
