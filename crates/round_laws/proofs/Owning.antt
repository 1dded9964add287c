-- The owners that a put asks, where each that is asked answers.
use Rattle.std.proofs.Common.{◌≡◌, ◌⊎◌, inl, inr, ⊎_elim, ℕ, zero, suc, ◌*◌, ◌<◌, ◌≤◌, Bool, true, false, cond, List, [], ◌∷◌, ◌++◌, length, take, filter, refl, sym, ap, ◌∙◌, subst, arith, MatchBool, min, nat_le, nat_lt, length-take, take-take}
use Rattle.std.specs.List.{AllByRecursion}
use Rattle.std.proofs.lemmas.Bool.{ltb-true, leb-true}
use Rattle.std.proofs.lemmas.List.{take_all}
use Rattle.std.proofs.lemmas.List.Sums.{length-filter}
use Rattle.ring_model.specs.Gets.{AreAsks, AreFirsts, IsPutTrail, answered_in, nodes}
use Rattle.ring_model.specs.Gets.AreFirsts.{none as no_more, again as seen_again, new as not_seen}
use Rattle.ring_model.specs.Members.{IsAmong, HasAscendingPlaces, from_place}
use Rattle.ring_model.proofs.Lists.{all-among, among-cases, among_filtered, among_take, all_from, filter_all, filter_gives}
use Rattle.ring_model.proofs.Members.{ascending_filter}
use Rattle.dht_ids.specs.declared.ask.Answer.{Answer}
use Rattle.dht_ids.specs.declared.ask.Answer.TheVariants as answer
use Rattle.dht_ids.specs.declared.peer.Peer.{Peer}
use Rattle.dht_ids.specs.Peers.{place}
use Rattle.dhash_model.specs.Execution.{Told}
use Rattle.dhash_model.specs.Puts.{holds, is_of_put}
use Rattle.world_model.specs.Rounds.{IsDropped}

-- ---- lists in which each stands once

abbrev pub AreDistinct : List Peer → Type 0
AreDistinct [] = Unit {0}
AreDistinct (p ∷ ps) = (IsAmong p ps → ⊥) × AreDistinct ps

pub distinct_take : (k : ℕ) (ps : List Peer) → AreDistinct ps → AreDistinct (take k ps)
distinct_take zero ps d = tt
distinct_take (suc k) [] d = tt
distinct_take (suc k) (p ∷ ps) d = (λ i. d.0 (among_take k p ps i), distinct_take k ps d.1)

pub distinct_filter : (t : Peer → Bool) (ps : List Peer) → AreDistinct ps → AreDistinct (filter t ps)
distinct_filter t [] d = tt
distinct_filter t (p ∷ ps) d = by (t p) (distinct_filter t ps d.1)
  where
    by : (b : Bool) → AreDistinct (filter t ps) → AreDistinct (cond b (p ∷ filter t ps) (filter t ps))
    by true rest = (λ i. d.0 (among_filtered t p ps i), rest)
    by false rest = rest

distinct_both : (xs ys : List Peer) → AreDistinct xs → AreDistinct ys → ((m : Peer) → IsAmong m xs → IsAmong m ys → ⊥) → AreDistinct (xs ++ ys)
distinct_both [] ys d e apart = e
distinct_both (x ∷ xs) ys d e apart = (λ i. ⊎_elim (λ j. d.0 j) (λ j. apart x (inl refl) j) (among-cases x xs ys i), distinct_both xs ys d.1 e (λ m i j. apart m (inr i) j))

pub distinct_ascending : (xs : List Peer) → HasAscendingPlaces place xs → AreDistinct xs
distinct_ascending [] a = tt
distinct_ascending (x ∷ xs) a = (λ i. let l : place x < place x = all-among (λ z. place x < place z) x xs a.0 i in absurd (omega (arith, l)), distinct_ascending xs a.1)

pub passes : (t : Peer → Bool) (m : Peer) (l : List Peer) → IsAmong m (filter t l) → t m ≡ true
passes t m l i = all-among (λ y. t y ≡ true) m (filter t l) (filter_gives t (λ y. t y ≡ true) l (all_from (λ y. t y ≡ true → t y ≡ true) l (λ y j e. e))) i

pub distinct_from_place : (live : List Peer) (key : ℕ) → HasAscendingPlaces place live → AreDistinct (from_place place live key)
distinct_from_place live key a =
    distinct_both (filter (λ m. nat_le key (place m)) live) (filter (λ m. nat_lt (place m) key) live)
    (distinct_ascending (filter (λ m. nat_le key (place m)) live) (ascending_filter place (λ m. nat_le key (place m)) live a))
    (distinct_ascending (filter (λ m. nat_lt (place m) key) live) (ascending_filter place (λ m. nat_lt (place m) key) live a))
    (λ m i j. let l = leb-true key (place m) (passes (λ m. nat_le key (place m)) m live i) in let g = ltb-true (place m) key (passes (λ m. nat_lt (place m) key) m live j) in absurd (omega (arith, l, g)))

firsts_same : (seen ps qs : List Peer) → AreFirsts seen ps qs → AreDistinct ps → ((p : Peer) → IsAmong p ps → IsAmong p seen → ⊥) → qs ≡ ps
firsts_same seen [] qs no_more d apart = refl
firsts_same seen (p ∷ ps) qs (seen_again i f) d apart = absurd (apart p (inl refl) i)
firsts_same seen (p ∷ ps) all (not_seen {qs = qs} n f) d apart =
    ap (λ (l : List Peer). p ∷ l) (firsts_same (p ∷ seen) ps qs f d.1 (λ q i j. ⊎_elim (λ e. d.0 (subst (λ x. IsAmong x ps) (sym e) i)) (λ k. apart q (inr i) k) j))

-- ---- who answered

pub holder_answers : (given : Answer) → holds given ≡ true → is_of_put given ≡ true
holder_answers (answer.Route nearer owners) h = cc
holder_answers (answer.Near before list) h = cc
holder_answers (answer.Found bytes) h = cc
holder_answers answer.Nothing h = cc
holder_answers answer.Stored h = refl
holder_answers (answer.Refused why) h = refl
holder_answers answer.Noted h = cc
holder_answers answer.Silent h = cc

all_answered : (answers : Answer → Bool) (asks : Told) → AllByRecursion (λ s. answers s.1 ≡ true) asks → answered_in answers asks ≡ length asks
all_answered answers asks a = sym (length-filter (λ (s : Peer × Answer). answers s.1) asks) ∙ ap length (filter_all (λ (s : Peer × Answer). answers s.1) asks a)

all_held : (asks : Told) → AllByRecursion (λ s. holds s.1 ≡ true) asks → AllByRecursion (λ s. is_of_put s.1 ≡ true) asks
all_held [] a = tt
all_held (s ∷ asks) a = (holder_answers s.1 a.0, all_held asks a.1)

first_answered : (k : ℕ) (asks : Told) → AllByRecursion (λ s. is_of_put s.1 ≡ true) asks → AllByRecursion (λ s. is_of_put s.1 ≡ true) (take k asks)
first_answered zero asks a = tt
first_answered (suc k) [] a = tt
first_answered (suc k) (s ∷ asks) a = (a.0, first_answered k asks a.1)

length_nodes : (asks : Told) → length (nodes asks) ≡ length asks
length_nodes [] = refl
length_nodes (s ∷ asks) = ap suc (length_nodes asks)

pub nodes_filter : (t : Peer → Bool) (asks : Told) → nodes (filter (λ s. t s.0) asks) ≡ filter t (nodes asks)
nodes_filter t [] = refl
nodes_filter t (s ∷ asks) = by (t s.0) (nodes_filter t asks)
  where
    by : (b : Bool) → nodes (filter (λ s. t s.0) asks) ≡ filter t (nodes asks) → nodes (cond b (s ∷ filter (λ s. t s.0) asks) (filter (λ s. t s.0) asks)) ≡ cond b (s.0 ∷ filter t (nodes asks)) (filter t (nodes asks))
    by true e = ap (λ (l : List Peer). s.0 ∷ l) e
    by false e = e

pub held_filter : (t : Peer → Bool) (asks : Told) → AllByRecursion (λ s. holds s.1 ≡ true) asks → AllByRecursion (λ s. holds s.1 ≡ true) (filter (λ s. t s.0) asks)
held_filter t [] a = tt
held_filter t (s ∷ asks) a = by (t s.0) (held_filter t asks a.1)
  where
    by : (b : Bool) → AllByRecursion (λ s. holds s.1 ≡ true) (filter (λ s. t s.0) asks) → AllByRecursion (λ s. holds s.1 ≡ true) (cond b (s ∷ filter (λ s. t s.0) asks) (filter (λ s. t s.0) asks))
    by true rest = (a.0, rest)
    by false rest = rest

-- ---- the asks of a put

-- of owners that are the first of some, those are asked that own the key
module _ (r : ℕ) (pos : 1 ≤ r) (all : List Peer) (distinct : AreDistinct all) (q : Peer) (qs : List Peer) (is : take (2 * r) all ≡ q ∷ qs) (asks : Told) (held : AllByRecursion (λ s. holds s.1 ≡ true) asks) where
  once_is : (once : List Peer) → AreFirsts [] (q ∷ qs) once → once ≡ take (2 * r) all
  once_is once f = firsts_same [] (q ∷ qs) once f (subst AreDistinct is (distinct_take (2 * r) all distinct)) (λ p i j. elim j [ ]) ∙ sym is

  answered : answered_in is_of_put asks ≡ length asks
  answered = all_answered is_of_put asks (all_held asks held)

  not_more : AreAsks (q ∷ qs) (λ t. r ≤ answered_in is_of_put t) asks → length asks ≤ r
  not_more a = ⊎_elim (λ l. l) (λ l. absurd (a.needed r l (enough l))) (cases (length asks) r)
    where
      cases : (m n : ℕ) → (m ≤ n) ⊎ (n < m)
      cases m n = grind arith

      enough : r < length asks → r ≤ answered_in is_of_put (take r asks)
      enough l =
          let count = all_answered is_of_put (take r asks) (first_answered r asks (all_held asks held)) in
          let size = length-take r asks in
          omega (arith, l, count, size)

  pub asked_are_owners : AreAsks (q ∷ qs) (λ t. r ≤ answered_in is_of_put t) asks → nodes asks ≡ take r all
  asked_are_owners a =
      let few = not_more a in
      ⊎_elim
      (λ enough.
      let size : length asks ≡ r = omega (arith, few, enough, answered) in
      a.order ∙ ap (λ n. take n a.once) size ∙ ap (take r) (once_is a.once a.firsts) ∙ take-take r (2 * r) all (omega arith))
      (λ whole.
      let same : nodes asks ≡ take (2 * r) all = whole ∙ once_is a.once a.firsts in
      let size : length (take (2 * r) all) ≤ r = subst (λ n. n ≤ r) (sym (length_nodes asks) ∙ ap length same) few in
      let short : length all ≤ r = shorter (length all) (length (take (2 * r) all)) (length-take (2 * r) all) size in
      same ∙ take_all (2 * r) all (omega (arith, short)) ∙ sym (take_all r all short))
      a.over
    where
      shorter : (n m : ℕ) → m ≡ min (2 * r) n → m ≤ r → n ≤ r
      shorter n m e l = omega (arith, e, l, pos)

  pub is_acknowledged : (acknowledged : Bool) → IsPutTrail is_of_put holds r (q ∷ qs) asks acknowledged → acknowledged ≡ true
  is_acknowledged true p = refl
  is_acknowledged false p = absurd (p.ends (⊎_elim
      (λ enough. inl (subst (λ n. r ≤ n) (answered ∙ sym (all_answered holds asks held)) enough))
      (λ whole. inr (whole, some whole))
      p.asks.over))
    where
      some : nodes asks ≡ p.asks.once → 1 ≤ answered_in holds asks
      some whole =
          let size : length asks ≡ suc (length qs) = sym (length_nodes asks) ∙ ap length (whole ∙ once_is p.asks.once p.asks.firsts ∙ is) in
          let count = all_answered holds asks held in
          omega (arith, size, count)

  -- the block is dropped where the node is none of the owners
  pub is_dropped : (p : Peer) (acknowledged dropped : Bool) → IsPutTrail is_of_put holds r (q ∷ qs) asks acknowledged → IsDropped p asks acknowledged dropped → MatchBool dropped (IsAmong p (take r all) → ⊥) (IsAmong p (take r all))
  is_dropped p acknowledged true put d = λ i. d.1 (subst (IsAmong p) (sym (asked_are_owners put.asks)) i)
  is_dropped p acknowledged false put d = subst (IsAmong p) (asked_are_owners put.asks) (d (is_acknowledged acknowledged put))
