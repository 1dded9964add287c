-- Whom a get or a put asks of some nodes, where those that live answer and the others are silent.
use Rattle.std.proofs.Common.{◌≡◌, ◌⊎◌, inl, inr, ⊎_elim, ℕ, zero, suc, ◌<◌, ◌≤◌, Bool, true, false, cond, List, [], ◌∷◌, length, take, filter, refl, sym, ap, ◌∙◌, subst, arith}
use Rattle.std.specs.List.{AllByRecursion}
use Rattle.std.proofs.lemmas.List.Sums.{length-filter}
use Rattle.ring_model.specs.Gets.{AreAsks, AreFirsts, answered_in, nodes}
use Rattle.ring_model.specs.Gets.AreFirsts.{none as no_more, again as seen_again, new as not_seen}
use Rattle.ring_model.specs.Members.{IsAmong}
use Rattle.ring_model.proofs.Lists.{among_filter, among_filtered, among_take, filter_front}
use Rattle.dht_ids.specs.declared.ask.Answer.{Answer}
use Rattle.dht_ids.specs.declared.peer.Peer.{Peer}
use Rattle.dhash_model.specs.Execution.{Told}
use Rattle.round_laws.proofs.Owning.{AreDistinct, passes}

firsts_from : (seen ps qs : List Peer) → AreFirsts seen ps qs → (x : Peer) → IsAmong x qs → IsAmong x ps
firsts_from seen [] qs no_more x i = absurd i
firsts_from seen (p ∷ ps) qs (seen_again s f) x i = inr (firsts_from seen ps qs f x i)
firsts_from seen (p ∷ ps) all (not_seen {qs = qs} n f) x (inl e) = inl e
firsts_from seen (p ∷ ps) all (not_seen {qs = qs} n f) x (inr i) = inr (firsts_from (p ∷ seen) ps qs f x i)

among_nodes : (s : Peer × Answer) (asks : Told) → IsAmong s asks → IsAmong s.0 (nodes asks)
among_nodes s [] i = absurd i
among_nodes s (x ∷ asks) (inl e) = inl (ap (λ (y : Peer × Answer). y.0) e)
among_nodes s (x ∷ asks) (inr i) = inr (among_nodes s asks i)

-- a node that was asked, with what it answered
pub among_asks : (m : Peer) (asks : Told) → IsAmong m (nodes asks) → (s : Peer × Answer) × IsAmong s asks × (s.0 ≡ m)
among_asks m [] i = absurd i
among_asks m (s ∷ asks) (inl e) = (s, inl refl, e)
among_asks m (s ∷ asks) (inr i) = let found = among_asks m asks i in (found.0, inr found.1, found.2)

-- who is asked is one of those that were found
pub asked_found : (found : List Peer) (asks : Told) (once : List Peer) → AreFirsts [] found once → nodes asks ≡ take (length asks) once → (s : Peer × Answer) → IsAmong s asks → IsAmong s.0 found
asked_found found asks once f order s i = firsts_from [] found once f s.0 (among_take (length asks) s.0 once (subst (IsAmong s.0) order (among_nodes s asks i)))

among_longer : (j k : ℕ) (m : Peer) (xs : List Peer) → j ≤ k → IsAmong m (take j xs) → IsAmong m (take k xs)
among_longer zero k m xs l i = absurd i
among_longer (suc j) k m [] l i = absurd i
among_longer (suc j) zero m (x ∷ xs) l i = absurd (omega (arith, l))
among_longer (suc j) (suc k) m (x ∷ xs) l (inl e) = inl e
among_longer (suc j) (suc k) m (x ∷ xs) l (inr i) = inr (among_longer j k m xs (omega (arith, l)) i)

-- of nodes the first that pass a test are the first of each once, where these are different
pub firsts_pass : (t : Peer → Bool) (k : ℕ) (seen ps qs : List Peer) → AreFirsts seen ps qs → AreDistinct (take k (filter t ps)) → ((x : Peer) → IsAmong x (take k (filter t ps)) → IsAmong x seen → ⊥) → take k (filter t qs) ≡ take k (filter t ps)
firsts_pass t k seen [] qs no_more d apart = refl
firsts_pass t k seen (p ∷ ps) qs (seen_again i f) d apart = by (t p) k d apart (λ n e g. firsts_pass t n seen ps qs f e g)
  where
    by : (b : Bool) (k : ℕ) → AreDistinct (take k (cond b (p ∷ filter t ps) (filter t ps))) → ((x : Peer) → IsAmong x (take k (cond b (p ∷ filter t ps) (filter t ps))) → IsAmong x seen → ⊥)
        → ((n : ℕ) → AreDistinct (take n (filter t ps)) → ((x : Peer) → IsAmong x (take n (filter t ps)) → IsAmong x seen → ⊥) → take n (filter t qs) ≡ take n (filter t ps))
        → take k (filter t qs) ≡ take k (cond b (p ∷ filter t ps) (filter t ps))
    by true zero d apart later = refl
    by true (suc k) d apart later = absurd (apart p (inl refl) i)
    by false k d apart later = later k d apart
firsts_pass t k seen (p ∷ ps) all (not_seen {qs = qs} n f) d apart = by (t p) refl k d apart (λ m e g. firsts_pass t m (p ∷ seen) ps qs f e g)
  where
    by : (b : Bool) → t p ≡ b → (k : ℕ) → AreDistinct (take k (cond b (p ∷ filter t ps) (filter t ps))) → ((x : Peer) → IsAmong x (take k (cond b (p ∷ filter t ps) (filter t ps))) → IsAmong x seen → ⊥)
        → ((m : ℕ) → AreDistinct (take m (filter t ps)) → ((x : Peer) → IsAmong x (take m (filter t ps)) → IsAmong x (p ∷ seen) → ⊥) → take m (filter t qs) ≡ take m (filter t ps))
        → take k (cond b (p ∷ filter t qs) (filter t qs)) ≡ take k (cond b (p ∷ filter t ps) (filter t ps))
    by true e zero d apart later = refl
    by true e (suc k) d apart later = ap (λ (l : List Peer). p ∷ l) (later k d.1 (λ x i j. ⊎_elim (λ s. d.0 (subst (λ y. IsAmong y (take k (filter t ps))) (sym s) i)) (λ h. apart x (inr i) h) j))
    by false e k d apart later = later k d (λ x i j. ⊎_elim (λ s. unlike x s (passes t x ps (among_take k x (filter t ps) i))) (λ h. apart x i h) j)
      where
        unlike : (x : Peer) → p ≡ x → t x ≡ true → ⊥
        unlike x s g = let both : true ≡ false = sym g ∙ ap t (sym s) ∙ e in cc

answered_nodes : (t : Peer → Bool) (answers : Answer → Bool) (asks : Told) → AllByRecursion (λ s. answers s.1 ≡ t s.0) asks → answered_in answers asks ≡ length (filter t (nodes asks))
answered_nodes t answers asks a = sym (length-filter (λ (s : Peer × Answer). answers s.1) asks) ∙ by asks a
  where
    by : (asks : Told) → AllByRecursion (λ s. answers s.1 ≡ t s.0) asks → length (filter (λ (s : Peer × Answer). answers s.1) asks) ≡ length (filter t (nodes asks))
    by [] a = refl
    by (s ∷ asks) a = ap (λ b. length (cond b (s ∷ filter (λ (s : Peer × Answer). answers s.1) asks) (filter (λ (s : Peer × Answer). answers s.1) asks))) a.0 ∙ test (t s.0) (by asks a.1)
      where
        test : (b : Bool) → length (filter (λ (s : Peer × Answer). answers s.1) asks) ≡ length (filter t (nodes asks))
            → length (cond b (s ∷ filter (λ (s : Peer × Answer). answers s.1) asks) (filter (λ (s : Peer × Answer). answers s.1) asks)) ≡ length (cond b (s.0 ∷ filter t (nodes asks)) (filter t (nodes asks)))
        test true e = ap suc e
        test false e = e

-- all but the last have at most one answer less
one_less : (answers : Answer → Bool) (k : ℕ) (asks : Told) → length asks ≡ suc k → length (filter (λ s. answers s.1) asks) ≤ suc (length (filter (λ s. answers s.1) (take k asks)))
one_less answers k [] e = omega arith
one_less answers zero (s ∷ []) e = by (answers s.1)
  where
    by : (b : Bool) → length (cond b (s ∷ []) []) ≤ 1
    by true = omega arith
    by false = omega arith
one_less answers zero (s ∷ u ∷ asks) e = absurd (omega (arith, e))
one_less answers (suc k) (s ∷ asks) e = by (answers s.1) (one_less answers k asks (omega (arith, e)))
  where
    by : (b : Bool) → length (filter (λ (s : Peer × Answer). answers s.1) asks) ≤ suc (length (filter (λ (s : Peer × Answer). answers s.1) (take k asks)))
        → length (cond b (s ∷ filter (λ (s : Peer × Answer). answers s.1) asks) (filter (λ (s : Peer × Answer). answers s.1) asks)) ≤ suc (length (cond b (s ∷ filter (λ (s : Peer × Answer). answers s.1) (take k asks)) (filter (λ (s : Peer × Answer). answers s.1) (take k asks))))
    by true h = omega (arith, h)
    by false h = h

module _ (t : Peer → Bool) (answers : Answer → Bool) (r : ℕ) (pos : 1 ≤ r) (found own : List Peer) (is : take r (filter t found) ≡ own) (distinct : AreDistinct own) (asks : Told) (all : AllByRecursion (λ s. answers s.1 ≡ t s.0) asks) where
  once_is : (once : List Peer) → AreFirsts [] found once → take r (filter t once) ≡ own
  once_is once f = firsts_pass t r [] found once f (subst AreDistinct (sym is) distinct) (λ x i j. absurd j) ∙ is

  -- each of the first r that live is asked, where it isn't enough before
  pub owner_asked : (IsEnough : Told → Type 0) → (IsEnough asks → r ≤ answered_in answers asks) → AreAsks found IsEnough asks → (m : Peer) → IsAmong m own → IsAmong m (nodes asks)
  owner_asked IsEnough only a m i = ⊎_elim (λ enough. by (only enough)) (λ whole. subst (IsAmong m) (sym whole) (among_filtered t m a.once (among_take r m (filter t a.once) first))) a.over
    where
      first : IsAmong m (take r (filter t a.once))
      first = subst (IsAmong m) (sym (once_is a.once a.firsts)) i

      by : r ≤ answered_in answers asks → IsAmong m (nodes asks)
      by many =
          let count = answered_nodes t answers asks all in
          let front : filter t (nodes asks) ≡ take (length (filter t (nodes asks))) (filter t a.once) = ap (filter t) a.order ∙ filter_front t (length asks) a.once ∙ sym (ap (λ (l : List Peer). take (length (filter t l)) (filter t a.once)) a.order) in
          among_filtered t m (nodes asks) (subst (IsAmong m) (sym front) (among_longer r (length (filter t (nodes asks))) m (filter t a.once) (omega (arith, many, count)) first))

  -- who is asked and lives is one of them
  pub asked_own : (IsEnough : Told → Type 0) → ((u : Told) → r ≤ answered_in answers u → IsEnough u) → AreAsks found IsEnough asks → (s : Peer × Answer) → IsAmong s asks → t s.0 ≡ true → IsAmong s.0 own
  asked_own IsEnough enough a s i lives =
      let count = answered_nodes t answers asks all in
      let few = not_more (length asks) refl in
      let front : filter t (nodes asks) ≡ take (length (filter t (nodes asks))) (filter t a.once) = ap (filter t) a.order ∙ filter_front t (length asks) a.once ∙ sym (ap (λ (l : List Peer). take (length (filter t l)) (filter t a.once)) a.order) in
      subst (IsAmong s.0) (once_is a.once a.firsts)
      (among_longer (length (filter t (nodes asks))) r s.0 (filter t a.once) (omega (arith, few, count)) (subst (IsAmong s.0) front (among_filter t s.0 (nodes asks) (among_nodes s asks i) lives)))
    where
      not_more : (n : ℕ) → length asks ≡ n → answered_in answers asks ≤ r
      not_more zero e = let none = none_in asks e in omega (arith, none)
        where
          none_in : (u : Told) → length u ≡ 0 → answered_in answers u ≡ 0
          none_in [] e = refl
          none_in (x ∷ u) e = absurd (omega (arith, e))
      not_more (suc k) e = by (cases (answered_in answers (take k asks)) r)
        where
          cases : (m n : ℕ) → (n ≤ m) ⊎ (m < n)
          cases m n = grind arith

          by : (r ≤ answered_in answers (take k asks)) ⊎ (answered_in answers (take k asks) < r) → answered_in answers asks ≤ r
          by (inl many) = absurd (a.needed k (omega (arith, e)) (enough (take k asks) many))
          by (inr short) =
              let less = one_less answers k asks e in
              let whole = length-filter (λ (s : Peer × Answer). answers s.1) asks in
              let part = length-filter (λ (s : Peer × Answer). answers s.1) (take k asks) in
              omega (arith, less, short, whole, part)
