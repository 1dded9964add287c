-- Records are taken one after the other, the least first of those that stand at the front of their log: what was taken is
-- the largest closed part of what was seen.
use Rattle.std.proofs.Common.{◌≡◌, ◌⊎◌, inl, inr, ⊎_elim, ℕ, ◌+◌, ◌<◌, ◌≤◌, Bool, true, List, [], ◌∷◌, ◌++◌, length, refl, sym, ap, ◌∙◌, subst, arith, Option, Contains}
use Rattle.std.specs.List.{AllByRecursion}
use Rattle.std.specs.Ordering.{eq_by_cmp}
use Rattle.std.proofs.lemmas.List.Elements.{Contains-append_left, Contains-append_right}
use Rattle.ivy_base.specs.declared.key.PubKey.{PubKey}
use Rattle.ivy_base.specs.Naming.{owner_cmp, head_key_of}
use Rattle.log_model.specs.View.{View}
use Rattle.log_model.specs.Vector.{Vector, Stamp, stamp_at, reach}
use Rattle.log_model.specs.Record.{Record}
use Rattle.log_model.specs.Rank.{weight}
use Rattle.log_model.specs.Chain.{IsGood}
use Rattle.log_model.specs.Closed.{log_of}
use Rattle.log_model.proofs.Lists.{here, there, in_cons, in_nothing, each_from, each, in_filter, from_filter}
use Rattle.log_model.proofs.Opening.{same_owner}
use Rattle.log_model.proofs.Owners.{owner_itself}
use Rattle.log_model.proofs.Part.{Numbered, numbers_from, numbers_below, later_not_lighter}
use Rattle.log_model.proofs.Sets.{numbered_has, numbered_one}
use Rattle.causal_order.specs.Passing.{Queue, AreApart, IsLeft, IsLeast, IsSeen, IsPassed}
use Rattle.causal_order.specs.Over.{IsMet, HasCauses, GoesOnFrom, IsClosed}
use Rattle.causal_order.proofs.Logs.{numbers_over, good_over}

pub one_owner : (queues : List Queue) → AreApart queues → (k l : Queue) → Contains queues k → Contains queues l → k.owner ≡ l.owner → k ≡ l
one_owner [] h k l ck cl e = absurd (in_nothing k ck)
one_owner (x ∷ xs) h k l ck cl e = ⊎_elim
    (λ is_k. ⊎_elim (λ is_l. sym is_k ∙ is_l)
    (λ c. absurd (each (λ y. x.owner ≡ y.owner → ⊥) xs l h.0 c (ap (λ (y : Queue). y.owner) is_k ∙ e))) (in_cons x xs l cl))
    (λ c. ⊎_elim (λ is_l. absurd (each (λ y. x.owner ≡ y.owner → ⊥) xs k h.0 c (ap (λ (y : Queue). y.owner) is_l ∙ sym e)))
    (λ d. one_owner xs h.1 k l c d e) (in_cons x xs l cl))
    (in_cons x xs k ck)

mine : PubKey → Record → Bool
mine owner x = eq_by_cmp owner_cmp owner x.owner

pub is_mine : (owner : PubKey) (r : Record) → r.owner ≡ owner → eq_by_cmp owner_cmp owner r.owner ≡ true
is_mine owner r e = subst (λ (o : PubKey). eq_by_cmp owner_cmp owner o ≡ true) (sym e) (owner_itself owner)

pub in_log : (owner : PubKey) (s : List Record) (r : Record) → Contains s r → r.owner ≡ owner → Contains (log_of owner s) r
in_log owner s r c e = in_filter (λ (x : Record). eq_by_cmp owner_cmp owner x.owner) s r c (is_mine owner r e)

pub of_log : (owner : PubKey) (s : List Record) (r : Record) → Contains (log_of owner s) r → Contains s r × (r.owner ≡ owner)
of_log owner s r c = let w = from_filter (λ (x : Record). eq_by_cmp owner_cmp owner x.owner) s r c in (w.0, same_owner owner r.owner w.1)

pub causes_weaken : (view : View) (front : Vector) (s t : List Record) (r : Record) → ((c : Record) → Contains s c → Contains t c) → HasCauses view front s r → HasCauses view front t r
causes_weaken view front s t r within h = each_from (IsMet view front t r) r.vector
    (λ e in_vector member. ⊎_elim (λ u. inl u) (λ w. inr (w.0, within w.0 w.1, w.2))
    (each (IsMet view front s r) r.vector e h in_vector member))

module _ (view : View) (front : Vector) where
  abbrev pub start : PubKey → Option Stamp
  start owner = stamp_at front (head_key_of owner)

  abbrev pub chain_of : PubKey → List Record → Type 0
  chain_of owner rs = GoesOnFrom view owner (stamp_at front (head_key_of owner)) rs

  -- each record of a queue is of its owner
  pub left_owned : (known : List Record) (queues : List Queue) → IsPassed view front known queues → (k : Queue) → Contains queues k → (r : Record) → Contains k.left r → IsGood view k.owner r
  left_owned known queues p k c r within =
      let goods = good_over view k.owner (start k.owner) (log_of k.owner known ++ k.left) (p.going k c) in
      each (IsGood view k.owner) (log_of k.owner known ++ k.left) r goods (Contains-append_right (log_of k.owner known) k.left r within)

  module _ (known : List Record) (queues : List Queue) (p : IsPassed view front known queues) (k : Queue) (r : Record) (rest : List Record) (f : IsLeast queues k r rest) where
    -- the log with what is left of it
    whole : List Record
    whole = log_of k.owner known ++ r ∷ rest

    pub going : chain_of k.owner (log_of k.owner known ++ r ∷ rest)
    going = subst (λ (l : List Record). chain_of k.owner (log_of k.owner known ++ l)) f.first (p.going k f.stands)

    in_left : (q : Record) → Contains (r ∷ rest) q → Contains k.left q
    in_left q c = subst (λ (l : List Record). Contains l q) (sym f.first) c

    r_left : IsLeft queues r
    r_left = record { queue = k; stands = f.stands; left = in_left r (here r rest) }

    pub r_good : IsGood view k.owner r
    r_good = left_owned known queues p k f.stands r (in_left r (here r rest))

    -- what is lighter than the least record left was taken
    lighter_taken : (q : Record) → Contains known q ⊎ IsLeft queues q → weight q < weight r → Contains known q
    lighter_taken q (inl c) light = c
    lighter_taken q (inr l) light = ⊎_elim
        (λ e. let same : weight r ≡ weight q = ap weight e in absurd (omega (arith, same, light)))
        (λ b. let late = later_not_lighter r q b in absurd (omega (arith, late, light)))
        (f.least q l)

    -- a record of a closed set that was seen has its causes among what was taken
    pub member_has_causes : (t : List Record) → IsClosed view front t → IsSeen known queues t → Contains t r → HasCauses view front known r
    member_has_causes t closed seen within = each_from (IsMet view front known r) r.vector
        (λ e in_vector member. ⊎_elim (λ u. inl u) (λ w. inr (w.0, lighter_taken w.0 (seen w.0 w.1) w.2.lighter, w.2))
        (each (IsMet view front t r) r.vector e (each (HasCauses view front t) t r closed.causes within) in_vector member))

    -- of what was seen, the owner's records are those of its log and its queue
    in_whole : (q : Record) → Contains known q ⊎ IsLeft queues q → q.owner ≡ k.owner → Contains (log_of k.owner known ++ r ∷ rest) q
    in_whole q (inl c) e = Contains-append_left (log_of k.owner known) (r ∷ rest) q (in_log k.owner known q c e)
    in_whole q (inr l) e =
        let owned = (left_owned known queues p l.queue l.stands q l.left).owned in
        let same : l.queue ≡ k = one_owner queues p.apart l.queue k l.stands f.stands (sym owned ∙ e) in
        Contains-append_right (log_of k.owner known) (r ∷ rest) q (subst (λ (x : List Record). Contains x q) f.first (subst (λ (x : Queue). Contains x.left q) same l.left))

    -- a closed set that has a later record of the queue has the first one too
    pub first_in : (t : List Record) → IsClosed view front t → IsSeen known queues t → (q : Record) → Contains t q → Contains rest q → Contains t r
    first_in t closed seen q in_t in_rest =
        let o = start k.owner in
        let low : (x : Record) → Contains (log_of k.owner t) x → reach o + 1 ≤ x.seq = λ x c. each (λ (y : Record). reach o + 1 ≤ y.seq) (log_of k.owner t) x (numbers_from (reach o + 1) (log_of k.owner t) (numbers_over view k.owner o (log_of k.owner t) (closed.chains k.owner)) (reach o + 1) (omega arith)) c in
        let high : (x : Record) → Contains (log_of k.owner t) x → x.seq < (reach o + 1) + length (log_of k.owner t) = λ x c. each (λ (y : Record). y.seq < (reach o + 1) + length (log_of k.owner t)) (log_of k.owner t) x (numbers_below (reach o + 1) ((reach o + 1) + length (log_of k.owner t)) (log_of k.owner t) refl (numbers_over view k.owner o (log_of k.owner t) (closed.chains k.owner))) c in
        let q_owned = (left_owned known queues p k f.stands q (in_left q (there r rest q in_rest))).owned in
        let all_numbers = numbers_over view k.owner o (log_of k.owner known ++ r ∷ rest) going in
        let r_low : reach o + 1 ≤ r.seq = each (λ (y : Record). reach o + 1 ≤ y.seq) (log_of k.owner known ++ r ∷ rest) r (numbers_from (reach o + 1) (log_of k.owner known ++ r ∷ rest) all_numbers (reach o + 1) (omega arith)) (Contains-append_right (log_of k.owner known) (r ∷ rest) r (here r rest)) in
        let q_high = high q (in_log k.owner t q in_t q_owned) in
        let before : r.seq < q.seq = later_number q in_rest in
        let w = numbered_has (reach o + 1) (log_of k.owner t) (numbers_over view k.owner o (log_of k.owner t) (closed.chains k.owner)) r.seq r_low (omega (arith, q_high, before)) in
        let found = of_log k.owner t w.0 w.1 in
        let same : w.0 ≡ r = numbered_one (reach o + 1) (log_of k.owner known ++ r ∷ rest) all_numbers w.0 r (in_whole w.0 (seen w.0 found.0) found.1) (Contains-append_right (log_of k.owner known) (r ∷ rest) r (here r rest)) w.2 in
        subst (λ (x : Record). Contains t x) same found.0
      where
        tail_numbers : (n : ℕ) (xs : List Record) → Numbered n (xs ++ r ∷ rest) → AllByRecursion (λ (y : Record). r.seq < y.seq) rest
        tail_numbers n [] h = let e = h.0 in numbers_above (n + 1) rest h.1 (omega (arith, e))
          where
            numbers_above : (m : ℕ) (ys : List Record) → Numbered m ys → r.seq < m → AllByRecursion (λ (y : Record). r.seq < y.seq) ys
            numbers_above m [] g lt = tt
            numbers_above m (y ∷ ys) g lt = let e = g.0 in (omega (arith, e, lt), numbers_above (m + 1) ys g.1 (omega (arith, lt)))
        tail_numbers n (x ∷ xs) h = tail_numbers (n + 1) xs h.1

        later_number : (q : Record) → Contains rest q → r.seq < q.seq
        later_number q c = each (λ (y : Record). r.seq < y.seq) rest q (tail_numbers (reach (start k.owner) + 1) (log_of k.owner known) (numbers_over view k.owner (start k.owner) (log_of k.owner known ++ r ∷ rest) going)) c
