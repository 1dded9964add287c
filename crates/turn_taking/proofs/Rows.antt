-- Linked records, some of the first of them, and how they are named.
use Rattle.std.proofs.Common.{◌≡◌, ℕ, zero, suc, ◌+◌, ◌<◌, ◌≤◌, List, [], ◌∷◌, length, take, get_or, refl, sym, ap, ◌∙◌, arith, Some, None}
use Rattle.std.specs.List.{AllByRecursion}
use Rattle.ivy_base.specs.declared.key.Key.{Key}
use Rattle.ivy_base.specs.declared.key.PubKey.{PubKey}
use Rattle.log_model.specs.View.{View}
use Rattle.log_model.specs.Record.{Record}
use Rattle.log_model.specs.Chain.{IsGood, GoesOn}
use Rattle.log_model.specs.Fetched.{owner_of}
use Rattle.causal_order.specs.Available.{IsLinked}
use Rattle.causal_order.specs.Kept.{newest_name}
use Rattle.agent_model.specs.Turning.{AreNext}
use Rattle.turn_taking.specs.Chains.{AreNamed, AreNumbered}

-- ---- the first of them

after_take : (view : View) (owner : PubKey) (p : Record) (k : ℕ) (rs : List Record) → GoesOn view owner p rs → GoesOn view owner p (take k rs)
after_take view owner p zero rs g = tt
after_take view owner p (suc k) [] g = tt
after_take view owner p (suc k) (r ∷ rs) g = (g.0, g.1, after_take view owner r k rs g.2)

pub linked_take : (view : View) (k : ℕ) (rs : List Record) → 0 < k → IsLinked view rs → IsLinked view (take k rs)
linked_take view k [] some h = absurd h
linked_take view zero (r ∷ rs) some h = absurd (omega (arith, some))
linked_take view (suc k) (r ∷ rs) some h = (h.0, h.1, after_take view r.owner r k rs h.2)

next_take : (n k : ℕ) (rs : List Record) → AreNext n rs → AreNext n (take k rs)
next_take n zero rs h = tt
next_take n (suc k) [] h = tt
next_take n (suc k) (r ∷ rs) h = (h.0, next_take (n + 1) k rs h.1)

pub numbered_take : (k : ℕ) (rs : List Record) → AreNumbered rs → AreNumbered (take k rs)
numbered_take k rs h = (h.0, next_take h.0 k rs h.1)

pub owner_take : (k : ℕ) (rs : List Record) → 0 < k → owner_of (take k rs) ≡ owner_of rs
owner_take zero rs some = absurd (omega (arith, some))
owner_take (suc k) [] some = refl
owner_take (suc k) (r ∷ rs) some = refl

pub named_take : (i : ℕ) (rs : List Record) (head name : Key) → i < length rs → AreNamed rs head → ((r : Record) → get_or rs i r ≡ r → name ≡ r.name) → AreNamed (take (suc i) rs) name
named_take i [] head name few h is = absurd h
named_take zero (r ∷ rs) head name few h is = sym (is r refl)
named_take (suc i) (r ∷ []) head name few h is = absurd (omega (arith, few))
named_take (suc i) (r ∷ q ∷ rs) head name few h is = (h.0, named_take i (q ∷ rs) head name (omega (arith, few)) h.1 is)

-- ---- the names

-- the next record has it, as that of the one before it
pub name_before : (rs : List Record) (head : Key) (i : ℕ) (r next : Record) → AreNamed rs head → get_or rs i r ≡ r → suc i < length rs → get_or rs (suc i) next ≡ next → next.prev ≡ r.name
name_before [] head i r next h at less following = absurd h
name_before (x ∷ []) head i r next h at less following = absurd (omega (arith, less))
name_before (x ∷ y ∷ rs) head zero r next h at less following = ap (λ (q : Record). q.prev) (sym following) ∙ sym h.0 ∙ ap (λ (q : Record). q.name) at
name_before (x ∷ y ∷ rs) head (suc i) r next h at less following = name_before (y ∷ rs) head i r next h.1 at (omega (arith, less)) following

-- the head has the newest one's
pub name_last : (rs : List Record) (head : Key) (i : ℕ) (r : Record) → AreNamed rs head → get_or rs i r ≡ r → i < length rs → length rs ≤ i + 1 → head ≡ r.name
name_last [] head i r h at less last = absurd h
name_last (x ∷ []) head zero r h at less last = sym h ∙ ap (λ (q : Record). q.name) at
name_last (x ∷ []) head (suc i) r h at less last = absurd (omega (arith, less))
name_last (x ∷ y ∷ rs) head zero r h at less last = absurd (omega (arith, last))
name_last (x ∷ y ∷ rs) head (suc i) r h at less last = name_last (y ∷ rs) head i r h.1 at (omega (arith, less)) (omega (arith, last))

pub newest_named : (rs : List Record) (head : Key) → AreNamed rs head → newest_name None rs ≡ Some head
newest_named [] head h = absurd h
newest_named (r ∷ []) head h = ap (λ (k : Key). Some k) h
newest_named (r ∷ q ∷ rs) head h = newest_named (q ∷ rs) head h.1

after_named : (view : View) (owner : PubKey) (p : Record) (rs : List Record) (head : Key) → GoesOn view owner p rs → newest_name None (p ∷ rs) ≡ Some head → AreNamed (p ∷ rs) head
after_named view owner p [] head g e = cc
after_named view owner p (r ∷ rs) head g e = (sym g.1.prev, after_named view owner r rs head g.2 e)

pub linked_named : (view : View) (rs : List Record) (head : Key) → IsLinked view rs → newest_name None rs ≡ Some head → AreNamed rs head
linked_named view [] head h e = absurd h
linked_named view (r ∷ rs) head h e = after_named view r.owner r rs head h.2 e

-- ---- their owner

after_owned : (view : View) (owner : PubKey) (p : Record) (rs : List Record) → GoesOn view owner p rs → AllByRecursion (IsGood view owner) rs
after_owned view owner p [] g = tt
after_owned view owner p (r ∷ rs) g = (g.0, after_owned view owner r rs g.2)

pub linked_good : (view : View) (rs : List Record) → IsLinked view rs → AllByRecursion (IsGood view (owner_of rs)) rs
linked_good view [] h = absurd h
linked_good view (r ∷ rs) h = (h.0, after_owned view r.owner r rs h.2)
