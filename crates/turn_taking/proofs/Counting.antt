-- Records that are numbered one after the other: those up to a number are the first of them.
use Rattle.std.proofs.Common.{◌≡◌, ⊎_elim, ℕ, zero, suc, ◌+◌, ◌-◌, ◌<◌, ◌≤◌, min, Bool, true, false, cond, List, [], ◌∷◌, length, take, drop, filter, refl, sym, ap, ◌∙◌, subst, arith, le-leb, leb-true, lt-ltb, ltb-true}
use Rattle.std.specs.Prelude.{nat_le, nat_lt}
use Rattle.std.specs.List.{AllByRecursion}
use Rattle.std.proofs.lemmas.Bool.{cases_lt}
use Rattle.ivy_base.specs.declared.key.PubKey.{PubKey}
use Rattle.log_model.specs.View.{View}
use Rattle.log_model.specs.Record.{Record}
use Rattle.log_model.specs.Chain.{GoesOn}
use Rattle.causal_order.specs.Available.{IsLinked}
use Rattle.agent_model.specs.Turning.{AreNext}
use Rattle.turn_taking.specs.Chains.{AreNumbered}

-- ---- tests

pub not_le : (a b : ℕ) → b < a → nat_le a b ≡ false
not_le a b h = by (nat_le a b) refl
  where
    by : (t : Bool) → nat_le a b ≡ t → nat_le a b ≡ false
    by true e = absurd (let le = leb-true a b e in omega (arith, le, h))
    by false e = e

pub not_lt : (a b : ℕ) → b ≤ a → nat_lt a b ≡ false
not_lt a b h = by (nat_lt a b) refl
  where
    by : (t : Bool) → nat_lt a b ≡ t → nat_lt a b ≡ false
    by true e = absurd (let lt = ltb-true a b e in omega (arith, lt, h))
    by false e = e

module _ {A : Type 0} where
  pub if_true : (b : Bool) (x y : A) → b ≡ true → cond b x y ≡ x
  if_true true x y e = refl
  if_true false x y e = cc

  pub if_false : (b : Bool) (x y : A) → b ≡ false → cond b x y ≡ y
  if_false true x y e = cc
  if_false false x y e = refl

-- ---- numbers

-- the record's number is that or smaller
abbrev pub up_to : ℕ → Record → Bool
up_to m r = nat_le r.seq m

-- it is greater
abbrev pub behind : ℕ → Record → Bool
behind m r = nat_lt m r.seq

pub above : (k n : ℕ) (rs : List Record) → k ≤ n → AreNext n rs → AllByRecursion (λ r. k < r.seq) rs
above k n [] low h = tt
above k n (r ∷ rs) low h = (let e = h.0 in omega (arith, e, low), above k (n + 1) rs (omega (arith, low)) h.1)

pub none_up_to : (m n : ℕ) (rs : List Record) → m ≤ n → AreNext n rs → filter (up_to m) rs ≡ []
none_up_to m n [] low h = refl
none_up_to m n (r ∷ rs) low h =
    if_false (up_to m r) (r ∷ filter (up_to m) rs) (filter (up_to m) rs) (not_le r.seq m (let e = h.0 in omega (arith, e, low)))
    ∙ none_up_to m (n + 1) rs (omega (arith, low)) h.1

all_behind : (m n : ℕ) (rs : List Record) → m ≤ n → AreNext n rs → filter (behind m) rs ≡ rs
all_behind m n [] low h = refl
all_behind m n (r ∷ rs) low h =
    if_true (behind m r) (r ∷ filter (behind m) rs) (filter (behind m) rs) (lt-ltb m r.seq (let e = h.0 in omega (arith, e, low)))
    ∙ ap (λ l. r ∷ l) (all_behind m (n + 1) rs (omega (arith, low)) h.1)

take_nothing : (k : ℕ) → take {A = Record} k [] ≡ []
take_nothing zero = refl
take_nothing (suc k) = refl

drop_nothing : (k : ℕ) → drop {A = Record} k [] ≡ []
drop_nothing zero = refl
drop_nothing (suc k) = refl

pub counted : (n m : ℕ) (rs : List Record) → AreNext n rs → (k : ℕ) → k ≡ min (m - n) (length rs) → (filter (up_to m) rs ≡ take k rs) × (filter (behind m) rs ≡ drop k rs)
counted n m [] h k e = (sym (take_nothing k), sym (drop_nothing k))
counted n m (r ∷ rs) h k e = ⊎_elim
    (λ less.
    let more : k ≡ suc (min (m - (n + 1)) (length rs)) = omega (arith, e, less) in
    let rest = counted (n + 1) m rs h.1 (min (m - (n + 1)) (length rs)) refl in
    let low : r.seq ≤ m = (let s = h.0 in omega (arith, s, less)) in
    subst (λ (j : ℕ). (filter (up_to m) (r ∷ rs) ≡ take j (r ∷ rs)) × (filter (behind m) (r ∷ rs) ≡ drop j (r ∷ rs))) (sym more) (
      if_true (up_to m r) (r ∷ filter (up_to m) rs) (filter (up_to m) rs) (le-leb r.seq m low) ∙ ap (λ l. r ∷ l) rest.0,
      if_false (behind m r) (r ∷ filter (behind m) rs) (filter (behind m) rs) (not_lt m r.seq low) ∙ rest.1,
    ))
    (λ le.
    let none : k ≡ 0 = omega (arith, e, le) in
    subst (λ (j : ℕ). (filter (up_to m) (r ∷ rs) ≡ take j (r ∷ rs)) × (filter (behind m) (r ∷ rs) ≡ drop j (r ∷ rs))) (sym none)
    (none_up_to m n (r ∷ rs) le h, all_behind m n (r ∷ rs) le h))
    (cases_lt n m)

-- ---- of linked records

pub next_after : (view : View) (owner : PubKey) (p : Record) (n : ℕ) (rs : List Record) → n ≡ p.seq → GoesOn view owner p rs → AreNext n rs
next_after view owner p n [] e g = tt
next_after view owner p n (r ∷ rs) e g =
    let s = g.1.seq in
    let here : r.seq ≡ n + 1 = omega (arith, s, e) in
    (here, next_after view owner r (n + 1) rs (sym here) g.2)

pub linked_numbered : (view : View) (rs : List Record) → IsLinked view rs → AreNumbered rs
linked_numbered view [] h = absurd h
linked_numbered view (r ∷ rs) h =
    let some = h.0.spelled.some in
    let e : r.seq ≡ (r.seq - 1) + 1 = omega (arith, some) in
    (r.seq - 1, (e, next_after view r.owner r (r.seq - 1 + 1) rs (sym e) h.2))
