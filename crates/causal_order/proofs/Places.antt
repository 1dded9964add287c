-- The records of a log by their places: each by its number, and the name of each from the one after it.
use Rattle.std.proofs.Common.{◌≡◌, ℕ, zero, suc, ◌+◌, ◌-◌, ◌<◌, List, [], ◌∷◌, ◌++◌, length, get_or, refl, sym, ap, ◌∙◌, subst, arith, Option, Some, None, Contains, length-append}
use Rattle.std.specs.Prelude.{nat_eq, true}
use Rattle.std.specs.Cmp.Lexicographic.{pointwise}
use Rattle.tree_model.specs.Tree.{same_key}
use Rattle.tree_model.proofs.Keys.{same_key_is, same_key_itself}
use Rattle.tree_model.proofs.Same.{same_key_answer}
use Rattle.std.proofs.lemmas.List.{length-map}
use Rattle.ivy_base.specs.declared.key.Key.{Key}
use Rattle.ivy_base.specs.declared.key.PubKey.{PubKey}
use Rattle.log_model.specs.View.{View}
use Rattle.log_model.specs.Vector.{Vector, Stamp, stamp_at, reach, seq_of}
use Rattle.ivy_base.specs.Naming.{head_key_of}
use Rattle.causal_order.specs.declared.log.Log.{Log}
use Rattle.log_model.specs.Record.{Record}
use Rattle.log_model.specs.Chain.{GoesOn}
use Rattle.log_model.proofs.Part.{Numbered}
use Rattle.causal_order.specs.Over.{GoesOnFrom}
use Rattle.causal_order.proofs.Logs.{numbers_over}
use Rattle.log_records.specs.declared.record.Record as kept
use Rattle.log_records.specs.Records.{record_of}
use Rattle.log_records.specs.Records.{records_of}
use Rattle.causal_order.specs.declared.base.Base.{Base}
use Rattle.causal_order.specs.Kept.{IsAt, AreAt, IsKept, newest_name, known_of}

pub first_at : (x : Record) (xs : List Record) → IsAt (x ∷ xs) 0 x
first_at x xs = record { within = omega arith; is = refl }

pub next_at : (x : Record) (xs : List Record) (i : ℕ) (r : Record) → IsAt xs i r → IsAt (x ∷ xs) (suc i) r
next_at x xs i r h = record { within = let w = h.within in omega (arith, w); is = h.is }

pub rest_at : (x : Record) (xs : List Record) (i : ℕ) (r : Record) → IsAt (x ∷ xs) (suc i) r → IsAt xs i r
rest_at x xs i r h = record { within = let w = h.within in omega (arith, w); is = h.is }

pub at_stands : (xs : List Record) (i : ℕ) (r : Record) → IsAt xs i r → Contains xs r
at_stands xs i r h = (i, h.within, h.is)

pub stands_at : (xs : List Record) (r : Record) → Contains xs r → (i : ℕ) × IsAt xs i r
stands_at xs r c = (c.0, record { within = c.1; is = c.2 })

pub one_at : (xs : List Record) (i : ℕ) (r q : Record) → IsAt xs i r → IsAt xs i q → r ≡ q
one_at [] i r q h g = absurd (let w = h.within in omega (arith, w))
one_at (x ∷ xs) zero r q h g = sym h.is ∙ g.is
one_at (x ∷ xs) (suc i) r q h g = one_at xs i r q (rest_at x xs i r h) (rest_at x xs i q g)

pub some_at : (xs : List Record) (i : ℕ) → i < length xs → (r : Record) × IsAt xs i r
some_at [] i h = absurd (omega (arith, h))
some_at (x ∷ xs) zero h = (x, first_at x xs)
some_at (x ∷ xs) (suc i) h = let w = some_at xs i (omega (arith, h)) in (w.0, next_at x xs i w.0 w.1)

pub at_more : (xs ys : List Record) (i : ℕ) (r : Record) → IsAt xs i r → IsAt (xs ++ ys) i r
at_more [] ys i r h = absurd (let w = h.within in omega (arith, w))
at_more (x ∷ xs) ys zero r h = record { within = omega arith; is = h.is }
at_more (x ∷ xs) ys (suc i) r h = next_at x (xs ++ ys) i r (at_more xs ys i r (rest_at x xs i r h))

pub last_at : (xs : List Record) (r : Record) → IsAt (xs ++ r ∷ []) (length xs) r
last_at [] r = first_at r []
last_at (x ∷ xs) r = next_at x (xs ++ r ∷ []) (length xs) r (last_at xs r)

-- ---- places

pub places_count : (known : List Record) (places : List ℕ) (rs : List Record) → AreAt known places rs → length places ≡ length rs
places_count known [] [] h = refl
places_count known [] (r ∷ rs) h = absurd h
places_count known (i ∷ places) [] h = absurd h
places_count known (i ∷ places) (r ∷ rs) h = ap suc (places_count known places rs h.1)

-- what stands at the place of that index
pub place_holds : (known : List Record) (places : List ℕ) (rs : List Record) (i d : ℕ) (r : Record) → AreAt known places rs → IsAt rs i r → IsAt known (get_or places i d) r
place_holds known [] [] i d r h g = absurd (let w = g.within in omega (arith, w))
place_holds known [] (q ∷ rs) i d r h g = absurd h
place_holds known (p ∷ places) [] i d r h g = absurd h
place_holds known (p ∷ places) (q ∷ rs) zero d r h g = subst (λ (x : Record). IsAt known p x) g.is h.0
place_holds known (p ∷ places) (q ∷ rs) (suc i) d r h g = place_holds known places rs i d r h.1 (rest_at q rs i r g)

pub places_more : (known more : List Record) (places : List ℕ) (rs : List Record) → AreAt known places rs → AreAt (known ++ more) places rs
places_more known more [] [] h = tt
places_more known more [] (r ∷ rs) h = h
places_more known more (i ∷ places) [] h = h
places_more known more (i ∷ places) (r ∷ rs) h = (at_more known more i r h.0, places_more known more places rs h.1)

pub places_push : (known : List Record) (places : List ℕ) (rs : List Record) (i : ℕ) (r : Record) → AreAt known places rs → IsAt known i r → AreAt known (places ++ i ∷ []) (rs ++ r ∷ [])
places_push known [] [] i r h g = (g, tt)
places_push known [] (q ∷ rs) i r h g = absurd h
places_push known (p ∷ places) [] i r h g = absurd h
places_push known (p ∷ places) (q ∷ rs) i r h g = (h.0, places_push known places rs i r h.1 g)

-- ---- numbers and names

pub number_at : (n : ℕ) (rs : List Record) (i : ℕ) (r : Record) → Numbered n rs → IsAt rs i r → r.seq ≡ n + i
number_at n [] i r h g = absurd (let w = g.within in omega (arith, w))
number_at n (x ∷ rs) zero r h g = let e = h.0 in let s : x.seq ≡ r.seq = ap (λ (y : Record). y.seq) g.is in omega (arith, e, s)
number_at n (x ∷ rs) (suc i) r h g = let e = number_at (n + 1) rs i r h.1 (rest_at x rs i r g) in omega (arith, e)

named_after : (view : View) (owner : PubKey) (p : Record) (rs : List Record) (i : ℕ) (r q : Record) → GoesOn view owner p rs → IsAt (p ∷ rs) i r → IsAt (p ∷ rs) (suc i) q → q.prev ≡ r.name
named_after view owner p [] i r q g h k = absurd (let w = k.within in omega (arith, w))
named_after view owner p (x ∷ rs) zero r q g h k = sym (ap (λ (y : Record). y.prev) k.is) ∙ g.1.prev ∙ ap (λ (x : Record). x.name) h.is
named_after view owner p (x ∷ rs) (suc i) r q g h k = named_after view owner x rs i r q g.2 (rest_at p (x ∷ rs) i r h) (rest_at p (x ∷ rs) (suc i) q k)

named_by : (view : View) (owner : PubKey) (o : Option Stamp) (rs : List Record) (i : ℕ) (r q : Record) → GoesOnFrom view owner o rs → IsAt rs i r → IsAt rs (suc i) q → q.prev ≡ r.name
named_by view owner o [] i r q g h k = absurd (let w = h.within in omega (arith, w))
named_by view owner None (x ∷ rs) i r q g h k = named_after view owner x rs i r q g.2 h k
named_by view owner (Some s) (x ∷ rs) i r q g h k = named_after view owner x rs i r q g.1 h k

pub named_by_next : (view : View) (owner : PubKey) (o : Option Stamp) (rs : List Record) (i j : ℕ) (r q : Record) → j ≡ suc i → GoesOnFrom view owner o rs → IsAt rs i r → IsAt rs j q → q.prev ≡ r.name
named_by_next view owner o rs i j r q e g h k = named_by view owner o rs i r q g h (subst (λ (n : ℕ). IsAt rs n q) e k)

pub newest_at : (o : Option Stamp) (rs : List Record) (i : ℕ) (r : Record) → length rs ≡ suc i → IsAt rs i r → newest_name o rs ≡ Some r.name
newest_at o [] i r e h = absurd (omega (arith, e))
newest_at o (x ∷ []) zero r e h = ap (λ (y : Record). Some y.name) h.is
newest_at o (x ∷ []) (suc i) r e h = absurd (omega (arith, e))
newest_at o (x ∷ y ∷ rs) zero r e h = absurd (omega (arith, e))
newest_at o (x ∷ y ∷ rs) (suc i) r e h = newest_at o (y ∷ rs) i r (omega (arith, e)) (rest_at x (y ∷ rs) i r h)

pub newest_push : (o : Option Stamp) (rs : List Record) (r : Record) → newest_name o (rs ++ r ∷ []) ≡ Some r.name
newest_push o rs r = newest_at o (rs ++ r ∷ []) (length rs) r (let e = length-append rs (r ∷ []) in omega (arith, e)) (last_at rs r)

-- a key's test
pub key_is : (a b : Key) → pointwise nat_eq a.0 b.0 ≡ true → a ≡ b
key_is a b h = same_key_is a b (same_key_answer a b ∙ h)

pub key_itself : (a b : Key) → a ≡ b → pointwise nat_eq a.0 b.0 ≡ true
key_itself a b e = sym (same_key_answer a b) ∙ subst (λ (k : Key). same_key a k ≡ true) e (same_key_itself a)

pub known_length : (base : Base) (taken : List kept.Record) → length (known_of base taken) ≡ length base.held.now + length taken
known_length base taken = length-append (records_of base.held.now) (records_of taken) ∙ (rw (length-map base.held.now record_of, length-map taken record_of) refl)

module _ (view : View) (owner : PubKey) (o : Option Stamp) (log : List Record) (seq base i : ℕ) (chain : GoesOnFrom view owner o log) (after : base < seq) (start : base ≡ reach o) (index : i ≡ seq - base - 1) where
  -- the record of that number is the one of the index
  pub seq_at : (r : Record) → IsAt log i r → r.seq ≡ seq
  seq_at r at = let e = number_at (reach o + 1) log i r (numbers_over view owner o log chain) at in omega (arith, e, after, start, index)

  pub index_of : (r : Record) → Contains log r → r.seq ≡ seq → IsAt log i r
  index_of r c e =
      let w = stands_at log r c in
      let n = number_at (reach o + 1) log w.0 r (numbers_over view owner o log chain) w.1 in
      subst (λ (k : ℕ). IsAt log k r) (omega (arith, n, e, after, start, index)) w.1

pub base_is : (front : Vector) (known : List Record) (l : Log) → IsKept front known l → l.base ≡ reach (stamp_at front (head_key_of l.owner))
base_is front known l h = h.base ∙ ap (λ (k : Key). seq_of front k) h.key
