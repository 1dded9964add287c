-- A log after the front: its numbers, its beginnings, and what precedes each of its records.
use Rattle.std.proofs.Common.{◌≡◌, ◌⊎◌, inl, inr, ⊎_elim, ℕ, ◌+◌, ◌<◌, List, [], ◌∷◌, ◌++◌, sym, ap, ◌∙◌, subst, arith, Option, Some, None, Contains}
use Rattle.std.specs.List.{AllByRecursion}
use Rattle.ivy_base.specs.declared.key.PubKey.{PubKey}
use Rattle.log_model.specs.View.{View}
use Rattle.log_model.specs.Vector.{Stamp, reach}
use Rattle.log_model.specs.Record.{Record}
use Rattle.log_model.specs.Rank.{weight}
use Rattle.log_model.specs.Chain.{IsGood, Follows, GoesOn}
use Rattle.log_model.specs.Closed.{IsAscending}
use Rattle.log_model.proofs.Lists.{here, there, in_cons, in_nothing, each_from, each}
use Rattle.log_model.proofs.Weights.{follows_heavier}
use Rattle.log_model.proofs.Part.{Numbered, numbered, chain_front, chain_good, PrecededIn, preceded}
use Rattle.log_model.proofs.Sets.{IsBefore, lighter_is_before, chain_ascends}
use Rattle.causal_order.specs.Over.{GoesOnFrom}

-- ---- after one record

pub numbers_after : (view : View) (owner : PubKey) (p : Record) (n : ℕ) (rs : List Record) → n ≡ p.seq + 1 → GoesOn view owner p rs → Numbered n rs
numbers_after view owner p n [] e g = tt
numbers_after view owner p n (r ∷ rs) e g = let s = g.1.seq in (omega arith, numbers_after view owner r (n + 1) rs (omega arith) g.2)

pub front_after : (view : View) (owner : PubKey) (p : Record) (xs ys : List Record) → GoesOn view owner p (xs ++ ys) → GoesOn view owner p xs
front_after view owner p [] ys g = tt
front_after view owner p (x ∷ xs) ys g = (g.0, g.1, front_after view owner x xs ys g.2)

pub good_after : (view : View) (owner : PubKey) (p : Record) (rs : List Record) → GoesOn view owner p rs → AllByRecursion (IsGood view owner) rs
good_after view owner p [] g = tt
good_after view owner p (r ∷ rs) g = (g.0, good_after view owner r rs g.2)

preceded_after : (view : View) (owner : PubKey) (p : Record) (rs : List Record) (r : Record) → GoesOn view owner p rs → Contains rs r → PrecededIn (p ∷ rs) r
preceded_after view owner p [] r g c = absurd (in_nothing r c)
preceded_after view owner p (q ∷ rs) r g c = ⊎_elim
    (λ e. record { before = p; stands = here p (q ∷ rs); follows = subst (λ (x : Record). Follows p x) e g.1 })
    (λ d. let w = preceded_after view owner q rs r g.2 d in record { before = w.before; stands = there p (q ∷ rs) w.before w.stands; follows = w.follows })
    (in_cons q rs r c)

heavier_after : (view : View) (owner : PubKey) (p : Record) (rs : List Record) → IsGood view owner p → GoesOn view owner p rs → AllByRecursion (λ q. weight p < weight q) rs
heavier_after view owner p [] good g = tt
heavier_after view owner p (r ∷ rs) good g =
    let next = follows_heavier p r good.spelled g.0.spelled (good.owned ∙ sym g.0.owned) g.1.seq g.1.grows in
    (next, each_from (λ q. weight p < weight q) rs (λ q c. let more : weight r < weight q = each (λ q. weight r < weight q) rs q (heavier_after view owner r rs g.0 g.2) c in omega arith))

ascends_after : (view : View) (owner : PubKey) (p : Record) (rs : List Record) → IsGood view owner p → GoesOn view owner p rs → IsAscending (p ∷ rs)
ascends_after view owner p [] good g = (tt, tt)
ascends_after view owner p (r ∷ rs) good g = (each_from (IsBefore p) (r ∷ rs) (λ q c. lighter_is_before p q (each (λ q. weight p < weight q) (r ∷ rs) q (heavier_after view owner p (r ∷ rs) good g) c)), ascends_after view owner r rs g.0 g.2)

-- ---- after a stamp, or from the first record on

module _ (view : View) (owner : PubKey) where
  pub numbers_over : (o : Option Stamp) (rs : List Record) → GoesOnFrom view owner o rs → Numbered (reach o + 1) rs
  numbers_over None rs c = numbered view owner rs c
  numbers_over (Some s) [] c = tt
  numbers_over (Some s) (r ∷ rs) c = let e = c.0.seq in (e, numbers_after view owner r (s.seq + 1 + 1) rs (omega arith) c.1)

  pub front_over : (o : Option Stamp) (xs ys : List Record) → GoesOnFrom view owner o (xs ++ ys) → GoesOnFrom view owner o xs
  front_over None xs ys c = chain_front view owner xs ys c
  front_over (Some s) [] ys c = tt
  front_over (Some s) (x ∷ xs) ys c = (c.0, front_after view owner x xs ys c.1)

  pub good_over : (o : Option Stamp) (rs : List Record) → GoesOnFrom view owner o rs → AllByRecursion (IsGood view owner) rs
  good_over None rs c = chain_good view owner rs c
  good_over (Some s) [] c = tt
  good_over (Some s) (r ∷ rs) c = (c.0.good, good_after view owner r rs c.1)

  pub preceded_over : (o : Option Stamp) (rs : List Record) (r : Record) → GoesOnFrom view owner o rs → Contains rs r → (r.seq ≡ reach o + 1) ⊎ PrecededIn rs r
  preceded_over None rs r c within = preceded view owner rs r c within
  preceded_over (Some s) [] r c within = absurd (in_nothing r within)
  preceded_over (Some s) (q ∷ rs) r c within = ⊎_elim
      (λ e. inl (sym (ap (λ (x : Record). x.seq) e) ∙ c.0.seq))
      (λ d. inr (preceded_after view owner q rs r c.1 d))
      (in_cons q rs r within)

  pub ascends_over : (o : Option Stamp) (rs : List Record) → GoesOnFrom view owner o rs → IsAscending rs
  ascends_over None rs c = chain_ascends view owner rs c
  ascends_over (Some s) [] c = tt
  ascends_over (Some s) (r ∷ rs) c = ascends_after view owner r rs c.0.good c.1
