-- The least of the next records, and what follows for all that are left.
use Rattle.std.proofs.Common.{◌≡◌, ℕ, zero, suc, ◌+◌, ◌<◌, Bool, true, false, List, [], ◌∷◌, take, length, get_or, refl, sym, ap, ◌∙◌, subst, arith, Option, Some, None}
use Rattle.std.specs.Prelude.{if◌then◌else◌, IfSome, IfNone}
use Rattle.std.specs.Cmp.{tied_itself}
use Rattle.std.specs.Ordering.{is_lt}
use Rattle.std.specs.declared.cmp.Ordering.{Ordering}
use Rattle.std.specs.declared.cmp.Ordering.TheVariants.{Less, Equal, Greater}
use Rattle.std.proofs.lemmas.List.Elements.{All-more, All-weaker}
use Rattle.log_model.specs.Rank.{Rank, rank_cmp}
use Rattle.log_model.proofs.Owners.{ranks_total}
use Rattle.version_vectors.specs.declared.rank.Rank as kept
use Rattle.version_vectors.specs.Ranks.{rank_of}
use Rattle.causal_order.specs.declared.log.Log.{Log}
use Rattle.causal_order.specs.Kept.{IsNotBefore, AreNotBefore, HasNext, IsNextOf, HaveNone, lesser}

is_less : (o : Ordering) → is_lt o ≡ true → o ≡ Less
is_less Less h = refl
is_less Equal h = cc
is_less Greater h = cc

before_trans : (a b c : Rank) → is_lt (rank_cmp a b) ≡ true → is_lt (rank_cmp b c) ≡ true → is_lt (rank_cmp a c) ≡ true
before_trans a b c h g = ap is_lt (ranks_total.trans a b c (is_less _ h) (is_less _ g))

not_before_itself : (a : Rank) → is_lt (rank_cmp a a) ≡ false
not_before_itself a = ap is_lt (tied_itself ranks_total a)

-- what isn't before a rank isn't before one that comes before it
not_before_lesser : (new old r : Rank) → is_lt (rank_cmp new old) ≡ true → IsNotBefore old r → IsNotBefore new r
not_before_lesser new old r less not = by (is_lt (rank_cmp r new)) refl
  where
    by : (b : Bool) → is_lt (rank_cmp r new) ≡ b → is_lt (rank_cmp r new) ≡ false
    by true e = let more = before_trans r new old e less in absurd (let f = sym more ∙ not in cc)
    by false e = e

module _ (logs : List Log) (i : ℕ) (d : Log) (within : i < length logs) where
  log : Log
  log = get_or logs i d

  State : Option (ℕ × kept.Rank) → Type 0
  State least = IfSome least (IsNextOf logs (take i logs)) × IfNone least (HaveNone (take i logs))

  After : Option (ℕ × kept.Rank) → Type 0
  After least = IfSome least (IsNextOf logs (take (i + 1) logs)) × IfNone least (HaveNone (take (i + 1) logs))

  self_at : get_or logs i (get_or logs i d) ≡ get_or logs i d
  self_at = at logs i within
    where
      at : (xs : List Log) (j : ℕ) → j < length xs → get_or xs j (get_or xs j d) ≡ get_or xs j d
      at [] j h = absurd (omega (arith, h))
      at (x ∷ xs) zero h = refl
      at (x ∷ xs) (suc j) h = at xs j (omega (arith, h))

  with_this : (least : Rank) → AreNotBefore least (take i logs) → IfSome (get_or logs i d).next (λ r. IsNotBefore least (rank_of r)) → AreNotBefore least (take (i + 1) logs)
  with_this least h here = All-more (λ (l : Log). IfSome l.next (λ r. IsNotBefore least (rank_of r))) logs i d within h here

  next_is : (r : kept.Rank) → (get_or logs i d).next ≡ Some r → HasNext logs i r
  next_is r e = record { log = get_or logs i d; within = within; stands = self_at; has = e }

  by : (least : Option (ℕ × kept.Rank)) (next : Option kept.Rank) → (get_or logs i d).next ≡ next
      → IfSome least (IsNextOf logs (take i logs)) × IfNone least (HaveNone (take i logs))
      → IfSome (lesser least i next) (IsNextOf logs (take (i + 1) logs)) × IfNone (lesser least i next) (HaveNone (take (i + 1) logs))
  by None None e st = (tt, All-more (λ (l : Log). l.next ≡ None) logs i d within st.1 e)
  by (Some b) None e st = ((st.0.0, with_this (rank_of b.1) st.0.1 (subst (λ (o : Option kept.Rank). IfSome o (λ r. IsNotBefore (rank_of b.1) (rank_of r))) (sym e) tt)), tt)
  by None (Some r) e st = (
    (
      next_is r e,
      with_this (rank_of r)
          (All-weaker (λ (l : Log). l.next ≡ None) (λ (l : Log). IfSome l.next (λ q. IsNotBefore (rank_of r) (rank_of q))) (λ l none. subst (λ (o : Option kept.Rank). IfSome o (λ q. IsNotBefore (rank_of r) (rank_of q))) (sym none) tt) (take i logs) st.1)
          (subst (λ (o : Option kept.Rank). IfSome o (λ q. IsNotBefore (rank_of r) (rank_of q))) (sym e) (not_before_itself (rank_of r))),
    ),
    tt,
  )
  by (Some b) (Some r) e st = choose (is_lt (rank_cmp (rank_of r) (rank_of b.1))) refl
    where
      choose : (t : Bool) → is_lt (rank_cmp (rank_of r) (rank_of b.1)) ≡ t
          → IfSome (if t then Some (i, r) else Some b) (IsNextOf logs (take (i + 1) logs)) × IfNone (if t then Some (i, r) else Some b) (HaveNone (take (i + 1) logs))
      choose true less = (
        (
          next_is r e,
          with_this (rank_of r)
              (All-weaker (λ (l : Log). IfSome l.next (λ q. IsNotBefore (rank_of b.1) (rank_of q))) (λ (l : Log). IfSome l.next (λ q. IsNotBefore (rank_of r) (rank_of q)))
              (λ l h. weaker l.next h) (take i logs) st.0.1)
              (subst (λ (o : Option kept.Rank). IfSome o (λ q. IsNotBefore (rank_of r) (rank_of q))) (sym e) (not_before_itself (rank_of r))),
        ),
        tt,
      )
        where
          weaker : (o : Option kept.Rank) → IfSome o (λ q. IsNotBefore (rank_of b.1) (rank_of q)) → IfSome o (λ q. IsNotBefore (rank_of r) (rank_of q))
          weaker None h = tt
          weaker (Some q) h = not_before_lesser (rank_of r) (rank_of b.1) (rank_of q) less h
      choose false less = ((st.0.0, with_this (rank_of b.1) st.0.1 (subst (λ (o : Option kept.Rank). IfSome o (λ q. IsNotBefore (rank_of b.1) (rank_of q))) (sym e) less)), tt)

  pub one_more : (least : Option (ℕ × kept.Rank)) → IfSome least (IsNextOf logs (take i logs)) × IfNone least (HaveNone (take i logs))
      → IfSome (lesser least i (get_or logs i d).next) (IsNextOf logs (take (i + 1) logs)) × IfNone (lesser least i (get_or logs i d).next) (HaveNone (take (i + 1) logs))
  one_more least st = by least (get_or logs i d).next refl st
