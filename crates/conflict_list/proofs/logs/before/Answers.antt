use Rattle.std.proofs.Common.{◌≡◌, ℕ, ◌-◌, get_or, ap, ◌∙◌, ⊎_elim, arith}
use Rattle.std.proofs.lemmas.Bool.{cases_lt}
use Rattle.conflict_list.proofs.logs.before.Goals as goal

pub places-preserved : goal.places-preserved
places-preserved c = λ k ge lt e. ⊎_elim
    (λ less. let here : c.places.i - 1 ≡ k = omega (arith, ge, less) in c.if-of-i.false (ap (λ (n : ℕ). get_or c.args.of.now n 0) here ∙ e))
    (λ le. c.places.invariant k le lt e)
    (cases_lt k c.places.i)

pub returns : goal.returns
returns c = record { found = tt; last = tt; none = λ k lt e. c.places.invariant k (let z = c.places-test.false in omega (arith, z)) lt e }
