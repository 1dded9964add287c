-- A number that falls with each ask: so many asks for each get that may still come, and those of the get on its way.
use Rattle.std.proofs.Common.{◌≡◌, ℕ, zero, suc, ◌+◌, ◌-◌, ◌*◌, ◌<◌, ◌≤◌, arith}
use Rattle.std.specs.Prelude.{◌^◌}
use Rattle.std.proofs.Math.Nat.{mul-le-mul_left, mul-lt-mul_of_pos_left, mul-suc}
use Rattle.log_model.specs.View.{most_members}
use Rattle.log_fetch.specs.Fetching.{most_asks, most_left}

module _ (most : ℕ) where
  -- the get goes on
  pub goes_on : (gets left before : ℕ) → left < before → left + most * gets < before + most * gets
  goes_on gets left before less = omega (arith, less)

  -- it is over
  pub is_over : (gets more before : ℕ) → more ≤ most * gets → 0 < before → more < before + most * gets
  is_over gets more before no_more some = omega (arith, no_more, some)

  -- what it brought leaves fewer gets
  pub fewer : (gets before : ℕ) → gets < before → most * gets ≤ most * (before - 1)
  fewer gets before less = mul-le-mul_left most (omega (arith, less))

  pub fewer_gets : (gets before : ℕ) → 0 < most → gets < before → most * gets < most * before
  fewer_gets gets before some less = mul-lt-mul_of_pos_left less some

  -- the next get begins
  pub begins : (gets left : ℕ) → 0 < gets → left < most → left + most * (gets - 1) ≤ most * gets
  begins zero left some less = absurd (omega (arith, some))
  begins (suc gets) left some less = let e : suc gets - 1 ≡ gets = omega arith in rw (e, mul-suc most gets) (omega (arith, less))

-- a get that begins
pub first_asks : 2 ^ 64 + 512 < most_asks
unfolding most_asks
first_asks = omega arith

pub some_asks : 0 < most_asks
some_asks = omega (arith, first_asks)

-- a fetch that begins
pub first_left : (gets : ℕ) → gets < (most_members + 1) * (2 + 2 ^ 96) → most_asks * gets < most_left
unfolding most_left
first_left gets less = fewer_gets most_asks gets ((most_members + 1) * (2 + 2 ^ 96)) some_asks less
