-- The open arc in the words of arithmetic modulo 2^160.
use Rattle.std.proofs.Common.{◌≡◌, ℕ, ◌<◌, not, arith}
use Rattle.std.proofs.lemmas.Bool.Decides.{nat_tests}
use Rattle.std.specs.Prelude.{◌&&◌, ◌==◌}
use Rattle.ring_model.specs.Circle.{circle_size, clockwise, is_between}
use Rattle.ring_model.specs.Arc.{is_strictly_between}
use Rattle.ring_model.proofs.Hops.{ahead}

-- the strict arc is the half open one without its end
pub is_inside-between : (a x b : ℕ) → a < circle_size → x < circle_size → b < circle_size → is_strictly_between a x b ≡ (is_between a x b && not (x == b))
is_inside-between a x b ha hx hb = grind (arith, nat_tests)

pub ahead-clockwise : (a b : ℕ) → a < circle_size → b < circle_size → ahead circle_size a b ≡ clockwise a b
ahead-clockwise a b ha hb = grind (arith, nat_tests)
