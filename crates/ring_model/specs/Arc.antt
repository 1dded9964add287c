-- Arcs of a circle whose places are numbers.
use Rattle.std.specs.Prelude.{ℕ, Bool, nat_lt, ◌&&◌, ◌||◌, if◌then◌else◌}

-- x is strictly between a and b, clockwise; where a is b that is the whole circle without a (Chord: x in (a, b))
abbrev pub is_strictly_between : ℕ → ℕ → ℕ → Bool
is_strictly_between a x b = if nat_lt a b then nat_lt a x && nat_lt x b else nat_lt a x || nat_lt x b
