-- The circle of identifiers: numbers of 160 bits, modulo 2^160 (Chord, SIGCOMM 2001, section 4.2, with the bits of SHA-1).
use Rattle.std.specs.Prelude.{ℕ, ◌+◌, ◌-◌, ◌*◌, ◌%◌, ◌^◌, List, [], ◌∷◌, length, Bool, ◌==◌, nat_lt, nat_le, ◌&&◌, ◌||◌}
use Rattle.ivy_base.specs.declared.key.Key.{Key}

-- the number that the digits are in base 256, the greatest digit first
abbrev pub be_number : List ℕ → ℕ
be_number [] = 0
be_number (b ∷ bs) = b * 256 ^ length bs + be_number bs

-- the number of an identifier
abbrev pub number : Key → ℕ
number key = be_number key.0

-- how many bits an identifier has (m), and so how many fingers a node
abbrev pub identifier_bits : ℕ
identifier_bits = 160

-- how many places the circle has
abbrev pub circle_size : ℕ
circle_size = 2 ^ identifier_bits

-- how far b is clockwise after a
abbrev pub clockwise : ℕ → ℕ → ℕ
clockwise a b = (b + (circle_size - a)) % circle_size

-- x is on the arc from a to b, without a and with b; that is the whole circle where a is b (Chord: x in (a, b])
abbrev pub is_between : ℕ → ℕ → ℕ → Bool
is_between a x b = a == b || (nat_lt 0 (clockwise a x) && nat_le (clockwise a x) (clockwise a b))
