-- Numbers of heads that may be held.
use Rattle.std.specs.Prelude.{ℕ, ◌<◌, Option, IfSome}

-- where there is a number, it is below that one
abbrev pub IsBelow : ℕ → Option ℕ → Type 0
IsBelow seq number = IfSome number (λ n. n < seq)
