-- Which input is which bytes, and that what comes of an input is determined.
use Rattle.std.specs.Prelude.{◌≡◌, ◌≤◌, ◌*◌, ℕ, List, [], ◌∷◌, ◌++◌, length, Some}
use Rattle.hex.specs.Hex.{encode_lower, IsBytes}
use Rattle.script_driver.specs.Run.{Ran}
use Rattle.ivy_cli.specs.Forks.{fork_runs}
use Rattle.ivy_cli.specs.ProofLines.{bytes_of, most_digits}

-- what is told of an input, and how that ends, is one
abbrev pub ForksAreJudgedAlike : Type 0
ForksAreJudgedAlike = (input : List ℕ) (one other : Ran) → fork_runs (Some input) one → fork_runs (Some input) other → one ≡ other

-- the digits that are written of some bytes are read as these bytes, with a newline after them and without one
abbrev pub WrittenDigitsAreRead : Type 0
WrittenDigitsAreRead = (bytes : List ℕ) → IsBytes bytes → 1 ≤ length bytes → 2 * length bytes ≤ most_digits
    → (bytes_of (encode_lower bytes) ≡ Some bytes) × (bytes_of (encode_lower bytes ++ 10 ∷ []) ≡ Some bytes)
