-- Which bytes some inputs are, computed from the definitions.
use Rattle.std.proofs.Common.{◌≡◌, [], ◌∷◌, codes, Some, None, refl}
use Rattle.hex.proofs.OnLiterals.{hex_on_literals}
use Rattle.ivy_cli.specs.ProofLines.{bytes_of}

one_byte : bytes_of (codes "4a") ≡ Some (74 ∷ [])
unfolding hex_on_literals
one_byte = refl

on_a_line : bytes_of (codes "4a0f\n") ≡ Some (74 ∷ 15 ∷ [])
unfolding hex_on_literals
on_a_line = refl

nothing : bytes_of [] ≡ None
nothing = refl

newline_alone : bytes_of (codes "\n") ≡ None
newline_alone = refl

odd : bytes_of (codes "4a0\n") ≡ None
odd = refl

upper_case : bytes_of (codes "4A\n") ≡ None
upper_case = refl

two_newlines : bytes_of (codes "4a\n\n") ≡ None
two_newlines = refl

two_lines : bytes_of (codes "4a\n4a\n") ≡ None
two_lines = refl

blank_behind : bytes_of (codes "4a ") ≡ None
blank_behind = refl
