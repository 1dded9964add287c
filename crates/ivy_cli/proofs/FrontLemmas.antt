-- The front of a reply, from the line's slice.
use Rattle.std.proofs.Common.{◌≡◌, ℕ, ◌-◌, min, Bool, true, cond, None, List, length, take, drop, eqb, Option, Result, codes, ap, ◌∙◌, arith}
use Rattle.std.specs.List.{starts_with}
use Rattle.std.specs.Result.{result_ok}
use Rattle.std.proofs.lemmas.List.{take_rest, take_min}
use Rattle.hex.specs.Hex.{decode_sized}
use Rattle.hex.specs.declared.error.FromHexError.{FromHexError}
use Rattle.ivy_cli.specs.Summary.{front_of}

min_swaps : (a b : ℕ) → min a b ≡ min b a
min_swaps a b = omega arith

first_digits : (line : List ℕ) (n : ℕ) → n ≡ min (length (take (length line - 6) (drop 6 line))) 56 → take n (take (length line - 6) (drop 6 line)) ≡ take 56 (drop 6 line)
first_digits line n is =
    ap (λ m. take m (take (length line - 6) (drop 6 line))) (is ∙ min_swaps _ 56) ∙ take_min 56 (take (length line - 6) (drop 6 line))
    ∙ ap (take 56) (take_rest line 6)

chosen : (b : Bool) (front : Option (List ℕ)) → true ≡ b → front ≡ cond b front None
chosen b front holds = ap (λ t. cond t front None) holds

pub front_is : (line word : List ℕ) (n : ℕ) (read : Result (List ℕ) FromHexError) (front : Option (List ℕ)) → word ≡ codes "reply " → true ≡ starts_with eqb line word
    → n ≡ min (length (take (length line - 6) (drop 6 line))) 56 → read ≡ decode_sized (take n (take (length line - 6) (drop 6 line))) 28
    → front ≡ result_ok read → front ≡ front_of line
front_is line word n read front is starts count reads gives =
    gives ∙ ap result_ok (reads ∙ ap (λ digits. decode_sized digits 28) (first_digits line n count))
    ∙ chosen _ (result_ok (decode_sized (take 56 (drop 6 line)) 28)) (starts ∙ ap (starts_with eqb line) is)
