-- Which input is which bytes, and that what comes of an input is determined.
use Rattle.std.proofs.Common.{◌≡◌, ℕ, suc, ◌-◌, ◌*◌, ◌%◌, ◌<◌, ◌≤◌, Bool, true, false, cond, nat_eq, nat_le, ◌&&◌, List, [], ◌∷◌, ◌++◌, length, drop, replicate, Option, Some, None, refl, sym, ap, ◌∙◌, inl, inr, arith, length-append}
use Rattle.std.specs.Cmp.Lexicographic.{pointwise}
use Rattle.std.specs.List.{ends_with, list_all}
use Rattle.std.proofs.lemmas.Bool.{and_parts, cases_eq, le-leb, ne_eqb}
use Rattle.std.proofs.lemmas.List.{drop_at, take_at}
use Rattle.hex.specs.Hex.{decode_of, encode_lower, lower_digits, IsBytes}
use Rattle.hex.proofs.HexLemmas.{decode_of-encode_lower, length-encode_with}
use Rattle.script_model.specs.Words.{is_lower_hex, ok_value}
use Rattle.command_lines.proofs.HexLaws.{hex_bytes-encode_lower}
use Rattle.script_driver.specs.Run.{Ran}
use Rattle.script_driver.specs.Told.{ran_of}
use Rattle.fork_proof.specs.declared.checking.Forked.{Forked}
use Rattle.fork_proof.specs.Checks.{ShowsFork, forked_of}
use Rattle.fork_proof.proofs.OneProof.{proofs_are_unambiguous}
use Rattle.ivy_cli.specs.Forks.{forked_text, Judges, Tells}
use Rattle.ivy_cli.specs.ForkLaws.{ForksAreJudgedAlike, WrittenDigitsAreRead}
use Rattle.ivy_cli.specs.ProofLines.{are_digits, bytes_of, digits_of, most_digits}

-- ---- one answer

-- bytes show one fork at most
one_fork : (bytes : List ℕ) (one other : Forked) → ShowsFork bytes one → ShowsFork bytes other → one ≡ other
one_fork bytes one other a b = a.fork ∙ ap forked_of (proofs_are_unambiguous bytes a.proof b.proof a.is b.is) ∙ sym b.fork

told_alike : (bytes one other : List ℕ) → Tells bytes one → Tells bytes other → one ≡ other
told_alike bytes one other (inl a) (inl b) = a.2 ∙ ap forked_text (one_fork bytes a.0 b.0 a.1 b.1) ∙ sym b.2
told_alike bytes one other (inl a) (inr b) = absurd (b.0 a.0 a.1)
told_alike bytes one other (inr a) (inl b) = absurd (a.0 b.0 b.1)
told_alike bytes one other (inr a) (inr b) = a.1 ∙ sym b.1

alike : (found : Option (List ℕ)) (one other : Ran) → Judges found one → Judges found other → one ≡ other
alike None one other a b = a ∙ sym b
alike (Some bytes) one other a b =
    ap (λ (text : List ℕ). ran_of text one.ending) (told_alike bytes one.text other.text a.0 b.0) ∙ ap (ran_of other.text) (a.1 ∙ sym b.1)

pub judged_alike : ForksAreJudgedAlike
judged_alike input one other a b = alike (bytes_of input) one other a b

-- ---- digits that were written

some_then : (least most lower : Bool) (x : Option (List ℕ)) (y : List ℕ) → cond (least && most && lower) x None ≡ Some y → lower ≡ true
some_then true true true x y e = refl
some_then false most lower x y e = cc e
some_then true false lower x y e = cc e
some_then true true false x y e = cc e

lower_digits_alone : (bytes : List ℕ) → 0 < length bytes → IsBytes bytes → list_all is_lower_hex (encode_lower bytes) ≡ true
lower_digits_alone bytes some small =
    let word = encode_lower bytes in
    let count = length bytes in
    some_then (nat_le 1 (length word)) (nat_le (length word) (2 * count)) (list_all is_lower_hex word) (ok_value (decode_of (replicate (2 * count - length word) 48 ++ word))) bytes
    (hex_bytes-encode_lower bytes some small)

not_newline : (byte : ℕ) → is_lower_hex byte ≡ true → nat_eq 10 byte ≡ false
not_newline byte lower = elim (cases_eq byte 10) [ inl e ↦ cc (rw e at lower) | inr other ↦ ne_eqb 10 byte (λ e. other (sym e)) ]

last_is_no_newline : (byte : ℕ) (rest : List ℕ) → list_all is_lower_hex (byte ∷ rest) ≡ true → pointwise nat_eq (10 ∷ []) (drop (length rest) (byte ∷ rest)) ≡ false
last_is_no_newline byte [] lower = rw (not_newline byte (and_parts (is_lower_hex byte) true lower).0) refl
last_is_no_newline byte (next ∷ rest) lower = last_is_no_newline next rest (and_parts (is_lower_hex byte) (list_all is_lower_hex (next ∷ rest)) lower).1

-- digits without a newline
digits_alone : (digits : List ℕ) → list_all is_lower_hex digits ≡ true → digits_of digits ≡ digits
digits_alone [] lower = refl
digits_alone (byte ∷ rest) lower =
    let size : suc (length rest) - 1 ≡ length rest = omega arith in
    let open_end : ends_with nat_eq (byte ∷ rest) (10 ∷ []) ≡ false = rw size (last_is_no_newline byte rest lower) in
    rw open_end refl

-- digits with a newline after them
digits_on_line : (digits : List ℕ) → digits_of (digits ++ 10 ∷ []) ≡ digits
digits_on_line digits =
    let size : length digits ≡ length (digits ++ 10 ∷ []) - 1 = omega (arith, length-append digits (10 ∷ [])) in
    let last : drop (length (digits ++ 10 ∷ []) - 1) (digits ++ 10 ∷ []) ≡ 10 ∷ [] = drop_at digits (10 ∷ []) _ size in
    let closed : ends_with nat_eq (digits ++ 10 ∷ []) (10 ∷ []) ≡ true = ap (pointwise nat_eq (10 ∷ [])) last in
    rw closed (take_at digits (10 ∷ []) _ size)

written : (bytes : List ℕ) → IsBytes bytes → 1 ≤ length bytes → 2 * length bytes ≤ most_digits → are_digits (encode_lower bytes) ≡ true
written bytes small some few =
    let even : 2 * length bytes % 2 ≡ 0 = omega arith in
    rw (
      length-encode_with lower_digits bytes,
      le-leb (2 * length bytes) most_digits few,
      le-leb 2 (2 * length bytes) (omega (arith, some)),
      even,
      lower_digits_alone bytes some small,
    ) refl

-- digits of bytes that were written
spelled : (input bytes : List ℕ) → digits_of input ≡ encode_lower bytes → IsBytes bytes → are_digits (encode_lower bytes) ≡ true → bytes_of input ≡ Some bytes
spelled input bytes is small are = rw (is, are) (ap ok_value (decode_of-encode_lower bytes small))

pub digits_are_read : WrittenDigitsAreRead
digits_are_read bytes small some few =
    let are = written bytes small some few in
    let alone = digits_alone (encode_lower bytes) (lower_digits_alone bytes some small) in
    (spelled (encode_lower bytes) bytes alone small are, spelled (encode_lower bytes ++ 10 ∷ []) bytes (digits_on_line (encode_lower bytes)) small are)
