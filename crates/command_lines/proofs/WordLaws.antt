-- A line is its words, joined by blanks.
use Rattle.std.proofs.Common.{◌≡◌, ℕ, ◌<◌, ◌≤◌, ◌==◌, false, List, [], ◌∷◌, length, refl, ap, ◌∙◌, arith}
use Rattle.std.specs.List.{All, join_with_byte}
use Rattle.std.proofs.lemmas.List.Elements.{All-head, All-tail}
use Rattle.std.proofs.lemmas.List.Splits.{slice_split_none, slice_split_at, join_with_byte-slice_split}
use Rattle.script_model.specs.Lines.{command_of, command_of_words, is_comment}
use Rattle.script_model.specs.Words.{words_of}
use Rattle.script_driver.specs.Run.{line_limit}
use Rattle.command_lines.proofs.LineLemmas.{command_of_short}

pub joined_words : (line : List ℕ) → join_with_byte 32 (words_of line) ≡ line
joined_words line = join_with_byte-slice_split 32 line

abbrev pub HasNoBlank : List ℕ → Type 0
HasNoBlank word = All (λ b. (b == 32) ≡ false) word

pub words_of_joined : (words : List (List ℕ)) → 0 < length words → All HasNoBlank words → words_of (join_with_byte 32 words) ≡ words
words_of_joined [] some blankless = absurd (omega arith)
words_of_joined (word ∷ []) some blankless = slice_split_none (λ b. b == 32) word (All-head HasNoBlank word [] blankless)
words_of_joined (word ∷ next ∷ words) some blankless =
    slice_split_at (λ b. b == 32) word 32 (join_with_byte 32 (next ∷ words)) (All-head HasNoBlank word (next ∷ words) blankless) refl
    ∙ ap (λ others. word ∷ others) (words_of_joined (next ∷ words) (omega arith) (All-tail HasNoBlank word (next ∷ words) blankless))

-- a line of such words is the command that they are
pub command_of_joined : (words : List (List ℕ)) → 0 < length words → All HasNoBlank words → length (join_with_byte 32 words) ≤ line_limit → is_comment (join_with_byte 32 words) ≡ false
    → command_of (join_with_byte 32 words) ≡ command_of_words words
command_of_joined words some blankless short no_comment = command_of_short (join_with_byte 32 words) short no_comment ∙ ap command_of_words (words_of_joined words some blankless)
