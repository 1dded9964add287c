-- What a line that isn't too long is: nothing, or the command that its words are.
use Rattle.std.proofs.Common.{◌≡◌, ℕ, ◌≤◌, true, false, List, length, Some, refl}
use Rattle.std.proofs.lemmas.Bool.{le-ltb}
use Rattle.script_model.specs.declared.command.Command.TheVariants.{Nothing}
use Rattle.script_model.specs.Lines.{command_of, command_of_words, is_comment}
use Rattle.script_model.specs.Words.{words_of}
use Rattle.script_driver.specs.Run.{line_limit}

pub command_of_comment : (line : List ℕ) → length line ≤ line_limit → is_comment line ≡ true → command_of line ≡ Some Nothing
unfolding command_of
command_of_comment line le comment = rw (le-ltb line_limit (length line) le, comment) refl

pub command_of_short : (line : List ℕ) → length line ≤ line_limit → is_comment line ≡ false → command_of line ≡ command_of_words (words_of line)
unfolding command_of
command_of_short line le words = rw (le-ltb line_limit (length line) le, words) refl
