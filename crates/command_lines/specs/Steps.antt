-- Parts of the definitions of `script_model`, one for each function that reads such a part.
use Rattle.std.specs.Prelude.{ℕ, ◌^◌, nat_eq, List, [], ◌∷◌, drop, codes, Option, Some, None, if◌then◌else◌}
use Rattle.std.specs.List.{starts_with}
use Rattle.script_model.specs.declared.command.Piece.{Piece}
use Rattle.script_model.specs.declared.command.Piece.TheVariants as piece
use Rattle.script_model.specs.declared.command.KeyWord.{KeyWord}
use Rattle.script_model.specs.declared.command.Command.{Command}
use Rattle.script_model.specs.declared.command.Command.TheVariants as command
use Rattle.script_model.specs.Words.{names_of, parts_at, number_below, of_number, text_of, opaque_of, of_raw, each_of, piece_of, key_of}
use Rattle.script_model.specs.Words.{key_of_parts}
use Rattle.command_lines.specs.declared.pieces.Short.{Short}
use Rattle.command_lines.specs.declared.pieces.Short.TheVariants as short
use Rattle.command_lines.specs.declared.pieces.Long.{Long}
use Rattle.command_lines.specs.declared.pieces.Long.TheVariants as long
use Rattle.command_lines.specs.declared.agents.Asked.{Asked}
use Rattle.command_lines.specs.declared.agents.Asked.TheVariants.{Snap, Restart, Finish}
use Rattle.command_lines.specs.declared.shows.ShownAsked.{ShownAsked}
use Rattle.command_lines.specs.declared.shows.ShownAsked.TheVariants as asks
use Rattle.script_model.specs.declared.command.Shown.{Shown}
use Rattle.script_model.specs.declared.command.Shown.TheVariants as shown

-- a piece of a message that is no call
abbrev pub data_of : List ℕ → Option Piece
data_of word =
    if starts_with nat_eq word (codes "u:") then of_number (2 ^ 32) piece.Word (drop 2 word)
    else if starts_with nat_eq word (codes "w:") then of_number (2 ^ 64) piece.DoubleWord (drop 2 word)
    else if starts_with nat_eq word (codes "s:") then text_of (drop 2 word)
    else if starts_with nat_eq word (codes "o:") then opaque_of (parts_at 58 (drop 2 word))
    else if starts_with nat_eq word (codes "sa:") then of_number (2 ^ 32) piece.Mode (drop 3 word)
    else if starts_with nat_eq word (codes "h:") then of_number (2 ^ 64) piece.HandleOf (drop 2 word)
    else if starts_with nat_eq word (codes "v:") then of_number (2 ^ 64) piece.VerifierOf (drop 2 word)
    else of_raw word

-- a piece of a number of four bytes, and one of eight
abbrev pub short_piece : Short → ℕ → Piece
short_piece short.Word = piece.Word
short_piece short.Mode = piece.Mode

abbrev pub long_piece : Long → ℕ → Piece
long_piece long.Word = piece.DoubleWord
long_piece long.Handle = piece.HandleOf
long_piece long.Verifier = piece.VerifierOf

-- how many groups stand after the first
abbrev pub groups_of : List (List ℕ) → Option ℕ
groups_of [] = Some 0
groups_of (k ∷ []) = number_below (2 ^ 64) k
groups_of _ = None

-- the key after a node's place: a key by itself, or its parts
abbrev pub key_behind : List (List ℕ) → Option KeyWord
key_behind (word ∷ []) = key_of word
key_behind parts = key_of_parts parts

-- one piece at least, and each word is one
abbrev pub pieces_of : List (List ℕ) → Option (List Piece)
pieces_of [] = None
pieces_of words = each_of piece_of words

-- no names, or those that the only word is
abbrev pub former_of : List (List ℕ) → Option (List (List ℕ))
former_of [] = Some []
former_of (f ∷ []) = names_of f
former_of _ = None

-- what is asked of a name alone
abbrev pub command_asked : Asked → List ℕ → Command
command_asked Snap = command.Snap
command_asked Restart = command.Restart
command_asked Finish = command.Finish

-- what is asked to be shown of a participant
abbrev pub shown_asked : ShownAsked → List ℕ → Shown
shown_asked asks.Order = shown.Order
shown_asked asks.Work = shown.Work
shown_asked asks.Conflicts = shown.Conflicts
shown_asked asks.Proof = shown.Proof
