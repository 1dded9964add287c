-- Parts of a message's definition, and how many bytes pieces have, where a message may have so many.
use Rattle.std.specs.Prelude.{ℕ, ◌+◌, ◌-◌, ◌%◌, nat_le, List, ◌++◌, length, Option, Some, None, if◌then◌else◌}
use Rattle.log_model.specs.View.{View}
use Rattle.wire_model.specs.Xdr.{word}
use Rattle.script_model.specs.declared.command.Piece.{Piece}
use Rattle.script_model.specs.Messages.{Given, given_by, piece_bytes, bytes_of_pieces}
use Rattle.script_model.specs.Words.{◌>>=◌}
use Rattle.rpc_wire.specs.Frames.{longest_message}

-- the handle that the reply of that number, from 1, gave, and its verifier
abbrev pub handle_numbered : List Given → ℕ → Option (List ℕ)
handle_numbered replies number = given_by replies number >>= λ g. g.handle

abbrev pub verifier_numbered : List Given → ℕ → Option (List ℕ)
verifier_numbered replies number = given_by replies number >>= λ g. g.verifier

-- new attributes with that mode and nothing else
abbrev pub mode_alone : ℕ → List ℕ
mode_alone mode = word 1 ++ word mode ++ word 0 ++ word 0 ++ word 0 ++ word 0 ++ word 0

-- the bytes, where they aren't too many
abbrev pub not_too_long : List ℕ → Option (List ℕ)
not_too_long message = if nat_le (length message) longest_message then Some message else None

-- how many bytes opaque data of so many have, with the zeros up to a multiple of four
abbrev pub padded : ℕ → ℕ
padded n = n + (4 - n % 4) % 4

-- a length, where a message may have it
abbrev pub within : ℕ → Option ℕ
within n = if nat_le n longest_message then Some n else None

-- how many bytes there are
abbrev pub length_of : Option (List ℕ) → Option ℕ
length_of bytes = bytes >>= λ b. within (length b)

-- the same, where so many stand before them
abbrev pub length_behind : ℕ → Option (List ℕ) → Option ℕ
length_behind before bytes = bytes >>= λ b. within (before + length b)

abbrev pub length_of_piece : List Given → View → Piece → Option ℕ
length_of_piece replies view p = length_of (piece_bytes replies view p)

abbrev pub length_of_pieces : List Given → View → List Piece → Option ℕ
length_of_pieces replies view pieces = length_of (bytes_of_pieces replies view pieces)
