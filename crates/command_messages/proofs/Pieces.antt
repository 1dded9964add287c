-- The bytes of pieces in a row, as they are appended one by one.
use Rattle.std.proofs.Common.{◌≡◌, ◌<◌, ◌+◌, ℕ, Bool, true, false, List, ◌∷◌, ◌++◌, length, drop, get_or, Option, Some, None, refl, sym, ap, ◌∙◌, append_assoc}
use Rattle.std.specs.Prelude.{option_map, if◌then◌else◌}
use Rattle.std.proofs.lemmas.List.{at_drop_more}
use Rattle.log_model.specs.View.{View}
use Rattle.script_model.specs.declared.command.Piece.{Piece}
use Rattle.script_model.specs.Messages.{Given, piece_bytes, bytes_of_pieces}
use Rattle.script_model.specs.Words.{◌>>=◌}

-- bytes of a piece that are appended stand in front of those of the rest
piece_in_front : (before after : List ℕ) (bytes rest : Option (List ℕ)) → option_map (λ b. before ++ b) bytes ≡ Some after
    → option_map (λ b. before ++ b) (bytes >>= λ b. rest >>= λ r. Some (b ++ r)) ≡ option_map (λ b. after ++ b) rest
piece_in_front before after None rest h = cc h
piece_in_front before after (Some b) None h = refl
piece_in_front before after (Some b) (Some r) h =
    let same : before ++ b ≡ after = cc h in
    rw (← same, append_assoc) refl

-- what is to be appended from piece i on is, once that piece is, to be appended from the next on
pub one_more : (replies : List Given) (view : View) (pieces : List Piece) (i : ℕ) (piece : Piece) (before after : List ℕ) (is_put : Bool)
    → i < length pieces → piece ≡ get_or pieces i piece
    → option_map (λ b. before ++ b) (piece_bytes replies view piece) ≡ (if is_put then Some after else None) → is_put ≡ true
    → option_map (λ b. before ++ b) (bytes_of_pieces replies view (drop i pieces)) ≡ option_map (λ b. after ++ b) (bytes_of_pieces replies view (drop (i + 1) pieces))
one_more replies view pieces i piece before after false inside is put done = cc done
one_more replies view pieces i piece before after true inside is put done =
    at_drop_more (λ ps. option_map (λ b. before ++ b) (bytes_of_pieces replies view ps)) pieces i piece inside
    ∙ ap (λ p. option_map (λ b. before ++ b) (bytes_of_pieces replies view (p ∷ drop (i + 1) pieces))) (sym is)
    ∙ piece_in_front before after (piece_bytes replies view piece) (bytes_of_pieces replies view (drop (i + 1) pieces)) put
