-- Lengths of pieces in a row, as they are told one by one.
use Rattle.std.proofs.Common.{◌≡◌, ℕ, ◌+◌, ◌*◌, ◌≤◌, ◌<◌, nat_le, Bool, true, false, List, ◌∷◌, ◌++◌, length, Option, Some, None, refl, sym, ap, ◌∙◌, arith, length-append}
use Rattle.std.specs.Prelude.{if◌then◌else◌, get_or, drop}
use Rattle.std.proofs.lemmas.Bool.{leb-true, leb-false}
use Rattle.std.proofs.lemmas.List.{at_drop_more}
use Rattle.log_model.specs.View.{View}
use Rattle.script_model.specs.declared.command.Piece.{Piece}
use Rattle.script_model.specs.Messages.{Given, piece_bytes, bytes_of_pieces}
use Rattle.script_model.specs.Words.{◌>>=◌}
use Rattle.script_model.specs.declared.command.Piece.TheVariants as piece
use Rattle.command_messages.specs.Lengths.{within, length_of, length_behind, length_of_piece}
use Rattle.command_messages.proofs.Groups.{head_has, root_has}
use Rattle.rpc_wire.specs.Frames.{longest_message}

-- ---- lengths within the bound

-- which lengths are within it
within_is : (m n : ℕ) → within m ≡ Some n → (m ≡ n) × (m ≤ longest_message)
within_is m n h = by (nat_le m longest_message) refl h
  where
    by : (t : Bool) → nat_le m longest_message ≡ t → (if t then Some m else None) ≡ Some n → (m ≡ n) × (m ≤ longest_message)
    by true e h = (cc h, leb-true m longest_message e)
    by false e h = cc h

not_within : (m : ℕ) → within m ≡ None → longest_message < m
not_within m h = by (nat_le m longest_message) refl h
  where
    by : (t : Bool) → nat_le m longest_message ≡ t → (if t then Some m else None) ≡ None → longest_message < m
    by true e h = cc h
    by false e h = leb-false m longest_message e

above : (m : ℕ) → longest_message < m → within m ≡ None
above m more = by (nat_le m longest_message) refl
  where
    by : (t : Bool) → nat_le m longest_message ≡ t → (if t then Some m else None) ≡ None
    by true e = let less = leb-true m longest_message e in absurd (omega (arith, less, more))
    by false e = refl

-- ---- the length of a piece

module _ (replies : List Given) (view : View) (p : Piece) where
  pub call_length : (mount : Bool) (procedure uid gid count : ℕ) → p ≡ piece.Call mount procedure uid gid count → within (60 + 4 * count) ≡ length_of_piece replies view p
  call_length mount procedure uid gid count is = ap within (sym (head_has mount procedure uid gid count).size) ∙ ap (length_of_piece replies view) (sym is)

  pub root_length : p ≡ piece.Root → Some 48 ≡ length_of_piece replies view p
  root_length is = ap within (sym (root_has view).size) ∙ ap (length_of_piece replies view) (sym is)

-- ---- one piece in front of the others

pub behind_nothing : (bytes : Option (List ℕ)) → length_of bytes ≡ length_behind 0 bytes
behind_nothing None = refl
behind_nothing (Some b) = let same : length b ≡ 0 + length b = omega arith in ap within same

in_front : (total next n : ℕ) (bytes rest : Option (List ℕ)) → length_of bytes ≡ Some n → within (total + n) ≡ Some next
    → length_behind total (bytes >>= λ b. rest >>= λ r. Some (b ++ r)) ≡ length_behind next rest
in_front total next n None rest some fits = cc some
in_front total next n (Some b) None some fits = refl
in_front total next n (Some b) (Some r) some fits =
    let size = within_is (length b) n some in
    let sum = within_is (total + n) next fits in
    let same : total + length (b ++ r) ≡ next + length r = omega (arith, size.0, sum.0, length-append b r) in
    ap within same

no_length : (total : ℕ) (bytes rest : Option (List ℕ)) → length_of bytes ≡ None
    → length_behind total (bytes >>= λ b. rest >>= λ r. Some (b ++ r)) ≡ None
no_length total None rest none = refl
no_length total (Some b) None none = refl
no_length total (Some b) (Some r) none =
    let size = not_within (length b) none in
    above (total + length (b ++ r)) (omega (arith, size, length-append b r))

-- ---- the piece of a place

module _ (replies : List Given) (view : View) (pieces : List Piece) (i : ℕ) (p : Piece) (inside : i < length pieces) (is : p ≡ get_or pieces i p) where
  there : (total : ℕ) → length_behind total (bytes_of_pieces replies view (drop i pieces))
      ≡ length_behind total (piece_bytes replies view p >>= λ b. bytes_of_pieces replies view (drop (i + 1) pieces) >>= λ r. Some (b ++ r))
  there total =
      at_drop_more (λ ps. length_behind total (bytes_of_pieces replies view ps)) pieces i p inside
      ∙ ap (λ (q : Piece). length_behind total (bytes_of_pieces replies view (q ∷ drop (i + 1) pieces))) (sym is)

  pub goes_on : (total next n : ℕ) → length_of_piece replies view p ≡ Some n → within (total + n) ≡ Some next
      → length_behind total (bytes_of_pieces replies view (drop i pieces)) ≡ length_behind next (bytes_of_pieces replies view (drop (i + 1) pieces))
  goes_on total next n some fits = there total ∙ in_front total next n (piece_bytes replies view p) (bytes_of_pieces replies view (drop (i + 1) pieces)) some fits

  pub one_without : (total : ℕ) → length_of_piece replies view p ≡ None → length_behind total (bytes_of_pieces replies view (drop i pieces)) ≡ None
  one_without total none = there total ∙ no_length total (piece_bytes replies view p) (bytes_of_pieces replies view (drop (i + 1) pieces)) none
