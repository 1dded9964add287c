-- The digits that are written of some bytes are read as these bytes.
use Rattle.std.proofs.Common.{◌≡◌, ℕ, suc, ◌-◌, ◌*◌, ◌/◌, ◌%◌, ◌<◌, true, nat_le, List, [], ◌∷◌, length, slice_index, Some, refl, arith}
use Rattle.std.specs.List.{list_all}
use Rattle.std.proofs.lemmas.Bool.{le-leb}
use Rattle.std.proofs.lemmas.List.Recursion.{and_at}
use Rattle.hex.specs.Hex.{encode_lower, encode_with, lower_digits, IsBytes}
use Rattle.hex.proofs.HexLemmas.{decode_of-encode_lower, length-encode_with}
use Rattle.script_model.specs.Words.{hex_bytes, is_lower_hex}

lower_digit : (d : ℕ) → d < 16 → is_lower_hex (slice_index lower_digits d) ≡ true
lower_digit d lt = and_at (list_all is_lower_hex) is_lower_hex refl (λ _ _. refl) lower_digits d 0 lt refl

lower_text : (bytes : List ℕ) → IsBytes bytes → list_all is_lower_hex (encode_lower bytes) ≡ true
unfolding encode_with
lower_text [] small = refl
lower_text (byte ∷ bytes) small =
    let first = small 0 in
    rw (lower_digit (byte / 16) (omega arith), lower_digit (byte % 16) (omega arith), lower_text bytes (λ i. small (suc i))) refl

pub hex_bytes-encode_lower : (bytes : List ℕ) → 0 < length bytes → IsBytes bytes → hex_bytes (length bytes) (encode_lower bytes) ≡ Some bytes
hex_bytes-encode_lower bytes some small =
    let count = length bytes in
    let least : nat_le 1 (2 * count) ≡ true = le-leb 1 (2 * count) (omega arith) in
    let most : nat_le (2 * count) (2 * count) ≡ true = le-leb (2 * count) (2 * count) (omega arith) in
    let none_missing : 2 * count - 2 * count ≡ 0 = omega arith in
    rw (length-encode_with lower_digits bytes, least, most, lower_text bytes small, none_missing, decode_of-encode_lower bytes small) refl
