-- Bytes that are the same in each block.
use Rattle.std.proofs.Common.{◌≡◌, ℕ, ◌%◌, List, ◌++◌, length, sym, ap, ◌∙◌}
use Rattle.std.specs.Prelude.{◌≢◌}
use Rattle.wire_model.specs.Xdr.{fixed, IsAny, IsOfLength}
use Rattle.wire_model.specs.OneReading.{ReadsOne, IsFront, HasNoFront}
use Rattle.wire_model.proofs.OneReading.{of_length, always}
use Rattle.block_parts.specs.Parts.{constant_bytes}
use Rattle.block_parts.proofs.Bytes.{fixed_block}

pub one_constant : (front : List ℕ) → ReadsOne IsAny (constant_bytes front)
one_constant front = always front

fixed_words : (count : ℕ) → count % 4 ≡ 0 → (bytes : List ℕ) → length bytes ≡ count → fixed bytes ≡ bytes
fixed_words count words bytes size = fixed_block bytes (ap (λ n. n % 4) size ∙ words)

one_fixed : (count : ℕ) → count % 4 ≡ 0 → ReadsOne (IsOfLength count) fixed
one_fixed count words = of_length count (λ bytes h. ap length (fixed_words count words bytes h) ∙ h) (λ x y f g e. sym (fixed_words count words x f) ∙ e ∙ fixed_words count words y g)

spelled_out : (count : ℕ) → count % 4 ≡ 0 → (constant rest : List ℕ) → length constant ≡ count → constant ++ rest ≡ fixed constant ++ rest
spelled_out count words constant rest size = ap (λ (s : List ℕ). s ++ rest) (sym (fixed_words count words constant size))

pub no_constant : (count : ℕ) {bytes constant : List ℕ} → count % 4 ≡ 0 → length constant ≡ count → HasNoFront (IsOfLength count) fixed bytes → HasNoFront IsAny (constant_bytes constant) bytes
no_constant count {constant} words size absent = record {
  none = λ u rest f. absent.none constant rest (record { fits = size; spelled = f.spelled ∙ spelled_out count words constant rest size });
}

pub other_constant : (count : ℕ) {bytes item rest constant : List ℕ} → count % 4 ≡ 0 → length constant ≡ count → IsFront (IsOfLength count) fixed bytes item rest → item ≢ constant → HasNoFront IsAny (constant_bytes constant) bytes
other_constant count {item} {rest} {constant} words size f differs = record {
  none = λ u after g. differs ((one_fixed count words).one item constant rest after f.fits size (sym f.spelled ∙ g.spelled ∙ spelled_out count words constant after size)).0;
}
