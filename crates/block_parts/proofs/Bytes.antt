-- Bytes of a known count: they fill whole words, and each is below 256.
use Rattle.std.proofs.Common.{◌≡◌, ℕ, suc, ◌<◌, ◌-◌, ◌%◌, true, List, [], ◌∷◌, ◌++◌, length, get_or, refl, sym, ap, ◌∙◌}
use Rattle.std.specs.Prelude.{nat_lt, replicate}
use Rattle.std.specs.List.{list_all}
use Rattle.std.proofs.lemmas.List.{append-nil}
use Rattle.std.proofs.lemmas.Bool.{lt-ltb}
use Rattle.wire_model.specs.Xdr.{fixed, IsOfLength}
use Rattle.wire_model.specs.OneReading.{IsFront, HasNoFront}
use Rattle.log_model.specs.Spelling.{IsBlock}
use Rattle.log_model.proofs.Lists.{both}
use Rattle.block_parts.specs.Parts.{as_it_stands}

pub all_bytes : (xs : List ℕ) → ((i : ℕ) → get_or xs i 0 < 256) → list_all (λ b. nat_lt b 256) xs ≡ true
all_bytes [] h = refl
all_bytes (x ∷ xs) h = both (nat_lt x 256) (list_all (λ b. nat_lt b 256) xs) (lt-ltb x 256 (h 0)) (all_bytes xs (λ i. h (suc i)))

-- nothing fills up a multiple of four
pub fixed_block : (bytes : List ℕ) → length bytes % 4 ≡ 0 → fixed bytes ≡ bytes
fixed_block bytes h = ap (λ n. bytes ++ replicate ((4 - n) % 4) 0) h ∙ append-nil bytes

pub block_front : (count : ℕ) (bytes item rest : List ℕ) → count % 4 ≡ 0 → IsFront (IsOfLength count) fixed bytes item rest → IsBlock count item
    → IsFront (IsBlock count) as_it_stands bytes item rest
block_front count bytes item rest h f fits = record {
  fits = fits;
  spelled = f.spelled ∙ ap (λ (s : List ℕ). s ++ rest) (fixed_block item (ap (λ n. n % 4) f.fits ∙ h));
}

pub no_block : (count : ℕ) (bytes : List ℕ) → count % 4 ≡ 0 → HasNoFront (IsOfLength count) fixed bytes → HasNoFront (IsBlock count) as_it_stands bytes
no_block count bytes h absent = record {
  none = λ x rest f. absent.none x rest (record {
    fits = f.fits.size;
    spelled = f.spelled ∙ ap (λ (s : List ℕ). s ++ rest) (sym (fixed_block x (ap (λ n. n % 4) f.fits.size ∙ h)));
  });
}

pub block : (count : ℕ) (bytes : List ℕ) → length bytes ≡ count → ((i : ℕ) → get_or bytes i 0 < 256) → IsBlock count bytes
block count bytes size below = record { size = size; each = all_bytes bytes below }

pub is_block : (count : ℕ) (item array : List ℕ) → length item ≡ count → array ≡ item → ((i : ℕ) → get_or item i 0 < 256) → IsBlock count array
is_block count item array size same below = rw same (block count item size below)

pub counted : (count : ℕ) (array item : List ℕ) → length array ≡ count → item ≡ array → IsBlock (length item) item → IsBlock count array
counted count array item size same fits = record { size = size; each = rw same at fits.each }
