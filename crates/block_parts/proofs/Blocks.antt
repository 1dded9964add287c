-- Blocks of one size, one after the other.
use Rattle.std.proofs.Common.{◌≡◌, ℕ, zero, suc, ◌+◌, ◌*◌, ◌/◌, ◌%◌, ◌<◌, ◌≤◌, true, nat_lt, Bool, List, [], ◌∷◌, ◌++◌, length, map, take, drop, refl, sym, ap, ◌∙◌, subst, arith, length-append, length-drop}
use Rattle.std.specs.List.{AllByRecursion, list_all, flat_map}
use Rattle.std.specs.Simd.{first_chunks}
use Rattle.std.proofs.lemmas.List.{take-append-drop, length-take-le}
use Rattle.std.proofs.lemmas.List.Folds.{list_all-append}
use Rattle.std.proofs.lemmas.Nat.{mul-mod_second}
use Rattle.std.proofs.Math.Nat.{mul-div_cancel}
use Rattle.wire_model.specs.Xdr.{fixed, IsOfLength, AreSoMany}
use Rattle.wire_model.specs.OneReading.{IsFront, HasNoFront}
use Rattle.tree_model.proofs.Sound.{both_true}
use Rattle.log_model.specs.Spelling.{IsBlock}
use Rattle.block_parts.specs.Parts.{as_it_stands}
use Rattle.block_parts.proofs.Bytes.{fixed_block}

abbrev is_byte : ℕ → Bool
is_byte b = nat_lt b 256

parts_are_bytes : (xs ys : List ℕ) → list_all is_byte (xs ++ ys) ≡ true → (list_all is_byte xs ≡ true) × (list_all is_byte ys ≡ true)
parts_are_bytes xs ys h = both_true (list_all is_byte xs) (list_all is_byte ys) (sym (list_all-append is_byte xs ys) ∙ h)

-- the pieces of so many bytes are blocks, whose bytes these are
record ArePieces (size n : ℕ) (bytes : List ℕ) (blocks : List (List ℕ)) : Type 0 where
  count : length blocks ≡ n
  each : AllByRecursion (IsBlock size) blocks
  joined : flat_map as_it_stands blocks ≡ bytes

one_more : (n size : ℕ) → suc n * size ≡ size + n * size
one_more n size = omega arith

pieces : (size n : ℕ) (bytes : List ℕ) → length bytes ≡ n * size → list_all is_byte bytes ≡ true → ArePieces size n bytes (first_chunks size n bytes)
pieces size zero [] h b = record { count = refl; each = tt; joined = refl }
pieces size zero (x ∷ xs) h b = absurd (omega (arith, h))
pieces size (suc n) bytes h b =
    let long : size ≤ length bytes = omega (arith, h, one_more n size) in
    let parts = parts_are_bytes (take size bytes) (drop size bytes) (ap (λ (xs : List ℕ). list_all is_byte xs) (take-append-drop size bytes) ∙ b) in
    let rest = pieces size n (drop size bytes) (omega (arith, length-drop size bytes, h, one_more n size)) parts.1 in
    record {
      count = ap suc rest.count;
      each = (record { size = length-take-le size bytes long; each = parts.0 }, rest.each);
      joined = ap (λ (xs : List ℕ). take size bytes ++ xs) rest.joined ∙ take-append-drop size bytes;
    }

whole_words : (count size : ℕ) → size % 4 ≡ 0 → (count * size) % 4 ≡ 0
whole_words count size words = sym (mul-mod_second count size 4) ∙ ap (λ n. (count * n) % 4) words ∙ omega arith

fixed_is : (count size : ℕ) (bytes : List ℕ) → size % 4 ≡ 0 → length bytes ≡ count * size → fixed bytes ≡ bytes
fixed_is count size bytes words h = fixed_block bytes (ap (λ n. n % 4) h ∙ whole_words count size words)

pub blocks_front : (count size : ℕ) {bytes item rest : List ℕ} → 0 < size → size % 4 ≡ 0 → IsFront (IsOfLength (count * size)) fixed bytes item rest → IsBlock (length item) item
    → IsFront (AreSoMany (IsBlock size) count) (flat_map as_it_stands) bytes (first_chunks size (length item / size) item) rest
blocks_front count size {bytes} {item} {rest} some words f are =
    let n : length item / size ≡ count = ap (λ n. n / size) f.fits ∙ mul-div_cancel count some in
    let p = pieces size count item f.fits are.each in
    subst (λ k. IsFront (AreSoMany (IsBlock size) count) (flat_map as_it_stands) bytes (first_chunks size k item) rest) (sym n) (record {
      fits = record { each = p.each; size = p.count };
      spelled = f.spelled ∙ ap (λ (s : List ℕ). s ++ rest) (fixed_is count size item words f.fits ∙ sym p.joined);
    })

length-blocks : (size : ℕ) (blocks : List (List ℕ)) → AllByRecursion (IsBlock size) blocks → length (flat_map as_it_stands blocks) ≡ length blocks * size
length-blocks size [] h = omega arith
length-blocks size (b ∷ bs) h = omega (arith, length-append b (flat_map as_it_stands bs), h.0.size, length-blocks size bs h.1, one_more (length bs) size)

-- without the bytes of so many blocks there are none
pub no_blocks : (count size : ℕ) {bytes : List ℕ} → size % 4 ≡ 0 → HasNoFront (IsOfLength (count * size)) fixed bytes → HasNoFront (AreSoMany (IsBlock size) count) (flat_map as_it_stands) bytes
no_blocks count size words absent = record {
  none = λ blocks rest g.
      let long : length (flat_map as_it_stands blocks) ≡ count * size = length-blocks size blocks g.fits.each ∙ ap (λ n. n * size) g.fits.size in
      absent.none (flat_map as_it_stands blocks) rest (record {
        fits = long;
        spelled = g.spelled ∙ ap (λ (s : List ℕ). s ++ rest) (sym (fixed_is count size (flat_map as_it_stands blocks) words long));
      });
}

-- ---- values that are such blocks

module _ {A : Type 0} (bytes_of : A → List ℕ) (make : List ℕ → A) (back : (bytes : List ℕ) → bytes_of (make bytes) ≡ bytes) (size : ℕ) where
  abbrev IsMade : A → Type 0
  IsMade x = IsBlock size (bytes_of x)

  each_made : (blocks : List (List ℕ)) → AllByRecursion (IsBlock size) blocks → AllByRecursion IsMade (map make blocks)
  each_made [] h = tt
  each_made (b ∷ bs) h = (subst (IsBlock size) (sym (back b)) h.0, each_made bs h.1)

  joined_made : (blocks : List (List ℕ)) → flat_map bytes_of (map make blocks) ≡ flat_map as_it_stands blocks
  joined_made [] = refl
  joined_made (b ∷ bs) = rw (back b, joined_made bs) refl

  count_made : (blocks : List (List ℕ)) → length (map make blocks) ≡ length blocks
  count_made [] = refl
  count_made (b ∷ bs) = ap suc (count_made bs)

  pub made_front : {count : ℕ} {bytes rest : List ℕ} {blocks : List (List ℕ)} → IsFront (AreSoMany (IsBlock size) count) (flat_map as_it_stands) bytes blocks rest
      → IsFront (AreSoMany IsMade count) (flat_map bytes_of) bytes (map make blocks) rest
  made_front {rest = rest} {blocks = blocks} f = record {
    fits = record { each = each_made blocks f.fits.each; size = count_made blocks ∙ f.fits.size };
    spelled = f.spelled ∙ ap (λ (s : List ℕ). s ++ rest) (sym (joined_made blocks));
  }

  each_block : (xs : List A) → AllByRecursion IsMade xs → AllByRecursion (IsBlock size) (map bytes_of xs)
  each_block [] h = tt
  each_block (x ∷ xs) h = (h.0, each_block xs h.1)

  joined_blocks : (xs : List A) → flat_map bytes_of xs ≡ flat_map as_it_stands (map bytes_of xs)
  joined_blocks [] = refl
  joined_blocks (x ∷ xs) = ap (λ (s : List ℕ). bytes_of x ++ s) (joined_blocks xs)

  count_blocks : (xs : List A) → length (map bytes_of xs) ≡ length xs
  count_blocks [] = refl
  count_blocks (x ∷ xs) = ap suc (count_blocks xs)

  pub none_made : {count : ℕ} {bytes : List ℕ} → HasNoFront (AreSoMany (IsBlock size) count) (flat_map as_it_stands) bytes → HasNoFront (AreSoMany IsMade count) (flat_map bytes_of) bytes
  none_made absent = record {
    none = λ xs rest f. absent.none (map bytes_of xs) rest (record {
      fits = record { each = each_block xs f.fits.each; size = count_blocks xs ∙ f.fits.size };
      spelled = f.spelled ∙ ap (λ (s : List ℕ). s ++ rest) (joined_blocks xs);
    });
  }
