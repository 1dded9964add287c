-- The key of a log that a line begins can be saved.
use Rattle.std.proofs.Common.{◌≡◌, ℕ, suc, ◌-◌, ◌*◌, ◌≤◌, Bool, true, false, cond, ◌&&◌, List, [], ◌∷◌, ◌++◌, length, length-append, Option, Some, None, refl, sym, ap, arith, nat_lt, nat_le}
use Rattle.std.specs.Prelude.{◌==◌, Result, Ok, Err, replicate}
use Rattle.std.specs.List.{list_all}
use Rattle.std.proofs.lemmas.Bool.{leb-true, lt-ltb}
use Rattle.std.proofs.lemmas.List.{length-replicate}
use Rattle.std.proofs.lemmas.List.Splits.{length-slice_split}
use Rattle.hex.specs.Hex.{IsBytes, decode_of}
use Rattle.hex.proofs.HexLemmas.{decode_of-ok}
use Rattle.tree_model.proofs.Sound.{both_true}
use Rattle.log_model.proofs.Lists.{both}
use Rattle.hash_signature_model.specs.declared.set.Set.{Set}
use Rattle.hash_signature_model.specs.Saved.{AreLevels, AreOctets, IsSigner}
use Rattle.script_model.specs.Words.{◌>>=◌, each_of, hex_bytes, is_lower_hex, ok_value, parts_at, set_of, sets_of}
use Rattle.world_model.specs.Logs.{fresh_signer}

-- ---- bytes of digits

pub all_bytes : (bytes : List ℕ) → IsBytes bytes → list_all (λ b. nat_lt b 256) bytes ≡ true
all_bytes [] small = refl
all_bytes (b ∷ bytes) small = both (nat_lt b 256) (list_all (λ c. nat_lt c 256) bytes) (lt-ltb b 256 (small 0)) (all_bytes bytes (λ i. small (suc i)))

pub is_value : {A E : Type 0} (came : Result A E) (x : A) → ok_value came ≡ Some x → came ≡ Ok x
is_value (Ok y) x e = let same : y ≡ x = cc e in ap (λ z. Ok z) same
is_value (Err f) x e = cc e

pub hex_octets : (count : ℕ) (word bytes : List ℕ) → hex_bytes count word ≡ Some bytes → AreOctets count bytes
hex_octets count word bytes is = by (nat_le 1 (length word) && nat_le (length word) (2 * count) && list_all is_lower_hex word) refl is
  where
    padded : List ℕ
    padded = replicate (2 * count - length word) 48 ++ word

    by : (t : Bool) → (nat_le 1 (length word) && nat_le (length word) (2 * count) && list_all is_lower_hex word) ≡ t → cond t (ok_value (decode_of padded)) None ≡ Some bytes → AreOctets count bytes
    by true fits e =
        let sizes = both_true (nat_le 1 (length word)) (nat_le (length word) (2 * count)) (both_true (nat_le 1 (length word) && nat_le (length word) (2 * count)) (list_all is_lower_hex word) fits).0 in
        let few : length word ≤ 2 * count = leb-true (length word) (2 * count) sizes.1 in
        let read = decode_of-ok padded bytes (is_value (decode_of padded) bytes e) in
        record {
          size = omega (arith, few, read.2, length-append (replicate (2 * count - length word) 48) word, length-replicate {A = ℕ} (2 * count - length word) 48);
          each = all_bytes bytes read.3;
        }
    by false fits e = cc e

-- ---- levels

each_counts : {A : Type 0} (value : List ℕ → Option A) (words : List (List ℕ)) (xs : List A) → each_of value words ≡ Some xs → length xs ≡ length words
each_counts value [] xs e = let none : [] ≡ xs = cc e in ap length (sym none)
each_counts {A = A} value (word ∷ words) xs e = by (value word) (each_of value words) (each_counts value words) e
  where
    by : (o : Option A) (p : Option (List A)) → ((ys : List A) → p ≡ Some ys → length ys ≡ length words) → (o >>= λ y. p >>= λ ys. Some (y ∷ ys)) ≡ Some xs → length xs ≡ length (word ∷ words)
    by None p count h = cc h
    by (Some y) None count h = cc h
    by (Some y) (Some ys) count h = let is : (y ∷ ys) ≡ xs = cc h in omega (arith, ap length is, count ys refl)

pub sets_levels : (word : List ℕ) (sets : List Set) → sets_of word ≡ Some sets → AreLevels sets
sets_levels word sets is = by (nat_le (length (parts_at 44 word)) 3) refl is
  where
    by : (t : Bool) → nat_le (length (parts_at 44 word)) 3 ≡ t → cond t (each_of set_of (parts_at 44 word)) None ≡ Some sets → AreLevels sets
    by true fits e =
        let count = each_counts set_of (parts_at 44 word) sets e in
        let most : length (parts_at 44 word) ≤ 3 = leb-true (length (parts_at 44 word)) 3 fits in
        let some = length-slice_split (λ b. b == 44) word in
        record { some = omega (arith, count, some); few = omega (arith, count, most) }
    by false fits e = cc e

-- ---- the key

pub key_is_signer : (i s w id seed : List ℕ) (sets : List Set) → hex_bytes 16 i ≡ Some id → hex_bytes 32 s ≡ Some seed → sets_of w ≡ Some sets → IsSigner (fresh_signer id seed sets)
key_is_signer i s w id seed sets one two three = record { id = hex_octets 16 i id one; seed = hex_octets 32 s seed two; sets = sets_levels w sets three; made = omega arith }
