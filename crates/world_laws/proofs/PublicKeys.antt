-- A signer's public key has 60 bytes.
use Rattle.std.proofs.Common.{◌≡◌, ℕ, zero, suc, ◌+◌, ◌/◌, ◌%◌, ◌<◌, Bool, true, List, [], ◌∷◌, ◌++◌, length, length-append, refl, ◌∙◌, arith}
use Rattle.std.specs.Prelude.{nat_lt, slice_index}
use Rattle.std.specs.List.{list_all}
use Rattle.std.specs.Int.{to_be_bytes, w32}
use Rattle.std.proofs.lemmas.Bool.{lt-ltb}
use Rattle.std.proofs.lemmas.List.Folds.{list_all-append}
use Rattle.sha2.specs.Sha256.{digest_bytes, sha256}
use Rattle.sha2.proofs.Facts256.{length-sha256}
use Rattle.log_model.proofs.Lists.{both}
use Rattle.log_model.specs.Spelling.{IsBlock}
use Rattle.hash_signature_model.specs.declared.set.Set.{Set}
use Rattle.hash_signature_model.specs.OneTime.{u32_string}
use Rattle.hash_signature_model.specs.Nodes.{node}
use Rattle.hash_signature_model.specs.Parameters.{levels, lms_type, ots_type}
use Rattle.hash_signature_model.specs.Saved.{AreOctets, IsSigner}
use Rattle.hash_signature_model.specs.Signer.{Signer, hss_key_of, public_key_of, tree_public}

abbrev pub is_byte : ℕ → Bool
is_byte b = nat_lt b 256

last_byte : (n : ℕ) → is_byte (n % 256) ≡ true
last_byte n = lt-ltb (n % 256) 256 (omega arith)

pub word_bytes : (n : ℕ) → list_all is_byte (u32_string n) ≡ true
word_bytes n = both _ _ (last_byte (n / 16777216)) (both _ _ (last_byte (n / 65536)) (both _ _ (last_byte (n / 256)) (both _ _ (last_byte n) refl)))

-- ---- digests

words_of_digest : (h : List ℕ) (n : ℕ) → list_all is_byte (digest_bytes h n) ≡ true
unfolding digest_bytes
words_of_digest h zero = refl
words_of_digest h (suc n) = list_all-append is_byte (digest_bytes h n) (to_be_bytes w32 (slice_index h n)) ∙ both _ _ (words_of_digest h n) (word_bytes (slice_index h n))

digest_each : (m : List ℕ) → list_all is_byte (sha256 m) ≡ true
unfolding sha256
digest_each m = words_of_digest _ 8

pub digest_octets : (m : List ℕ) → AreOctets 32 (sha256 m)
digest_octets m = record { size = length-sha256 m; each = digest_each m }

pub node_octets : (set : Set) (id seed : List ℕ) (n r : ℕ) → AreOctets 32 (node set id seed n r)
unfolding node
node_octets set id seed zero r = digest_octets _
node_octets set id seed (suc n) r = digest_octets _

-- ---- keys

pub one_after : (m n : ℕ) (a b : List ℕ) → AreOctets m a → AreOctets n b → AreOctets (m + n) (a ++ b)
one_after m n a b f g = record { size = omega (arith, length-append a b, f.size, g.size); each = list_all-append is_byte a b ∙ both _ _ f.each g.each }

pub word_octets : (n : ℕ) → AreOctets 4 (u32_string n)
word_octets n = record { size = refl; each = word_bytes n }

pub tree_octets : (set : Set) (id seed : List ℕ) → AreOctets 16 id → AreOctets 56 (tree_public (record { set = set; id = id; seed = seed }))
tree_octets set id seed h =
    one_after 4 52 (u32_string (lms_type set.h)) (u32_string (ots_type set.w) ++ (id ++ node set id seed (levels set.h) 1)) (word_octets (lms_type set.h))
    (one_after 4 48 (u32_string (ots_type set.w)) (id ++ node set id seed (levels set.h) 1) (word_octets (ots_type set.w))
    (one_after 16 32 id (node set id seed (levels set.h) 1) h (node_octets set id seed (levels set.h) 1)))

key_octets : (id seed : List ℕ) (sets : List Set) → 0 < length sets → AreOctets 16 id → AreOctets 60 (hss_key_of id seed sets)
key_octets id seed [] some h = absurd (omega (arith, some))
key_octets id seed (set ∷ lower) some h = one_after 4 56 (u32_string (length lower + 1)) (tree_public (record { set = set; id = id; seed = seed })) (word_octets (length lower + 1)) (tree_octets set id seed h)

pub owner_is_key : (s : Signer) → IsSigner s → IsBlock 60 (public_key_of s)
owner_is_key s h = let k = key_octets s.id s.seed s.sets h.sets.some h.id in record { size = k.size; each = k.each }
