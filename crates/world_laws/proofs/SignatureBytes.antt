-- Signatures, and the first blocks of a log, are bytes, and few enough to stand in an array.
use Rattle.std.proofs.Common.{◌≡◌, ℕ, zero, suc, ◌+◌, ◌*◌, ◌<◌, ◌≤◌, ◌^◌, true, List, [], ◌∷◌, ◌++◌, length, length-append, refl, ◌∙◌, arith}
use Rattle.std.specs.Prelude.{◌-◌, ◌%◌, replicate, take}
use Rattle.std.specs.List.{list_all}
use Rattle.std.proofs.lemmas.List.Folds.{list_all-append}
use Rattle.ivy_base.proofs.NameLemmas.{bytes-digest, length-digest}
use Rattle.ivy_base.specs.declared.format.Format.TheVariants.{One}
use Rattle.ivy_base.specs.declared.key.Key.{Key}
use Rattle.ivy_base.specs.declared.key.PubKey.{PubKey}
use Rattle.ivy_base.specs.declared.operation.Moment.{Moment}
use Rattle.tree_model.proofs.Sound.{both_true}
use Rattle.ivy_base.specs.Naming.{head_key_of}
use Rattle.wire_model.specs.Xdr.{moment, opaque, padding}
use Rattle.log_model.proofs.Lists.{both}
use Rattle.log_model.specs.Chain.{opening}
use Rattle.log_model.specs.Spelling.{IsBlock, IsKey, head_message, no_name, record_block, record_tag, head_tag}
use Rattle.log_model.specs.Vector.{Stamp}
use Rattle.hash_signature_model.specs.declared.keys.PrivateKey.{PrivateKey}
use Rattle.hash_signature_model.specs.declared.set.Height.{Height}
use Rattle.hash_signature_model.specs.declared.set.Height.TheVariants.{H5, H10}
use Rattle.hash_signature_model.specs.declared.set.Set.{Set}
use Rattle.hash_signature_model.specs.declared.set.Width.{Width}
use Rattle.hash_signature_model.specs.declared.set.Width.TheVariants.{W4, W8}
use Rattle.hash_signature_model.specs.Nodes.{above, sibling_of, node}
use Rattle.hash_signature_model.specs.OneTime.{chain, coefficient, derived, joined_values, randomizer_of, signed_value, u32_string}
use Rattle.hash_signature_model.specs.Parameters.{chains, leaves, levels, lms_type, ots_type}
use Rattle.hash_signature_model.specs.Signatures.{code_of, path_of}
use Rattle.hash_signature_model.specs.Saved.{AreOctets, IsSigner}
use Rattle.hash_signature_model.specs.Signer.{Signer, hss_signature_of, leaf_signature, leaf_used, lower_key, next_signature, signed_by, signed_lower, tree_public}
use Rattle.agent_model.specs.Agent.{own_key}
use Rattle.agent_model.specs.SavedBytes.{AreOpaque}
use Rattle.world_model.specs.Agents.{hss_signing, hss_sealed}
use Rattle.world_laws.proofs.PublicKeys.{digest_octets, is_byte, node_octets, owner_is_key, tree_octets, word_octets}

-- bytes, so many at most
record IsShort (most : ℕ) (bytes : List ℕ) : Type 0 where
  few : length bytes ≤ most
  each : list_all is_byte bytes ≡ true

of_octets : (n : ℕ) (xs : List ℕ) → AreOctets n xs → IsShort n xs
of_octets n xs h = record { few = omega (arith, h.size); each = h.each }

no_bytes : IsShort 0 []
no_bytes = record { few = omega arith; each = refl }

after : (m n : ℕ) (a b : List ℕ) → IsShort m a → IsShort n b → IsShort (m + n) (a ++ b)
after m n a b f g = record { few = omega (arith, length-append a b, f.few, g.few); each = list_all-append is_byte a b ∙ both _ _ f.each g.each }

within : (m n : ℕ) (xs : List ℕ) → m ≤ n → IsShort m xs → IsShort n xs
within m n xs le h = record { few = omega (arith, le, h.few); each = h.each }

a_word : (n : ℕ) → IsShort 4 (u32_string n)
a_word n = of_octets 4 (u32_string n) (word_octets n)

-- ---- the first of some bytes

take_size : (n : ℕ) (xs : List ℕ) → n ≤ length xs → length (take n xs) ≡ n
take_size zero xs h = refl
take_size (suc n) [] h = absurd (omega (arith, h))
take_size (suc n) (x ∷ xs) h = omega (arith, take_size n xs (omega (arith, h)))

take_each : (n : ℕ) (xs : List ℕ) → list_all is_byte xs ≡ true → list_all is_byte (take n xs) ≡ true
take_each zero xs h = refl
take_each (suc n) [] h = refl
take_each (suc n) (x ∷ xs) h = let p = both_true (is_byte x) (list_all is_byte xs) h in both (is_byte x) (list_all is_byte (take n xs)) p.0 (take_each n xs p.1)

first_octets : (n m : ℕ) (xs : List ℕ) → n ≤ m → AreOctets m xs → AreOctets n (take n xs)
first_octets n m xs le h = record { size = take_size n xs (omega (arith, le, h.size)); each = take_each n xs h.each }

-- ---- a leaf's signature

derived_octets : (id seed : List ℕ) (leaf i : ℕ) → AreOctets 32 (derived id seed leaf i)
derived_octets id seed leaf i = digest_octets _

chain_octets : (id : List ℕ) (leaf i from steps : ℕ) (value : List ℕ) → AreOctets 32 value → AreOctets 32 (chain id leaf i from steps value)
unfolding chain
chain_octets id leaf i from zero value h = h
chain_octets id leaf i from (suc steps) value h = digest_octets _

joined_short : (values : ℕ → List ℕ) → ((i : ℕ) → AreOctets 32 (values i)) → (n : ℕ) → IsShort (32 * n) (joined_values values n)
unfolding joined_values
joined_short values h zero = no_bytes
joined_short values h (suc n) = within (32 * n + 32) (32 * suc n) (joined_values values n ++ values n) (omega arith) (after (32 * n) 32 (joined_values values n) (values n) (joined_short values h n) (of_octets 32 (values n) (h n)))

few_chains : (w : Width) → chains w ≤ 67
few_chains W4 = omega arith
few_chains W8 = omega arith

few_levels : (h : Height) → levels h ≤ 10
few_levels H5 = omega arith
few_levels H10 = omega arith

leaf_short : (key : PrivateKey) (leaf : ℕ) (message : List ℕ) → IsShort 2508 (leaf_signature key leaf message)
leaf_short key leaf message =
    after 4 2504 (u32_string leaf) (u32_string (ots_type key.set.w) ++ (((random ++ values) ++ u32_string (lms_type key.set.h)) ++ path_of key leaf)) (a_word leaf)
    (after 4 2500 (u32_string (ots_type key.set.w)) (((random ++ values) ++ u32_string (lms_type key.set.h)) ++ path_of key leaf) (a_word (ots_type key.set.w))
    (after 2180 320 ((random ++ values) ++ u32_string (lms_type key.set.h)) (path_of key leaf)
    (after 2176 4 (random ++ values) (u32_string (lms_type key.set.h)) (after 32 2144 random values (of_octets 32 random (derived_octets key.id key.seed leaf 0xfffd)) some_values) (a_word (lms_type key.set.h)))
    some_path))
  where
    random : List ℕ
    random = randomizer_of key.id key.seed leaf

    value : ℕ → List ℕ
    value = signed_value key.set.w key.id key.seed leaf (code_of key leaf message)

    values : List ℕ
    values = joined_values value (chains key.set.w)

    some_values : IsShort 2144 values
    some_values = within (32 * chains key.set.w) 2144 values (omega (arith, few_chains key.set.w))
        (joined_short value (λ i. chain_octets key.id leaf i 0 (coefficient key.set.w (code_of key leaf message) i) (derived key.id key.seed leaf i) (derived_octets key.id key.seed leaf i)) (chains key.set.w))

    some_path : IsShort 320 (path_of key leaf)
    some_path = within (32 * levels key.set.h) 320 (path_of key leaf) (omega (arith, few_levels key.set.h))
        (joined_short (λ n. node key.set key.id key.seed n (sibling_of (above (leaves key.set.h + leaf) n))) (λ n. node_octets key.set key.id key.seed n (sibling_of (above (leaves key.set.h + leaf) n))) (levels key.set.h))

-- ---- a signature

signed_short : (key : PrivateKey) (lower : List Set) (n : ℕ) (message : List ℕ) → IsShort (2564 * (length lower + 1)) (signed_by key lower n message)
unfolding signed_by
signed_short key [] n message = within 2508 (2564 * 1) _ (omega arith) (leaf_short key (leaf_used key.set [] n) message)
signed_short key (set ∷ lower) n message =
    within (2564 + 2564 * (length lower + 1)) (2564 * (length (set ∷ lower) + 1)) _ (omega arith)
    (after 2564 (2564 * (length lower + 1)) (signed_lower key leaf set) (signed_by below lower n message)
    (after 2508 56 (leaf_signature key leaf (tree_public below)) (tree_public below) (leaf_short key leaf (tree_public below))
    (of_octets 56 (tree_public below) (tree_octets set below.id below.seed (first_octets 16 32 (derived key.id key.seed leaf 0xffff) (omega arith) (derived_octets key.id key.seed leaf 0xffff)))))
    (signed_short below lower n message))
  where
    leaf : ℕ
    leaf = leaf_used key.set (set ∷ lower) n

    below : PrivateKey
    below = lower_key key leaf set

signature_short : (id seed : List ℕ) (sets : List Set) (made : ℕ) (message : List ℕ) → length sets ≤ 3 → IsShort 8000 (hss_signature_of id seed sets made message)
signature_short id seed [] made message few = record { few = omega arith; each = refl }
signature_short id seed (set ∷ lower) made message few =
    within (4 + 2564 * (length lower + 1)) 8000 _ (omega (arith, few))
    (after 4 (2564 * (length lower + 1)) (u32_string (length lower)) (signed_by (record { set = set; id = id; seed = seed }) lower made message) (a_word (length lower)) (signed_short (record { set = set; id = id; seed = seed }) lower made message))

-- ---- heads and opening records

zeros_short : (n : ℕ) → IsShort n (replicate n 0)
zeros_short zero = no_bytes
zeros_short (suc n) = within (1 + n) (suc n) (0 ∷ replicate n 0) (omega arith) (after 1 n (0 ∷ []) (replicate n 0) (record { few = omega arith; each = refl }) (zeros_short n))

padding_short : (n : ℕ) → IsShort 3 (padding n)
padding_short n = within ((4 - n % 4) % 4) 3 (padding n) (omega arith) (zeros_short ((4 - n % 4) % 4))

opaque_short : (most : ℕ) (bytes : List ℕ) → IsShort most bytes → IsShort (4 + (most + 3)) (opaque bytes)
opaque_short most bytes h = after 4 (most + 3) (u32_string (length bytes)) (bytes ++ padding (length bytes)) (a_word (length bytes)) (after most 3 bytes (padding (length bytes)) h (padding_short (length bytes)))

key_short : (k : Key) → IsKey k → IsShort 20 k.0
key_short k h = record { few = omega (arith, h.size); each = h.each }

to_opaque : (most : ℕ) (bytes : List ℕ) → most < 2 ^ 32 → IsShort most bytes → AreOpaque bytes
to_opaque most bytes fits h = (omega (arith, fits, h.few), h.each)

pub sealed_opaque : (s : Signer) → IsSigner s → (t : Stamp) → IsKey t.name → AreOpaque (hss_sealed s t)
sealed_opaque s whole t named =
    to_opaque 8095 (hss_sealed s t) (omega arith)
    (after 88 8007 (((head_tag ++ owner) ++ u32_string t.seq) ++ t.name.0) (opaque signature)
    (after 68 20 ((head_tag ++ owner) ++ u32_string t.seq) t.name.0
    (after 64 4 (head_tag ++ owner) (u32_string t.seq) (after 4 60 head_tag owner (record { few = omega arith; each = refl }) (record { few = omega (arith, key.size); each = key.each })) (a_word t.seq))
    (key_short t.name named))
    (opaque_short 8000 signature (signature_short s.id s.seed s.sets s.made _ whole.sets.few)))
  where
    owner : List ℕ
    owner = (own_key hss_signing s).0

    key : IsBlock 60 owner
    key = owner_is_key s whole

    signature : List ℕ
    signature = next_signature s (head_message (own_key hss_signing s) t)

pub opening_opaque : (own : PubKey) (now : Moment) → AreOpaque (record_block (opening own now))
opening_opaque own now =
    to_opaque 64 (record_block (opening own now)) (omega arith)
    (after 64 0 (kept ++ u32_string 0) [] (after 60 4 kept (u32_string 0) (after 52 8 numbered (moment now) (after 48 4 named (u32_string 1) (after 28 20 tagged no_name.0 (after 8 20 (record_tag One ++ u32_string 9) head_key (record { few = omega arith; each = refl }) key)
    (record { few = omega arith; each = refl })) (a_word 1)) (after 4 4 (u32_string now.sec) (u32_string now.nsec) (a_word now.sec) (a_word now.nsec))) (a_word 0)) no_bytes)
  where
    head_key : List ℕ
    head_key = (head_key_of own).0

    key : IsShort 20 head_key
    key = record { few = omega (arith, length-digest own.0); each = bytes-digest own.0 }

    tagged : List ℕ
    tagged = (record_tag One ++ u32_string 9) ++ head_key

    named : List ℕ
    named = tagged ++ no_name.0

    numbered : List ℕ
    numbered = named ++ u32_string 1

    kept : List ℕ
    kept = numbered ++ moment now
