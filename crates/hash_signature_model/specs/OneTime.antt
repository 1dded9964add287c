-- LM-OTS, the one-time signatures (RFC 8554, sections 3 and 4). `id` is the tree's identifier I, of 16 bytes, and `leaf` is q.
use Rattle.std.specs.Prelude.{ℕ, zero, suc, ◌+◌, ◌-◌, ◌*◌, ◌/◌, ◌%◌, List, [], ◌∷◌, ◌++◌, take, drop, slice_index, ◌==◌, if◌then◌else◌}
use Rattle.std.specs.Int.{w16, w32, to_be_bytes}
use Rattle.sha2.specs.Sha256.{sha256}
use Rattle.hash_signature_model.specs.declared.set.Width.{Width}
use Rattle.hash_signature_model.specs.declared.set.Width.TheVariants.{W4, W8}
use Rattle.hash_signature_model.specs.Parameters.{top, chains, digest_digits, checksum_factor}

-- u32str and u16str (3.1.1)
abbrev pub u32_string : ℕ → List ℕ
u32_string n = to_be_bytes w32 n

abbrev pub half : ℕ → List ℕ
half n = to_be_bytes w16 n

-- coef(S, i, w): the w-bit group number i of the bytes, first bits first (3.1.3)
unfoldable pub coefficient : Width → List ℕ → ℕ → ℕ
coefficient W8 bytes i = slice_index bytes i % 256
coefficient W4 bytes i = if i % 2 == 0 then slice_index bytes (i / 2) / 16 % 16 else slice_index bytes (i / 2) % 16

-- the first n of the values one after the other
unfoldable pub joined_values : (ℕ → List ℕ) → ℕ → List ℕ
joined_values values zero = []
joined_values values (suc n) = joined_values values n ++ values n

-- value number i of values of 32 bytes one after the other
abbrev pub value_at : List ℕ → ℕ → List ℕ
value_at values i = take 32 (drop (32 * i) values)

-- step number j of chain number i: H(I || u32str(q) || u16str(i) || u8str(j) || tmp) (4.3, 4.5 and 4.6)
abbrev pub chain_step : List ℕ → ℕ → ℕ → ℕ → List ℕ → List ℕ
chain_step id leaf i j value = sha256 (id ++ u32_string leaf ++ half i ++ j ∷ [] ++ value)

-- the value after some steps of chain number i, from step number `from` on (4.3, 4.5 and 4.6)
unfoldable pub chain : List ℕ → ℕ → ℕ → ℕ → ℕ → List ℕ → List ℕ
chain id leaf i from zero value = value
chain id leaf i from (suc steps) value = chain_step id leaf i (from + steps) (chain id leaf i from steps value)

-- the derivation of what is secret: H(I || u32str(q) || u16str(i) || u8str(0xff) || SEED) (appendix A)
abbrev pub derived : List ℕ → List ℕ → ℕ → ℕ → List ℕ
derived id seed leaf i = sha256 (id ++ u32_string leaf ++ half i ++ 255 ∷ [] ++ seed)

-- The value C of a signature by that leaf. RFC 8554 sets it to a uniformly random string; this derivation is this project's own.
abbrev pub randomizer_of : List ℕ → List ℕ → ℕ → List ℕ
randomizer_of id seed leaf = derived id seed leaf 0xfffd

-- The seed and the identifier of the tree below that leaf, this project's own too.
abbrev pub lower_seed_of : List ℕ → List ℕ → ℕ → List ℕ
lower_seed_of id seed leaf = derived id seed leaf 0xfffe

abbrev pub lower_id_of : List ℕ → List ℕ → ℕ → List ℕ
lower_id_of id seed leaf = take 16 (derived id seed leaf 0xffff)

-- K from the ends of all chains: H(I || u32str(q) || u16str(D_PBLC) || y[0] || .. || y[p-1]) (4.3)
abbrev pub key_of_ends : List ℕ → ℕ → List ℕ → List ℕ
key_of_ends id leaf ends = sha256 (id ++ u32_string leaf ++ 0x80 ∷ 0x80 ∷ [] ++ ends)

-- the end of chain number i, from its private value (4.2 and 4.3)
abbrev pub chain_end : Width → List ℕ → List ℕ → ℕ → ℕ → List ℕ
chain_end w id seed leaf i = chain id leaf i 0 (top w) (derived id seed leaf i)

-- the one-time public key of a leaf (4.3)
abbrev pub one_time_key : Width → List ℕ → List ℕ → ℕ → List ℕ
one_time_key w id seed leaf = key_of_ends id leaf (joined_values (chain_end w id seed leaf) (chains w))

-- Q: H(I || u32str(q) || u16str(D_MESG) || C || message) (4.5)
abbrev pub digest_of : List ℕ → ℕ → List ℕ → List ℕ → List ℕ
digest_of id leaf randomizer message = sha256 (id ++ u32_string leaf ++ 0x81 ∷ 0x81 ∷ [] ++ randomizer ++ message)

-- the sum of what the first n coefficients lack (4.4)
unfoldable pub lacking : Width → List ℕ → ℕ → ℕ
lacking w digest zero = 0
lacking w digest (suc n) = lacking w digest n + (top w - coefficient w digest n)

-- Q || Cksm(Q) (4.4 and 4.5)
abbrev pub checked : Width → List ℕ → List ℕ
checked w digest = digest ++ half (lacking w digest (digest_digits w) * checksum_factor w)

-- value number i of a signature: x[i] after so many steps as the coefficient says (4.5)
abbrev pub signed_value : Width → List ℕ → List ℕ → ℕ → List ℕ → ℕ → List ℕ
signed_value w id seed leaf code i = chain id leaf i 0 (coefficient w code i) (derived id seed leaf i)

-- the end of chain number i, from a signature's value (4.6)
abbrev pub end_from : Width → List ℕ → ℕ → List ℕ → List ℕ → ℕ → List ℕ
end_from w id leaf code values i = chain id leaf i (coefficient w code i) (top w - coefficient w code i) (value_at values i)

-- the candidate Kc for the one-time public key, from a signature (4.6)
abbrev pub candidate_key : Width → List ℕ → ℕ → List ℕ → List ℕ → List ℕ
candidate_key w id leaf code values = key_of_ends id leaf (joined_values (end_from w id leaf code values) (chains w))
