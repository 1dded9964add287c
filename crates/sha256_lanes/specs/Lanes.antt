-- Four messages side by side: each word is a vector, with one lane for each message.
use Rattle.std.specs.Prelude.{ℕ, ◌≡◌, ◌<◌, ◌^◌, List, [], ◌∷◌, All, length, map, slice_index, slice_index_or}
use Rattle.std.specs.Int.{w32, from_be_bytes}
use Rattle.sha2.specs.Sha256.{digest_bytes}

-- list j of some lists
abbrev pub bytes_at : List (List ℕ) → ℕ → List ℕ
bytes_at lists j = slice_index_or lists j []

-- lane j of vector k
abbrev pub word_in : List (List ℕ) → ℕ → ℕ → ℕ
word_in words k j = slice_index (slice_index_or words k []) j

-- lane j of some vectors
abbrev pub lane : ℕ → List (List ℕ) → List ℕ
lane j words = map (λ (v : List ℕ). slice_index v j) words

-- lane j of eight vectors, word by word
abbrev pub state : ℕ → List (List ℕ) → List ℕ
state j words =
    word_in words 0 j ∷ word_in words 1 j ∷ word_in words 2 j ∷ word_in words 3 j
    ∷ word_in words 4 j ∷ word_in words 5 j ∷ word_in words 6 j ∷ word_in words 7 j ∷ []

-- the bytes of lane j of five and of eight vectors, the high byte of each word first (FIPS 180-4, section 3.1)
abbrev pub bytes_5 : ℕ → List ℕ → List ℕ → List ℕ → List ℕ → List ℕ → List ℕ
bytes_5 j a b c d e = digest_bytes (slice_index a j ∷ slice_index b j ∷ slice_index c j ∷ slice_index d j ∷ slice_index e j ∷ []) 5

abbrev pub bytes_8 : ℕ → List ℕ → List ℕ → List ℕ → List ℕ → List ℕ → List ℕ → List ℕ → List ℕ → List ℕ
bytes_8 j a b c d e f g h = digest_bytes
    (slice_index a j ∷ slice_index b j ∷ slice_index c j ∷ slice_index d j ∷ slice_index e j ∷ slice_index f j ∷ slice_index g j
    ∷ slice_index h j ∷ []) 8

-- the bytes of all four lanes
abbrev pub spelled_5 : List ℕ → List ℕ → List ℕ → List ℕ → List ℕ → List (List ℕ)
spelled_5 a b c d e = bytes_5 0 a b c d e ∷ bytes_5 1 a b c d e ∷ bytes_5 2 a b c d e ∷ bytes_5 3 a b c d e ∷ []

abbrev pub spelled_8 : List ℕ → List ℕ → List ℕ → List ℕ → List ℕ → List ℕ → List ℕ → List ℕ → List (List ℕ)
spelled_8 a b c d e f g h = bytes_8 0 a b c d e f g h ∷ bytes_8 1 a b c d e f g h ∷ bytes_8 2 a b c d e f g h ∷ bytes_8 3 a b c d e f g h
    ∷ []

-- each lane of these five vectors is a word
abbrev pub AreWords : List ℕ → List ℕ → List ℕ → List ℕ → List ℕ → Type 0
AreWords a b c d e = (j : ℕ) → j < 4
    → (slice_index a j < 2 ^ 32) × (slice_index b j < 2 ^ 32) × (slice_index c j < 2 ^ 32) × (slice_index d j < 2 ^ 32)
    × (slice_index e j < 2 ^ 32)

-- these are three bytes, and the number is the word of a 0 and them
pub record AreThree (bytes : List ℕ) (number : ℕ) : Type 0 where
  pub three : length bytes ≡ 3
  pub fit : All (λ byte. byte < 256) bytes
  pub word : number ≡ from_be_bytes w32 (0 ∷ bytes)
