-- Four side by side.
use Rattle.std.proofs.Common.{◌≡◌, ℕ, ◌+◌, ◌<◌, ◌≤◌, List, [], ◌∷◌, ◌++◌, length, set, refl, sym, ap, ◌∙◌, subst, append_assoc, arith, inl, inr}
use Rattle.std.proofs.lemmas.Bool.{cases_lt}
use Rattle.std.proofs.lemmas.List.{get_or-set_same, get_or-set_other, length-set, append-nil, drop_at, take_at}
use borrow.Rule.Slice.PartMut.{put_mid}
use Rattle.hash_signature_model.specs.declared.keys.PrivateKey.{PrivateKey}
use Rattle.hash_signature_model.specs.Parameters.{leaves}
use Rattle.hash_signature_model.specs.OneTime.{one_time_key}
use Rattle.hash_signature_model.specs.Nodes.{leaf_node}
use Rattle.lms_core.specs.Kept.{at, leaf_of}

-- an identifier and a number in twenty bytes
pub head_bytes : (id number : List ℕ) → length id ≡ 16 → length number ≡ 4 → put_mid 16 4 (id ++ 0 ∷ 0 ∷ 0 ∷ 0 ∷ []) number ≡ id ++ number
head_bytes id number long four =
    let zeros : List ℕ = 0 ∷ 0 ∷ 0 ∷ 0 ∷ [] in
    rw (take_at id zeros 16 (omega arith), drop_at id zeros 16 long) (ap (λ (rest : List ℕ). id ++ rest) (append-nil number))

-- the first n of these are the function's
abbrev pub Fills : (ℕ → List ℕ) → List (List ℕ) → ℕ → Type 0
Fills f out n = (k : ℕ) → k < n → at out k ≡ f k

-- one more is written
pub one_more : (f : ℕ → List ℕ) (n : ℕ) (out : List (List ℕ)) (value : List ℕ) → n < length out → value ≡ f n → Fills f out n → Fills f (set out n value) (n + 1)
one_more f n out value room is known k lt = elim (cases_lt k n) [
  | inl low ↦ get_or-set_other out n k value [] (λ e. omega arith) ∙ known k low
  | inr high ↦
      let e : n ≡ k = omega arith in
      subst (λ (i : ℕ). at (set out n value) i ≡ f i) e (get_or-set_same out n value [] room ∙ is)
]

-- four more
pub four_more : (f : ℕ → List ℕ) (n : ℕ) (out : List (List ℕ)) (a b c d : List ℕ) → n + 4 ≤ length out
    → a ≡ f n → b ≡ f (n + 1) → c ≡ f (n + 2) → d ≡ f (n + 3)
    → Fills f out n → Fills f (set (set (set (set out n a) (n + 1) b) (n + 2) c) (n + 3) d) (n + 4)
four_more f n out a b c d room ea eb ec ed known =
    let up : (i j k : ℕ) → i + j ≡ k → n + i + j ≡ n + k = λ i j k e. omega arith in
    let out1 = set out n a in
    let out2 = set out1 (n + 1) b in
    let out3 = set out2 (n + 2) c in
    let l1 : length out1 ≡ length out = length-set out n a in
    let l2 : length out2 ≡ length out = length-set out1 (n + 1) b ∙ l1 in
    let l3 : length out3 ≡ length out = length-set out2 (n + 2) c ∙ l2 in
    let k1 = one_more f n out a (omega arith) ea known in
    let k2 = one_more f (n + 1) out1 b (omega arith) eb k1 in
    let k3 = one_more f (n + 2) out2 c (omega arith) ec (rw (up 1 1 2 refl) at k2) in
    let k4 = one_more f (n + 3) out3 d (omega arith) ed (rw (up 2 1 3 refl) at k3) in
    rw (up 3 1 4 refl) at k4

pub length_four : (out : List (List ℕ)) (n : ℕ) (a b c d : List ℕ) → length (set (set (set (set out n a) (n + 1) b) (n + 2) c) (n + 3) d) ≡ length out
length_four out n a b c d =
    let out1 = set out n a in
    let out2 = set out1 (n + 1) b in
    let out3 = set out2 (n + 2) c in
    length-set out3 (n + 3) d ∙ (length-set out2 (n + 2) c ∙ (length-set out1 (n + 1) b ∙ length-set out n a))

-- five pieces, put together by two
pub five_pieces : (id number chain value : List ℕ) (step : ℕ) → id ++ number ++ (chain ++ step ∷ []) ++ value ≡ id ++ number ++ chain ++ step ∷ [] ++ value
five_pieces id number chain value step = ap (λ (xs : List ℕ). xs ++ value) (sym (append_assoc (id ++ number) chain (step ∷ [])))

-- a leaf's node, from its key
pub leaf_from : (key : PrivateKey) (leaf r : ℕ) (node one_time : List ℕ) → node ≡ leaf_node key.id r one_time → r ≡ leaves key.set.h + leaf → one_time ≡ one_time_key key.set.w key.id key.seed leaf → node ≡ leaf_of key leaf
leaf_from key leaf r node one_time is place same = is ∙ rw (place, same) refl
