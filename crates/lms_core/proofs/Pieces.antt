-- Bytes that are put together piece by piece.
use Rattle.std.proofs.Common.{◌≡◌, ℕ, ◌+◌, ◌*◌, List, [], ◌∷◌, ◌++◌, length, take, refl, sym, subst, ap, ◌∙◌, arith, append_assoc}
use Rattle.std.specs.Prelude.{slice_set}
use Rattle.std.proofs.lemmas.List.{length-append, append-nil, set-append_right, take_all}
use Rattle.hash_signature_model.specs.declared.set.Set.{Set}
use Rattle.hash_signature_model.specs.Parameters.{ots_type, lms_type, chains, levels}
use Rattle.hash_signature_model.specs.OneTime.{u32_string, joined_values}
use Rattle.hash_signature_model.specs.Signatures.{Signature, IsSignature, signature}
use Rattle.hash_signature_model.proofs.Chains.{joined_none, joined_more}

-- two bytes after a digest
pub code_bytes : (digest : List ℕ) (high low : ℕ) → length digest ≡ 32 → slice_set (slice_set (digest ++ 0 ∷ 0 ∷ []) 32 high) 33 low ≡ digest ++ high ∷ low ∷ []
code_bytes digest high low wide =
    rw (set-append_right digest (0 ∷ 0 ∷ []) 32 32 high wide (omega arith), set-append_right digest (high ∷ 0 ∷ []) 32 33 low wide (omega arith)) refl

-- what holds of the bytes before the values, and of the bytes with one value more
pub before_values : (P : List ℕ → Type 0) (front : List ℕ) (f : ℕ → List ℕ) → P front → P (front ++ joined_values f 0)
before_values P front f h = subst P (sym (ap (λ (xs : List ℕ). front ++ xs) (joined_none f) ∙ append-nil front)) h

pub one_value_more : (P : List ℕ → Type 0) (front : List ℕ) (f : ℕ → List ℕ) (n : ℕ) (value : List ℕ) → value ≡ f n → P (front ++ joined_values f n ++ value) → P (front ++ joined_values f (n + 1))
one_value_more P front f n value same h =
    subst P (append_assoc front (joined_values f n) value ∙ ap (λ (xs : List ℕ). front ++ xs) (ap (λ (v : List ℕ). joined_values f n ++ v) same ∙ sym (joined_more f n))) h

-- bytes after which one value more is put
pub pushed : (front out new value : List ℕ) (f : ℕ → List ℕ) (n : ℕ) → new ≡ out ++ value → value ≡ f n → out ≡ front ++ joined_values f n → new ≡ front ++ joined_values f (n + 1)
pushed front out new value f n more same was =
    more ∙ (ap (λ (xs : List ℕ). xs ++ value) was ∙ one_value_more (λ xs. front ++ joined_values f n ++ value ≡ xs) front f n value same refl)

pub nothing_pushed : (front : List ℕ) (f : ℕ → List ℕ) → front ≡ front ++ joined_values f 0
nothing_pushed front f = before_values (λ xs. front ≡ xs) front f refl

-- four parts that are put one after the other fill all of the bytes
pub four_puts : (o0 o1 o2 o3 o4 a b c d : List ℕ) → length a ≡ 4 → length b ≡ 4 → length c ≡ 16 → length d ≡ 32 → length o4 ≡ 56
    → take (0 + length a) o1 ≡ take 0 o0 ++ a → take (4 + length b) o2 ≡ take 4 o1 ++ b → take (8 + length c) o3 ≡ take 8 o2 ++ c → take (24 + length d) o4 ≡ take 24 o3 ++ d → o4 ≡ a ++ b ++ c ++ d
four_puts o0 o1 o2 o3 o4 a b c d la lb lc ld lo p1 p2 p3 p4 =
    let q1 : take 4 o1 ≡ a = rw la at p1 in
    let q2 : take 8 o2 ≡ take 4 o1 ++ b = rw lb at p2 in
    let q3 : take 24 o3 ≡ take 8 o2 ++ c = rw lc at p3 in
    let q4 : take 56 o4 ≡ take 24 o3 ++ d = rw ld at p4 in
    sym (take_all 56 o4 (omega arith)) ∙ (q4 ∙ rw (q3, q2, q1) refl)

-- six parts that are appended one after the other
pub six_appends : (o0 o1 o2 o3 o4 o5 o6 a b c d e f : List ℕ) → o0 ≡ [] → o1 ≡ o0 ++ a → o2 ≡ o1 ++ b → o3 ≡ o2 ++ c → o4 ≡ o3 ++ d → o5 ≡ o4 ++ e → o6 ≡ o5 ++ f → o6 ≡ a ++ b ++ c ++ d ++ e ++ f
six_appends o0 o1 o2 o3 o4 o5 o6 a b c d e f e0 e1 e2 e3 e4 e5 e6 =
    let q1 : o1 ≡ a = rw e0 at e1 in
    e6 ∙ rw (e5, e4, e3, e2, q1) refl

-- the parts of a signature
pub six_parts_are : (a a' b b' c c' d d' e e' f f' : List ℕ) → a ≡ a' → b ≡ b' → c ≡ c' → d ≡ d' → e ≡ e' → f ≡ f' → a ++ b ++ c ++ d ++ e ++ f ≡ a' ++ b' ++ c' ++ d' ++ e' ++ f'
six_parts_are a a' b b' c c' d d' e e' f f' ea eb ec ed ee ef = rw (ea, eb, ec, ed, ee, ef) refl

pub four_parts_are : (a a' b b' c c' d d' : List ℕ) → a ≡ a' → b ≡ b' → c ≡ c' → d ≡ d' → a ++ b ++ c ++ d ≡ a' ++ b' ++ c' ++ d'
four_parts_are a a' b b' c c' d d' ea eb ec ed = rw (ea, eb, ec, ed) refl

-- how many bytes a signature has
pub length_signature : (set : Set) (s : Signature) → IsSignature set s → length (signature set s) ≡ 12 + 32 * (1 + chains set.w + levels set.h)
length_signature set s fits =
    let a = u32_string s.leaf in
    let b = u32_string (ots_type set.w) in
    let e = u32_string (lms_type set.h) in
    let la : length a ≡ 4 = refl in
    let lb : length b ≡ 4 = refl in
    let le : length e ≡ 4 = refl in
    let lc = fits.randomizer_length in
    let ld = fits.values_length in
    let lf = fits.path_length in
    let r1 = a ++ b in
    let r2 = r1 ++ s.randomizer in
    let r3 = r2 ++ s.values in
    let r4 = r3 ++ e in
    omega (arith, length-append a b, length-append r1 s.randomizer, length-append r2 s.values, length-append r3 e, length-append r4 s.path)
