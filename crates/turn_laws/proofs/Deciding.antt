-- Of any bytes it is known whether an item stands in front of them.
use Rattle.std.proofs.Common.{◌≡◌, ◌≢◌, ◌⊎◌, inl, inr, ℕ, zero, suc, ◌<◌, ◌≤◌, ◌^◌, true, false, List, [], ◌∷◌, ◌++◌, length, get_or, take, drop, refl, sym, ap, ◌∙◌, subst, arith, append_assoc, length-append}
use Rattle.std.specs.Prelude.{⊤, Option, Some, None, IfSome}
use Rattle.std.specs.List.{flat_map, AllByRecursion}
use Rattle.std.specs.Int.{w32, w64, from_be_bytes}
use Rattle.std.specs.Str.{bytes_eq}
use Rattle.std.proofs.lemmas.Bool.{cases_lt}
use Rattle.std.proofs.lemmas.List.{append-nil, length-take, take-append-drop, take_at, drop_at}
use Rattle.std.proofs.lemmas.Nat.{be_bytes_4, be_bytes_8}
use Rattle.std.proofs.lemmas.Slice.Eq.{bytes_eq-Decides}
use Rattle.wire_model.specs.Xdr.{word, double_word, padding, opaque, optional, array, moment, IsWordMoment}
use Rattle.wire_model.specs.OneReading.{ReadsOne}
use Rattle.wire_model.proofs.OneReading.{one_word, one_double_word, one_moment, one_raw, one_short_opaque, one_optional, one_array, of_fewer, always, ◌▷◌}

-- a front of the bytes is the spelling of a value that fits
pub record IsRead {A : Type 0} (Fits : A → Type 0) (spell : A → List ℕ) (bytes : List ℕ) : Type 0 where
  pub value : A
  pub rest : List ℕ
  pub fits : Fits value
  pub spelled : bytes ≡ spell value ++ rest

-- of any bytes it is known whether one is
abbrev pub Reads : {A : Type 0} → (A → Type 0) → (A → List ℕ) → Type 0
Reads Fits spell = (bytes : List ℕ) → IsRead Fits spell bytes ⊎ (IsRead Fits spell bytes → ⊥)

-- one item after the other
pub reads_then : {A B : Type 0} {F : A → Type 0} {G : B → Type 0} {first : A → List ℕ} {second : B → List ℕ}
    → ReadsOne F first × Reads F first → Reads G second → Reads {A = A × B} (λ p. F p.0 × G p.1) (λ p. first p.0 ++ second p.1)
reads_then {first} {second} a b bytes = elim (a.1 bytes) [
  | inr none ↦ inr (λ z. none (record { value = z.value.0; rest = second z.value.1 ++ z.rest; fits = z.fits.0; spelled = z.spelled ∙ append_assoc (first z.value.0) (second z.value.1) z.rest }))
  | inl x ↦ elim (b x.rest) [
    | inl y ↦ inl (record {
      value = (x.value, y.value);
      rest = y.rest;
      fits = (x.fits, y.fits);
      spelled = x.spelled ∙ ap (λ (r : List ℕ). first x.value ++ r) y.spelled ∙ sym (append_assoc (first x.value) (second y.value) y.rest);
    })
    | inr none ↦ inr (λ z. none (record {
      value = z.value.1;
      rest = z.rest;
      fits = z.fits.1;
      spelled = (a.0.one x.value z.value.0 x.rest (second z.value.1 ++ z.rest) x.fits z.fits.0
          (sym x.spelled ∙ z.spelled ∙ append_assoc (first z.value.0) (second z.value.1) z.rest)).1;
    }))
  ]
]

-- ---- a number of four bytes

abbrev IsWordRead : List ℕ → Type 0
IsWordRead = IsRead (λ n. n < 2 ^ 32) word

each : (a b c d : ℕ) → a < 256 → b < 256 → c < 256 → d < 256 → (i : ℕ) → get_or (a ∷ b ∷ c ∷ d ∷ []) i 0 < 256
each a b c d f g h k zero = f
each a b c d f g h k (suc zero) = g
each a b c d f g h k (suc (suc zero)) = h
each a b c d f g h k (suc (suc (suc zero))) = k
each a b c d f g h k (suc (suc (suc (suc i)))) = omega arith

-- a word has four bytes below 256
word_byte : (n : ℕ) (rest : List ℕ) (i : ℕ) → i < 4 → get_or (word n ++ rest) i 0 < 256
word_byte n rest zero h = omega arith
word_byte n rest (suc zero) h = omega arith
word_byte n rest (suc (suc zero)) h = omega arith
word_byte n rest (suc (suc (suc zero))) h = omega arith
word_byte n rest (suc (suc (suc (suc i)))) h = absurd (omega (arith, h))

too_great : (bytes : List ℕ) (i : ℕ) → i < 4 → 256 ≤ get_or bytes i 0 → IsWordRead bytes → ⊥
too_great bytes i h great z =
    let small = word_byte z.value z.rest i h in
    let same : get_or bytes i 0 ≡ get_or (word z.value ++ z.rest) i 0 = ap (λ (bs : List ℕ). get_or bs i 0) z.spelled in
    absurd (omega (arith, great, small, same))

too_few : (bytes : List ℕ) → length bytes < 4 → IsWordRead bytes → ⊥
too_few bytes few z =
    let same : length bytes ≡ length (word z.value ++ z.rest) = ap length z.spelled in
    absurd (omega (arith, few, same, length-append (word z.value) z.rest))

four : (a b c d : ℕ) (rest : List ℕ) → (a < 256) ⊎ (256 ≤ a) → (b < 256) ⊎ (256 ≤ b) → (c < 256) ⊎ (256 ≤ c) → (d < 256) ⊎ (256 ≤ d)
    → IsWordRead (a ∷ b ∷ c ∷ d ∷ rest) ⊎ (IsWordRead (a ∷ b ∷ c ∷ d ∷ rest) → ⊥)
four a b c d rest (inl f) (inl g) (inl h) (inl k) =
    let below : from_be_bytes w32 (a ∷ b ∷ c ∷ d ∷ []) < 2 ^ 32 = omega arith in
    inl (record {
      value = from_be_bytes w32 (a ∷ b ∷ c ∷ d ∷ []);
      rest = rest;
      fits = below;
      spelled = ap (λ (bs : List ℕ). bs ++ rest) (sym (be_bytes_4 (a ∷ b ∷ c ∷ d ∷ []) (from_be_bytes w32 (a ∷ b ∷ c ∷ d ∷ [])) refl (each a b c d f g h k) refl));
    })
four a b c d rest (inr f) _ _ _ = inr (too_great (a ∷ b ∷ c ∷ d ∷ rest) 0 (omega arith) f)
four a b c d rest (inl f) (inr g) _ _ = inr (too_great (a ∷ b ∷ c ∷ d ∷ rest) 1 (omega arith) g)
four a b c d rest (inl f) (inl g) (inr h) _ = inr (too_great (a ∷ b ∷ c ∷ d ∷ rest) 2 (omega arith) h)
four a b c d rest (inl f) (inl g) (inl h) (inr k) = inr (too_great (a ∷ b ∷ c ∷ d ∷ rest) 3 (omega arith) k)

pub words : Reads (λ n. n < 2 ^ 32) word
words [] = inr (too_few [] (omega arith))
words (a ∷ []) = inr (too_few (a ∷ []) (omega arith))
words (a ∷ b ∷ []) = inr (too_few (a ∷ b ∷ []) (omega arith))
words (a ∷ b ∷ c ∷ []) = inr (too_few (a ∷ b ∷ c ∷ []) (omega arith))
words (a ∷ b ∷ c ∷ d ∷ rest) = four a b c d rest (cases_lt a 256) (cases_lt b 256) (cases_lt c 256) (cases_lt d 256)

-- ---- a front of given bytes

pub same_or_not : (xs ys : List ℕ) → (xs ≡ ys) ⊎ (xs ≢ ys)
same_or_not xs ys = elim (bytes_eq xs ys) as (λ b. bytes_eq xs ys ≡ b → (xs ≡ ys) ⊎ (xs ≢ ys)) [
  | true ↦ λ e. inl ((bytes_eq-Decides xs ys).0 e)
  | false ↦ λ e. inr (λ same. absurd (cc (sym e ∙ (bytes_eq-Decides xs ys).1 same)))
] refl

pub fronts : (front : List ℕ) → Reads (λ (x : Unit {0}). ⊤) (λ x. front)
fronts front bytes = elim (same_or_not (take (length front) bytes) front) [
  | inl same ↦ inl (record {
    value = tt;
    rest = drop (length front) bytes;
    fits = tt;
    spelled = sym (take-append-drop (length front) bytes) ∙ ap (λ (f : List ℕ). f ++ drop (length front) bytes) same;
  })
  | inr other ↦ inr (λ z. other (ap (take (length front)) z.spelled ∙ take_at front z.rest (length front) refl))
]

-- ---- opaque data of a bounded length

module _ (most : ℕ) (small : most < 2 ^ 32) where
  abbrev IsDataRead : List ℕ → Type 0
  IsDataRead = IsRead (λ (b : List ℕ). length b ≤ most) opaque

  -- after a count
  data_behind : (n : ℕ) (rest : List ℕ) → n < 2 ^ 32 → n ≤ most → (length rest < n) ⊎ (n ≤ length rest) → IsDataRead (word n ++ rest) ⊎ (IsDataRead (word n ++ rest) → ⊥)
  data_behind n rest fits few (inl short) = inr (λ z.
      let p = one_word.one n (length z.value) rest ((z.value ++ padding (length z.value)) ++ z.rest) fits (omega (arith, z.fits, small)) (z.spelled ∙ append_assoc (word (length z.value)) (z.value ++ padding (length z.value)) z.rest) in
      let size : length rest ≡ length (z.value ++ (padding (length z.value) ++ z.rest)) = ap length (p.1 ∙ append_assoc z.value (padding (length z.value)) z.rest) in
      absurd (omega (arith, short, p.0, size, length-append z.value (padding (length z.value) ++ z.rest))))
  data_behind n rest fits few (inr enough) = elim (fronts (padding n) (drop n rest)) [
    | inl zeros ↦
        let front : List ℕ = take n rest in
        let size : length front ≡ n = omega (arith, enough, length-take n rest) in
        inl (record {
          value = front;
          rest = zeros.rest;
          fits = omega (arith, size, few);
          spelled = ap (λ (r : List ℕ). word n ++ r) (sym (take-append-drop n rest) ∙ ap (λ (r : List ℕ). front ++ r) zeros.spelled)
              ∙ ap (λ (m : ℕ). word m ++ (front ++ (padding m ++ zeros.rest))) (sym size)
              ∙ ap (λ (r : List ℕ). word (length front) ++ r) (sym (append_assoc front (padding (length front)) zeros.rest))
              ∙ sym (append_assoc (word (length front)) (front ++ padding (length front)) zeros.rest);
        })
    | inr others ↦ inr (λ z.
        let p = one_word.one n (length z.value) rest ((z.value ++ padding (length z.value)) ++ z.rest) fits (omega (arith, z.fits, small)) (z.spelled ∙ append_assoc (word (length z.value)) (z.value ++ padding (length z.value)) z.rest) in
        let split : rest ≡ z.value ++ (padding (length z.value) ++ z.rest) = p.1 ∙ append_assoc z.value (padding (length z.value)) z.rest in
        others (record {
          value = tt;
          rest = z.rest;
          fits = tt;
          spelled = ap (drop n) split ∙ drop_at z.value (padding (length z.value) ++ z.rest) n (sym p.0) ∙ ap (λ (m : ℕ). padding m ++ z.rest) (sym p.0);
        }))
  ]

  of_count : (bytes : List ℕ) (x : IsWordRead bytes) → (most < x.value) ⊎ (x.value ≤ most) → IsDataRead bytes ⊎ (IsDataRead bytes → ⊥)
  of_count bytes x (inl many) = inr (λ z.
      let p = one_word.one x.value (length z.value) x.rest ((z.value ++ padding (length z.value)) ++ z.rest) x.fits (omega (arith, z.fits, small))
      (sym x.spelled ∙ z.spelled ∙ append_assoc (word (length z.value)) (z.value ++ padding (length z.value)) z.rest) in
      absurd (omega (arith, many, p.0, z.fits)))
  of_count bytes x (inr few) =
      subst (λ (bs : List ℕ). IsDataRead bs ⊎ (IsDataRead bs → ⊥)) (sym x.spelled) (data_behind x.value x.rest x.fits few (cases_lt (length x.rest) x.value))

  pub datas : Reads (λ (b : List ℕ). length b ≤ most) opaque
  datas bytes = elim (words bytes) [
    | inl x ↦ of_count bytes x (cases_lt most x.value)
    | inr none ↦ inr (λ z. none (record {
      value = length z.value;
      rest = (z.value ++ padding (length z.value)) ++ z.rest;
      fits = omega (arith, z.fits, small);
      spelled = z.spelled ∙ append_assoc (word (length z.value)) (z.value ++ padding (length z.value)) z.rest;
    }))
  ]

-- ---- readable items

-- a spelling that can be read in one way, of which it is known whether it stands in front of some bytes
abbrev pub IsReadable : {A : Type 0} → (A → Type 0) → (A → List ℕ) → Type 0
IsReadable Fits spell = ReadsOne Fits spell × Reads Fits spell

infixl 60 ◌then◌
pub ◌then◌ : {A B : Type 0} {F : A → Type 0} {G : B → Type 0} {first : A → List ℕ} {second : B → List ℕ}
    → IsReadable F first → IsReadable G second → IsReadable {A = A × B} (λ p. F p.0 × G p.1) (λ p. first p.0 ++ second p.1)
a then b = (a.0 ▷ b.0, reads_then a b.1)

pub a_word : IsReadable (λ n. n < 2 ^ 32) word
a_word = (one_word, words)

pub a_front : (front : List ℕ) → IsReadable (λ (x : Unit {0}). ⊤) (λ x. front)
a_front front = (always front, fronts front)

pub a_data : (most : ℕ) → most < 2 ^ 32 → IsReadable (λ (b : List ℕ). length b ≤ most) opaque
a_data most small = (one_short_opaque most small, datas most small)

-- so many bytes, whatever they are
raws : (n : ℕ) → Reads (λ (b : List ℕ). length b ≡ n) (λ b. b)
raws n bytes = elim (cases_lt (length bytes) n) [
  | inl short ↦ inr (λ z. (let size : length bytes ≡ length (z.value ++ z.rest) = ap length z.spelled in absurd (omega (arith, short, z.fits, size, length-append z.value z.rest))))
  | inr enough ↦ inl (record { value = take n bytes; rest = drop n bytes; fits = omega (arith, enough, length-take n bytes); spelled = sym (take-append-drop n bytes) })
]

pub a_raw : (n : ℕ) → IsReadable (λ (b : List ℕ). length b ≡ n) (λ b. b)
a_raw n = (one_raw n, raws n)

-- ---- fewer values, and values of other parts

-- of those that can be read, those that fit closer
pub reads_fewer : {A : Type 0} {Fits Fewer : A → Type 0} {spell : A → List ℕ} → IsReadable Fits spell → ((x : A) → Fewer x → Fits x) → ((x : A) → Fits x → Fewer x ⊎ (Fewer x → ⊥)) → Reads Fewer spell
reads_fewer {A} {Fits} {Fewer} {spell} more weaker known bytes = elim (more.1 bytes) [
  | inr none ↦ inr (λ z. none (record { value = z.value; rest = z.rest; fits = weaker z.value z.fits; spelled = z.spelled }))
  | inl x ↦ elim (known x.value x.fits) [
    | inl fits ↦ inl (record { value = x.value; rest = x.rest; fits = fits; spelled = x.spelled })
    | inr misfit ↦ inr (λ z.
        let same : z.value ≡ x.value = (more.0.one z.value x.value z.rest x.rest (weaker z.value z.fits) x.fits (sym z.spelled ∙ x.spelled)).0 in
        misfit (subst Fewer same z.fits))
  ]
]

-- the parts of a value that fits, where it has some
pub record HasParts {A : Type 0} (Fits : A → Type 0) (spell : A → List ℕ) (written : List ℕ) : Type 0 where
  pub part : A
  pub fits : Fits part
  pub spelled : written ≡ spell part

-- a value of another type has its parts' spelling, and each has parts
pub reads_parts : {A B : Type 0} {Fits : A → Type 0} {spell : A → List ℕ} {Whole : B → Type 0} {written : B → List ℕ} (make : A → B)
    → ((x : A) → Fits x → Whole (make x) × (written (make x) ≡ spell x)) → ((y : B) → Whole y → HasParts Fits spell (written y)) → Reads Fits spell → Reads Whole written
reads_parts make made parts reads bytes = elim (reads bytes) [
  | inl x ↦ (let m = made x.value x.fits in inl (record { value = make x.value; rest = x.rest; fits = m.0; spelled = x.spelled ∙ ap (λ (b : List ℕ). b ++ x.rest) (sym m.1) }))
  | inr none ↦ inr (λ z. (let p = parts z.value z.fits in none (record { value = p.part; rest = z.rest; fits = p.fits; spelled = z.spelled ∙ ap (λ (b : List ℕ). b ++ z.rest) p.spelled })))
]

-- a value of one kind or of another
pub reads_either : {A B C : Type 0} {F : A → Type 0} {G : B → Type 0} {first : A → List ℕ} {second : B → List ℕ} {Whole : C → Type 0} {written : C → List ℕ} (left : A → C) (right : B → C)
    → ((x : A) → F x → Whole (left x) × (written (left x) ≡ first x)) → ((y : B) → G y → Whole (right y) × (written (right y) ≡ second y))
    → ((z : C) → Whole z → HasParts F first (written z) ⊎ HasParts G second (written z)) → Reads F first → Reads G second → Reads Whole written
reads_either left right made_left made_right parts one other bytes = elim (one bytes) [
  | inl x ↦ (let m = made_left x.value x.fits in inl (record { value = left x.value; rest = x.rest; fits = m.0; spelled = x.spelled ∙ ap (λ (b : List ℕ). b ++ x.rest) (sym m.1) }))
  | inr none ↦ elim (other bytes) [
    | inl y ↦ (let m = made_right y.value y.fits in inl (record { value = right y.value; rest = y.rest; fits = m.0; spelled = y.spelled ∙ ap (λ (b : List ℕ). b ++ y.rest) (sym m.1) }))
    | inr neither ↦ inr (λ z. elim (parts z.value z.fits) [
      | inl p ↦ none (record { value = p.part; rest = z.rest; fits = p.fits; spelled = z.spelled ∙ ap (λ (b : List ℕ). b ++ z.rest) p.spelled })
      | inr p ↦ neither (record { value = p.part; rest = z.rest; fits = p.fits; spelled = z.spelled ∙ ap (λ (b : List ℕ). b ++ z.rest) p.spelled })
    ])
  ]
]

-- the same, where the second one's bounds depend on the first
pub reads_then_by : {A B : Type 0} {F : A → Type 0} (G : A → B → Type 0) {first : A → List ℕ} {second : B → List ℕ}
    → IsReadable F first → ((x : A) → Reads (G x) second) → Reads {A = A × B} (λ p. F p.0 × G p.0 p.1) (λ p. first p.0 ++ second p.1)
reads_then_by G {first} {second} a b bytes = elim (a.1 bytes) [
  | inr none ↦ inr (λ z. none (record { value = z.value.0; rest = second z.value.1 ++ z.rest; fits = z.fits.0; spelled = z.spelled ∙ append_assoc (first z.value.0) (second z.value.1) z.rest }))
  | inl x ↦ elim (b x.value x.rest) [
    | inl y ↦ inl (record {
      value = (x.value, y.value);
      rest = y.rest;
      fits = (x.fits, y.fits);
      spelled = x.spelled ∙ ap (λ (r : List ℕ). first x.value ++ r) y.spelled ∙ sym (append_assoc (first x.value) (second y.value) y.rest);
    })
    | inr none ↦ inr (λ z.
        let p = a.0.one x.value z.value.0 x.rest (second z.value.1 ++ z.rest) x.fits z.fits.0 (sym x.spelled ∙ z.spelled ∙ append_assoc (first z.value.0) (second z.value.1) z.rest) in
        none (record { value = z.value.1; rest = z.rest; fits = subst (λ x. G x z.value.1) (sym p.0) z.fits.1; spelled = p.1 }))
  ]
]

-- ---- arrays

module _ {A : Type 0} {Fits : A → Type 0} {item : A → List ℕ} (reads : IsReadable Fits item) where
  abbrev AreSo : ℕ → List A → Type 0
  AreSo n xs = (length xs ≡ n) × AllByRecursion Fits xs

  cons_parts : (n : ℕ) (xs : List A) → AreSo (suc n) xs → HasParts {A = A × List A} (λ p. Fits p.0 × AreSo n p.1) (λ p. item p.0 ++ flat_map item p.1) (flat_map item xs)
  cons_parts n [] f = absurd (omega (arith, f.0))
  cons_parts n (x ∷ xs) f = record { part = (x, xs); fits = (f.1.0, (omega (arith, f.0), f.1.1)); spelled = refl }

  items : (n : ℕ) → Reads (AreSo n) (λ xs. flat_map item xs)
  items zero bytes = inl (record { value = []; rest = bytes; fits = (refl, tt); spelled = refl })
  items (suc n) bytes = reads_parts (λ (p : A × List A). p.0 ∷ p.1) (λ p f. ((omega (arith, f.1.0), (f.0, f.1.1)), refl)) (cons_parts n) (reads_then reads (items n)) bytes

  pub arrays : (most : ℕ) → most < 2 ^ 32 → Reads (λ (xs : List A). (length xs ≤ most) × AllByRecursion Fits xs) (array item)
  arrays most small = reads_parts (λ (p : ℕ × List A). p.1) (λ p f. ((omega (arith, f.0, f.1.0), f.1.1), ap (λ (n : ℕ). word n ++ flat_map item p.1) f.1.0))
      (λ xs f. record { part = (length xs, xs); fits = (f.0, (refl, f.1)); spelled = refl })
      (reads_then_by (λ n xs. AreSo n xs) (of_fewer (λ (n : ℕ) f. omega (arith, f, small)) one_word, reads_fewer a_word (λ (n : ℕ) f. omega (arith, f, small)) (λ n f. at_most n most)) items)
    where
      at_most : (n m : ℕ) → (n ≤ m) ⊎ (n ≤ m → ⊥)
      at_most n m = elim (cases_lt m n) [
        | inl more ↦ inr (λ le. absurd (omega (arith, more, le)))
        | inr least ↦ inl least
      ]

  pub an_array : (most : ℕ) → most < 2 ^ 32 → IsReadable (λ (xs : List A). (length xs ≤ most) × AllByRecursion Fits xs) (array item)
  an_array most small = (of_fewer (λ (xs : List A) f. (omega (arith, f.0, small), f.1)) (one_array reads.0), arrays most small)

  -- an item, or none
  optional_parts : (x : Option A) → IfSome x Fits → HasParts (λ (u : Unit {0}). ⊤) (λ u. word 0) (optional item x) ⊎ HasParts {A = Unit {0} × A} (λ p. ⊤ × Fits p.1) (λ p. word 1 ++ item p.1) (optional item x)
  optional_parts None f = inl (record { part = tt; fits = tt; spelled = refl })
  optional_parts (Some x) f = inr (record { part = (tt, x); fits = (tt, f); spelled = refl })

  pub an_optional : IsReadable (λ (x : Option A). IfSome x Fits) (optional item)
  an_optional = (
    one_optional reads.0,
    reads_either {written = optional item} (λ (u : Unit {0}). None) (λ (p : Unit {0} × A). Some p.1) (λ u f. (tt, refl)) (λ p f. (f.1, refl)) optional_parts (fronts (word 0)) (reads_then (a_front (word 1)) reads.1),
  )

-- ---- numbers of eight bytes

word_bytes : (n m : ℕ) (i : ℕ) → get_or (word n ++ word m) i 0 < 256
word_bytes n m zero = omega arith
word_bytes n m (suc zero) = omega arith
word_bytes n m (suc (suc zero)) = omega arith
word_bytes n m (suc (suc (suc zero))) = omega arith
word_bytes n m (suc (suc (suc (suc zero)))) = omega arith
word_bytes n m (suc (suc (suc (suc (suc zero))))) = omega arith
word_bytes n m (suc (suc (suc (suc (suc (suc zero)))))) = omega arith
word_bytes n m (suc (suc (suc (suc (suc (suc (suc zero))))))) = omega arith
word_bytes n m (suc (suc (suc (suc (suc (suc (suc (suc i)))))))) = omega arith

first_bytes : (n : ℕ) (i : ℕ) → get_or (take 4 (double_word n)) i 0 < 256
first_bytes n zero = omega arith
first_bytes n (suc zero) = omega arith
first_bytes n (suc (suc zero)) = omega arith
first_bytes n (suc (suc (suc zero))) = omega arith
first_bytes n (suc (suc (suc (suc i)))) = omega arith

last_bytes : (n : ℕ) (i : ℕ) → get_or (drop 4 (double_word n)) i 0 < 256
last_bytes n zero = omega arith
last_bytes n (suc zero) = omega arith
last_bytes n (suc (suc zero)) = omega arith
last_bytes n (suc (suc (suc zero))) = omega arith
last_bytes n (suc (suc (suc (suc i)))) = omega arith

double_parts : (n : ℕ) → n < 2 ^ 64 → HasParts {A = ℕ × ℕ} (λ p. (p.0 < 2 ^ 32) × (p.1 < 2 ^ 32)) (λ p. word p.0 ++ word p.1) (double_word n)
double_parts n f =
    let high : ℕ = from_be_bytes w32 (take 4 (double_word n)) in
    let low : ℕ = from_be_bytes w32 (drop 4 (double_word n)) in
    record {
      part = (high, low);
      fits = (omega arith, omega arith);
      spelled = sym (take-append-drop 4 (double_word n)) ∙ ap (λ (b : List ℕ). b ++ drop 4 (double_word n)) (sym (be_bytes_4 (take 4 (double_word n)) high refl (first_bytes n) refl))
          ∙ ap (λ (b : List ℕ). word high ++ b) (sym (be_bytes_4 (drop 4 (double_word n)) low refl (last_bytes n) refl));
    }

pub a_double_word : IsReadable (λ n. n < 2 ^ 64) double_word
a_double_word = (
  one_double_word,
  reads_parts (λ (p : ℕ × ℕ). from_be_bytes w64 (word p.0 ++ word p.1))
      (λ p f. (omega (arith, f.0, f.1), be_bytes_8 (word p.0 ++ word p.1) (from_be_bytes w64 (word p.0 ++ word p.1)) refl (word_bytes p.0 p.1) refl)) double_parts (reads_then a_word words),
)

pub a_moment : IsReadable IsWordMoment moment
a_moment = (
  one_moment,
  reads_parts {written = moment} (λ (p : ℕ × ℕ). record { sec = p.0; nsec = p.1 }) (λ p f. (f, refl)) (λ m f. record { part = (m.sec, m.nsec); fits = f; spelled = refl }) (reads_then a_word words),
)

-- ---- bytes that are all read

-- the bytes are the spelling of a value that fits, or of none
abbrev pub IsSpelling : {A : Type 0} → (A → Type 0) → (A → List ℕ) → List ℕ → Type 0
IsSpelling {A} Fits spell bytes = (x : A) × Fits x × (bytes ≡ spell x)

nothing_left : {A : Type 0} {Fits : A → Type 0} {spell : A → List ℕ} → ReadsOne Fits spell → (bytes rest : List ℕ) (x : A) → Fits x → bytes ≡ spell x ++ rest → IsSpelling Fits spell bytes ⊎ (IsSpelling Fits spell bytes → ⊥)
nothing_left one bytes [] x fits e = inl (x, fits, e ∙ append-nil _)
nothing_left {A} {Fits} {spell} one bytes (b ∷ rest) x fits e = inr (λ z. cc ((one.one z.0 x [] (b ∷ rest) z.1 fits (append-nil (spell z.0) ∙ sym z.2 ∙ e)).1))

pub whole_or_not : {A : Type 0} {Fits : A → Type 0} {spell : A → List ℕ} → IsReadable Fits spell → (bytes : List ℕ) → IsSpelling Fits spell bytes ⊎ (IsSpelling Fits spell bytes → ⊥)
whole_or_not {A} {Fits} {spell} reads bytes = elim (reads.1 bytes) [
  | inl x ↦ nothing_left reads.0 bytes x.rest x.value x.fits x.spelled
  | inr none ↦ inr (λ z. none (record { value = z.0; rest = []; fits = z.1; spelled = z.2 ∙ sym (append-nil (spell z.0)) }))
]
