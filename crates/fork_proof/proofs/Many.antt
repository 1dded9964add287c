-- So many items are read one by one, and an array after its count, by readers that keep in mind that a part was missed.
use Rattle.std.proofs.Common.{◌≡◌, ℕ, zero, suc, ◌+◌, ◌<◌, ◌^◌, List, [], ◌∷◌, ◌++◌, length, Option, Some, None, refl, ap, ◌∙◌, arith, append_assoc, length-append}
use Rattle.std.specs.List.{AllByRecursion, flat_map}
use Rattle.std.proofs.lemmas.Grind.{flat_map-append}
use Rattle.std.proofs.lemmas.List.{append-nil}
use Rattle.wire_model.specs.Xdr.{word, array, IsWord, AreSoMany}
use Rattle.wire_model.specs.OneReading.{ReadsOne, IsFront, HasNoFront}
use Rattle.wire_model.specs.Parts.{Told, Reads}
use Rattle.wire_model.proofs.Arrays.{AreFew, more_items, no_next, no_counted, counted}
use Rattle.block_parts.specs.Parts.{IsAtMost}

-- where a part was missed before, nothing is left after the next one
stays : {B : Type 0} (Fits : B → Type 0) (spell : B → List ℕ) (b c : Option (List ℕ)) (y : B) → b ≡ None → Told Fits spell b y c → c ≡ None
stays Fits spell None c y e g = g
stays Fits spell (Some b) c y e g = absurd (cc e)

-- the items but for the last
record Fronts {A : Type 0} (Fits : A → Type 0) (n : ℕ) (xs : List A) : Type 0 where
  before : List A
  last : A
  are : xs ≡ before ++ last ∷ []
  each : AllByRecursion Fits before
  size : length before ≡ n

fronts : {A : Type 0} (Fits : A → Type 0) (n : ℕ) (xs : List A) → AllByRecursion Fits xs → length xs ≡ n + 1 → Fronts Fits n xs
fronts Fits n [] f e = absurd (omega (arith, e))
fronts Fits n (x ∷ []) f e = record { before = []; last = x; are = refl; each = tt; size = omega (arith, e) }
fronts Fits zero (x ∷ y ∷ ys) f e = absurd (omega (arith, e))
fronts Fits (suc n) (x ∷ y ∷ ys) f e =
    let p = fronts Fits n (y ∷ ys) f.1 (omega (arith, e)) in
    record { before = x ∷ p.before; last = p.last; are = ap (λ l. x ∷ l) p.are; each = (f.0, p.each); size = omega (arith, p.size) }

module _ {A : Type 0} {Fits : A → Type 0} {item : A → List ℕ} (reads : ReadsOne Fits item) where
  split : (before : List A) (last : A) (rest : List ℕ) → flat_map item (before ++ last ∷ []) ++ rest ≡ flat_map item before ++ (item last ++ rest)
  split before last rest =
      ap (λ (s : List ℕ). s ++ rest) (flat_map-append item before (last ∷ []) ∙ ap (λ (s : List ℕ). flat_map item before ++ s) (append-nil (item last)))
      ∙ append_assoc (flat_map item before) (item last) rest

  -- where so many aren't there, one more isn't either
  no_more : {n : ℕ} {bytes : List ℕ} → HasNoFront (AreSoMany Fits n) (flat_map item) bytes → HasNoFront (AreSoMany Fits (n + 1)) (flat_map item) bytes
  no_more {n} absent = record {
    none = λ xs rest g.
        let p = fronts Fits n xs g.fits.each g.fits.size in
        absent.none p.before (item p.last ++ rest) (record {
          fits = record { each = p.each; size = p.size };
          spelled = g.spelled ∙ ap (λ (l : List A). flat_map item l ++ rest) p.are ∙ split p.before p.last rest;
        });
  }

  none_read : (a : Option (List ℕ)) → Told (AreSoMany Fits 0) (flat_map item) a [] a
  none_read None = refl
  none_read (Some bytes) = record { fits = record { each = tt; size = refl }; spelled = refl }

  pub no_more_read : (a : Option (List ℕ)) → Reads (AreSoMany Fits 0) (flat_map item) a [] a
  no_more_read a = record { told = none_read a }

  pub more_read : {n : ℕ} {a b c : Option (List ℕ)} {xs : List A} {x : A} → Reads (AreSoMany Fits n) (flat_map item) a xs b → Reads Fits item b x c
      → Reads (AreSoMany Fits (n + 1)) (flat_map item) a (xs ++ x ∷ []) c
  more_read {n} {a} {b} {c} {xs} {x} f g = record { told = cases a b c f.told g.told }
    where
      cases : (a b c : Option (List ℕ)) → Told (AreSoMany Fits n) (flat_map item) a xs b → Told Fits item b x c → Told (AreSoMany Fits (n + 1)) (flat_map item) a (xs ++ x ∷ []) c
      cases None b c p q = stays Fits item b c x p q
      cases (Some a) None None p q = no_more p
      cases (Some a) None (Some c) p q = absurd (cc q)
      cases (Some a) (Some b) None p q = no_next reads {done = xs} (record { fits = p.fits.each; spelled = p.spelled }) (omega (arith, p.fits.size)) q
      cases (Some a) (Some b) (Some c) p q =
          let m = more_items reads {done = xs} {x = x} (record { fits = p.fits.each; spelled = p.spelled }) q in
          record { fits = record { each = m.fits; size = omega (arith, length-append xs (x ∷ []), p.fits.size) }; spelled = m.spelled }

  -- ---- after a count of at most so many

  module _ (most : ℕ) (few : most < 2 ^ 32) where
    word_front : {bytes rest : List ℕ} {n : ℕ} → IsFront (IsAtMost most) word bytes n rest → IsFront IsWord word bytes n rest
    word_front f = record { fits = omega (arith, f.fits, few); spelled = f.spelled }

    uncounted : {bytes : List ℕ} → HasNoFront (IsAtMost most) word bytes → HasNoFront (AreFew reads most) (array item) bytes
    uncounted absent = record {
      none = λ xs rest g. absent.none (length xs) (flat_map item xs ++ rest) (record { fits = g.fits.0; spelled = g.spelled ∙ append_assoc (word (length xs)) (flat_map item xs) rest });
    }

    pub counted_read : {a b c : Option (List ℕ)} {n : ℕ} {xs : List A} → Reads (IsAtMost most) word a n b → Reads (AreSoMany Fits n) (flat_map item) b xs c → Reads (AreFew reads most) (array item) a xs c
    counted_read {a} {b} {c} {n} {xs} f g = record { told = cases a b c f.told g.told }
      where
        cases : (a b c : Option (List ℕ)) → Told (IsAtMost most) word a n b → Told (AreSoMany Fits n) (flat_map item) b xs c → Told (AreFew reads most) (array item) a xs c
        cases None b c p q = stays (AreSoMany Fits n) (flat_map item) b c xs p q
        cases (Some a) None None p q = uncounted p
        cases (Some a) None (Some c) p q = absurd (cc q)
        cases (Some a) (Some b) None p q = no_counted reads most few (word_front p) q
        cases (Some a) (Some b) (Some c) p q = counted reads (word_front p) p.fits (record { fits = q.fits.each; spelled = q.spelled }) q.fits.size
