-- Parts are read one after the other, and the first that is missed is kept in mind.
use Rattle.std.proofs.Common.{◌≡◌, ℕ, ◌<◌, ◌^◌, Bool, true, false, List, ◌++◌, Option, Some, None, refl, sym, ap, ◌∙◌, append_assoc}
use Rattle.std.specs.Prelude.{◌≢◌}
use Rattle.wire_model.specs.Xdr.{word, boolean, optional, IsWord, IsAny}
use Rattle.wire_model.specs.OneReading.{ReadsOne, IsFront, HasNoFront}
use Rattle.wire_model.proofs.OneReading.{◌▷◌, one_word}
use Rattle.wire_model.proofs.Fronts.{both, no_first, no_second}
use Rattle.wire_model.specs.Parts.{Told, Reads, IsOptional}
use Rattle.wire_model.proofs.Made.{Made, made_front, none_made, one_made, no_flag, no_item}

-- ---- a part, of which there is one reading

pub record Read {A : Type 0} (Fits : A → Type 0) (spell : A → List ℕ) (before : Option (List ℕ)) (x : A) (now : Option (List ℕ)) : Type 0 where
  pub one : ReadsOne Fits spell
  pub reads : Reads Fits spell before x now

pub part : {A : Type 0} {Fits : A → Type 0} {spell : A → List ℕ} {before now : Option (List ℕ)} {x : A} → ReadsOne Fits spell → Reads Fits spell before x now → Read Fits spell before x now
part one f = record { one = one; reads = f }

-- where a part was missed before, nothing is left after the next one
stays : {B : Type 0} (Fits : B → Type 0) (spell : B → List ℕ) (b c : Option (List ℕ)) (y : B) → b ≡ None → Told Fits spell b y c → c ≡ None
stays Fits spell None c y e g = g
stays Fits spell (Some b) c y e g = absurd (cc e)

-- one part, and then the other
infixl 60 ◌▸◌
pub ◌▸◌ : {A B : Type 0} {F : A → Type 0} {G : B → Type 0} {first : A → List ℕ} {second : B → List ℕ} {a b c : Option (List ℕ)} {x : A} {y : B}
    → Read F first a x b → Read G second b y c → Read {A = A × B} (λ p. F p.0 × G p.1) (λ p. first p.0 ++ second p.1) a (x, y) c
◌▸◌ {A} {B} {F} {G} {first} {second} {a} {b} {c} {x} {y} f g = record { one = f.one ▷ g.one; reads = record { told = cases a b c f.reads.told g.reads.told } }
  where
    cases : (a b c : Option (List ℕ)) → Told F first a x b → Told G second b y c → Told {A = A × B} (λ p. F p.0 × G p.1) (λ p. first p.0 ++ second p.1) a (x, y) c
    cases None b c p q = stays G second b c y p q
    cases (Some a) None None p q = no_first G second p
    cases (Some a) None (Some c) p q = absurd (cc q)
    cases (Some a) (Some b) None p q = no_second f.one p q
    cases (Some a) (Some b) (Some c) p q = both p q

-- a value that is made of it
pub made_read : {A B : Type 0} {Fits : A → Type 0} {spell : A → List ℕ} {Whole : B → Type 0} {written : B → List ℕ} {make : A → B} {a b : Option (List ℕ)} {x : A}
    → Made Fits spell Whole written make → Read Fits spell a x b → Read Whole written a (make x) b
made_read {A} {B} {Fits} {spell} {Whole} {written} {make} {a} {b} {x} m f = record { one = one_made m f.one; reads = record { told = cases a b f.reads.told } }
  where
    cases : (a b : Option (List ℕ)) → Told Fits spell a x b → Told Whole written a (make x) b
    cases None b p = p
    cases (Some a) None p = none_made m p
    cases (Some a) (Some b) p = made_front m p

-- ---- XDR's items

module _ {A : Type 0} {Fits : A → Type 0} {item : A → List ℕ} where
  pub no_optional : {a b : Option (List ℕ)} {flag : Bool} → Reads IsAny boolean a flag b → flag ≡ false → Reads (IsOptional Fits) (optional item) a None b
  no_optional {a} {b} {flag} f unset = record { told = cases a b flag unset f.told }
    where
      cases : (a b : Option (List ℕ)) (flag : Bool) → flag ≡ false → Told IsAny boolean a flag b → Told (IsOptional Fits) (optional item) a None b
      cases a b true unset p = absurd (cc unset)
      cases None b false unset p = p
      cases (Some a) None false unset p = no_flag Fits item p
      cases (Some a) (Some b) false unset p = record { fits = tt; spelled = p.spelled }

  pub some_optional : {a b c : Option (List ℕ)} {flag : Bool} {x : A} → Reads IsAny boolean a flag b → flag ≡ true → Reads Fits item b x c → Reads (IsOptional Fits) (optional item) a (Some x) c
  some_optional {a} {b} {c} {flag} {x} f set g = record { told = cases a b c flag set f.told g.told }
    where
      cases : (a b c : Option (List ℕ)) (flag : Bool) → flag ≡ true → Told IsAny boolean a flag b → Told Fits item b x c → Told (IsOptional Fits) (optional item) a (Some x) c
      cases a b c false set p q = absurd (cc set)
      cases None b c true set p q = stays Fits item b c x p q
      cases (Some a) None None true set p q = no_flag Fits item p
      cases (Some a) None (Some c) true set p q = absurd (cc q)
      cases (Some a) (Some b) None true set p q = no_item Fits item p q
      cases (Some a) (Some b) (Some c) true set p q = record { fits = q.fits; spelled = p.spelled ∙ ap (λ (s : List ℕ). word 1 ++ s) q.spelled ∙ sym (append_assoc (word 1) (item x) c) }

-- ---- a value that is spelled by its number

module _ {A : Type 0} (number : A → ℕ) (below : (x : A) → number x < 2 ^ 32) {spell : A → List ℕ} (spelled : (x : A) → spell x ≡ word (number x)) where
  no_number : {bytes : List ℕ} → HasNoFront IsWord word bytes → HasNoFront IsAny spell bytes
  no_number absent = record {
    none = λ x rest f. absent.none (number x) rest (record { fits = below x; spelled = f.spelled ∙ ap (λ (s : List ℕ). s ++ rest) (spelled x) });
  }

  pub number_read : {a b : Option (List ℕ)} {n : ℕ} {x : A} → Reads IsWord word a n b → number x ≡ n → Reads IsAny spell a x b
  number_read {a} {b} {n} {x} f is = record { told = cases a b f.told }
    where
      cases : (a b : Option (List ℕ)) → Told IsWord word a n b → Told IsAny spell a x b
      cases None b p = p
      cases (Some a) None p = no_number p
      cases (Some a) (Some b) p = record { fits = tt; spelled = p.spelled ∙ ap (λ (s : List ℕ). s ++ b) (ap word (sym is) ∙ sym (spelled x)) }

  pub number_missed : {a b c : Option (List ℕ)} {n : ℕ} {x : A} → Reads IsWord word a n b → ((y : A) → number y ≢ n) → c ≡ None → Reads IsAny spell a x c
  number_missed {a} {b} {c} {n} {x} f other gone = record { told = cases a b c gone f.told }
    where
      cases : (a b c : Option (List ℕ)) → c ≡ None → Told IsWord word a n b → Told IsAny spell a x c
      cases a b (Some c) gone p = absurd (cc gone)
      cases None b None gone p = refl
      cases (Some a) None None gone p = no_number p
      cases (Some a) (Some b) None gone p = record {
        none = λ y rest g.
            other y (sym (one_word.one n (number y) b rest p.fits (below y) (sym p.spelled ∙ g.spelled ∙ ap (λ (s : List ℕ). s ++ rest) (spelled y))).0);
      }
