-- Values of several forms, whose spelling begins with the number of the form.
use Rattle.std.proofs.Common.{◌≡◌, ℕ, ◌<◌, ◌^◌, List, [], ◌++◌, Option, Some, None, refl, sym, ap, ◌∙◌, append_assoc}
use Rattle.std.specs.Prelude.{⊤}
use Rattle.wire_model.specs.Xdr.{word, IsWord}
use Rattle.wire_model.specs.OneReading.{IsFront, HasNoFront}
use Rattle.wire_model.specs.Parts.{Told, Reads}
use Rattle.wire_model.proofs.OneReading.{one_word}
use Rattle.wire_model.proofs.Dependent.{PartsOf}

-- the form's number, and what stands after it
pub record Tagged {A : Type 0} (Fits : A → Type 0) (spell : A → List ℕ) : Type 0 where
  pub tag : A → ℕ
  pub after : A → List ℕ
  pub small : (x : A) → Fits x → tag x < 2 ^ 32
  pub spelled : (x : A) → spell x ≡ word (tag x) ++ after x

module _ {A : Type 0} {Fits : A → Type 0} {spell : A → List ℕ} (t : Tagged Fits spell) where
  -- the form of a number: the part that stands after it, and the value that is made of it
  pub record Form {B : Type 0} (Part : B → Type 0) (item : B → List ℕ) (n : ℕ) (make : B → A) : Type 0 where
    pub whole : (y : B) → Part y → Fits (make y)
    pub written : (y : B) → spell (make y) ≡ word n ++ item y
    pub parts : (x : A) → Fits x → n ≡ t.tag x → PartsOf Part item (t.after x)

  parted : (x : A) (rest : List ℕ) → spell x ++ rest ≡ word (t.tag x) ++ (t.after x ++ rest)
  parted x rest = ap (λ (s : List ℕ). s ++ rest) (t.spelled x) ∙ append_assoc (word (t.tag x)) (t.after x) rest

  no_tag : {bytes : List ℕ} → HasNoFront IsWord word bytes → HasNoFront Fits spell bytes
  no_tag absent = record {
    none = λ x rest f. absent.none (t.tag x) (t.after x ++ rest) (record { fits = t.small x f.fits; spelled = f.spelled ∙ parted x rest });
  }

  -- what a number in front says of a value that stands there
  the_tag : {bytes middle rest : List ℕ} {n : ℕ} {x : A} → IsFront IsWord word bytes n middle → IsFront Fits spell bytes x rest → (n ≡ t.tag x) × (middle ≡ t.after x ++ rest)
  the_tag {middle = middle} {rest = rest} {n = n} {x = x} f g =
      one_word.one n (t.tag x) middle (t.after x ++ rest) f.fits (t.small x g.fits) (sym f.spelled ∙ g.spelled ∙ parted x rest)

  -- a number of no form
  no_form : {bytes middle : List ℕ} {n : ℕ} → IsFront IsWord word bytes n middle → ((x : A) → Fits x → n ≡ t.tag x → ⊥) → HasNoFront Fits spell bytes
  no_form f other = record { none = λ x rest g. other x g.fits (the_tag f g).0 }

  module _ {B : Type 0} {Part : B → Type 0} {item : B → List ℕ} {n : ℕ} {make : B → A} (form : Form Part item n make) where
    -- the part is missing
    no_part : {bytes middle : List ℕ} → IsFront IsWord word bytes n middle → HasNoFront Part item middle → HasNoFront Fits spell bytes
    no_part f absent = record {
      none = λ x rest g.
          let same = the_tag f g in
          let p = form.parts x g.fits same.0 in
          absent.none p.part rest (record { fits = p.fits; spelled = same.1 ∙ ap (λ (s : List ℕ). s ++ rest) p.spelled });
    }

    part_there : {bytes middle rest : List ℕ} {y : B} → IsFront IsWord word bytes n middle → IsFront Part item middle y rest → IsFront Fits spell bytes (make y) rest
    part_there {rest = rest} {y = y} f g = record {
      fits = form.whole y g.fits;
      spelled = f.spelled ∙ ap (λ (s : List ℕ). word n ++ s) g.spelled ∙ sym (append_assoc (word n) (item y) rest) ∙ ap (λ (s : List ℕ). s ++ rest) (sym (form.written y));
    }

    pub form_read : {a b c : Option (List ℕ)} {y : B} → Reads IsWord word a n b → Reads Part item b y c → Reads Fits spell a (make y) c
    form_read {a} {b} {c} {y} f g = record { told = cases a b c f.told g.told }
      where
        cases : (a b c : Option (List ℕ)) → Told IsWord word a n b → Told Part item b y c → Told Fits spell a (make y) c
        cases None None c p q = q
        cases None (Some b) c p q = absurd (cc p)
        cases (Some a) None None p q = no_tag p
        cases (Some a) None (Some c) p q = absurd (cc q)
        cases (Some a) (Some b) None p q = no_part p q
        cases (Some a) (Some b) (Some c) p q = part_there p q

  pub form_missed : {a b c : Option (List ℕ)} {n : ℕ} {x : A} → Reads IsWord word a n b → ((y : A) → Fits y → n ≡ t.tag y → ⊥) → c ≡ None → Reads Fits spell a x c
  form_missed {a} {b} {c} {n} {x} f other gone = record { told = cases a b c gone f.told }
    where
      cases : (a b c : Option (List ℕ)) → c ≡ None → Told IsWord word a n b → Told Fits spell a x c
      cases a b (Some c) gone p = absurd (cc gone)
      cases None b None gone p = refl
      cases (Some a) None None gone p = no_tag p
      cases (Some a) (Some b) None gone p = no_form p other

-- no part stands after the number
pub nothing_there : (b : Option (List ℕ)) → Reads {A = Unit {0}} (λ u. ⊤) (λ u. []) b tt b
nothing_there b = record { told = cases b }
  where
    cases : (b : Option (List ℕ)) → Told {A = Unit {0}} (λ u. ⊤) (λ u. []) b tt b
    cases None = refl
    cases (Some bytes) = record { fits = tt; spelled = refl }
