-- What stands at the front of bytes, part by part: for readers that go from left to right.
use Rattle.std.proofs.Common.{◌≡◌, ℕ, List, ◌++◌, sym, ap, ◌∙◌, append_assoc}
use Rattle.wire_model.specs.OneReading.{ReadsOne, IsFront, HasNoFront}

-- one part, and then the other
pub both : {A B : Type 0} {F : A → Type 0} {G : B → Type 0} {first : A → List ℕ} {second : B → List ℕ} {bytes middle rest : List ℕ} {x : A} {y : B}
    → IsFront F first bytes x middle → IsFront G second middle y rest
    → IsFront {A = A × B} (λ p. F p.0 × G p.1) (λ p. first p.0 ++ second p.1) bytes (x, y) rest
both {first} {second} {rest} {x} {y} f g = record {
  fits = (f.fits, g.fits);
  spelled = f.spelled ∙ ap (λ (s : List ℕ). first x ++ s) g.spelled ∙ sym (append_assoc (first x) (second y) rest);
}

-- without the first part there is no whole
pub no_first : {A B : Type 0} {F : A → Type 0} (G : B → Type 0) {first : A → List ℕ} (second : B → List ℕ) {bytes : List ℕ}
    → HasNoFront F first bytes → HasNoFront {A = A × B} (λ p. F p.0 × G p.1) (λ p. first p.0 ++ second p.1) bytes
no_first G {first} second absent = record {
  none = λ p rest f. absent.none p.0 (second p.1 ++ rest) (record {
    fits = f.fits.0;
    spelled = f.spelled ∙ append_assoc (first p.0) (second p.1) rest;
  });
}

-- nor without the second one after the first, which is of one value only
pub no_second : {A B : Type 0} {F : A → Type 0} {G : B → Type 0} {first : A → List ℕ} {second : B → List ℕ} {bytes middle : List ℕ} {x : A}
    → ReadsOne F first → IsFront F first bytes x middle → HasNoFront G second middle
    → HasNoFront {A = A × B} (λ p. F p.0 × G p.1) (λ p. first p.0 ++ second p.1) bytes
no_second {first} {second} {middle} {x} reads f absent = record {
  none = λ p rest g.
      let q = reads.one x p.0 middle (second p.1 ++ rest) f.fits g.fits.0 (sym f.spelled ∙ g.spelled ∙ append_assoc (first p.0) (second p.1) rest) in
      absent.none p.1 rest (record { fits = g.fits.1; spelled = q.1 });
}

-- without any value of more there is none of fewer
pub none_of_fewer : {A : Type 0} {Fits Fewer : A → Type 0} {spell : A → List ℕ} {bytes : List ℕ}
    → ((x : A) → Fewer x → Fits x) → HasNoFront Fits spell bytes → HasNoFront Fewer spell bytes
none_of_fewer weaker absent = record { none = λ x rest f. absent.none x rest (record { fits = weaker x f.fits; spelled = f.spelled }) }

-- the value that is there doesn't fit
pub only_misfit : {A : Type 0} {Fits Fewer : A → Type 0} {spell : A → List ℕ} {bytes rest : List ℕ} {x : A}
    → ReadsOne Fits spell → IsFront Fits spell bytes x rest → ((y : A) → Fewer y → Fits y) → (Fewer x → ⊥) → HasNoFront Fewer spell bytes
only_misfit {Fewer} {rest} {x} reads f weaker misfit = record {
  none = λ y r g.
      let same : x ≡ y = (reads.one x y rest r f.fits (weaker y g.fits) (sym f.spelled ∙ g.spelled)).0 in
      misfit (rw same g.fits);
}

-- a value that is given by what is spelled, and its parts
pub front_of_parts : {A B : Type 0} {Fits : A → Type 0} {spell : A → List ℕ} {Whole : B → Type 0} {written : B → List ℕ} {bytes rest : List ℕ} {y : A} (make : A → B)
    → Whole (make y) → written (make y) ≡ spell y → IsFront Fits spell bytes y rest → IsFront Whole written bytes (make y) rest
front_of_parts {rest} make whole spelled f = record { fits = whole; spelled = f.spelled ∙ ap (λ (s : List ℕ). s ++ rest) (sym spelled) }

-- without its parts there is no value
pub none_of_parts : {A B : Type 0} {Fits : A → Type 0} {spell : A → List ℕ} {Whole : B → Type 0} {written : B → List ℕ} {bytes : List ℕ} (parts : B → A)
    → ((x : B) → Whole x → Fits (parts x)) → ((x : B) → Whole x → written x ≡ spell (parts x)) → HasNoFront Fits spell bytes → HasNoFront Whole written bytes
none_of_parts parts fit spelled absent = record {
  none = λ x rest f. absent.none (parts x) rest (record { fits = fit x f.fits; spelled = f.spelled ∙ ap (λ (s : List ℕ). s ++ rest) (spelled x f.fits) });
}
