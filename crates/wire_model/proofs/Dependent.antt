-- Parts side by side, where the later one's bounds depend on the earlier one.
use Rattle.std.proofs.Common.{◌≡◌, ℕ, List, ◌++◌, refl, sym, ap, ◌∙◌, append_assoc, subst}
use Rattle.std.specs.Prelude.{Result, Ok, Err, OnErr}
use Rattle.wire_model.specs.OneReading.{ReadsOne, IsFront, HasNoFront}
use Rattle.wire_model.proofs.OneReading.{regrouped}

-- one part, and then the other
pub both_by : {A B : Type 0} {F : A → Type 0} (G : A → B → Type 0) {first : A → List ℕ} {second : B → List ℕ} {bytes middle rest : List ℕ} {x : A} {y : B}
    → IsFront F first bytes x middle → IsFront (G x) second middle y rest
    → IsFront {A = A × B} (λ p. F p.0 × G p.0 p.1) (λ p. first p.0 ++ second p.1) bytes (x, y) rest
both_by G {first} {second} {rest} {x} {y} f g = record {
  fits = (f.fits, g.fits);
  spelled = f.spelled ∙ ap (λ (s : List ℕ). first x ++ s) g.spelled ∙ sym (append_assoc (first x) (second y) rest);
}

-- without the first part there is no whole
pub no_first_by : {A B : Type 0} {F : A → Type 0} (G : A → B → Type 0) {first : A → List ℕ} (second : B → List ℕ) {bytes : List ℕ}
    → HasNoFront F first bytes → HasNoFront {A = A × B} (λ p. F p.0 × G p.0 p.1) (λ p. first p.0 ++ second p.1) bytes
no_first_by G {first} second absent = record {
  none = λ p rest f. absent.none p.0 (second p.1 ++ rest) (record {
    fits = f.fits.0;
    spelled = f.spelled ∙ append_assoc (first p.0) (second p.1) rest;
  });
}

-- nor without the second one after the first, which is of one value only
pub no_second_by : {A B : Type 0} {F : A → Type 0} (G : A → B → Type 0) {first : A → List ℕ} {second : B → List ℕ} {bytes middle : List ℕ} {x : A}
    → ReadsOne F first → IsFront F first bytes x middle → HasNoFront (G x) second middle
    → HasNoFront {A = A × B} (λ p. F p.0 × G p.0 p.1) (λ p. first p.0 ++ second p.1) bytes
no_second_by G {first} {second} {middle} {x} reads f absent = record {
  none = λ p rest g.
      let q = reads.one x p.0 middle (second p.1 ++ rest) f.fits g.fits.0 (sym f.spelled ∙ g.spelled ∙ append_assoc (first p.0) (second p.1) rest) in
      absent.none p.1 rest (record { fits = subst (λ a. G a p.1) (sym q.0) g.fits.1; spelled = q.1 });
}

-- the value's parts, where it has some
pub record PartsOf {A : Type 0} (Fits : A → Type 0) (spell : A → List ℕ) (written : List ℕ) : Type 0 where
  pub part : A
  pub fits : Fits part
  pub spelled : written ≡ spell part

-- without its parts there is no value
pub none_of_some : {A B : Type 0} {Fits : A → Type 0} {spell : A → List ℕ} {Whole : B → Type 0} {written : B → List ℕ} {bytes : List ℕ}
    → ((x : B) → Whole x → PartsOf Fits spell (written x)) → HasNoFront Fits spell bytes → HasNoFront Whole written bytes
none_of_some parts absent = record {
  none = λ x rest f.
      let p = parts x f.fits in
      absent.none p.part rest (record { fits = p.fits; spelled = f.spelled ∙ ap (λ (s : List ℕ). s ++ rest) p.spelled });
}

-- an error is refused whatever it is
pub on_err : {T E : Type 0} (r : Result T E) {Q : Type 0} → Q → OnErr r Q
on_err (Ok x) q = tt
on_err (Err e) q = q

-- one after the other
pub one_by : {A B : Type 0} {F : A → Type 0} (G : A → B → Type 0) {first : A → List ℕ} {second : B → List ℕ}
    → ReadsOne F first → ((a : A) → ReadsOne (G a) second) → ReadsOne {A = A × B} (λ p. F p.0 × G p.0 p.1) (λ p. first p.0 ++ second p.1)
one_by G {first} {second} a b = record {
  one = λ x y r s f g e.
      let p = a.one x.0 y.0 (second x.1 ++ r) (second y.1 ++ s) f.0 g.0 (regrouped (first x.0) (second x.1) (first y.0) (second y.1) r s e) in
      let q = (b x.0).one x.1 y.1 r s f.1 (subst (λ a. G a y.1) (sym p.0) g.1) p.1 in
      (rw (p.0, q.0) refl, q.1);
}
