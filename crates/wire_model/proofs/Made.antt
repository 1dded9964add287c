-- Values that are made of parts: read where the parts are, and nowhere else.
use Rattle.std.proofs.Common.{◌≡◌, ℕ, true, false, List, ◌++◌, Option, Some, None, sym, ap, ◌∙◌}
use Rattle.std.specs.Prelude.{Result, Ok, Err, IfOk}
use Rattle.wire_model.specs.Xdr.{boolean, optional, IsAny}
use Rattle.wire_model.specs.OneReading.{ReadsOne, IsFront, HasNoFront}
use Rattle.wire_model.proofs.OneReading.{one_boolean}
use Rattle.wire_model.specs.Parts.{IsOptional}

-- the parts of a value
pub record MadeOf {A B : Type 0} (Fits : A → Type 0) (make : A → B) (x : B) : Type 0 where
  pub part : A
  pub fits : Fits part
  pub same : x ≡ make part

-- each value that fits is made of parts that fit, and spelled as they are
pub record Made {A B : Type 0} (Fits : A → Type 0) (spell : A → List ℕ) (Whole : B → Type 0) (written : B → List ℕ) (make : A → B) : Type 0 where
  pub whole : (a : A) → Fits a → Whole (make a)
  pub spelled : (a : A) → written (make a) ≡ spell a
  pub parts : (x : B) → Whole x → MadeOf Fits make x

module _ {A B : Type 0} {Fits : A → Type 0} {spell : A → List ℕ} {Whole : B → Type 0} {written : B → List ℕ} {make : A → B} (m : Made Fits spell Whole written make) where
  pub made_front : {bytes rest : List ℕ} {a : A} → IsFront Fits spell bytes a rest → IsFront Whole written bytes (make a) rest
  made_front {rest} {a} f = record { fits = m.whole a f.fits; spelled = f.spelled ∙ ap (λ (s : List ℕ). s ++ rest) (sym (m.spelled a)) }

  pub none_made : {bytes : List ℕ} → HasNoFront Fits spell bytes → HasNoFront Whole written bytes
  none_made absent = record {
    none = λ x rest f.
        let p = m.parts x f.fits in
        absent.none p.part rest (record { fits = p.fits; spelled = f.spelled ∙ ap (λ (s : List ℕ). s ++ rest) (ap written p.same ∙ m.spelled p.part) });
  }

  pub one_made : ReadsOne Fits spell → ReadsOne Whole written
  one_made reads = record {
    one = λ x y r s f g e.
        let p = m.parts x f in
        let q = m.parts y g in
        let front : spell p.part ++ r ≡ written x ++ r = ap (λ (b : List ℕ). b ++ r) (sym (ap written p.same ∙ m.spelled p.part)) in
        let back : written y ++ s ≡ spell q.part ++ s = ap (λ (b : List ℕ). b ++ s) (ap written q.same ∙ m.spelled q.part) in
        let t = reads.one p.part q.part r s p.fits q.fits (front ∙ e ∙ back) in
        (p.same ∙ ap make t.0 ∙ sym q.same, t.1);
  }

-- what follows from what holds of a result
pub if_ok_by : {T E : Type 0} {P Q : T → Type 0} (r : Result T E) → ((x : T) → P x → Q x) → IfOk r P → IfOk r Q
if_ok_by (Ok x) f h = f x h
if_ok_by (Err e) f h = tt

-- ---- optional data

pub no_flag : {A : Type 0} (Fits : A → Type 0) (item : A → List ℕ) {bytes : List ℕ} → HasNoFront IsAny boolean bytes → HasNoFront (IsOptional Fits) (optional item) bytes
no_flag {A} Fits item {bytes} absent = record { none = options }
  where
    options : (o : Option A) (rest : List ℕ) → IsFront (IsOptional Fits) (optional item) bytes o rest → ⊥
    options None rest f = absent.none false rest (record { fits = tt; spelled = f.spelled })
    options (Some x) rest f = absent.none true (item x ++ rest) (record { fits = tt; spelled = f.spelled })

pub no_item : {A : Type 0} (Fits : A → Type 0) (item : A → List ℕ) {bytes middle : List ℕ} → IsFront IsAny boolean bytes true middle → HasNoFront Fits item middle → HasNoFront (IsOptional Fits) (optional item) bytes
no_item {A} Fits item {bytes} {middle} flag absent = record { none = options }
  where
    options : (o : Option A) (rest : List ℕ) → IsFront (IsOptional Fits) (optional item) bytes o rest → ⊥
    options None rest f = let p = (one_boolean.one true false middle rest tt tt (sym flag.spelled ∙ f.spelled)).0 in absurd (cc p)
    options (Some x) rest f = absent.none x rest (record { fits = f.fits; spelled = (one_boolean.one true true middle (item x ++ rest) tt tt (sym flag.spelled ∙ f.spelled)).1 })
