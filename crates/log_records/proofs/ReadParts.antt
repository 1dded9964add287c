-- What parts that were read one after the other tell of their bytes.
use Rattle.std.proofs.Common.{◌≡◌, ℕ, ◌<◌, ◌^◌, List, [], ◌++◌, Option, Some, None, refl, sym, ap, ◌∙◌, subst, arith}
use Rattle.std.specs.Prelude.{◌≢◌}
use Rattle.std.proofs.lemmas.List.{append-nil}
use Rattle.ivy_base.specs.declared.key.Key.{Key}
use Rattle.ivy_base.specs.declared.format.Format.{Format}
use Rattle.ivy_base.specs.declared.format.Format.TheVariants.{One, Two}
use Rattle.ivy_base.specs.declared.operation.Kind.{Kind}
use Rattle.ivy_base.specs.declared.operation.Kind.TheVariants.{Reg, Dir, Lnk}
use Rattle.wire_model.specs.Xdr.{word, moment, IsWord, IsWordMoment, IsOfLength, IsAny}
use Rattle.wire_model.specs.OneReading.{ReadsOne, IsFront, HasNoFront}
use Rattle.wire_model.proofs.OneReading.{one_word, one_raw}
use Rattle.wire_model.proofs.Fronts.{none_of_fewer, only_misfit}
use Rattle.wire_model.specs.Parts.{Told, Reads, as_it_stands}
use Rattle.wire_model.proofs.Made.{Made}
use Rattle.wire_model.proofs.PartByPart.{◌▸◌, part, made_read, number_read, number_missed}
use Rattle.log_model.specs.Spelling.{IsBlock, IsKey, kind_number, record_tag}
use Rattle.block_parts.specs.Parts.{constant_bytes, key_bytes, kind_word}
use Rattle.log_records.specs.Heads.{IsNumber}
use Rattle.log_records.specs.Parts.{tag_number}
use Rattle.log_records.specs.Reading.{IsSpelled}
use Rattle.log_records.specs.Shapes.{IsKeyLong}

-- ---- fewer values

module _ {A : Type 0} {Fits Fewer : A → Type 0} {spell : A → List ℕ} (weaker : (y : A) → Fewer y → Fits y) where
  pub fit_read : {a b : Option (List ℕ)} {x : A} → Fewer x → Reads Fits spell a x b → Reads Fewer spell a x b
  fit_read {a} {b} {x} fits f = record { told = cases a b f.told }
    where
      cases : (a b : Option (List ℕ)) → Told Fits spell a x b → Told Fewer spell a x b
      cases None b p = p
      cases (Some a) None p = none_of_fewer weaker p
      cases (Some a) (Some b) p = record { fits = fits; spelled = p.spelled }

  pub misfit_read : {a b c : Option (List ℕ)} {x : A} → ReadsOne Fits spell → (Fewer x → ⊥) → c ≡ None → Reads Fits spell a x b → Reads Fewer spell a x c
  misfit_read {a} {b} {c} {x} reads misfit gone f = record { told = cases a b c gone f.told }
    where
      cases : (a b c : Option (List ℕ)) → c ≡ None → Told Fits spell a x b → Told Fewer spell a x c
      cases a b (Some c) gone p = absurd (cc gone)
      cases None b None gone p = refl
      cases (Some a) None None gone p = none_of_fewer weaker p
      cases (Some a) (Some b) None gone p = only_misfit reads p weaker misfit

-- ---- one value only

module _ {A : Type 0} {Fits : A → Type 0} {spell : A → List ℕ} {y : A} (fits : Fits y) where
  none_there : {bytes : List ℕ} → HasNoFront Fits spell bytes → HasNoFront IsAny (constant_bytes (spell y)) bytes
  none_there absent = record { none = λ u rest f. absent.none y rest (record { fits = fits; spelled = f.spelled }) }

  pub same_read : {a b : Option (List ℕ)} {x : A} → x ≡ y → Reads Fits spell a x b → Reads IsAny (constant_bytes (spell y)) a tt b
  same_read {a} {b} {x} same f = record { told = cases a b f.told }
    where
      cases : (a b : Option (List ℕ)) → Told Fits spell a x b → Told IsAny (constant_bytes (spell y)) a tt b
      cases None b p = p
      cases (Some a) None p = none_there p
      cases (Some a) (Some b) p = record { fits = tt; spelled = p.spelled ∙ ap (λ (z : A). spell z ++ b) same }

  pub other_read : {a b c : Option (List ℕ)} {x : A} → ReadsOne Fits spell → x ≢ y → c ≡ None → Reads Fits spell a x b → Reads IsAny (constant_bytes (spell y)) a tt c
  other_read {a} {b} {c} {x} reads other gone f = record { told = cases a b c gone f.told }
    where
      cases : (a b c : Option (List ℕ)) → c ≡ None → Told Fits spell a x b → Told IsAny (constant_bytes (spell y)) a tt c
      cases a b (Some c) gone p = absurd (cc gone)
      cases None b None gone p = refl
      cases (Some a) None None gone p = none_there p
      cases (Some a) (Some b) None gone p = record { none = λ u rest g. other (reads.one x y b rest p.fits fits (sym p.spelled ∙ g.spelled)).0 }

-- ---- where the bytes are known

module _ {A : Type 0} {Fits : A → Type 0} {spell : A → List ℕ} {bytes : List ℕ} {a b : Option (List ℕ)} {x : A} (all : a ≡ Some bytes) (f : Reads Fits spell a x b) where
  told_of : (c : Option (List ℕ)) → b ≡ c → Told Fits spell (Some bytes) x c
  told_of c e = subst (λ (o : Option (List ℕ)). Told Fits spell (Some bytes) x o) e (subst (λ (o : Option (List ℕ)). Told Fits spell o x b) all f.told)

  pub is_there : {rest : List ℕ} → b ≡ Some rest → IsFront Fits spell bytes x rest
  is_there {rest} e = told_of (Some rest) e

  pub is_missed : b ≡ None → HasNoFront Fits spell bytes
  is_missed e = told_of None e

  pub is_whole : b ≡ Some [] → IsSpelled Fits spell bytes x
  is_whole e = let p : IsFront Fits spell bytes x [] = told_of (Some []) e in record { fits = p.fits; spelled = p.spelled ∙ append-nil (spell x) }

  pub is_not_whole : ReadsOne Fits spell → b ≢ Some [] → (y : A) → IsSpelled Fits spell bytes y → ⊥
  is_not_whole reads more y g = cases b refl
    where
      front : IsFront Fits spell bytes y []
      front = record { fits = g.fits; spelled = g.spelled ∙ sym (append-nil (spell y)) }

      cases : (c : Option (List ℕ)) → b ≡ c → ⊥
      cases None e = let p : HasNoFront Fits spell bytes = told_of None e in p.none y [] front
      cases (Some rest) e =
          let p : IsFront Fits spell bytes x rest = told_of (Some rest) e in
          more (e ∙ ap Some (reads.one x y rest [] p.fits g.fits (sym p.spelled ∙ front.spelled)).1)

-- ---- parts

pub one_long_key : ReadsOne IsKeyLong key_bytes
one_long_key = record { one = λ k l r s f g e. let p = (one_raw 20).one k.0 l.0 r s f g e in (ap (λ (bytes : List ℕ). record { 0 = bytes }) p.0, p.1) }

made_key : Made (IsOfLength 20) as_it_stands IsKeyLong key_bytes (λ bytes. record { 0 = bytes })
made_key = record { whole = λ bytes f. f; spelled = λ bytes. refl; parts = λ k f. record { part = k.0; fits = f; same = refl } }

pub key_read : {a b : Option (List ℕ)} {bytes : List ℕ} → Reads (IsOfLength 20) as_it_stands a bytes b → Reads IsKeyLong key_bytes a (record { 0 = bytes }) b
key_read f = (made_read made_key (part (one_raw 20) f)).reads

key_long : (k : Key) → IsKey k → IsKeyLong k
key_long k f = f.size

pub same_key_read : {a b : Option (List ℕ)} {k l : Key} → IsKey l → k ≡ l → Reads IsKeyLong key_bytes a k b → Reads IsAny (constant_bytes l.0) a tt b
same_key_read {l = l} fits same f = same_read {y = l} (key_long l fits) same f

pub other_key_read : {a b c : Option (List ℕ)} {k l : Key} → IsKey l → k ≢ l → c ≡ None → Reads IsKeyLong key_bytes a k b → Reads IsAny (constant_bytes l.0) a tt c
other_key_read {l = l} fits other gone f = other_read {y = l} (key_long l fits) one_long_key other gone f

number_below : (n : ℕ) → IsNumber n → n < 2 ^ 32
number_below n f = omega (arith, f.1)

pub some_number_read : {a b : Option (List ℕ)} {n : ℕ} → IsNumber n → Reads IsWord word a n b → Reads IsNumber word a n b
some_number_read fits f = fit_read number_below fits f

pub no_number_read : {a b c : Option (List ℕ)} {n : ℕ} → (IsNumber n → ⊥) → c ≡ None → Reads IsWord word a n b → Reads IsNumber word a n c
no_number_read misfit gone f = misfit_read number_below one_word misfit gone f

-- as many bytes, of which each is one
pub block_read : (count : ℕ) {a b : Option (List ℕ)} {bytes : List ℕ} → IsBlock count bytes → Reads (IsOfLength count) as_it_stands a bytes b → Reads (IsBlock count) as_it_stands a bytes b
block_read count fits f = fit_read (λ bytes g. g.size) fits f

pub true_key_read : {a b : Option (List ℕ)} {k : Key} → IsKey k → Reads IsKeyLong key_bytes a k b → Reads IsKey key_bytes a k b
true_key_read fits f = fit_read key_long fits f

kind_below : (k : Kind) → kind_number k < 2 ^ 32
kind_below Reg = omega arith
kind_below Dir = omega arith
kind_below Lnk = omega arith

pub kind_read : {a b : Option (List ℕ)} {n : ℕ} {k : Kind} → kind_number k ≡ n → Reads IsWord word a n b → Reads IsAny kind_word a k b
kind_read is f = number_read kind_number kind_below (λ k. refl) f is

pub no_kind_read : {a b c : Option (List ℕ)} {n : ℕ} {k : Kind} → ((l : Kind) → kind_number l ≢ n) → c ≡ None → Reads IsWord word a n b → Reads IsAny kind_word a k c
no_kind_read other gone f = number_missed kind_number kind_below (λ k. refl) f other gone

-- ---- the tag of a record

tag_below : (f : Format) → tag_number f < 2 ^ 32
tag_below One = omega arith
tag_below Two = omega arith

tag_spelled : (f : Format) → record_tag f ≡ word (tag_number f)
tag_spelled One = refl
tag_spelled Two = refl

pub one_tag : ReadsOne IsAny record_tag
one_tag = record { one = tags }
  where
    tags : (x y : Format) (r s : List ℕ) → IsAny x → IsAny y → record_tag x ++ r ≡ record_tag y ++ s → (x ≡ y) × (r ≡ s)
    tags One One r s f g e = (refl, (one_word.one (tag_number One) (tag_number One) r s (tag_below One) (tag_below One) e).1)
    tags One Two r s f g e = let p = one_word.one (tag_number One) (tag_number Two) r s (tag_below One) (tag_below Two) e in absurd (omega (arith, p.0))
    tags Two One r s f g e = let p = one_word.one (tag_number Two) (tag_number One) r s (tag_below Two) (tag_below One) e in absurd (omega (arith, p.0))
    tags Two Two r s f g e = (refl, (one_word.one (tag_number Two) (tag_number Two) r s (tag_below Two) (tag_below Two) e).1)

pub format_read : {a b : Option (List ℕ)} {n : ℕ} {f : Format} → tag_number f ≡ n → Reads IsWord word a n b → Reads IsAny record_tag a f b
format_read is f = number_read tag_number tag_below tag_spelled f is

pub no_format_read : {a b c : Option (List ℕ)} {n : ℕ} {f : Format} → ((g : Format) → tag_number g ≢ n) → c ≡ None → Reads IsWord word a n b → Reads IsAny record_tag a f c
no_format_read other gone f = number_missed tag_number tag_below tag_spelled f other gone

-- ---- moments

made_moment : Made {A = ℕ × ℕ} (λ p. IsWord p.0 × IsWord p.1) (λ p. word p.0 ++ word p.1) IsWordMoment moment (λ p. record { sec = p.0; nsec = p.1 })
made_moment = record { whole = λ p f. f; spelled = λ p. refl; parts = λ m f. record { part = (m.sec, m.nsec); fits = f; same = refl } }

pub moment_read : {a b c : Option (List ℕ)} {sec nsec : ℕ} → Reads IsWord word a sec b → Reads IsWord word b nsec c → Reads IsWordMoment moment a (record { sec = sec; nsec = nsec }) c
moment_read f g = (made_read made_moment (part one_word f ▸ part one_word g)).reads
