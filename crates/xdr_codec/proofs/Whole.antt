-- Data of whole words, which no zeros fill up.
use Rattle.std.proofs.Common.{◌≡◌, ℕ, ◌-◌, ◌%◌, List, ◌++◌, length, sym, ap, ◌∙◌}
use Rattle.std.specs.Prelude.{replicate}
use Rattle.std.proofs.lemmas.List.{append-nil}
use Rattle.wire_model.specs.Xdr.{fixed, IsOfLength}
use Rattle.wire_model.specs.OneReading.{IsFront, HasNoFront}
use Rattle.wire_model.specs.Parts.{as_it_stands}

as_it_is : (bytes : List ℕ) → length bytes % 4 ≡ 0 → fixed bytes ≡ bytes
as_it_is bytes h = ap (λ n. bytes ++ replicate ((4 - n) % 4) 0) h ∙ append-nil bytes

pub whole_front : (count : ℕ) (bytes item rest : List ℕ) → count % 4 ≡ 0 → IsFront (IsOfLength count) fixed bytes item rest → IsFront (IsOfLength count) as_it_stands bytes item rest
whole_front count bytes item rest h f = record {
  fits = f.fits;
  spelled = f.spelled ∙ ap (λ (s : List ℕ). s ++ rest) (as_it_is item (ap (λ n. n % 4) f.fits ∙ h));
}

pub no_whole : (count : ℕ) (bytes : List ℕ) → count % 4 ≡ 0 → HasNoFront (IsOfLength count) fixed bytes → HasNoFront (IsOfLength count) as_it_stands bytes
no_whole count bytes h absent = record {
  none = λ x rest f. absent.none x rest (record {
    fits = f.fits;
    spelled = f.spelled ∙ ap (λ (s : List ℕ). s ++ rest) (sym (as_it_is x (ap (λ n. n % 4) f.fits ∙ h)));
  });
}
