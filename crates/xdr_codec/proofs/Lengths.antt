-- How many bytes the spellings of XDR's items take.
use Rattle.std.proofs.Common.{◌≡◌, ℕ, ◌+◌, Bool, true, false, List, length, refl, arith, length-append}
use Rattle.std.proofs.lemmas.List.{length-replicate}
use Rattle.ivy_base.specs.declared.operation.Moment.{Moment}
use Rattle.wire_model.specs.Xdr.{word, double_word, boolean, fixed, opaque, moment}
use Rattle.xdr_codec.specs.Writing.{padded}

pub length-word : (n : ℕ) → length (word n) ≡ 4
length-word n = refl

pub length-double_word : (n : ℕ) → length (double_word n) ≡ 8
length-double_word n = refl

pub length-boolean : (b : Bool) → length (boolean b) ≡ 4
length-boolean true = refl
length-boolean false = refl

pub length-moment : (m : Moment) → length (moment m) ≡ 8
length-moment m = refl

pub length-fixed : (bytes : List ℕ) → length (fixed bytes) ≡ padded (length bytes)
length-fixed bytes = simp (length-append, length-replicate)

pub length-opaque : (bytes : List ℕ) → length (opaque bytes) ≡ 4 + padded (length bytes)
length-opaque bytes = omega (arith, length-append (word (length bytes)) (fixed bytes), length-fixed bytes)
