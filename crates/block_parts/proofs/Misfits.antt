-- What stands at the front has not the bounds of the part.
use Rattle.std.proofs.Common.{◌≡◌, ℕ, ◌<◌, Bool, false, List, arith}
use Rattle.std.specs.Prelude.{IsTrue}
use Rattle.ivy_base.specs.Naming.{IsFileName}
use Rattle.wire_model.specs.Xdr.{double_word, opaque, IsDoubleWord, IsUpTo}
use Rattle.wire_model.specs.OneReading.{IsFront, HasNoFront}
use Rattle.wire_model.proofs.OneReading.{one_double_word, one_short_opaque}
use Rattle.wire_model.proofs.Fronts.{only_misfit}
use Rattle.block_parts.specs.Parts.{IsAtMost}
use Rattle.tree_model.specs.Tree.{longest_file}

pub no_such_size : {bytes middle : List ℕ} {n : ℕ} → IsFront IsDoubleWord double_word bytes n middle → longest_file < n → HasNoFront (IsAtMost longest_file) double_word bytes
no_such_size f h = only_misfit one_double_word f (λ n g. omega arith) (λ g. omega (arith, g, h))

pub name_front : {bytes rest name : List ℕ} → IsFront (IsUpTo 255) opaque bytes name rest → IsFileName name → IsFront IsFileName opaque bytes name rest
name_front f fits = record { fits = fits; spelled = f.spelled }

pub no_such_name : {bytes rest name : List ℕ} {b : Bool} → IsFront (IsUpTo 255) opaque bytes name rest → (IsFileName name → IsTrue b) → b ≡ false → HasNoFront IsFileName opaque bytes
no_such_name f tested e = only_misfit (one_short_opaque 255 (omega arith)) f (λ n h. h.short) (λ h. let t = tested h in absurd (cc (t, e)))
