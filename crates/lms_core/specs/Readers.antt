-- What the readers give, as lists.
use Rattle.std.specs.Prelude.{◌≡◌, Result, Ok, Err}
use Rattle.hash_signature_model.specs.declared.set.LmsFault.{LmsFault}
use Rattle.hash_signature_model.specs.Signatures.{Signature}
use Rattle.lms_core.specs.declared.reading.SignatureParts.{SignatureParts}

-- what a function returned, seen by view, is what reading gives
abbrev pub Gives : {X Y : Type 0} → (X → Y) → Result X LmsFault → Result Y LmsFault → Type 0
Gives view (Ok x) read = read ≡ Ok (view x)
Gives view (Err e) read = read ≡ Err e

-- the fields of a signature whose parts lie in its bytes
abbrev pub fields_of : SignatureParts → Signature
fields_of p = record { leaf = p.leaf; randomizer = p.randomizer.now; values = p.values.now; path = p.path.now }
