-- A vector can be read in one way only, whatever follows it.
use Rattle.std.proofs.Common.{ℕ, ◌<◌, ◌^◌, refl, ap, arith}
use Rattle.ivy_base.specs.declared.key.Key.{Key}
use Rattle.wire_model.specs.Xdr.{array}
use Rattle.wire_model.specs.OneReading.{ReadsOne}
use Rattle.wire_model.proofs.OneReading.{one_word, one_array, of_parts, of_fewer, ◌▷◌}
use Rattle.log_model.specs.Vector.{Entry}
use Rattle.log_model.specs.Spelling.{IsKey, vector_entry}
use Rattle.version_vectors.specs.Vectors.{EntryFits, VectorFits}
use Rattle.block_parts.proofs.OneParts.{one_key}

abbrev pub EntryParts : Type 0
EntryParts = (Key × ℕ) × Key

abbrev pub parts_of : Entry → EntryParts
parts_of e = ((e.0, e.1.seq), e.1.name)

abbrev pub of_entry_parts : EntryParts → Entry
of_entry_parts p = (p.0.0, record { seq = p.0.1; name = p.1 })

-- whatever its number is
abbrev pub PartsFit : Entry → Type 0
PartsFit e = (IsKey e.0 × (e.1.seq < 2 ^ 32)) × IsKey e.1.name

pub one_of_parts : ReadsOne PartsFit vector_entry
one_of_parts = of_parts parts_of (λ e f. f) (λ e. refl) (λ d e same. ap of_entry_parts same) (one_key ▷ one_word ▷ one_key)

pub parts_fit : (e : Entry) → EntryFits e → PartsFit e
parts_fit e f = ((f.0, f.2), f.3)

pub one_entry : ReadsOne EntryFits vector_entry
one_entry = of_fewer parts_fit one_of_parts

pub one_vector : (most : ℕ) → most < 2 ^ 32 → ReadsOne (VectorFits most) (array vector_entry)
one_vector most few = of_fewer (λ v f. (omega (arith, f.short), f.whole.entries)) (one_array one_entry)
