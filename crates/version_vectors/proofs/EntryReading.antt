-- An entry is read part by part.
use Rattle.std.proofs.Common.{◌≡◌, ℕ, ◌≤◌, List, refl, arith}
use Rattle.ivy_base.specs.declared.key.Key.{Key}
use Rattle.wire_model.specs.Xdr.{word, IsWord}
use Rattle.wire_model.specs.OneReading.{IsFront, HasNoFront}
use Rattle.wire_model.proofs.OneReading.{one_word, ◌▷◌}
use Rattle.wire_model.proofs.Fronts.{both, no_second, only_misfit, none_of_parts}
use Rattle.log_model.specs.Spelling.{IsKey, vector_entry}
use Rattle.version_vectors.specs.Vectors.{EntryFits}
use Rattle.block_parts.specs.Parts.{key_bytes}
use Rattle.block_parts.proofs.OneParts.{one_key}
use Rattle.version_vectors.proofs.OneVector.{parts_of, PartsFit, parts_fit, one_of_parts}

-- an entry by its parts, whatever its number is
front_parts : {old middle last rest : List ℕ} {log name : Key} {seq : ℕ}
    → IsFront IsKey key_bytes old log middle → IsFront IsWord word middle seq last → IsFront IsKey key_bytes last name rest
    → IsFront PartsFit vector_entry old (log, record { seq = seq; name = name }) rest
front_parts {log} {name} {seq} f g h = let all = both (both f g) h in record { fits = all.fits; spelled = all.spelled }

pub front_entry : {old middle last rest : List ℕ} {log name : Key} {seq : ℕ}
    → IsFront IsKey key_bytes old log middle → IsFront IsWord word middle seq last → IsFront IsKey key_bytes last name rest
    → 1 ≤ seq → IsFront EntryFits vector_entry old (log, record { seq = seq; name = name }) rest
front_entry f g h some = let all = front_parts f g h in record { fits = (f.fits, some, g.fits, h.fits); spelled = all.spelled }

pub no_name : {old middle last : List ℕ} {log : Key} {seq : ℕ}
    → IsFront IsKey key_bytes old log middle → IsFront IsWord word middle seq last → HasNoFront IsKey key_bytes last
    → HasNoFront EntryFits vector_entry old
no_name f g absent = none_of_parts parts_of (λ e h. parts_fit e h) (λ e h. refl) (no_second (one_key ▷ one_word) (both f g) absent)

pub zero_seq : {old middle last rest : List ℕ} {log name : Key} {seq : ℕ}
    → IsFront IsKey key_bytes old log middle → IsFront IsWord word middle seq last → IsFront IsKey key_bytes last name rest
    → seq ≡ 0 → HasNoFront EntryFits vector_entry old
zero_seq f g h zero = only_misfit one_of_parts (front_parts f g h) parts_fit (λ fits. absurd (omega (arith, fits.1, zero)))
