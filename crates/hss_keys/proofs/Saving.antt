-- The saved bytes of a signer, part by part.
use Rattle.std.proofs.Common.{◌≡◌, ℕ, ◌<◌, ◌≤◌, List, [], ◌++◌, length, sym, ◌∙◌, arith, append_assoc, subst}
use Rattle.std.specs.List.{AllByRecursion, flat_map}
use Rattle.std.proofs.lemmas.List.{append-nil}
use Rattle.wire_model.specs.Xdr.{word, double_word, array, IsWord, IsDoubleWord, IsAny, AreSoMany}
use Rattle.wire_model.specs.OneReading.{IsFront, HasNoFront}
use Rattle.wire_model.proofs.OneReading.{◌▷◌, one_word}
use Rattle.wire_model.proofs.Fronts.{both, no_first, no_second, none_of_fewer}
use Rattle.wire_model.proofs.Arrays.{AreFew, no_next, no_count, too_many, no_counted, counted}
use Rattle.block_parts.specs.Parts.{as_it_stands}
use Rattle.block_parts.proofs.OneParts.{one_block}
use Rattle.hash_signature_model.specs.declared.set.Set.{Set}
use Rattle.hash_signature_model.specs.Signer.{Signer, capacity}
use Rattle.hash_signature_model.specs.Saved.{set_bytes, saved_bytes, AreOctets, AreLevels, IsSigner}
use Rattle.hss_keys.specs.ToldApart.{one_set, any_sets, one_secrets, one_levels, one_parts, all_of}
use Rattle.hss_keys.specs.SavedReading.{secrets_bytes, AreSecrets, parts_bytes, AreParts}

-- ---- sets

levels_few : (sets : List Set) → AreLevels sets → AreFew one_set 3 sets
levels_few sets f = (f.few, any_sets sets)

pub no_next_set : {count : ℕ} {start left : List ℕ} {done : List Set} → IsFront (AllByRecursion IsAny) (flat_map set_bytes) start done left → length done < count
    → HasNoFront IsAny set_bytes left → HasNoFront (AreSoMany IsAny count) (flat_map set_bytes) start
no_next_set f short absent = no_next one_set f short absent

pub no_count_of_sets : {bytes : List ℕ} → HasNoFront IsWord word bytes → HasNoFront AreLevels (array set_bytes) bytes
no_count_of_sets absent = none_of_fewer levels_few (no_count one_set 3 (omega arith) absent)

pub too_many_sets : {count : ℕ} {bytes middle : List ℕ} → IsFront IsWord word bytes count middle → 3 < count → HasNoFront AreLevels (array set_bytes) bytes
too_many_sets f many = none_of_fewer levels_few (too_many one_set 3 (omega arith) f many)

pub no_counted_sets : {count : ℕ} {bytes middle : List ℕ} → IsFront IsWord word bytes count middle → HasNoFront (AreSoMany IsAny count) (flat_map set_bytes) middle → HasNoFront AreLevels (array set_bytes) bytes
no_counted_sets f absent = none_of_fewer levels_few (no_counted one_set 3 (omega arith) f absent)

pub no_sets : {count : ℕ} {bytes middle : List ℕ} → IsFront IsWord word bytes count middle → count ≡ 0 → HasNoFront AreLevels (array set_bytes) bytes
no_sets {count = count} {bytes = bytes} {middle = middle} f zero = record {
  none = λ sets rest g.
      let e = sym f.spelled ∙ g.spelled ∙ append_assoc (word (length sets)) (flat_map set_bytes sets) rest in
      let p = one_word.one count (length sets) middle (flat_map set_bytes sets ++ rest) f.fits (omega (arith, g.fits.few)) e in
      omega (arith, p.0, g.fits.some, zero);
}

pub sets_front : {count : ℕ} {bytes middle rest : List ℕ} {sets : List Set} → IsFront IsWord word bytes count middle → 0 < count → count ≤ 3
    → IsFront (AllByRecursion IsAny) (flat_map set_bytes) middle sets rest → length sets ≡ count → IsFront AreLevels (array set_bytes) bytes sets rest
sets_front f some few g size =
    let p = counted one_set f few g size in
    record { fits = record { some = omega (arith, some, size); few = p.fits.0 }; spelled = p.spelled }

-- ---- all parts

pub secrets_front : {bytes middle rest : List ℕ} {id seed : List ℕ} → IsFront (AreOctets 16) as_it_stands bytes id middle → IsFront (AreOctets 32) as_it_stands middle seed rest
    → IsFront AreSecrets secrets_bytes bytes (id, seed) rest
secrets_front f g = both f g

pub no_id : {bytes : List ℕ} → HasNoFront (AreOctets 16) as_it_stands bytes → HasNoFront AreSecrets secrets_bytes bytes
no_id absent = no_first (AreOctets 32) as_it_stands absent

pub no_seed : {bytes middle : List ℕ} {id : List ℕ} → IsFront (AreOctets 16) as_it_stands bytes id middle → HasNoFront (AreOctets 32) as_it_stands middle → HasNoFront AreSecrets secrets_bytes bytes
no_seed f absent = no_second (one_block 16) f absent

pub parts_front : {b0 b1 b2 b3 : List ℕ} {secrets : List ℕ × List ℕ} {sets : List Set} {made : ℕ} → IsFront AreSecrets secrets_bytes b0 secrets b1 → IsFront AreLevels (array set_bytes) b1 sets b2
    → IsFront IsDoubleWord double_word b2 made b3 → IsFront AreParts parts_bytes b0 ((secrets, sets), made) b3
parts_front f g h = both (both f g) h

pub no_secrets : {bytes : List ℕ} → HasNoFront AreSecrets secrets_bytes bytes → HasNoFront AreParts parts_bytes bytes
no_secrets absent = no_first IsDoubleWord double_word (no_first AreLevels (array set_bytes) absent)

pub no_levels : {b0 b1 : List ℕ} {secrets : List ℕ × List ℕ} → IsFront AreSecrets secrets_bytes b0 secrets b1 → HasNoFront AreLevels (array set_bytes) b1 → HasNoFront AreParts parts_bytes b0
no_levels f absent = no_first IsDoubleWord double_word (no_second one_secrets f absent)

pub no_made : {b0 b1 b2 : List ℕ} {secrets : List ℕ × List ℕ} {sets : List Set} → IsFront AreSecrets secrets_bytes b0 secrets b1 → IsFront AreLevels (array set_bytes) b1 sets b2
    → HasNoFront IsDoubleWord double_word b2 → HasNoFront AreParts parts_bytes b0
no_made f g absent = no_second (one_secrets ▷ one_levels) (both f g) absent

-- ---- the whole

pub no_signer_without : (bytes : List ℕ) → HasNoFront AreParts parts_bytes bytes → (signer : Signer) → IsSigner signer → bytes ≡ saved_bytes signer → ⊥
no_signer_without bytes absent signer f e = absent.none (((signer.id, signer.seed), signer.sets), signer.made) [] (all_of bytes signer f e)

pub no_signer_before : {bytes rest : List ℕ} {p : ((List ℕ × List ℕ) × List Set) × ℕ} → IsFront AreParts parts_bytes bytes p rest → (rest ≡ [] → ⊥) → (signer : Signer) → IsSigner signer → bytes ≡ saved_bytes signer → ⊥
no_signer_before {bytes = bytes} {rest = rest} {p = p} f more signer g e =
    let h = all_of bytes signer g e in
    more (one_parts.one p (((signer.id, signer.seed), signer.sets), signer.made) rest [] f.fits h.fits (sym f.spelled ∙ h.spelled)).1

pub no_signer_above : {bytes : List ℕ} {id seed : List ℕ} {sets : List Set} {made : ℕ} → IsFront AreParts parts_bytes bytes (((id, seed), sets), made) [] → (made ≤ capacity sets → ⊥)
    → (signer : Signer) → IsSigner signer → bytes ≡ saved_bytes signer → ⊥
no_signer_above {bytes = bytes} {id = id} {seed = seed} {sets = sets} {made = made} f above signer g e =
    let h = all_of bytes signer g e in
    let same = (one_parts.one (((id, seed), sets), made) (((signer.id, signer.seed), signer.sets), signer.made) [] [] f.fits h.fits (sym f.spelled ∙ h.spelled)).0 in
    above (subst (λ (p : ((List ℕ × List ℕ) × List Set) × ℕ). p.1 ≤ capacity p.0.1) (sym same) g.made)

pub a_signer : {bytes : List ℕ} {id seed : List ℕ} {sets : List Set} {made : ℕ} → IsFront AreParts parts_bytes bytes (((id, seed), sets), made) [] → made ≤ capacity sets
    → IsSigner (record { id = id; seed = seed; sets = sets; made = made }) × (bytes ≡ saved_bytes (record { id = id; seed = seed; sets = sets; made = made }))
a_signer {id = id} {seed = seed} {sets = sets} {made = made} f few = (
  record { id = f.fits.0.0.0; seed = f.fits.0.0.1; sets = f.fits.0.1; made = few },
  f.spelled ∙ append-nil (saved_bytes (record { id = id; seed = seed; sets = sets; made = made })),
)
