-- That saved bytes tell signers apart. `Signs` asks this of each kind of keys, so its proof stands here and not in proofs/.
use Rattle.std.proofs.Common.{◌≡◌, ℕ, ◌≤◌, List, [], ◌∷◌, length, refl, sym, ap, ◌∙◌, arith}
use Rattle.std.specs.List.{AllByRecursion}
use Rattle.std.proofs.lemmas.List.{append-nil}
use Rattle.std.proofs.lemmas.Nat.{mul-le}
use Rattle.wire_model.specs.Xdr.{array, IsAny}
use Rattle.wire_model.specs.OneReading.{ReadsOne, IsFront}
use Rattle.wire_model.proofs.OneReading.{◌▷◌, of_parts, of_length, of_fewer, one_array, one_double_word}
use Rattle.hash_signature_model.specs.declared.set.Width.{Width}
use Rattle.hash_signature_model.specs.declared.set.Width.TheVariants.{W4, W8}
use Rattle.hash_signature_model.specs.declared.set.Height.{Height}
use Rattle.hash_signature_model.specs.declared.set.Height.TheVariants.{H5, H10}
use Rattle.hash_signature_model.specs.declared.set.Set.{Set}
use Rattle.hash_signature_model.specs.Parameters.{leaves}
use Rattle.block_parts.proofs.OneParts.{one_block}
use Rattle.hash_signature_model.specs.Signer.{Signer, capacity}
use Rattle.hash_signature_model.specs.Saved.{set_bytes, saved_bytes, AreLevels, IsSigner}
use Rattle.hss_keys.specs.Saved.{SavedOnce}
use Rattle.hss_keys.specs.SavedReading.{width_bytes, height_bytes, secrets_bytes, AreSecrets, parts_bytes, AreParts}

-- ---- how many signatures

few_leaves : (h : Height) → leaves h ≤ 1024
few_leaves H5 = omega arith
few_leaves H10 = omega arith

at_most_none : (sets : List Set) → length sets ≤ 0 → capacity sets ≤ 1
unfolding capacity
at_most_none [] le = omega arith
at_most_none (set ∷ lower) le = absurd (omega (arith, le))

at_most_one : (sets : List Set) → length sets ≤ 1 → capacity sets ≤ 1024
unfolding capacity
at_most_one [] le = omega arith
at_most_one (set ∷ lower) le = mul-le (leaves set.h) (capacity lower) 1024 1 (few_leaves set.h) (at_most_none lower (omega (arith, le)))

at_most_two : (sets : List Set) → length sets ≤ 2 → capacity sets ≤ 1048576
unfolding capacity
at_most_two [] le = omega arith
at_most_two (set ∷ lower) le = mul-le (leaves set.h) (capacity lower) 1024 1024 (few_leaves set.h) (at_most_one lower (omega (arith, le)))

pub at_most_three : (sets : List Set) → length sets ≤ 3 → capacity sets ≤ 1073741824
unfolding capacity
at_most_three [] le = omega arith
at_most_three (set ∷ lower) le = mul-le (leaves set.h) (capacity lower) 1024 1048576 (few_leaves set.h)
    (at_most_two lower (omega (arith, le)))

-- ---- each part reads one way

one_width : ReadsOne IsAny width_bytes
one_width = of_length 4 (λ w f. refl) widths
  where
    widths : (x y : Width) → IsAny x → IsAny y → width_bytes x ≡ width_bytes y → x ≡ y
    widths W4 W4 f g e = refl
    widths W4 W8 f g e = cc
    widths W8 W4 f g e = cc
    widths W8 W8 f g e = refl

one_height : ReadsOne IsAny height_bytes
one_height = of_length 4 (λ h f. refl) heights
  where
    heights : (x y : Height) → IsAny x → IsAny y → height_bytes x ≡ height_bytes y → x ≡ y
    heights H5 H5 f g e = refl
    heights H5 H10 f g e = cc
    heights H10 H5 f g e = cc
    heights H10 H10 f g e = refl

abbrev set_of : Width × Height → Set
set_of p = record { w = p.0; h = p.1 }

abbrev parts_of_set : Set → Width × Height
parts_of_set set = (set.w, set.h)

pub one_set : ReadsOne IsAny set_bytes
one_set = of_parts parts_of_set (λ s f. (tt, tt)) (λ s. refl) (λ a b e. ap set_of e) (one_width ▷ one_height)

pub any_sets : (xs : List Set) → AllByRecursion IsAny xs
any_sets [] = tt
any_sets (x ∷ xs) = (tt, any_sets xs)

pub one_secrets : ReadsOne AreSecrets secrets_bytes
one_secrets = one_block 16 ▷ one_block 32

pub one_levels : ReadsOne AreLevels (array set_bytes)
one_levels = of_fewer (λ sets f. (omega (arith, f.few), any_sets sets)) (one_array one_set)

pub one_parts : ReadsOne AreParts parts_bytes
one_parts = one_secrets ▷ one_levels ▷ one_double_word

-- ---- the whole

abbrev signer_of : ((List ℕ × List ℕ) × List Set) × ℕ → Signer
signer_of p = record { id = p.0.0.0; seed = p.0.0.1; sets = p.0.1; made = p.1 }

fits_parts : (signer : Signer) → IsSigner signer → AreParts (((signer.id, signer.seed), signer.sets), signer.made)
fits_parts signer f = (((f.id, f.seed), f.sets), omega (arith, f.made, at_most_three signer.sets f.sets.few))

-- nothing is behind
pub all_of : (bytes : List ℕ) (signer : Signer) → IsSigner signer → bytes ≡ saved_bytes signer
    → IsFront AreParts parts_bytes bytes (((signer.id, signer.seed), signer.sets), signer.made) []
all_of bytes signer f e = record { fits = fits_parts signer f; spelled = e ∙ sym (append-nil (saved_bytes signer)) }

pub signers_told_apart : SavedOnce
signers_told_apart a b f g e =
    let h = all_of (saved_bytes a) a f refl in
    let k = all_of (saved_bytes a) b g e in
    ap (λ (p : ((List ℕ × List ℕ) × List Set) × ℕ). signer_of p)
    (one_parts.one (((a.id, a.seed), a.sets), a.made) (((b.id, b.seed), b.sets), b.made) [] [] h.fits k.fits
    (sym h.spelled ∙ k.spelled)).0
