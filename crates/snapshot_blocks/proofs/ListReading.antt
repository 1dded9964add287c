-- Names in list blocks: as many as their count says, each of 20 bytes.
use Rattle.std.proofs.Common.{◌≡◌, ◌≢◌, ℕ, ◌^◌, ◌<◌, ◌≤◌, List, ◌++◌, length, refl, sym, ap, ◌∙◌, arith, append_assoc}
use Rattle.std.specs.List.{flat_map}
use Rattle.std.proofs.lemmas.List.{append_cancel_left}
use Rattle.ivy_base.specs.declared.key.Key.{Key}
use Rattle.wire_model.specs.Xdr.{word, array, IsAny, IsWord, AreSoMany}
use Rattle.wire_model.specs.OneReading.{IsFront, HasNoFront}
use Rattle.wire_model.proofs.OneReading.{one_word}
use Rattle.wire_model.proofs.Fronts.{both, no_first, no_second, none_of_fewer}
use Rattle.wire_model.proofs.Dependent.{PartsOf, none_of_some}
use Rattle.wire_model.proofs.Arrays.{AreFew, counted, no_count, too_many, no_counted}
use Rattle.log_model.specs.Spelling.{IsBlock}
use Rattle.block_parts.specs.Parts.{constant_bytes, as_it_stands, key_bytes}
use Rattle.block_parts.proofs.Blocks.{made_front, none_made}
use Rattle.block_parts.proofs.Constants.{one_constant}
use Rattle.block_parts.proofs.OneParts.{one_key}
use Rattle.snapshot_model.specs.Blocks.{AreNamed, list_block, names_tag}
use Rattle.snapshot_model.specs.Parts.{list_tag}
use Rattle.snapshot_blocks.specs.Parsed.{keys_of}

-- ---- the tag

pub no_magic : {bytes : List ℕ} (level : ℕ) → HasNoFront IsAny (constant_bytes names_tag) bytes → HasNoFront IsAny (constant_bytes (list_tag level)) bytes
no_magic level absent = record { none = λ u rest f. absent.none tt (word level ++ rest) (record { fits = tt; spelled = f.spelled }) }

module _ {b0 b1 : List ℕ} {u : Unit {0}} (level : ℕ) (f : IsFront IsAny (constant_bytes names_tag) b0 u b1) where
  behind_magic : (rest : List ℕ) → b0 ≡ names_tag ++ (word level ++ rest) → b1 ≡ word level ++ rest
  behind_magic rest e = append_cancel_left names_tag b1 (word level ++ rest) (sym f.spelled ∙ e)

  pub no_level : level < 2 ^ 32 → HasNoFront IsWord word b1 → HasNoFront IsAny (constant_bytes (list_tag level)) b0
  no_level few absent = record { none = λ v rest g. absent.none level rest (record { fits = few; spelled = behind_magic rest g.spelled }) }

  pub other_level : {b2 : List ℕ} {n : ℕ} → level < 2 ^ 32 → IsFront IsWord word b1 n b2 → n ≢ level → HasNoFront IsAny (constant_bytes (list_tag level)) b0
  other_level {b2} {n} few g differs = record { none = λ v rest h. differs (one_word.one n level b2 rest g.fits few (sym g.spelled ∙ behind_magic rest h.spelled)).0 }

  pub tag_front : {b2 : List ℕ} {n : ℕ} {v : Unit {0}} → IsFront IsWord word b1 n b2 → n ≡ level → IsFront IsAny (constant_bytes (list_tag level)) b0 v b2
  tag_front {b2} g same = record { fits = tt; spelled = f.spelled ∙ ap (λ (bytes : List ℕ). names_tag ++ bytes) (g.spelled ∙ ap (λ (k : ℕ). word k ++ b2) same) }

-- ---- the names

few_names : (keys : List Key) → AreNamed keys → AreFew one_key 512 keys
few_names keys f = (f.few, f.each)

pub no_count_of_names : {bytes : List ℕ} → HasNoFront IsWord word bytes → HasNoFront AreNamed (array key_bytes) bytes
no_count_of_names absent = none_of_fewer few_names (no_count one_key 512 (omega arith) absent)

pub too_many_names : {count : ℕ} {bytes middle : List ℕ} → IsFront IsWord word bytes count middle → 512 < count → HasNoFront AreNamed (array key_bytes) bytes
too_many_names f many = none_of_fewer few_names (too_many one_key 512 (omega arith) f many)

pub no_names : {count : ℕ} {bytes middle : List ℕ} → IsFront IsWord word bytes count middle → count ≡ 0 → HasNoFront AreNamed (array key_bytes) bytes
no_names {count = count} {middle = middle} f none = record {
  none = λ keys rest g.
      let e = sym f.spelled ∙ g.spelled ∙ append_assoc (word (length keys)) (flat_map key_bytes keys) rest in
      let p = one_word.one count (length keys) middle (flat_map key_bytes keys ++ rest) f.fits (omega (arith, g.fits.few)) e in
      omega (arith, p.0, g.fits.some, none);
}

pub names_front : {bytes middle rest : List ℕ} {count : ℕ} {each : List (List ℕ)} → IsFront IsWord word bytes count middle → IsFront (AreSoMany (IsBlock 20) count) (flat_map as_it_stands) middle each rest
    → 1 ≤ count → count ≤ 512 → IsFront AreNamed (array key_bytes) bytes (keys_of each) rest
names_front {each = each} f g some few =
    let keys = made_front key_bytes (λ bytes. record { 0 = bytes }) (λ bytes. refl) 20 g in
    let all = counted one_key f few (record { fits = keys.fits.each; spelled = keys.spelled }) keys.fits.size in
    record { fits = record { some = omega (arith, some, keys.fits.size); few = all.fits.0; each = all.fits.1 }; spelled = all.spelled }

-- without the bytes of so many keys there are no such names
pub no_item : {bytes middle : List ℕ} {count : ℕ} → IsFront IsWord word bytes count middle → HasNoFront (AreSoMany (IsBlock 20) count) (flat_map as_it_stands) middle → HasNoFront AreNamed (array key_bytes) bytes
no_item f absent = none_of_fewer few_names (no_counted one_key 512 (omega arith) f (none_made key_bytes (λ bytes. record { 0 = bytes }) (λ bytes. refl) 20 absent))

-- ---- the block

abbrev ListParts : Type 0
ListParts = Unit {0} × List Key

list_parts : (level : ℕ) (keys : List Key) → AreNamed keys
    → PartsOf {A = ListParts} (λ p. IsAny p.0 × AreNamed p.1) (λ p. constant_bytes (list_tag level) p.0 ++ array key_bytes p.1) (list_block level keys)
list_parts level keys f = record { part = (tt, keys); fits = (tt, f); spelled = refl }

pub no_tag : {b0 : List ℕ} (level : ℕ) → HasNoFront IsAny (constant_bytes (list_tag level)) b0 → HasNoFront AreNamed (list_block level) b0
no_tag level absent = none_of_some (list_parts level) (no_first AreNamed (array key_bytes) absent)

module _ {b0 b1 : List ℕ} {u : Unit {0}} (level : ℕ) (f : IsFront IsAny (constant_bytes (list_tag level)) b0 u b1) where
  pub no_names_behind : HasNoFront AreNamed (array key_bytes) b1 → HasNoFront AreNamed (list_block level) b0
  no_names_behind absent = none_of_some (list_parts level) (no_second (one_constant (list_tag level)) f absent)

  pub list_front : {b2 : List ℕ} {keys : List Key} → IsFront AreNamed (array key_bytes) b1 keys b2 → IsFront AreNamed (list_block level) b0 keys b2
  list_front g = let p = both f g in record { fits = g.fits; spelled = p.spelled }
