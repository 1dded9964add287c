-- Where the parts of a block can't be read.
use Rattle.std.proofs.Common.{◌≡◌, ℕ, Bool, true, List, ◌++◌, refl, sym, ap, ◌∙◌, arith}
use Rattle.std.specs.Prelude.{IsTrue, ◌↔◌}
use Rattle.std.specs.Str.{bytes_eq}
use Rattle.std.proofs.lemmas.Slice.Eq.{bytes_eq-Decides}
use Rattle.ivy_base.specs.declared.key.Key.{Key}
use Rattle.ivy_base.specs.declared.operation.Moment.{Moment}
use Rattle.tree_model.specs.Tree.{Attributes}
use Rattle.wire_model.specs.Xdr.{word, moment, IsWord}
use Rattle.wire_model.specs.OneReading.{ReadsOne, IsFront, HasNoFront}
use Rattle.wire_model.proofs.OneReading.{◌▷◌, one_word}
use Rattle.wire_model.proofs.Fronts.{both, no_first, no_second, front_of_parts}
use Rattle.wire_model.proofs.Dependent.{PartsOf, none_of_some}
use Rattle.log_model.specs.Spelling.{IsKey, IsMoment, no_name}
use Rattle.snapshot_model.specs.Blocks.{NamedList, IsListed, listed_bytes, AreAttributes, attributes_bytes}
use Rattle.block_parts.specs.Parts.{key_bytes, IsAtMost}
use Rattle.block_parts.proofs.OneParts.{one_at_most, one_key, one_time}
use Rattle.block_parts.proofs.Tested.{same_key}
use Rattle.snapshot_model.proofs.OneBlock.{AttributeParts, attribute_parts, of_attribute_parts}

-- ---- attributes

abbrev HasParts : AttributeParts → Type 0
HasParts p = ((((IsAtMost 4095 p.0.0.0.0.0 × IsWord p.0.0.0.0.1) × IsWord p.0.0.0.1) × IsMoment p.0.0.1) × IsMoment p.0.1) × IsMoment p.1

abbrev parts_bytes : AttributeParts → List ℕ
parts_bytes p = word p.0.0.0.0.0 ++ word p.0.0.0.0.1 ++ word p.0.0.0.1 ++ moment p.0.0.1 ++ moment p.0.1 ++ moment p.1

parts_of : (a : Attributes) → AreAttributes a → PartsOf HasParts parts_bytes (attributes_bytes a)
parts_of a f = record { part = attribute_parts a; fits = (((((f.mode, f.uid), f.gid), f.atime), f.mtime), f.ctime); spelled = refl }

one_mode : ReadsOne (IsAtMost 4095) word
one_mode = one_at_most 4095 (omega arith)

without_times : {bytes : List ℕ} → HasNoFront {A = (ℕ × ℕ) × ℕ} (λ p. (IsAtMost 4095 p.0.0 × IsWord p.0.1) × IsWord p.1) (λ p. word p.0.0 ++ word p.0.1 ++ word p.1) bytes → HasNoFront AreAttributes attributes_bytes bytes
without_times absent = none_of_some parts_of (no_first IsMoment moment (no_first IsMoment moment (no_first IsMoment moment absent)))

pub no_mode : {b0 : List ℕ} → HasNoFront (IsAtMost 4095) word b0 → HasNoFront AreAttributes attributes_bytes b0
no_mode absent = without_times (no_first IsWord word (no_first IsWord word absent))

module _ {b0 b1 : List ℕ} {mode : ℕ} (f : IsFront (IsAtMost 4095) word b0 mode b1) where
  pub no_uid : HasNoFront IsWord word b1 → HasNoFront AreAttributes attributes_bytes b0
  no_uid absent = without_times (no_first IsWord word (no_second one_mode f absent))

  module _ {b2 : List ℕ} {uid : ℕ} (g : IsFront IsWord word b1 uid b2) where
    pub no_gid : HasNoFront IsWord word b2 → HasNoFront AreAttributes attributes_bytes b0
    no_gid absent = without_times (no_second (one_mode ▷ one_word) (both f g) absent)

    module _ {b3 : List ℕ} {gid : ℕ} (h : IsFront IsWord word b2 gid b3) where
      pub no_atime : HasNoFront IsMoment moment b3 → HasNoFront AreAttributes attributes_bytes b0
      no_atime absent = none_of_some parts_of (no_first IsMoment moment (no_first IsMoment moment (no_second (one_mode ▷ one_word ▷ one_word) (both (both f g) h) absent)))

      module _ {b4 : List ℕ} {atime : Moment} (i : IsFront IsMoment moment b3 atime b4) where
        pub no_mtime : HasNoFront IsMoment moment b4 → HasNoFront AreAttributes attributes_bytes b0
        no_mtime absent = none_of_some parts_of (no_first IsMoment moment (no_second (one_mode ▷ one_word ▷ one_word ▷ one_time) (both (both (both f g) h) i) absent))

        module _ {b5 : List ℕ} {mtime : Moment} (j : IsFront IsMoment moment b4 mtime b5) where
          pub no_ctime : HasNoFront IsMoment moment b5 → HasNoFront AreAttributes attributes_bytes b0
          no_ctime absent = none_of_some parts_of (no_second (one_mode ▷ one_word ▷ one_word ▷ one_time ▷ one_time) (both (both (both (both f g) h) i) j) absent)

          pub attributes_front : {b6 : List ℕ} {ctime : Moment} → IsFront IsMoment moment b5 ctime b6
              → IsFront AreAttributes attributes_bytes b0 (record { mode = mode; uid = uid; gid = gid; atime = atime; mtime = mtime; ctime = ctime }) b6
          attributes_front k = front_of_parts (λ (p : AttributeParts). of_attribute_parts p)
              (record { mode = f.fits; uid = g.fits; gid = h.fits; atime = i.fits; mtime = j.fits; ctime = k.fits }) refl (both (both (both (both (both f g) h) i) j) k)

-- ---- lists

abbrev ListedParts : Type 0
ListedParts = ℕ × Key

abbrev HasListed : ListedParts → Type 0
HasListed p = IsAtMost 3 p.0 × IsKey p.1

abbrev listed_parts_bytes : ListedParts → List ℕ
listed_parts_bytes p = word p.0 ++ key_bytes p.1

listed_parts : (l : NamedList) → IsListed 3 l → PartsOf HasListed listed_parts_bytes (listed_bytes l)
listed_parts l f = record { part = (l.level, l.top); fits = (f.few, f.top); spelled = refl }

pub no_level : {b0 : List ℕ} → HasNoFront (IsAtMost 3) word b0 → HasNoFront (IsListed 3) listed_bytes b0
no_level absent = none_of_some listed_parts (no_first IsKey key_bytes absent)

one_level : ReadsOne (IsAtMost 3) word
one_level = one_at_most 3 (omega arith)

module _ {b0 b1 : List ℕ} {level : ℕ} (f : IsFront (IsAtMost 3) word b0 level b1) where
  pub no_top : HasNoFront IsKey key_bytes b1 → HasNoFront (IsListed 3) listed_bytes b0
  no_top absent = none_of_some listed_parts (no_second one_level f absent)

  module _ {b2 : List ℕ} {top : Key} (g : IsFront IsKey key_bytes b1 top b2) where
    pub listed_front : (level ≡ 0 → top ≡ no_name) → IsFront (IsListed 3) listed_bytes b0 (record { level = level; top = top }) b2
    listed_front none = front_of_parts (λ (p : ListedParts). record { level = p.0; top = p.1 }) (record { few = f.fits; top = g.fits; none = none }) refl (both f g)

    pub no_listed : ((level ≡ 0 → top ≡ no_name) → ⊥) → HasNoFront (IsListed 3) listed_bytes b0
    no_listed differs = record {
      none = λ l rest h.
          let p = (one_level ▷ one_key).one (level, top) (l.level, l.top) b2 rest (f.fits, g.fits) (h.fits.few, h.fits.top) (sym (both f g).spelled ∙ h.spelled) in
          let levels : level ≡ l.level = ap (λ (q : ListedParts). q.0) p.0 in
          let tops : top ≡ l.top = ap (λ (q : ListedParts). q.1) p.0 in
          differs (λ zero. tops ∙ h.fits.none (sym levels ∙ zero));
    }

pub with_a_level : (level : ℕ) (top : Key) (b : Bool) → (level ≡ 0 → ⊥) → b ≡ true → IsTrue b ↔ (level ≡ 0 → top ≡ no_name)
with_a_level level top b some t = (λ h zero. absurd (some zero), λ h. t)

pub without_a_level : (level : ℕ) (top : Key) (b : Bool) → level ≡ 0 → b ≡ bytes_eq top.0 no_name.0 → IsTrue b ↔ (level ≡ 0 → top ≡ no_name)
without_a_level level top b zero is =
    (λ h z. same_key top no_name ((bytes_eq-Decides top.0 no_name.0).0 (sym is ∙ h)), λ h. is ∙ (bytes_eq-Decides top.0 no_name.0).1 (ap (λ (k : Key). k.0) (h zero)))
