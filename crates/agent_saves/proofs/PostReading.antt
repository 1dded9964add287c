-- A post can be read in one way only, and where none can be read.
use Rattle.std.proofs.Common.{◌≡◌, ℕ, ◌<◌, ◌^◌, List, [], ◌∷◌, ◌++◌, length, refl, sym, ap, ◌∙◌, subst, arith}
use Rattle.std.specs.List.{AllByRecursion, flat_map}
use Rattle.ivy_base.specs.declared.key.Key.{Key}
use Rattle.wire_model.specs.Xdr.{opaque, AreSoMany, IsAny, IsUpTo}
use Rattle.wire_model.specs.OneReading.{ReadsOne, IsFront, HasNoFront}
use Rattle.wire_model.proofs.OneReading.{◌▷◌, of_parts, one_short_opaque, one_word}
use Rattle.wire_model.proofs.Fronts.{both, no_second}
use Rattle.wire_model.proofs.Dependent.{PartsOf, none_of_some}
use Rattle.wire_model.proofs.Arrays.{more_items, no_next}
use Rattle.log_model.specs.Spelling.{IsKey}
use Rattle.block_parts.specs.Parts.{key_bytes}
use Rattle.block_parts.proofs.OneParts.{one_key}
use Rattle.dht_ids.specs.declared.post.Post.{Post}
use Rattle.dht_ids.specs.declared.post.PostKind.{PostKind}
use Rattle.dht_ids.specs.declared.post.PostKind.TheVariants as kind
use Rattle.agent_model.specs.SavedBytes.{HasItsName, post_kind_number, post_bytes}
use Rattle.block_parts.specs.declared.fault.BlockFault.{BlockFault}
use Rattle.block_parts.specs.declared.fault.BlockFault.TheVariants.{Malformed, Memory}
use Rattle.agent_saves.specs.Parts.{IsPost, kind_bytes, most_counted}
use Rattle.agent_saves.specs.Refusals.{RefusesFront}

-- one part is refused as another one is
pub refused : {A B : Type 0} {Fits : A → Type 0} {spell : A → List ℕ} {Whole : B → Type 0} {written : B → List ℕ} {bytes middle : List ℕ}
    → (HasNoFront Fits spell middle → HasNoFront Whole written bytes) → (refusal : BlockFault) → RefusesFront Fits spell middle refusal → RefusesFront Whole written bytes refusal
refused absent Malformed f = absent f
refused absent Memory f = tt

-- ---- what a post is

small_number : (k : PostKind) → post_kind_number k < 2 ^ 32
small_number kind.Block = omega arith
small_number kind.Log = omega arith
small_number kind.Head = omega arith

told_kind : (k l : PostKind) → post_kind_number k ≡ post_kind_number l → k ≡ l
told_kind kind.Block kind.Block e = refl
told_kind kind.Block kind.Log e = cc
told_kind kind.Block kind.Head e = cc
told_kind kind.Log kind.Block e = cc
told_kind kind.Log kind.Log e = refl
told_kind kind.Log kind.Head e = cc
told_kind kind.Head kind.Block e = cc
told_kind kind.Head kind.Log e = cc
told_kind kind.Head kind.Head e = refl

pub one_kind : ReadsOne IsAny kind_bytes
one_kind = of_parts post_kind_number (λ k f. small_number k) (λ k. refl) told_kind one_word

pub one_counted : ReadsOne (IsUpTo most_counted) opaque
one_counted = one_short_opaque most_counted (omega arith)

-- ---- posts

abbrev PostParts : Type 0
PostParts = (PostKind × Key) × List ℕ

abbrev ArePostParts : PostParts → Type 0
ArePostParts p = (IsAny p.0.0 × IsKey p.0.1) × IsUpTo most_counted p.1

abbrev parts_bytes : PostParts → List ℕ
parts_bytes p = kind_bytes p.0.0 ++ key_bytes p.0.1 ++ opaque p.1

abbrev parts_of : Post → PostParts
parts_of p = ((p.kind, p.key), p.bytes)

abbrev of_parts_said : PostParts → Post
of_parts_said p = record { key = p.0.1; bytes = p.1; kind = p.0.0 }

parts_fit : (p : Post) → IsPost p → ArePostParts (parts_of p)
parts_fit p f = ((tt, f.0), omega (arith, f.2.0))

one_of_parts : ReadsOne ArePostParts parts_bytes
one_of_parts = one_kind ▷ one_key ▷ one_counted

pub one_post : ReadsOne IsPost post_bytes
one_post = of_parts parts_of parts_fit (λ p. refl) (λ p q e. ap of_parts_said e) one_of_parts

has_parts : (p : Post) → IsPost p → PartsOf ArePostParts parts_bytes (post_bytes p)
has_parts p f = record { part = parts_of p; fits = parts_fit p f; spelled = refl }

module _ {b0 b1 b2 : List ℕ} {k : PostKind} {key : Key} (f : IsFront IsAny kind_bytes b0 k b1) (g : IsFront IsKey key_bytes b1 key b2) where
  pub no_block : HasNoFront (IsUpTo most_counted) opaque b2 → HasNoFront IsPost post_bytes b0
  no_block absent = none_of_some has_parts (no_second (one_kind ▷ one_key) (both f g) absent)

  pub misnamed : {b3 : List ℕ} {block : List ℕ} → IsFront (IsUpTo most_counted) opaque b2 block b3 → (HasItsName (record { key = key; bytes = block; kind = k }) → ⊥) → HasNoFront IsPost post_bytes b0
  misnamed {b3} {block} h misfit = record {
    none = λ p rest i.
        let whole = both (both f g) h in
        let same : ((k, key), block) ≡ parts_of p = (one_of_parts.one ((k, key), block) (parts_of p) b3 rest whole.fits (parts_fit p i.fits) (sym whole.spelled ∙ i.spelled)).0 in
        misfit (subst (λ (q : PostParts). HasItsName (of_parts_said q)) (sym same) i.fits.1);
  }

-- ---- several

pub no_next_post : {count : ℕ} {start left : List ℕ} {done : List Post} → IsFront (AllByRecursion IsPost) (flat_map post_bytes) start done left → length done < count
    → HasNoFront IsPost post_bytes left → HasNoFront (AreSoMany IsPost count) (flat_map post_bytes) start
no_next_post f short absent = no_next one_post f short absent

pub more_posts : {start left rest : List ℕ} {done : List Post} {x : Post} → IsFront (AllByRecursion IsPost) (flat_map post_bytes) start done left → IsFront IsPost post_bytes left x rest
    → IsFront (AllByRecursion IsPost) (flat_map post_bytes) start (done ++ x ∷ []) rest
more_posts f g = more_items one_post f g
