-- Where the parts of saved bytes can't be read.
use Rattle.std.proofs.Common.{◌≡◌, ℕ, List, [], ◌++◌, Option, sym, ap, ◌∙◌, arith}
use Rattle.std.specs.Prelude.{◌≢◌}
use Rattle.std.proofs.lemmas.List.{append-nil}
use Rattle.ivy_base.specs.declared.key.Key.{Key}
use Rattle.wire_model.specs.Xdr.{word, opaque, array, optional, IsAny, IsUpTo, IsWord}
use Rattle.wire_model.specs.OneReading.{ReadsOne, IsFront, HasNoFront}
use Rattle.wire_model.proofs.OneReading.{◌▷◌, one_array, one_optional, one_word, of_fewer}
use Rattle.wire_model.proofs.Fronts.{both, no_first, no_second}
use Rattle.log_model.specs.Spelling.{IsKey, vector_entry}
use Rattle.log_model.specs.Vector.{Vector}
use Rattle.log_model.specs.View.{View}
use Rattle.block_parts.specs.Parts.{constant_bytes, key_bytes, IsOptional}
use Rattle.block_parts.proofs.Constants.{one_constant}
use Rattle.version_vectors.specs.Reading.{ReadFault}
use Rattle.version_vectors.specs.Vectors.{VectorFits}
use Rattle.version_vectors.proofs.OneVector.{one_vector}
use Rattle.block_parts.proofs.OneParts.{one_key}
use Rattle.dht_ids.specs.declared.post.Post.{Post}
use Rattle.agent_model.specs.SavedBytes.{post_bytes, saved_tag}
use Rattle.block_parts.specs.declared.fault.BlockFault.{BlockFault}
use Rattle.block_parts.specs.declared.fault.BlockFault.TheVariants.{Malformed, Memory}
use Rattle.agent_saves.specs.Parts.{ArePosts, IsLegal, IsTold, Told, most_counted, told_bytes, view_part}
use Rattle.agent_saves.specs.Refusals.{AreOfNone, Refuses, RefusesFront}
use Rattle.agent_saves.proofs.PostReading.{one_counted, one_post}
use Rattle.agent_saves.proofs.ViewReading.{one_view}

pub one_floor : ReadsOne (VectorFits most_counted) (array vector_entry)
one_floor = one_vector most_counted (omega arith)

pub one_posts : ReadsOne ArePosts (array post_bytes)
one_posts = of_fewer (λ posts f. (omega (arith, f.0), f.1)) (one_array one_post)

pub one_told : ReadsOne IsTold told_bytes
one_told = one_constant saved_tag ▷ one_counted ▷ one_view ▷ one_word ▷ one_floor ▷ one_posts ▷ one_optional one_key

no_last : {A : Type 0} {F : A → Type 0} {spell : A → List ℕ} {bytes : List ℕ} → HasNoFront F spell bytes → HasNoFront {A = A × Option Key} (λ p. F p.0 × IsOptional IsKey p.1) (λ p. spell p.0 ++ optional key_bytes p.1) bytes
no_last absent = no_first (IsOptional IsKey) (optional key_bytes) absent

no_posts_after : {A : Type 0} {F : A → Type 0} {spell : A → List ℕ} {bytes : List ℕ} → HasNoFront F spell bytes
    → HasNoFront {A = (A × List Post) × Option Key} (λ p. (F p.0.0 × ArePosts p.0.1) × IsOptional IsKey p.1) (λ p. spell p.0.0 ++ array post_bytes p.0.1 ++ optional key_bytes p.1) bytes
no_posts_after absent = no_last (no_first ArePosts (array post_bytes) absent)

no_floor_after : {A : Type 0} {F : A → Type 0} {spell : A → List ℕ} {bytes : List ℕ} → HasNoFront F spell bytes
    → HasNoFront {A = ((A × Vector) × List Post) × Option Key} (λ p. ((F p.0.0.0 × VectorFits most_counted p.0.0.1) × ArePosts p.0.1) × IsOptional IsKey p.1)
    (λ p. spell p.0.0.0 ++ array vector_entry p.0.0.1 ++ array post_bytes p.0.1 ++ optional key_bytes p.1) bytes
no_floor_after absent = no_posts_after (no_first (VectorFits most_counted) (array vector_entry) absent)

without_view : {bytes : List ℕ} → HasNoFront {A = Unit {0} × List ℕ} (λ p. IsAny p.0 × IsUpTo most_counted p.1) (λ p. constant_bytes saved_tag p.0 ++ opaque p.1) bytes → HasNoFront IsTold told_bytes bytes
without_view absent = no_floor_after (no_first IsWord word (no_first (IsOptional IsLegal) view_part absent))

pub no_tag : {b0 : List ℕ} → HasNoFront IsAny (constant_bytes saved_tag) b0 → HasNoFront IsTold told_bytes b0
no_tag absent = without_view (no_first (IsUpTo most_counted) opaque absent)

module _ {b0 b1 : List ℕ} {u : Unit {0}} (f : IsFront IsAny (constant_bytes saved_tag) b0 u b1) where
  pub no_signer : HasNoFront (IsUpTo most_counted) opaque b1 → HasNoFront IsTold told_bytes b0
  no_signer absent = without_view (no_second (one_constant saved_tag) f absent)

  module _ {b2 signer : List ℕ} (g : IsFront (IsUpTo most_counted) opaque b1 signer b2) where
    pub no_view : HasNoFront (IsOptional IsLegal) view_part b2 → HasNoFront IsTold told_bytes b0
    no_view absent = no_floor_after (no_first IsWord word (no_second (one_constant saved_tag ▷ one_counted) (both f g) absent))

    module _ {b3 : List ℕ} {view : Option View} (h : IsFront (IsOptional IsLegal) view_part b2 view b3) where
      pub no_reach : HasNoFront IsWord word b3 → HasNoFront IsTold told_bytes b0
      no_reach absent = no_floor_after (no_second (one_constant saved_tag ▷ one_counted ▷ one_view) (both (both f g) h) absent)

      module _ {b4 : List ℕ} {reach : ℕ} (i : IsFront IsWord word b3 reach b4) where
        no_floor : HasNoFront (VectorFits most_counted) (array vector_entry) b4 → HasNoFront IsTold told_bytes b0
        no_floor absent = no_posts_after (no_second (one_constant saved_tag ▷ one_counted ▷ one_view ▷ one_word) (both (both (both f g) h) i) absent)

        pub refused_floor : (why : BlockFault) → ReadFault most_counted b4 why → RefusesFront IsTold told_bytes b0 why
        refused_floor Malformed absent = no_floor absent
        refused_floor Memory absent = tt

        module _ {b5 : List ℕ} {floor : Vector} (j : IsFront (VectorFits most_counted) (array vector_entry) b4 floor b5) where
          pub no_posts : HasNoFront ArePosts (array post_bytes) b5 → HasNoFront IsTold told_bytes b0
          no_posts absent = no_last (no_second (one_constant saved_tag ▷ one_counted ▷ one_view ▷ one_word ▷ one_floor) (both (both (both (both f g) h) i) j) absent)

          module _ {b6 : List ℕ} {posts : List Post} (k : IsFront ArePosts (array post_bytes) b5 posts b6) where
            pub no_name : HasNoFront (IsOptional IsKey) (optional key_bytes) b6 → HasNoFront IsTold told_bytes b0
            no_name absent = no_second (one_constant saved_tag ▷ one_counted ▷ one_view ▷ one_word ▷ one_floor ▷ one_posts) (both (both (both (both (both f g) h) i) j) k) absent

            pub told_front : {b7 : List ℕ} {name : Option Key} → IsFront (IsOptional IsKey) (optional key_bytes) b6 name b7
                → IsFront IsTold told_bytes b0 ((((((u, signer), view), reach), floor), posts), name) b7
            told_front l = both (both (both (both (both (both f g) h) i) j) k) l

-- ---- the whole

pub refused_whole : (bytes : List ℕ) (refusal : BlockFault) → RefusesFront IsTold told_bytes bytes refusal → Refuses IsTold told_bytes bytes refusal
refused_whole bytes Malformed = λ absent p fits e. absent.none p [] (record { fits = fits; spelled = e ∙ sym (append-nil (told_bytes p)) })
refused_whole bytes Memory = λ absent. tt

pub more_behind : {bytes rest : List ℕ} {p : Told} → IsFront IsTold told_bytes bytes p rest → rest ≢ [] → AreOfNone IsTold told_bytes bytes
more_behind {rest} {p} f more q fits e = more (one_told.one p q rest [] f.fits fits (sym f.spelled ∙ e ∙ sym (append-nil (told_bytes q)))).1

pub whole_bytes : {bytes rest : List ℕ} {p : Told} → IsFront IsTold told_bytes bytes p rest → rest ≡ [] → bytes ≡ told_bytes p
whole_bytes {p} f e = f.spelled ∙ ap (λ (s : List ℕ). told_bytes p ++ s) e ∙ append-nil (told_bytes p)
