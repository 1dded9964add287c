-- A word counts the saved bytes of each hierarchical signer.
use Rattle.std.proofs.Common.{◌≡◌, ℕ, ◌+◌, ◌*◌, ◌<◌, ◌^◌, List, [], ◌∷◌, ◌++◌, length, Option, Some, None, Result, Ok, Err, refl, arith, length-append}
use Rattle.std.specs.Prelude.{IfOk, MatchOption}
use Rattle.std.specs.List.{flat_map}
use Rattle.wire_model.specs.Xdr.{word, double_word, array}
use Rattle.hash_signature_model.specs.declared.set.Set.{Set}
use Rattle.hash_signature_model.specs.Saved.{IsSigner, hss, saved_bytes, set_bytes}
use Rattle.hash_signature_model.specs.Signer.{Signer}
use Rattle.agent_model.specs.Agent.{Kept}
use Rattle.agent_model.specs.SavedBytes.{IsKept}
use Rattle.agent_saves.specs.Saves.{AreSavedOf, AreSavedOfNone, IsCounted}

sets_length : (sets : List Set) → length (flat_map set_bytes sets) ≡ 8 * length sets
sets_length [] = refl
sets_length (set ∷ sets) = omega (arith, length-append (set_bytes set) (flat_map set_bytes sets), sets_length sets)

signer_short : (s : Signer) → IsSigner s → length (saved_bytes s) < 2 ^ 32
signer_short s f =
    let sets : length (array set_bytes s.sets) ≡ 4 + length (flat_map set_bytes s.sets) = length-append (word (length s.sets)) (flat_map set_bytes s.sets) in
    omega (
      arith,
      length-append ((s.id ++ s.seed) ++ array set_bytes s.sets) (double_word s.made),
      length-append (s.id ++ s.seed) (array set_bytes s.sets),
      length-append s.id s.seed,
      sets,
      sets_length s.sets,
      f.id.size,
      f.seed.size,
      f.sets.few,
    )

-- what may be saved of a hierarchical signer has bytes that are counted
pub counted : (k : Kept Signer) → IsKept hss IsSigner k → IsKept hss (IsCounted IsSigner saved_bytes) k
counted k f = record { signer = (f.signer, signer_short k.signer f.signer); some = f.some; few = f.few; floor = f.floor; view = f.view; posts = f.posts; snapshot = f.snapshot }

module _ (bytes : List ℕ) where
  pub of_none : AreSavedOfNone hss (IsCounted IsSigner saved_bytes) bytes → AreSavedOfNone hss IsSigner bytes
  of_none h k f e = h k (counted k f) e

  of_signer : (k : Kept Signer) → AreSavedOf hss (IsCounted IsSigner saved_bytes) bytes k → AreSavedOf hss IsSigner bytes k
  of_signer k h = record {
    kept = record { signer = h.kept.signer.0; some = h.kept.some; few = h.kept.few; floor = h.kept.floor; view = h.kept.view; posts = h.kept.posts; snapshot = h.kept.snapshot };
    spelled = h.spelled;
  }

  pub read_of_hss : {A E : Type 0} (kept : A → Kept Signer) (r : Result (Option A) E)
      → IfOk r (λ o. MatchOption o (AreSavedOfNone hss (IsCounted IsSigner saved_bytes) bytes) (λ s. AreSavedOf hss (IsCounted IsSigner saved_bytes) bytes (kept s)))
      → IfOk r (λ o. MatchOption o (AreSavedOfNone hss IsSigner bytes) (λ s. AreSavedOf hss IsSigner bytes (kept s)))
  read_of_hss kept (Ok None) h = of_none h
  read_of_hss kept (Ok (Some s)) h = of_signer (kept s) h
  read_of_hss kept (Err e) h = tt
