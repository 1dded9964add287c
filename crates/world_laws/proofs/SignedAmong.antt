-- Heads among those that were signed once each, and blocks that posts make known.
use Rattle.std.proofs.Common.{◌≡◌, ◌⊎◌, inl, inr, ⊎_elim, ℕ, ◌<◌, ◌≤◌, Bool, true, false, cond, List, [], ◌∷◌, ◌++◌, map, refl, subst, Contains}
use Rattle.std.specs.Prelude.{fold}
use Rattle.std.specs.List.{list_any}
use Rattle.std.specs.Str.{bytes_eq}
use Rattle.std.proofs.lemmas.List.Elements.{Contains-append_cases}
use Rattle.log_model.proofs.Lists.{each, each_from, here, in_cons, in_nothing, there}
use Rattle.log_model.specs.Vector.{Stamp}
use Rattle.hash_signature_model.specs.Signer.{Signer}
use Rattle.world_model.specs.World.{meets}
use Rattle.world_laws.specs.Invariant.{AreSignedOnce, sealed_with}
use Rattle.world_laws.proofs.Lines.{meets_it, meets_more}
use Rattle.world_laws.proofs.SignedHeads.{from_map}

-- ---- blocks met one after the other

pub met_stays : (met blocks : List (List ℕ)) (b : List ℕ) → Contains met b → Contains (fold meets met blocks) b
met_stays met [] b h = h
met_stays met (x ∷ blocks) b h = met_stays (meets met x) blocks b (meets_more met x b h)

pub met_then : (met blocks : List (List ℕ)) (b : List ℕ) → Contains blocks b → Contains (fold meets met blocks) b
met_then met [] b h = absurd (in_nothing b h)
met_then met (x ∷ blocks) b h = ⊎_elim
    (λ e. met_stays (meets met x) blocks b (subst (Contains (meets met x)) e (meets_it met x)))
    (λ later. met_then (meets met x) blocks b later)
    (in_cons x blocks b h)

from_meets : (met : List (List ℕ)) (x b : List ℕ) → Contains (meets met x) b → Contains met b ⊎ (x ≡ b)
from_meets met x b h = by (list_any (bytes_eq x) met) h
  where
    by : (t : Bool) → Contains (cond t met (met ++ x ∷ [])) b → Contains met b ⊎ (x ≡ b)
    by true c = inl c
    by false c = ⊎_elim (λ old. inl old) (λ new. ⊎_elim (λ e. inr e) (λ none. absurd (in_nothing b none)) (in_cons x [] b new)) (Contains-append_cases met (x ∷ []) b c)

pub from_met : (met blocks : List (List ℕ)) (b : List ℕ) → Contains (fold meets met blocks) b → Contains met b ⊎ Contains blocks b
from_met met [] b h = inl h
from_met met (x ∷ blocks) b h = ⊎_elim
    (λ c. ⊎_elim (λ old. inl old) (λ e. inr (subst (Contains (x ∷ blocks)) e (here x blocks))) (from_meets met x b c))
    (λ c. inr (there x blocks b c))
    (from_met (meets met x) blocks b h)

-- ---- signed heads

module _ (signer : Signer) (made reach : ℕ) (heads : List (List ℕ)) (h : AreSignedOnce signer made reach heads) where
  record Chosen (less : List (List ℕ)) : Type 0 where
    signed : List (ℕ × Stamp)
    spelled : less ≡ map (sealed_with signer) signed
    among : (g : ℕ × Stamp) → Contains signed g → Contains h.signed g

  choose : (less : List (List ℕ)) → ((b : List ℕ) → Contains less b → Contains heads b) → Chosen less
  choose [] all = record { signed = []; spelled = refl; among = λ g c. absurd (in_nothing g c) }
  choose (b ∷ less) all =
      let found = from_map (sealed_with signer) h.signed b (subst (λ (l : List (List ℕ)). Contains l b) h.spelled (all b (here b less))) in
      let rest = choose less (λ c c_in. all c (there b less c c_in)) in
      record {
        signed = found.0 ∷ rest.signed;
        spelled = λ i. found.2 i ∷ rest.spelled i;
        among = λ g c. ⊎_elim (λ e. subst (Contains h.signed) e found.1) (λ later. rest.among g later) (in_cons found.0 rest.signed g c);
      }

  -- fewer of them are signed once each too
  pub fewer_signed_once : (less : List (List ℕ)) → ((b : List ℕ) → Contains less b → Contains heads b) → AreSignedOnce signer made reach less
  fewer_signed_once less all =
      let some = choose less all in
      record {
        signed = some.signed;
        spelled = some.spelled;
        below = each_from _ some.signed (λ g c. each (λ (x : ℕ × Stamp). (x.0 < made) × (x.1.seq ≤ reach)) h.signed g h.below (some.among g c));
        one_each = λ a b a_in b_in same. h.one_each a b (some.among a a_in) (some.among b b_in) same;
      }
