-- What a keeper's bytes say of the heads that its agent signed.
use Rattle.std.proofs.Common.{◌≡◌, ◌⊎◌, inl, inr, ⊎_elim, ℕ, ◌<◌, ◌≤◌, List, [], ◌∷◌, map, Some, sym, ◌∙◌, subst, arith, Contains}
use Rattle.log_model.specs.Vector.{Stamp}
use Rattle.log_model.proofs.Lists.{each, here, in_cons, in_nothing, there}
use Rattle.hash_signature_model.specs.Signer.{capacity}
use Rattle.hss_keys.specs.Signer.{leaves_used}
use Rattle.hss_keys.proofs.Signing.{no_leaf_twice}
use Rattle.world_model.specs.Agents.{IsHssKept, HssKept, hss_kept_bytes, own_reach}
use Rattle.world_model.specs.World.{Participant}
use Rattle.world_model.specs.Steps.{heads_by}
use Rattle.world_laws.specs.Invariant.{IsKeptSo, SignsOnce, sealed_with}
use Rattle.world_laws.specs.Laws.{HeadsAreSavedFirst, LeafSignsOnce}
use Rattle.world_laws.proofs.KeptBytes.{kept_once}

some_bytes : (a b : List ℕ) → Some a ≡ Some b → a ≡ b
some_bytes a b e = cc e

-- what holds of the one whose bytes the keeper holds holds of each that may be saved as those bytes
pub so_of : (Holds : Participant → HssKept → Type 0) (p : Participant) (k : HssKept) → IsKeptSo Holds p → IsHssKept k → p.keeper.kept ≡ Some (hss_kept_bytes k) → Holds p k
so_of Holds p k so whole held =
    subst (Holds p) (kept_once so.0 k so.1 whole (some_bytes (hss_kept_bytes so.0) (hss_kept_bytes k) (sym so.2 ∙ held))) so.3

-- an element of a mapped list
pub from_map : {A B : Type 0} (f : A → B) (xs : List A) (b : B) → Contains (map f xs) b → (a : A) × Contains xs a × (b ≡ f a)
from_map f [] b h = absurd (in_nothing b h)
from_map f (x ∷ xs) b h = ⊎_elim (λ is. (x, here x xs, sym is)) (λ later. let found = from_map f xs b later in (found.0, there x xs found.0 found.1, found.2)) (in_cons (f x) (map f xs) b h)

pub heads_are_saved_first : HeadsAreSavedFirst
heads_are_saved_first w p k bytes keeps is_in whole held pending =
    let signs : SignsOnce p k = so_of SignsOnce p k (each (IsKeptSo SignsOnce) w.0.participants p keeps.signs is_in) whole held in
    let left : Contains p.left bytes = each (Contains p.left) (heads_by p.agent.pending) bytes signs.pending pending in
    let found = from_map (sealed_with k.signer) signs.left.signed bytes (subst (λ (heads : List (List ℕ)). Contains heads bytes) signs.left.spelled left) in
    let below = each (λ (h : ℕ × Stamp). (h.0 < p.agent.signer.made) × (h.1.seq ≤ own_reach p.agent)) signs.left.signed found.0 signs.left.below found.1 in
    (found.0.0, found.0.1, found.2, omega (arith, below.0, signs.saved))

pub leaf_signs_once : LeafSignsOnce
leaf_signs_once w p k keeps is_in whole held = (record { held = held; whole = whole; signed = signs.left.signed; left = signs.left.spelled }, one)
  where
    signs : SignsOnce p k
    signs = so_of SignsOnce p k (each (IsKeptSo SignsOnce) w.0.participants p keeps.signs is_in) whole held

    below : (g : ℕ × Stamp) → Contains signs.left.signed g → g.0 < capacity k.signer.sets
    below g g_in =
        let first = each (λ (h : ℕ × Stamp). (h.0 < p.agent.signer.made) × (h.1.seq ≤ own_reach p.agent)) signs.left.signed g signs.left.below g_in in
        omega (arith, first.0, signs.saved, whole.signer.made)

    one : (g h : ℕ × Stamp) → Contains signs.left.signed g → Contains signs.left.signed h → (g.1.seq ≡ h.1.seq) ⊎ (leaves_used k.signer.sets g.0 ≡ leaves_used k.signer.sets h.0) → g ≡ h
    one g h g_in h_in (inl same) = signs.left.one_each g h g_in h_in (inr same)
    one g h g_in h_in (inr same) = signs.left.one_each g h g_in h_in (inl (no_leaf_twice k.signer.sets g.0 h.0 (below g g_in) (below h h_in) same))
