-- Signatures that use the same leaves from the top down to a level have the same keys signed down to there.
use Rattle.std.proofs.Common.{◌≡◌, ℕ, zero, suc, List, [], ◌∷◌, take, refl, sym, ap, subst}
use Rattle.hash_signature_model.specs.declared.set.Set.{Set}
use Rattle.hash_signature_model.specs.declared.keys.PrivateKey.{PrivateKey}
use Rattle.hash_signature_model.specs.Signer.{leaf_used, lower_key, signed_lower}
use Rattle.hss_keys.specs.Signer.{leaves_used}
use Rattle.world_laws.specs.Laws.{keys_signed, keys_by, UpperLeavesSignOnce}

same_leaf : (levels a b : ℕ) (xs ys : List ℕ) → take (suc levels) (a ∷ xs) ≡ take (suc levels) (b ∷ ys) → a ≡ b
same_leaf levels a b xs ys h = cc

same_rest : (levels a b : ℕ) (xs ys : List ℕ) → take (suc levels) (a ∷ xs) ≡ take (suc levels) (b ∷ ys) → take levels xs ≡ take levels ys
same_rest levels a b xs ys h = cc

below : (levels : ℕ) (key : PrivateKey) (set : Set) (lower : List Set) (n m a b : ℕ) → a ≡ b
    → take levels (keys_signed (lower_key key b set) lower n) ≡ take levels (keys_signed (lower_key key b set) lower m)
    → (signed_lower key a set ∷ take levels (keys_signed (lower_key key a set) lower n)) ≡ (signed_lower key b set ∷ take levels (keys_signed (lower_key key b set) lower m))
below levels key set lower n m a b e h =
    subst (λ (x : ℕ). (signed_lower key x set ∷ take levels (keys_signed (lower_key key x set) lower n)) ≡ (signed_lower key b set ∷ take levels (keys_signed (lower_key key b set) lower m))) (sym e)
    (ap (λ t. signed_lower key b set ∷ t) h)

signed_alike : (levels : ℕ) (key : PrivateKey) (lower : List Set) (n m : ℕ) → take levels (leaves_used (key.set ∷ lower) n) ≡ take levels (leaves_used (key.set ∷ lower) m)
    → take levels (keys_signed key lower n) ≡ take levels (keys_signed key lower m)
unfolding leaves_used
signed_alike zero key lower n m h = refl
signed_alike (suc levels) key [] n m h = refl
signed_alike (suc levels) key (set ∷ lower) n m h =
    let a = leaf_used key.set (set ∷ lower) n in
    let b = leaf_used key.set (set ∷ lower) m in
    below levels key set lower n m a b (same_leaf levels a b (leaves_used (set ∷ lower) n) (leaves_used (set ∷ lower) m) h)
    (signed_alike levels (lower_key key b set) lower n m (same_rest levels a b (leaves_used (set ∷ lower) n) (leaves_used (set ∷ lower) m) h))

by_sets : (id seed : List ℕ) (sets : List Set) (made n m levels : ℕ) → take levels (leaves_used sets n) ≡ take levels (leaves_used sets m)
    → take levels (keys_by (record { id = id; seed = seed; sets = sets; made = made }) n) ≡ take levels (keys_by (record { id = id; seed = seed; sets = sets; made = made }) m)
by_sets id seed [] made n m levels h = refl
by_sets id seed (set ∷ lower) made n m levels h = signed_alike levels (record { set = set; id = id; seed = seed }) lower n m h

pub upper_leaves_sign_once : UpperLeavesSignOnce
upper_leaves_sign_once signer n m levels h = by_sets signer.id signer.seed signer.sets signer.made n m levels h
