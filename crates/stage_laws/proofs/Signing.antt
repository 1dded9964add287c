-- No leaf of any level signs two things: two signatures with the same leaves down to a level have the same signed by them.
use Rattle.std.proofs.Common.{◌≡◌, ◌⊎◌, inl, inr, ⊎_elim, ℕ, zero, suc, ◌≤◌, ◌<◌, Bool, true, false, List, [], ◌∷◌, length, map, take, refl, sym, ap, ◌∙◌, subst, arith}
use Rattle.std.specs.Prelude.{nat_lt}
use Rattle.std.proofs.lemmas.Bool.{ltb-true, ltb-false}
use Rattle.std.proofs.lemmas.List.{take_all}
use Rattle.hash_signature_model.specs.declared.set.Set.{Set}
use Rattle.hash_signature_model.specs.declared.keys.PrivateKey.{PrivateKey}
use Rattle.hash_signature_model.specs.Signer.{leaf_used, lower_key, tree_public}
use Rattle.hss_keys.specs.Signer.{leaves_used}
use Rattle.stage_laws.specs.Stands.{leaves_sign, signed_by_leaves}

-- the leaves alone
abbrev pub leaves_of : List (ℕ × List ℕ) → List ℕ
leaves_of signed = map (λ s. s.0) signed

le_or_less : (a b : ℕ) → (a ≤ b) ⊎ (b < a)
le_or_less a b = by (nat_lt b a) refl
  where
    by : (t : Bool) → nat_lt b a ≡ t → (a ≤ b) ⊎ (b < a)
    by true e = inr (ltb-true b a e)
    by false e = inl (ltb-false b a e)

same_leaf : (a b : ℕ) (xs ys : List ℕ) → (a ∷ xs) ≡ (b ∷ ys) → a ≡ b
same_leaf a b xs ys h = cc

same_rest : (a b : ℕ) (xs ys : List ℕ) → (a ∷ xs) ≡ (b ∷ ys) → xs ≡ ys
same_rest a b xs ys h = cc

-- ---- whole signatures

are_used : (key : PrivateKey) (lower : List Set) (n : ℕ) (message : List ℕ) → leaves_of (leaves_sign key lower n message) ≡ leaves_used (key.set ∷ lower) n
unfolding leaves_sign leaves_used
are_used key [] n message = refl
are_used key (set ∷ lower) n message = ap (λ leaves. leaf_used key.set (set ∷ lower) n ∷ leaves) (are_used (lower_key key (leaf_used key.set (set ∷ lower) n) set) lower n message)

as_many : (key : PrivateKey) (lower : List Set) (n : ℕ) (message : List ℕ) → length (leaves_sign key lower n message) ≡ suc (length lower)
unfolding leaves_sign
as_many key [] n message = refl
as_many key (set ∷ lower) n message = ap (λ count. suc count) (as_many (lower_key key (leaf_used key.set (set ∷ lower) n) set) lower n message)

whole : (key : PrivateKey) (lower : List Set) (n level : ℕ) (message : List ℕ) → length lower < level → take level (leaves_sign key lower n message) ≡ leaves_sign key lower n message
whole key lower n level message all = take_all level (leaves_sign key lower n message) (let count = as_many key lower n message in omega (arith, all, count))

-- ---- above the lowest level

-- what the leaf x above signs, and the levels below it
abbrev from_leaf : ℕ → PrivateKey → Set → List Set → ℕ → List ℕ → ℕ → List (ℕ × List ℕ)
from_leaf x key set lower n message level = (x, tree_public (lower_key key x set)) ∷ take level (leaves_sign (lower_key key x set) lower n message)

one_below : (level : ℕ) (key : PrivateKey) (set : Set) (lower : List Set) (n m x y : ℕ) (a b : List ℕ) → x ≡ y
    → (leaves_of (take level (leaves_sign (lower_key key y set) lower n a)) ≡ leaves_of (take level (leaves_sign (lower_key key y set) lower m b))
    → take level (leaves_sign (lower_key key y set) lower n a) ≡ take level (leaves_sign (lower_key key y set) lower m b))
    → leaves_of (take level (leaves_sign (lower_key key x set) lower n a)) ≡ leaves_of (take level (leaves_sign (lower_key key y set) lower m b))
    → from_leaf x key set lower n a level ≡ from_leaf y key set lower m b level
one_below level key set lower n m x y a b is below =
    subst (λ (z : ℕ). leaves_of (take level (leaves_sign (lower_key key z set) lower n a)) ≡ leaves_of (take level (leaves_sign (lower_key key y set) lower m b)) → from_leaf z key set lower n a level ≡ from_leaf y key set lower m b level) (sym is)
    (λ same. ap (λ (rest : List (ℕ × List ℕ)). (y, tree_public (lower_key key y set)) ∷ rest) (below same))

upper : (level : ℕ) (key : PrivateKey) (lower : List Set) (n m : ℕ) (a b : List ℕ) → level ≤ length lower
    → leaves_of (take level (leaves_sign key lower n a)) ≡ leaves_of (take level (leaves_sign key lower m b)) → take level (leaves_sign key lower n a) ≡ take level (leaves_sign key lower m b)
unfolding leaves_sign
upper zero key lower n m a b above same = refl
upper (suc level) key [] n m a b above same = absurd (omega (arith, above))
upper (suc level) key (set ∷ lower) n m a b above same =
    let x = leaf_used key.set (set ∷ lower) n in
    let y = leaf_used key.set (set ∷ lower) m in
    let xs = leaves_of (take level (leaves_sign (lower_key key x set) lower n a)) in
    let ys = leaves_of (take level (leaves_sign (lower_key key y set) lower m b)) in
    one_below level key set lower n m x y a b (same_leaf x y xs ys same)
    (λ h. upper level (lower_key key y set) lower n m a b (let less : level ≤ length lower = omega (arith, above) in less) h)
    (same_rest x y xs ys same)

-- ---- all levels

-- where the same leaves of all levels sign the same, those down to a level do
pub down_to : (id seed : List ℕ) (sets : List Set) (level n m : ℕ) (a b : List ℕ)
    → (leaves_used sets n ≡ leaves_used sets m → signed_by_leaves id seed sets n a ≡ signed_by_leaves id seed sets m b)
    → leaves_of (take level (signed_by_leaves id seed sets n a)) ≡ leaves_of (take level (signed_by_leaves id seed sets m b)) → take level (signed_by_leaves id seed sets n a) ≡ take level (signed_by_leaves id seed sets m b)
down_to id seed [] level n m a b all same = refl
down_to id seed (set ∷ lower) level n m a b all same = ⊎_elim (λ above. upper level key lower n m a b above same) at_all (le_or_less level (length lower))
  where
    key : PrivateKey
    key = record { set = set; id = id; seed = seed }

    at_all : length lower < level → take level (leaves_sign key lower n a) ≡ take level (leaves_sign key lower m b)
    at_all reaches =
        let one = whole key lower n level a reaches in
        let other = whole key lower m level b reaches in
        let leaves : leaves_used (set ∷ lower) n ≡ leaves_used (set ∷ lower) m = sym (are_used key lower n a) ∙ sym (ap leaves_of one) ∙ same ∙ ap leaves_of other ∙ are_used key lower m b in
        one ∙ all leaves ∙ sym other
