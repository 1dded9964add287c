-- What a signer signs is accepted under its public key.
use Rattle.std.proofs.Common.{◌≡◌, ℕ, ◌+◌, ◌*◌, ◌/◌, ◌%◌, ◌<◌, ◌≤◌, List, [], ◌∷◌, ◌++◌, length, refl, sym, ap, ◌∙◌, arith}
use Rattle.std.proofs.Math.Nat.{mod-lt, mod-eq_of_lt, mul-pos}
use Rattle.std.proofs.Math.Arith.{mod-mul}
use Rattle.std.proofs.lemmas.List.{length-take-le}
use Rattle.sha2.proofs.Facts256.{length-sha256}
use Rattle.hash_signature_model.specs.declared.set.Set.{Set}
use Rattle.hash_signature_model.specs.declared.keys.PrivateKey.{PrivateKey}
use Rattle.hash_signature_model.specs.Parameters.{leaves}
use Rattle.hash_signature_model.specs.OneTime.{derived}
use Rattle.hash_signature_model.proofs.Acceptance.{signature_accepted}
use Rattle.hash_signature_model.proofs.Paths.{leaves_some}
use Rattle.hss_keys.specs.Hss.{IsSigned, HssAccepts}
use Rattle.hash_signature_model.specs.Signer.{capacity, leaf_used, lower_key, leaf_signature, tree_public, signed_lower, signed_by, hss_key_of, hss_signature_of}
use Rattle.hss_keys.specs.Signer.{LowerPlace, leaves_used, NoLeafTwice, UpperLeafSignsOneKey}

-- ---- how many signatures

pub capacity_of_none : (sets : List Set) → length sets ≡ 0 → capacity sets ≡ 1
unfolding capacity
capacity_of_none [] e = refl
capacity_of_none (set ∷ lower) e = absurd (omega (arith, e))

pub capacity_of_more : (sets : List Set) (set : Set) (lower : List Set) (count below : ℕ) → sets ≡ set ∷ lower → count ≡ leaves set.h → below ≡ capacity lower → count * below ≡ capacity sets
unfolding capacity
capacity_of_more sets set lower count below s c b = rw (s, c, b) refl

pub capacity_some : (sets : List Set) → 0 < capacity sets
unfolding capacity
capacity_some [] = omega arith
capacity_some (set ∷ lower) = mul-pos (let some : 0 < leaves set.h = omega (arith, leaves_some set.h) in some) (capacity_some lower)

-- ---- what is signed is accepted

pub leaf_used_in_tree : (set : Set) (lower : List Set) (n : ℕ) → leaf_used set lower n < leaves set.h
leaf_used_in_tree set lower n = (let some : 0 < leaves set.h = omega (arith, leaves_some set.h) in mod-lt (n / capacity lower) some)

pub lower_id_length : (upper : PrivateKey) (leaf : ℕ) (set : Set) → length (lower_key upper leaf set).id ≡ 16
lower_id_length upper leaf set = let all : length (derived upper.id upper.seed leaf 0xffff) ≡ 32 = length-sha256 _ in length-take-le 16 (derived upper.id upper.seed leaf 0xffff) (omega (arith, all))

pub signed_accepted : (key : PrivateKey) (lower : List Set) (n : ℕ) (message : List ℕ) → length key.id ≡ 16 → IsSigned (length lower) (tree_public key) message (signed_by key lower n message)
unfolding signed_by
signed_accepted key [] n message id_length = signature_accepted key (leaf_used key.set [] n) message id_length (leaf_used_in_tree key.set [] n)
signed_accepted key (set ∷ lower) n message id_length =
    let leaf = leaf_used key.set (set ∷ lower) n in
    let below = lower_key key leaf set in (
      leaf_signature key leaf (tree_public below),
      tree_public below,
      signed_by below lower n message,
      refl,
      signature_accepted key leaf (tree_public below) id_length (leaf_used_in_tree key.set (set ∷ lower) n),
      signed_accepted below lower n message (lower_id_length key leaf set),
    )

pub hss_accepted : (id seed : List ℕ) (sets : List Set) (n : ℕ) (message : List ℕ) → length id ≡ 16 → 0 < length sets → length sets ≤ 3 → HssAccepts (hss_key_of id seed sets) message (hss_signature_of id seed sets n message)
hss_accepted id seed [] n message id_length some few = absurd (omega (arith, some))
hss_accepted id seed (set ∷ lower) n message id_length some few = record {
  between = length lower;
  top = tree_public (record { set = set; id = id; seed = seed });
  rest = signed_by (record { set = set; id = id; seed = seed }) lower n message;
  profile = omega (arith, few);
  key_is = refl;
  signature_is = refl;
  signed = signed_accepted (record { set = set; id = id; seed = seed }) lower n message id_length;
}

-- ---- what the code appends

pub signed_last : (key : PrivateKey) (n leaf : ℕ) (message bytes : List ℕ) → leaf ≡ leaf_used key.set [] n → bytes ≡ leaf_signature key leaf message → bytes ≡ signed_by key [] n message
unfolding signed_by
signed_last key n leaf message bytes l b = b ∙ ap (λ (q : ℕ). leaf_signature key q message) l

pub signed_more : (key : PrivateKey) (sets others : List Set) (set : Set) (n leaf : ℕ) (message : List ℕ) (place : LowerPlace) (below : PrivateKey) (signed : List ℕ) → sets ≡ set ∷ others → leaf ≡ leaf_used key.set sets n → place ≡ record { upper = key; leaf = leaf; set = set } → signed ≡ signed_lower place.upper place.leaf place.set → below ≡ lower_key place.upper place.leaf place.set → signed ++ signed_by below others n message ≡ signed_by key sets n message
unfolding signed_by
signed_more key sets others set n leaf message place below signed s l p g b =
    let first : signed ≡ signed_lower key leaf set = g ∙ ap (λ (x : LowerPlace). signed_lower x.upper x.leaf x.set) p in
    let next : below ≡ lower_key key leaf set = b ∙ ap (λ (x : LowerPlace). lower_key x.upper x.leaf x.set) p in
    let used : leaf ≡ leaf_used key.set (set ∷ others) n = l ∙ ap (λ (x : List Set). leaf_used key.set x n) s in
    ap (λ (x : List ℕ). x ++ signed_by below others n message) first
    ∙ ap (λ (x : PrivateKey). signed_lower key leaf set ++ signed_by x others n message) next
    ∙ ap (λ (q : ℕ). signed_lower key q set ++ signed_by (lower_key key q set) others n message) used
    ∙ ap (λ (x : List Set). signed_by key x n message) (sym s)

-- ---- no leaf signs twice

first_is : (a b : ℕ) (xs ys : List ℕ) → (a ∷ xs) ≡ (b ∷ ys) → a ≡ b
first_is a b xs ys e = cc

rest_is : (a b : ℕ) (xs ys : List ℕ) → (a ∷ xs) ≡ (b ∷ ys) → xs ≡ ys
rest_is a b xs ys e = cc

same_rest : (sets : List Set) (n m : ℕ) → leaves_used sets n ≡ leaves_used sets m → n % capacity sets ≡ m % capacity sets
unfolding leaves_used capacity
same_rest [] n m e = omega arith
same_rest (set ∷ lower) n m e =
    let c = capacity lower in
    let some : 0 < leaves set.h = omega (arith, leaves_some set.h) in
    let leaf = first_is (leaf_used set lower n) (leaf_used set lower m) (leaves_used lower n) (leaves_used lower m) e in
    let rest = same_rest lower n m (rest_is (leaf_used set lower n) (leaf_used set lower m) (leaves_used lower n) (leaves_used lower m) e) in
    mod-mul n some (capacity_some lower)
    ∙ (ap (λ (q : ℕ). q * c + n % c) leaf ∙ ap (λ (r : ℕ). leaf_used set lower m * c + r) rest)
    ∙ sym (mod-mul m some (capacity_some lower))

pub no_leaf_twice : NoLeafTwice
no_leaf_twice sets n m low below e = sym (mod-eq_of_lt low) ∙ same_rest sets n m e ∙ mod-eq_of_lt below

pub upper_leaf : UpperLeafSignsOneKey
unfolding signed_by
upper_leaf key set lower n m first second same = (
  signed_by (lower_key key (leaf_used key.set (set ∷ lower) n) set) lower n first,
  signed_by (lower_key key (leaf_used key.set (set ∷ lower) m) set) lower m second,
  refl,
  ap (λ (leaf : ℕ). signed_lower key leaf set ++ signed_by (lower_key key (leaf_used key.set (set ∷ lower) m) set) lower m second) (sym same),
)
