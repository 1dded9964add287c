-- What a look-up and a kept block do to the pairs of a cache. For callers: what is found has its key as its name, and a
-- block that was kept is found.
use Rattle.std.proofs.Common.{◌≡◌, ℕ, zero, suc, ◌≤◌, ◌<◌, Bool, true, false, not, cond, List, [], ◌∷◌, length, take, Option, Some, None, refl, ap, ◌∙◌, subst, arith}
use Rattle.std.specs.List.{All, AllByRecursion, IsDistinct}
use Rattle.std.specs.Cmp.{IsEquivalence}
use Rattle.std.specs.Map.{keys_of}
use Rattle.std.specs.Option.{option_map_or}
use Rattle.std.proofs.ByRecursion.{All-take as rec_take}
use Rattle.std.proofs.lemmas.Cmp.{nat_list_eq_equiv}
use Rattle.std.proofs.lemmas.List.{length-take, take-map}
use Rattle.std.proofs.lemmas.List.Elements.{All-nil, All-cons, All-contains, All-filter, All-take}
use Rattle.std.proofs.lemmas.Map.Keys.{IsDistinct-cons}
use Rattle.std.proofs.lemmas.Map.Made.{IsDistinct-keys_filter}
use Rattle.std.proofs.lemmas.Slice.Eq.{bytes_eq-Decides}
use Rattle.ivy_base.specs.Naming.{name}
use Rattle.ivy_base.specs.declared.key.Key.{Key}
use Rattle.lru.proofs.CallerLemmas.{Contains-lookup}
use Rattle.dhash_model.specs.Cache.{keys_equal, block_of, others, moved_to_front, kept}
use Rattle.block_cache.specs.Blocks.{IsCache}

pub same_key_laws : IsEquivalence keys_equal
same_key_laws = record {
  refl = λ a. nat_list_eq_equiv.refl a.0;
  symm = λ a b. nat_list_eq_equiv.symm a.0 b.0;
  congr = λ a b c. nat_list_eq_equiv.congr a.0 b.0 c.0;
}

abbrev key_of : List ℕ → Key
key_of bytes = record { 0 = bytes }

-- equal keys are one key
pub one_key : (a b : Key) → keys_equal a b ≡ true → a ≡ b
one_key a b h = ap key_of ((bytes_eq-Decides a.0 b.0).0 h)

-- what is found has its key as its name
pub found_named : (key : Key) (block : List ℕ) (pairs : List (Key × List ℕ)) → IsCache pairs → block_of key pairs ≡ Some block → key ≡ name block
found_named key block pairs cache found =
    let there = Contains-lookup (keys_equal key) pairs block found in
    one_key key there.0 there.2 ∙ All-contains (λ pair. pair.0 ≡ name pair.1) pairs (there.0, block) cache.named there.1

-- a block that was kept is found
pub kept_found : (key : Key) (block : List ℕ) (pairs : List (Key × List ℕ)) → block_of key (kept key block pairs) ≡ Some block
kept_found key block pairs = rw (same_key_laws.refl key) refl

module _ (key : Key) where
  others_differ : (pairs : List (Key × List ℕ)) → AllByRecursion (λ k. keys_equal key k ≡ false) (keys_of (others key pairs))
  others_differ [] = tt
  others_differ (p ∷ ps) = by (keys_equal key p.0) refl (others_differ ps)
    where
      by : (b : Bool) → keys_equal key p.0 ≡ b → AllByRecursion (λ k. keys_equal key k ≡ false) (keys_of (others key ps))
          → AllByRecursion (λ k. keys_equal key k ≡ false) (keys_of (cond (not b) (p ∷ others key ps) (others key ps)))
      by true e rest = rest
      by false e rest = (e, rest)

  no_more : (pairs : List (Key × List ℕ)) → length (others key pairs) ≤ length pairs
  no_more [] = omega arith
  no_more (p ∷ ps) = by (keys_equal key p.0) (no_more ps)
    where
      by : (b : Bool) → length (others key ps) ≤ length ps → length (cond (not b) (p ∷ others key ps) (others key ps)) ≤ length (p ∷ ps)
      by true rest = omega (arith, rest)
      by false rest = omega (arith, rest)

  -- where the key is held, the others are fewer
  pub fewer : (block : List ℕ) (pairs : List (Key × List ℕ)) → block_of key pairs ≡ Some block → length (others key pairs) < length pairs
  fewer block [] h = cc
  fewer block (p ∷ ps) h = by (keys_equal key p.0) (fewer block ps) h
    where
      by : (b : Bool) → (block_of key ps ≡ Some block → length (others key ps) < length ps) → cond b (Some p.1) (block_of key ps) ≡ Some block
          → length (cond (not b) (p ∷ others key ps) (others key ps)) < length (p ∷ ps)
      by true rest h = omega (arith, no_more ps)
      by false rest h = omega (arith, rest h)

distinct_take : (n : ℕ) (keys : List Key) → IsDistinct keys_equal keys → IsDistinct keys_equal (take n keys)
unfolding IsDistinct
distinct_take zero keys d = tt
distinct_take (suc n) [] d = tt
distinct_take (suc n) (k ∷ ks) d = (rec_take (λ y. keys_equal k y ≡ false) n ks d.0, distinct_take n ks d.1)

-- the pair of a named block before the others of a cache, which may be one too many
module _ (key : Key) (block : List ℕ) (pairs : List (Key × List ℕ)) (named : key ≡ name block) (cache : IsCache pairs) where
  abbrev Named : Key × List ℕ → Type 0
  Named pair = pair.0 ≡ name pair.1

  all_named : All Named ((key, block) ∷ others key pairs)
  all_named = All-cons Named (key, block) (others key pairs) named (All-filter (λ pair. not (keys_equal key pair.0)) Named pairs cache.named)

  each_once : IsDistinct keys_equal (key ∷ keys_of (others key pairs))
  each_once = IsDistinct-cons keys_equal key (keys_of (others key pairs)) (others_differ key pairs) (IsDistinct-keys_filter keys_equal (λ pair. not (keys_equal key pair.0)) pairs cache.once)

  pub found_first : block_of key pairs ≡ Some block → IsCache ((key, block) ∷ others key pairs)
  found_first found = record { named = all_named; once = each_once; few = omega (arith, fewer key block pairs found, cache.few) }

  -- a cache is one after a block was kept
  pub kept_valid : IsCache (kept key block pairs)
  kept_valid = record {
    named = All-take Named 256 ((key, block) ∷ others key pairs) all_named;
    once = subst (IsDistinct keys_equal) (take-map (λ pair. pair.0) 256 ((key, block) ∷ others key pairs)) (distinct_take 256 (key ∷ keys_of (others key pairs)) each_once);
    few = omega (arith, length-take 256 ((key, block) ∷ others key pairs));
  }

-- a cache is one after a look-up
pub moved_valid : (key : Key) (pairs : List (Key × List ℕ)) → IsCache pairs → IsCache (moved_to_front key pairs)
moved_valid key pairs cache = by (block_of key pairs) refl
  where
    by : (held : Option (List ℕ)) → block_of key pairs ≡ held → IsCache (option_map_or (λ block. (key, block) ∷ others key pairs) held pairs)
    by None h = cache
    by (Some block) h = found_first key block pairs (found_named key block pairs cache h) cache h

-- the cache with no block
pub empty_valid : IsCache []
unfolding IsDistinct
empty_valid = record { named = All-nil (λ (pair : Key × List ℕ). pair.0 ≡ name pair.1); once = tt; few = omega arith }
