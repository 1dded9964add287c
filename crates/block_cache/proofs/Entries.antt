-- The entries of the map that a cache is made of, and the pairs that contracts see.
use Rattle.std.proofs.Common.{◌≡◌, ℕ, ◌≤◌, Bool, true, false, not, cond, List, [], ◌∷◌, map, length, take, Option, Some, None, refl, sym, ap, ◌∙◌, subst, arith, Result, Ok, Err, OnOk, OnErr, MatchBool}
use Rattle.std.specs.List.{IsDistinct}
use Rattle.std.specs.Map.{keys_of, lookup, lookup_entry, remove_entry}
use Rattle.std.specs.Option.{option_map, option_map_or}
use Rattle.std.specs.Result.{is_ok}
use Rattle.std.specs.Str.{bytes_eq}
use Rattle.std.proofs.lemmas.List.{take_all, take-map}
use Rattle.std.proofs.lemmas.Map.{NonePasses}
use Rattle.std.proofs.lemmas.Map.Entries.{none_past_head}
use Rattle.std.proofs.lemmas.Map.Keys.{IsDistinct-tail}
use Rattle.ivy_base.specs.Naming.{name}
use Rattle.ivy_base.specs.declared.key.Key.{Key}
use Rattle.lru.specs.LruCache.{LruCache, lru_cache, promoted, put_entries}
use Rattle.lru.proofs.CallerLemmas.{Contains-lookup_entry}
use Rattle.lru.proofs.Pairs.{lookup-lookup_entry}
use Rattle.dhash_model.specs.Cache.{keys_equal, block_of, others, moved_to_front, kept}
use Rattle.block_cache.specs.Blocks.{IsCache, pair_of}
use Rattle.block_cache.proofs.Pairs.{same_key_laws, one_key, fewer, kept_valid, moved_valid}

module _ (key : Key) where
  abbrev pub is_key : List ℕ → Bool
  is_key = bytes_eq key.0

  pub block_held : (es : List (List ℕ × List ℕ)) → block_of key (map pair_of es) ≡ lookup is_key es
  block_held [] = refl
  block_held (e ∷ es) = by (is_key e.0) (block_held es)
    where
      by : (b : Bool) → block_of key (map pair_of es) ≡ lookup is_key es → cond b (Some e.1) (block_of key (map pair_of es)) ≡ cond b (Some e.1) (lookup is_key es)
      by true rest = refl
      by false rest = rest

  all_others : (pairs : List (Key × List ℕ)) → NonePasses (keys_equal key) pairs → others key pairs ≡ pairs
  all_others [] h = refl
  all_others (p ∷ ps) h = rw h.0 (ap (λ l. p ∷ l) (all_others ps h.1))

  none_removed : (es : List (List ℕ × List ℕ)) → lookup_entry is_key es ≡ None → remove_entry is_key es ≡ es
  none_removed [] h = refl
  none_removed (e ∷ es) h = by (is_key e.0) (none_removed es) h
    where
      by : (b : Bool) → (lookup_entry is_key es ≡ None → remove_entry is_key es ≡ es) → cond b (Some e) (lookup_entry is_key es) ≡ None → cond b es (e ∷ remove_entry is_key es) ≡ e ∷ es
      by true rest h = cc
      by false rest h = ap (λ l. e ∷ l) (rest h)

  -- as each key stands once, those that stay when the first is removed are the others
  removed : (es : List (List ℕ × List ℕ)) → IsDistinct keys_equal (keys_of (map pair_of es)) → map pair_of (remove_entry is_key es) ≡ others key (map pair_of es)
  removed [] d = refl
  removed (e ∷ es) d = by (is_key e.0) refl (removed es (IsDistinct-tail keys_equal (pair_of e).0 (keys_of (map pair_of es)) d))
    where
      by : (b : Bool) → is_key e.0 ≡ b → map pair_of (remove_entry is_key es) ≡ others key (map pair_of es)
          → map pair_of (cond b es (e ∷ remove_entry is_key es)) ≡ cond (not b) (pair_of e ∷ others key (map pair_of es)) (others key (map pair_of es))
      by true t rest = sym (all_others (map pair_of es) (none_past_head same_key_laws key (pair_of e) (map pair_of es) d t))
      by false t rest = ap (λ l. pair_of e ∷ l) rest

  module _ (es : List (List ℕ × List ℕ)) (cache : IsCache (map pair_of es)) where
    held_as : (o : Option (List ℕ × List ℕ)) → lookup_entry is_key es ≡ o → block_of key (map pair_of es) ≡ option_map (λ e. e.1) o
    held_as o h = block_held es ∙ (sym (lookup-lookup_entry is_key es) ∙ ap (option_map (λ (e : List ℕ × List ℕ). e.1)) h)

    same_pair : (e : List ℕ × List ℕ) (block : List ℕ) → lookup_entry is_key es ≡ Some e
        → pair_of (e.0, block) ∷ map pair_of (remove_entry is_key es) ≡ (key, block) ∷ others key (map pair_of es)
    same_pair e block h =
        let same = one_key key (pair_of e).0 (Contains-lookup_entry is_key es e h).1 in
        (λ i. (sym same i, block) ∷ removed es cache.once i)

    -- a promoted entry is a pair that was moved to the front
    pub moved_entries : map pair_of (promoted is_key es) ≡ moved_to_front key (map pair_of es)
    moved_entries = by (lookup_entry is_key es) refl
      where
        moved_as : (o : Option (List ℕ × List ℕ)) → lookup_entry is_key es ≡ o
            → moved_to_front key (map pair_of es) ≡ option_map_or (λ block. (key, block) ∷ others key (map pair_of es)) (option_map (λ e. e.1) o) (map pair_of es)
        moved_as o h = ap (λ (held : Option (List ℕ)). option_map_or (λ block. (key, block) ∷ others key (map pair_of es)) held (map pair_of es)) (held_as o h)

        by : (o : Option (List ℕ × List ℕ)) → lookup_entry is_key es ≡ o → map pair_of (option_map_or (λ e. e ∷ remove_entry is_key es) o es) ≡ moved_to_front key (map pair_of es)
        by None h = sym (moved_as None h)
        by (Some e) h = same_pair e e.1 h ∙ sym (moved_as (Some e) h)

    pub promoted_valid : IsCache (map pair_of (promoted is_key es))
    promoted_valid = subst IsCache (sym moved_entries) (moved_valid key (map pair_of es) cache)

    -- an entry that was put is a block that was kept
    pub kept_entries : (block : List ℕ) → map pair_of (put_entries bytes_eq (lru_cache es 256) key.0 block) ≡ kept key block (map pair_of es)
    kept_entries block = by (lookup_entry is_key es) refl
      where
        by : (o : Option (List ℕ × List ℕ)) → lookup_entry is_key es ≡ o
            → map pair_of (option_map_or (λ e. (e.0, block) ∷ remove_entry is_key es) o ((key.0, block) ∷ take 255 es)) ≡ kept key block (map pair_of es)
        by None h =
            let all : others key (map pair_of es) ≡ map pair_of es = sym (removed es cache.once) ∙ ap (map pair_of) (none_removed es h) in
            ap (λ l. (key, block) ∷ l) (sym (take-map pair_of 255 es) ∙ ap (take 255) (sym all))
        by (Some e) h =
            let fits : length (others key (map pair_of es)) ≤ 255 = omega (arith, fewer key e.1 (map pair_of es) (held_as (Some e) h), cache.few) in
            same_pair e block h ∙ ap (λ l. (key, block) ∷ l) (sym (take_all 255 (others key (map pair_of es)) fits))

module _ (c d : LruCache (List ℕ) (List ℕ)) (key : Key) (block : List ℕ) (valid : (c.cap ≡ 256) × IsCache (map pair_of c.entries)) (named : key ≡ name block) where
  abbrev IsPut : Type 0
  IsPut = d ≡ lru_cache (put_entries bytes_eq c key.0 block) c.cap

  put_pairs : IsPut → map pair_of d.entries ≡ kept key block (map pair_of c.entries)
  put_pairs done = ap (λ (m : LruCache (List ℕ) (List ℕ)). map pair_of m.entries) done
      ∙ (ap (λ n. map pair_of (put_entries bytes_eq (lru_cache c.entries n) key.0 block)) valid.0 ∙ kept_entries key c.entries valid.1 block)

  -- what a put does, whatever it answers
  pub kept_answer : {T E : Type 0} (r : Result T E) → OnOk r IsPut → OnErr r (d ≡ c)
      → MatchBool (is_ok r) (map pair_of d.entries ≡ kept key block (map pair_of c.entries)) (map pair_of d.entries ≡ map pair_of c.entries)
  kept_answer (Ok x) done failed = put_pairs done
  kept_answer (Err x) done failed = ap (λ (m : LruCache (List ℕ) (List ℕ)). map pair_of m.entries) failed

  pub valid_after : {T E : Type 0} (r : Result T E) → OnOk r IsPut → OnErr r (d ≡ c) → (d.cap ≡ 256) × IsCache (map pair_of d.entries)
  valid_after (Ok x) done failed =
      (ap (λ (m : LruCache (List ℕ) (List ℕ)). m.cap) done ∙ valid.0, subst IsCache (sym (put_pairs done)) (kept_valid key block (map pair_of c.entries) named valid.1))
  valid_after (Err x) done failed = subst (λ (m : LruCache (List ℕ) (List ℕ)). (m.cap ≡ 256) × IsCache (map pair_of m.entries)) (sym failed) valid
