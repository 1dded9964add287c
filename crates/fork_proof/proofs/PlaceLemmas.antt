-- Where a block is found, and what one more changes.
use Rattle.std.proofs.Common.{◌≡◌, ℕ, suc, ◌+◌, ◌<◌, Bool, true, false, cond, List, [], ◌∷◌, ◌++◌, length, take, get_or, Option, Some, None, is_some, option_map, refl, sym, ap, ◌∙◌, subst, arith}
use Rattle.std.specs.Map.{lookup}
use Rattle.std.specs.Option.{IfSome, option_or}
use Rattle.std.proofs.Math.Seq.{take-suc}
use Rattle.std.proofs.lemmas.List.{length-take-le}
use Rattle.ivy_base.specs.declared.key.Key.{Key}
use Rattle.ivy_base.specs.Naming.{name}
use Rattle.tree_model.specs.Tree.{same_key}
use Rattle.tree_model.proofs.Keys.{same_key_is}
use Rattle.fork_model.specs.Finding.{block_named}
use Rattle.fork_proof.specs.Places.{place_of, ArePlaced, had_first}

module _ (key : Key) where
  -- the place is one of theirs
  placed_in : (blocks : List (List ℕ)) → IfSome (place_of key blocks) (λ i. i < length blocks)
  placed_in [] = tt
  placed_in (b ∷ bs) = by (same_key (name b) key) (place_of key bs) (placed_in bs)
    where
      by : (t : Bool) (o : Option ℕ) → IfSome o (λ i. i < length bs) → IfSome (cond t (Some 0) (option_map suc o)) (λ i. i < length (b ∷ bs))
      by true o rest = omega arith
      by false None rest = tt
      by false (Some j) rest = omega (arith, rest)

  -- the block that stands there is the first of that name
  pub named_at : (blocks : List (List ℕ)) (d : List ℕ) → block_named blocks key ≡ option_map (λ i. get_or blocks i d) (place_of key blocks)
  named_at [] d = refl
  named_at (b ∷ bs) d = by (same_key (name b) key) (place_of key bs) (named_at bs d)
    where
      by : (t : Bool) (o : Option ℕ) → block_named bs key ≡ option_map (λ i. get_or bs i d) o → cond t (Some b) (block_named bs key) ≡ option_map (λ i. get_or (b ∷ bs) i d) (cond t (Some 0) (option_map suc o))
      by true o rest = refl
      by false None rest = rest
      by false (Some j) rest = rest

  -- the place of one more
  place_pushed : (blocks : List (List ℕ)) (block : List ℕ) → place_of key (blocks ++ block ∷ []) ≡ had_first (place_of key blocks) (same_key (name block) key) (length blocks)
  place_pushed [] block = refl
  place_pushed (b ∷ bs) block = by (same_key (name b) key) (place_pushed bs block)
    where
      moved : (o : Option ℕ) (t : Bool) (n : ℕ) → option_map suc (had_first o t n) ≡ had_first (option_map suc o) t (suc n)
      moved None true n = refl
      moved None false n = refl
      moved (Some j) t n = refl

      by : (t : Bool) → place_of key (bs ++ block ∷ []) ≡ had_first (place_of key bs) (same_key (name block) key) (length bs)
          → cond t (Some 0) (option_map suc (place_of key (bs ++ block ∷ []))) ≡ had_first (cond t (Some 0) (option_map suc (place_of key bs))) (same_key (name block) key) (suc (length bs))
      by true rest = refl
      by false rest = ap (option_map suc) rest ∙ moved (place_of key bs) (same_key (name block) key) (length bs)

pub place_within : (key : Key) (blocks : List (List ℕ)) (i : ℕ) → place_of key blocks ≡ Some i → i < length blocks
place_within key blocks i h = subst (λ o. IfSome o (λ j. j < length blocks)) h (placed_in key blocks)

-- ---- one block more

pub placed_next : (blocks : List (List ℕ)) (i : ℕ) (d : List ℕ) (places more : List (Key × ℕ)) → i < length blocks → ArePlaced (take i blocks) places
    → ((k : Key) → lookup (same_key k) more ≡ had_first (lookup (same_key k) places) (same_key (name (get_or blocks i d)) k) i) → ArePlaced (take (i + 1) blocks) more
placed_next blocks i d places more within valid put key =
    let size : length (take i blocks) ≡ i = length-take-le i blocks (omega (arith, within)) in
    let one : suc i ≡ i + 1 = omega arith in
    put key ∙ ap (λ (o : Option ℕ). had_first o (same_key (name (get_or blocks i d)) key) i) (valid key)
    ∙ ap (λ (n : ℕ). had_first (place_of key (take i blocks)) (same_key (name (get_or blocks i d)) key) n) (sym size)
    ∙ sym (place_pushed key (take i blocks) (get_or blocks i d))
    ∙ ap (place_of key) (sym (take-suc blocks i d within))
    ∙ ap (λ (n : ℕ). place_of key (take n blocks)) one

first_kept : (o : Option ℕ) (n : ℕ) → o ≡ had_first o false n
first_kept None n = refl
first_kept (Some i) n = refl

-- the first place of a name is noted
pub noted_new : (old : Key → Option ℕ) (added k : Key) (place : ℕ) (t : Bool) → same_key added k ≡ t → is_some (old added) ≡ false → cond t (Some place) (old k) ≡ had_first (old k) t place
noted_new old added k place false e none = first_kept (old k) place
noted_new old added k place true e none = by (old k) (ap (λ (q : Key). is_some (old q)) (sym (same_key_is added k e)) ∙ none)
  where
    by : (o : Option ℕ) → is_some o ≡ false → Some place ≡ had_first o true place
    by None f = refl
    by (Some i) f = absurd (cc f)

-- a further one isn't
pub noted_old : (old : Key → Option ℕ) (added k : Key) (place : ℕ) (t : Bool) → same_key added k ≡ t → is_some (old added) ≡ true → old k ≡ had_first (old k) t place
noted_old old added k place false e some = first_kept (old k) place
noted_old old added k place true e some = by (old k) (ap (λ (q : Key). is_some (old q)) (sym (same_key_is added k e)) ∙ some)
  where
    by : (o : Option ℕ) → is_some o ≡ true → o ≡ had_first o true place
    by None f = absurd (cc f)
    by (Some i) f = refl
