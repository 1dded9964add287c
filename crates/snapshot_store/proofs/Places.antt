-- Where a block is found, and what one more changes.
use Rattle.std.proofs.Common.{◌≡◌, ℕ, suc, ◌<◌, Bool, true, false, cond, ◌||◌, List, [], ◌∷◌, ◌++◌, length, get_or, Option, Some, None, option_map, refl, sym, ap, ◌∙◌, subst, arith}
use Rattle.std.specs.List.{list_any}
use Rattle.std.specs.Map.{lookup}
use Rattle.std.specs.Option.{IfSome, option_or}
use Rattle.std.specs.Str.{bytes_eq}
use Rattle.std.proofs.lemmas.Bool.{cond-false}
use Rattle.std.proofs.lemmas.List.Folds.{list_any_at}
use Rattle.std.proofs.lemmas.Slice.Eq.{bytes_eq-Decides}
use Rattle.ivy_base.specs.declared.key.Key.{Key}
use Rattle.ivy_base.specs.Naming.{name}
use Rattle.tree_model.specs.Tree.{same_key}
use Rattle.tree_model.proofs.Keys.{same_key_is, same_key_itself}
use Rattle.snapshot_model.specs.Spelling.{with_block}
use Rattle.snapshot_store.specs.Places.{place_of, ArePlaced}

module _ (key : Key) where
  -- the place is one of theirs
  placed_in : (blocks : List (List ℕ)) → IfSome (place_of key blocks) (λ i. i < length blocks)
  placed_in [] = tt
  placed_in (b ∷ bs) = by (same_key (name b) key) (place_of key bs) (placed_in bs)
    where
      by : (t : Bool) (o : Option ℕ) → IfSome o (λ i. i < length bs) → IfSome (cond t (Some 0) (option_map suc o)) (λ i. i < length (b ∷ bs))
      by true o rest = omega arith
      by false None rest = tt
      by false (Some j) rest = omega (arith, rest)

  -- the place of one more
  place_pushed : (blocks : List (List ℕ)) (block : List ℕ) → place_of key (blocks ++ block ∷ []) ≡ option_or (place_of key blocks) (cond (same_key (name block) key) (Some (length blocks)) None)
  place_pushed [] block = refl
  place_pushed (b ∷ bs) block = by (same_key (name b) key) (place_pushed bs block)
    where
      moved : (o : Option ℕ) (t : Bool) (n : ℕ) → option_map suc (option_or o (cond t (Some n) None)) ≡ option_or (option_map suc o) (cond t (Some (suc n)) None)
      moved None true n = refl
      moved None false n = refl
      moved (Some j) t n = refl

      by : (t : Bool) → place_of key (bs ++ block ∷ []) ≡ option_or (place_of key bs) (cond (same_key (name block) key) (Some (length bs)) None)
          → cond t (Some 0) (option_map suc (place_of key (bs ++ block ∷ []))) ≡ option_or (cond t (Some 0) (option_map suc (place_of key bs))) (cond (same_key (name block) key) (Some (suc (length bs))) None)
      by true rest = refl
      by false rest = ap (option_map suc) rest ∙ moved (place_of key bs) (same_key (name block) key) (length bs)

pub place_within : (key : Key) (blocks : List (List ℕ)) (i : ℕ) → place_of key blocks ≡ Some i → i < length blocks
place_within key blocks i h = subst (λ o. IfSome o (λ j. j < length blocks)) h (placed_in key blocks)

-- what is no block's name is not the name of one of these
pub not_among : (b : List ℕ) (blocks : List (List ℕ)) → place_of (name b) blocks ≡ None → list_any (bytes_eq b) blocks ≡ false
not_among b [] h = refl
not_among b (x ∷ xs) h = by (same_key (name x) (name b)) refl (place_of (name b) xs) refl (not_among b xs) h
  where
    other : (t : Bool) → bytes_eq b x ≡ t → same_key (name x) (name b) ≡ false → list_any (bytes_eq b) xs ≡ false → (t || list_any (bytes_eq b) xs) ≡ false
    other false e is rest = rest
    other true e is rest =
        let same : b ≡ x = (bytes_eq-Decides b x).0 e in
        let found : same_key (name x) (name b) ≡ true = ap (λ (y : List ℕ). same_key (name y) (name b)) (sym same) ∙ same_key_itself (name b) in
        cc

    by : (t : Bool) → same_key (name x) (name b) ≡ t → (o : Option ℕ) → place_of (name b) xs ≡ o → (place_of (name b) xs ≡ None → list_any (bytes_eq b) xs ≡ false)
        → cond t (Some 0) (option_map suc o) ≡ None → (bytes_eq b x || list_any (bytes_eq b) xs) ≡ false
    by true is o at again none = cc
    by false is (Some j) at again none = cc
    by false is None at again none = other (bytes_eq b x) refl is (again at)

-- the block that stands at a place is among these
pub among_at : (b : List ℕ) (blocks : List (List ℕ)) (i : ℕ) (d : List ℕ) → i < length blocks → bytes_eq (get_or blocks i d) b ≡ true → list_any (bytes_eq b) blocks ≡ true
among_at b blocks i d within same =
    let is : get_or blocks i d ≡ b = (bytes_eq-Decides (get_or blocks i d) b).0 same in
    list_any_at (bytes_eq b) blocks i d within ((bytes_eq-Decides b (get_or blocks i d)).1 (sym is))

-- ---- one more block

pub put_anew : (blocks : List (List ℕ)) (b : List ℕ) → list_any (bytes_eq b) blocks ≡ false → blocks ++ b ∷ [] ≡ with_block blocks b
put_anew blocks b new = sym (cond-false (list_any (bytes_eq b) blocks) blocks (blocks ++ b ∷ []) new)

module _ (blocks : List (List ℕ)) (b : List ℕ) (places : List (Key × ℕ)) (valid : ArePlaced blocks places) where
  -- the block's name was put into the map with the place after the others
  pub placed_first : place_of (name b) blocks ≡ None → (more : List (Key × ℕ)) (added : Key) (place : ℕ) → added ≡ name b → place ≡ length blocks
      → ((key : Key) → lookup (same_key key) more ≡ cond (same_key added key) (Some place) (lookup (same_key key) places))
      → ArePlaced (blocks ++ b ∷ []) more
  placed_first new more added place named last put key =
      put key ∙ (λ i. cond (same_key (named i) key) (Some (last i)) (valid key i)) ∙ by (same_key (name b) key) refl (place_of key blocks) refl ∙ sym (place_pushed key blocks b)
    where
      by : (t : Bool) → same_key (name b) key ≡ t → (o : Option ℕ) → place_of key blocks ≡ o → cond t (Some (length blocks)) o ≡ option_or o (cond t (Some (length blocks)) None)
      by true is None at = refl
      by true is (Some i) at = let none : place_of key blocks ≡ None = ap (λ k. place_of k blocks) (sym (same_key_is (name b) key is)) ∙ new in cc
      by false is None at = refl
      by false is (Some i) at = refl

  -- a further block of its name keeps all places
  pub placed_further : (i : ℕ) → place_of (name b) blocks ≡ Some i → ArePlaced (blocks ++ b ∷ []) places
  placed_further i old key = valid key ∙ by (same_key (name b) key) refl (place_of key blocks) refl ∙ sym (place_pushed key blocks b)
    where
      by : (t : Bool) → same_key (name b) key ≡ t → (o : Option ℕ) → place_of key blocks ≡ o → o ≡ option_or o (cond t (Some (length blocks)) None)
      by true is None at = let some : place_of key blocks ≡ Some i = ap (λ k. place_of k blocks) (sym (same_key_is (name b) key is)) ∙ old in cc
      by true is (Some j) at = refl
      by false is None at = refl
      by false is (Some j) at = refl
