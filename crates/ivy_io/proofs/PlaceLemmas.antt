-- Places, and what lies there.
use Rattle.std.proofs.Common.{◌≡◌, ◌≢◌, ℕ, zero, suc, ◌<◌, ◌≤◌, Bool, true, false, List, [], ◌∷◌, ◌++◌, length, get_or, set, Option, Some, None, is_some, refl, sym, ap, ◌∙◌, arith, option_and_then, subst, if◌then◌else◌}
use Rattle.std.specs.List.{find, position, position_or_len}
use Rattle.std.proofs.lemmas.Grind.{common_steps}
use Rattle.std.proofs.lemmas.List.Folds.{find_at}
use Rattle.std.proofs.lemmas.List.Quantifiers.{position-Some}
use Rattle.std.proofs.lemmas.Slice.Eq.{bytes_eq-Decides}
use Rattle.std.specs.Str.{bytes_eq}
use Rattle.std.proofs.lemmas.Option.{slice_get_past, slice_get-get_or}
use Rattle.ivy_io.specs.Keepers.{KeeperState}
use Rattle.ivy_io.specs.declared.mem_keepers.Place.{Place}
use Rattle.ivy_io.specs.Names.{HasPlace, is_at, lying, kept_under, laid, given}
use Rattle.ivy_io.specs.Laws.{OthersStay, StaysAt}

not_true : (b : Bool) → ¬ (b ≡ true) → b ≡ false
not_true true h = absurd (h refl)
not_true false h = refl

-- what is found at the place that a search gave
pub found_at : {X : Type 0} (p : X → Bool) (xs : List X) (i : ℕ) (d : X) → position p xs ≡ Some i → find p xs ≡ Some (get_or xs i d)
found_at p xs i d e =
    let at : position_or_len p xs ≡ i = grind (arith, common_steps) in
    rw (find_at p xs, at) (slice_get-get_or xs i d (position-Some p xs i d e).0)

-- and nothing where it gave none
pub found_none : {X : Type 0} (p : X → Bool) (xs : List X) → position p xs ≡ None → find p xs ≡ None
found_none p xs e =
    let past : length xs ≤ position_or_len p xs = grind (arith, common_steps) in
    rw (find_at p xs) (slice_get_past xs (position_or_len p xs) past)

-- a keeper is laid at the first place of that name
pub laid_first : (name : List ℕ) (keeper : Option KeeperState) (xs : List Place) (i : ℕ) (d : Place) → i < length xs → is_at name (get_or xs i d) ≡ true → ((k : ℕ) → k < i → is_at name (get_or xs k d) ≡ false) → set xs i (record { name = (get_or xs i d).name; keeper = keeper }) ≡ laid name keeper xs
laid_first name keeper [] i d within is before = absurd (omega (arith, within))
laid_first name keeper (x ∷ xs) zero d within is before = rw is refl
laid_first name keeper (x ∷ xs) (suc i) d within is before =
    rw (before 0 (omega arith)) (ap (λ (l : List Place). x ∷ l) (laid_first name keeper xs i d (omega (arith, within)) is (λ k lt. before (suc k) (omega (arith, lt)))))

pub laid_at : (name : List ℕ) (keeper : Option KeeperState) (xs : List Place) (i : ℕ) (x : Place) → position (is_at name) xs ≡ Some i → x ≡ get_or xs i x → set xs i (record { name = x.name; keeper = keeper }) ≡ laid name keeper xs
laid_at name keeper xs i x e is =
    let first = position-Some (is_at name) xs i x e in
    let P : Place → Type 0 = λ y. set xs i (record { name = y.name; keeper = keeper }) ≡ laid name keeper xs in
    subst P (sym is) (laid_first name keeper xs i x first.0 first.1 first.2)

-- nothing is laid where there is no place
pub laid_nowhere : (name : List ℕ) (keeper : Option KeeperState) (xs : List Place) → find (is_at name) xs ≡ None → laid name keeper xs ≡ xs
laid_nowhere name keeper [] e = refl
laid_nowhere name keeper (x ∷ xs) e = grind (arith, common_steps, laid_nowhere name keeper xs)

-- what is laid at a place lies there
pub lying-laid : (name : List ℕ) (keeper : Option KeeperState) (xs : List Place) → is_some (find (is_at name) xs) ≡ true → lying name (laid name keeper xs) ≡ keeper
lying-laid name keeper [] e = absurd (cc e)
lying-laid name keeper (x ∷ xs) e = grind (arith, common_steps, lying-laid name keeper xs)

-- what the keeper keeps that lies at a place
pub kept_at : (name : List ℕ) (xs : List Place) (i : ℕ) (x : Place) → position (is_at name) xs ≡ Some i → x ≡ get_or xs i x → kept_under name xs ≡ option_and_then (λ keeper. keeper.kept) x.keeper
kept_at name xs i x e is =
    let P : Place → Type 0 = λ y. kept_under name xs ≡ option_and_then (λ keeper. keeper.kept) y.keeper in
    subst P (sym is) (rw (found_at (is_at name) xs i x e) refl)

-- the keeper of a name without a place keeps nothing
pub kept_nowhere : (name : List ℕ) (xs : List Place) → position (is_at name) xs ≡ None → kept_under name xs ≡ None
kept_nowhere name xs e = rw (found_none (is_at name) xs e) refl

-- a keeper is given of a name that has a place
pub given_at : (name : List ℕ) (xs : List Place) (i : ℕ) (x : Place) → position (is_at name) xs ≡ Some i → x ≡ get_or xs i x → set xs i (record { name = x.name; keeper = None }) ≡ given name xs
given_at name xs i x e is = rw (found_at (is_at name) xs i x e) (laid_at name None xs i x e is)

-- and of one that has none
pub given_nowhere : (name : List ℕ) (xs : List Place) → position (is_at name) xs ≡ None → given name xs ≡ xs ++ record { name = name; keeper = None } ∷ []
given_nowhere name xs e = rw (found_none (is_at name) xs e) refl

-- the place that is laid at stays, and so do those of other names
pub laid-has_place : (name other : List ℕ) (keeper : Option KeeperState) (xs : List Place) → HasPlace other xs → HasPlace other (laid name keeper xs)
laid-has_place name other keeper [] e = e
laid-has_place name other keeper (x ∷ xs) e = grind (arith, common_steps, laid-has_place name other keeper xs)

-- a place at the end
added-has_place : (name other : List ℕ) (xs : List Place) → HasPlace other xs → HasPlace other (xs ++ record { name = name; keeper = None } ∷ [])
added-has_place name other [] e = absurd (cc e)
added-has_place name other (x ∷ xs) e = grind (arith, common_steps, added-has_place name other xs)

has_added : (name : List ℕ) (xs : List Place) → HasPlace name (xs ++ record { name = name; keeper = None } ∷ [])
has_added name [] = rw ((bytes_eq-Decides name name).1 refl) refl
has_added name (x ∷ xs) = grind (arith, common_steps, has_added name xs)

lying-added : (name other : List ℕ) (xs : List Place) → other ≢ name → lying other (xs ++ record { name = name; keeper = None } ∷ []) ≡ lying other xs
lying-added name other [] differs = rw (not_true (bytes_eq name other) (λ e. differs (sym ((bytes_eq-Decides name other).0 e)))) refl
lying-added name other (x ∷ xs) differs = grind (arith, common_steps, lying-added name other xs differs)

-- a keeper that is given of a name, by whether the name has a place
given_case : (b : Bool) (name : List ℕ) (xs : List Place) (P : List Place → Type 0) → (b ≡ true → P (laid name None xs)) → P (xs ++ record { name = name; keeper = None } ∷ []) → P (if b then laid name None xs else xs ++ record { name = name; keeper = None } ∷ [])
given_case true name xs P has added = has refl
given_case false name xs P has added = added

pub given-has_place : (name : List ℕ) (xs : List Place) → HasPlace name (given name xs)
given-has_place name xs = given_case (is_some (find (is_at name) xs)) name xs (HasPlace name) (laid-has_place name name None xs) (has_added name xs)

-- where a name isn't another, no place is of both
not_both : (name other : List ℕ) (x : Place) → other ≢ name → is_at name x ≡ true → is_at other x ≡ false
not_both name other x differs is =
    not_true (is_at other x) (λ both. differs (sym ((bytes_eq-Decides x.name other).0 both) ∙ (bytes_eq-Decides x.name name).0 is))

lying-laid_other : (name other : List ℕ) (keeper : Option KeeperState) (xs : List Place) → other ≢ name → lying other (laid name keeper xs) ≡ lying other xs
lying-laid_other name other keeper [] differs = refl
lying-laid_other name other keeper (x ∷ xs) differs = grind (arith, common_steps, not_both name other x differs, lying-laid_other name other keeper xs differs)

pub others_stay : OthersStay
others_stay name other keeper places differs = (
  given_case (is_some (find (is_at name) places)) name places (StaysAt other places)
      (λ _. (laid-has_place name other None places, lying-laid_other name other None places differs))
      (added-has_place name other places, lying-added name other places differs),
  (laid-has_place name other keeper places, lying-laid_other name other keeper places differs),
)
