-- The edge of a log is found.
use Rattle.std.proofs.Common.{◌≡◌, ℕ, zero, suc, ◌+◌, ◌<◌, ◌≤◌, Bool, true, false, List, [], ◌∷◌, length, drop, get_or, Option, Some, None, refl, sym, ap, ◌∙◌, subst, arith}
use Rattle.std.specs.Prelude.{find, option_map}
use Rattle.std.specs.List.{AllByRecursion}
use Rattle.std.proofs.lemmas.Bool.{false_from_ne_true}
use Rattle.ivy_base.specs.declared.key.Key.{Key}
use Rattle.tree_model.specs.Tree.{same_key}
use Rattle.tree_model.proofs.Keys.{same_key_is, same_key_itself}
use Rattle.log_model.specs.Vector.{Vector, stamp_at}
use Rattle.log_model.specs.Fetched.{Edge}
use Rattle.log_fetch.specs.declared.edges.Edge as kept
use Rattle.log_fetch.specs.Edges.{AreEdges, edge_of, edges_of, edge_in}

drop_at : (xs : List kept.Edge) (k : ℕ) (d : kept.Edge) → k < length xs → drop k xs ≡ get_or xs k d ∷ drop (suc k) xs
drop_at [] k d h = absurd (omega (arith, h))
drop_at (x ∷ xs) zero d h = refl
drop_at (x ∷ xs) (suc k) d h = drop_at xs k d (omega (arith, h))

drop_none : (xs : List kept.Edge) (k : ℕ) → length xs ≤ k → drop k xs ≡ []
drop_none [] zero h = refl
drop_none [] (suc k) h = refl
drop_none (x ∷ xs) zero h = absurd (omega (arith, h))
drop_none (x ∷ xs) (suc k) h = drop_none xs k (omega (arith, h))

each_at : (P : Key × Edge → Type 0) (xs : List kept.Edge) (k : ℕ) (d : kept.Edge) → k < length xs → AllByRecursion P (edges_of xs) → P (edge_of (get_or xs k d))
each_at P [] k d h all = absurd (omega (arith, h))
each_at P (x ∷ xs) zero d h all = all.0
each_at P (x ∷ xs) (suc k) d h all = each_at P xs k d (omega (arith, h)) all.1

module _ (log : Key) where
  abbrev is_of : Key × Edge → Bool
  is_of e = same_key e.0 log

  yes_first : (e : Key × Edge) (es : List (Key × Edge)) → is_of e ≡ true → option_map (λ (x : Key × Edge). x.1) (find is_of (e ∷ es)) ≡ Some e.1
  yes_first e es h = rw h refl

  no_first : (e : Key × Edge) (es : List (Key × Edge)) → is_of e ≡ false → find is_of (e ∷ es) ≡ find is_of es
  no_first e es h = rw h refl

  module _ (xs : List kept.Edge) (k : ℕ) (d : kept.Edge) where
    abbrev now : kept.Edge
    now = get_or xs k d

    -- none of those before is the log's
    abbrev pub NoneYet : ℕ → Type 0
    NoneYet i = find is_of (edges_of xs) ≡ find is_of (edges_of (drop i xs))

    pub is_found : k < length xs → NoneYet k → now.log ≡ log → Some (record { vector = now.vector }) ≡ edge_in (edges_of xs) log
    is_found within none same =
        let tested : is_of (edge_of now) ≡ true = subst (λ (l : Key). same_key now.log l ≡ true) same (same_key_itself now.log) in
        sym (ap (option_map (λ (x : Key × Edge). x.1)) (none ∙ ap (λ (l : List kept.Edge). find is_of (edges_of l)) (drop_at xs k d within)) ∙ yes_first (edge_of now) (edges_of (drop (suc k) xs)) tested)

    pub none_here : k < length xs → NoneYet k → (now.log ≡ log → ⊥) → NoneYet (k + 1)
    none_here within none other =
        let tested : is_of (edge_of now) ≡ false = false_from_ne_true (is_of (edge_of now)) (λ t. other (same_key_is now.log log t)) in
        let e : suc k ≡ k + 1 = omega arith in
        none ∙ ap (λ (l : List kept.Edge). find is_of (edges_of l)) (drop_at xs k d within) ∙ no_first (edge_of now) (edges_of (drop (suc k) xs)) tested ∙ ap (λ (n : ℕ). find is_of (edges_of (drop n xs))) e

    pub of_others : k < length xs → AreEdges (edges_of xs) → now.log ≡ log → stamp_at now.vector log ≡ None
    of_others within are same = subst (λ (l : Key). stamp_at now.vector l ≡ None) same (each_at (λ e. stamp_at e.1.vector e.0 ≡ None) xs k d within are.of_others)

  pub none_at_all : (xs : List kept.Edge) (k : ℕ) → length xs ≤ k → find is_of (edges_of xs) ≡ find is_of (edges_of (drop k xs)) → None ≡ edge_in (edges_of xs) log
  none_at_all xs k out none = sym (ap (option_map (λ (x : Key × Edge). x.1)) (none ∙ ap (λ (l : List kept.Edge). find is_of (edges_of l)) (drop_none xs k out)))

module _ (log : Key) (xs : List kept.Edge) (k : ℕ) (item : kept.Edge) (within : k < length xs) (item_is : item ≡ get_or xs k item) where
  abbrev edge_with : Vector → Option Edge
  edge_with v = Some (record { vector = v })

  -- a copy of the vector there
  pub found_value : NoneYet log xs k item k → item.log ≡ log → (copy : Vector) → copy ≡ item.vector → edge_with copy ≡ edge_in (edges_of xs) log
  found_value none same copy copied =
      ap edge_with (copied ∙ ap (λ (e : kept.Edge). e.vector) item_is) ∙ is_found log xs k item within none (ap (λ (e : kept.Edge). e.log) (sym item_is) ∙ same)

  pub found_own : AreEdges (edges_of xs) → item.log ≡ log → (copy : Vector) → copy ≡ item.vector → stamp_at copy log ≡ None
  found_own are same copy copied =
      ap (λ (v : Vector). stamp_at v log) (copied ∙ ap (λ (e : kept.Edge). e.vector) item_is) ∙ of_others log xs k item within are (ap (λ (e : kept.Edge). e.log) (sym item_is) ∙ same)

  pub none_now : NoneYet log xs k item k → (item.log ≡ log → ⊥) → NoneYet log xs k item (k + 1)
  none_now none other = none_here log xs k item within none (λ e. other (ap (λ (x : kept.Edge). x.log) item_is ∙ e))
