-- Which blocks stand in a list, and where they are found in a map into which a further block was put by its order.
use Rattle.std.proofs.Common.{◌≡◌, ℕ, ◌+◌, Bool, true, false, cond, List, [], ◌∷◌, map, get_or, length, Option, Some, is_some, refl, sym, ap, ◌∙◌, arith}
use Rattle.std.specs.Prelude.{Contains}
use Rattle.std.specs.List.{list_any}
use Rattle.std.specs.Str.{bytes_eq}
use Rattle.std.specs.declared.cmp.Ordering.{Ordering}
use Rattle.std.specs.declared.cmp.Ordering.TheVariants.{Less, Equal, Greater}
use Rattle.std.specs.Ordering.{is_eq, match_ordering, nat_cmp}
use Rattle.std.specs.Cmp.Lexicographic.{slice_cmp}
use Rattle.std.specs.Map.{lookup}
use Rattle.std.specs.BTreeMap.{insert_entry}
use Rattle.std.proofs.lemmas.List.Folds.{list_any_at}
use Rattle.std.proofs.lemmas.Map.Text.{is_eq-slice_cmp}
use Rattle.std.proofs.lemmas.Map.Views.{Contains-from_any}
use Rattle.std.proofs.lemmas.Slice.Eq.{bytes_eq-Decides}
use Rattle.session_steps.specs.MetState.{place_in}

pub same_answer : (b c : Bool) → (b ≡ true → c ≡ true) → (c ≡ true → b ≡ true) → b ≡ c
same_answer true true f g = refl
same_answer true false f g = sym (f refl)
same_answer false true f g = g refl
same_answer false false f g = refl

-- whether the block is one of these
abbrev pub has : List (List ℕ) → List ℕ → Bool
has blocks b = list_any (bytes_eq b) blocks

pub contains_has : (blocks : List (List ℕ)) (b : List ℕ) → Contains blocks b → has blocks b ≡ true
contains_has blocks b c = list_any_at (bytes_eq b) blocks c.0 b c.1 ((bytes_eq-Decides b (get_or blocks c.0 b)).1 (sym c.2))

pub has_contains : (blocks : List (List ℕ)) (b : List ℕ) → has blocks b ≡ true → Contains blocks b
has_contains blocks b h = Contains-from_any {eq = bytes_eq} (λ x y e. (bytes_eq-Decides x y).0 e) b blocks h

-- ---- a map by order

module _ {V : Type 0} (bytes : V → List ℕ) where
  -- the order of what has these bytes
  abbrev pub in_order : V → V → Ordering
  in_order x y = slice_cmp nat_cmp (bytes x) (bytes y)

  -- the entries by the bytes of their keys
  abbrev pub seen : List (V × ℕ) → List (List ℕ × ℕ)
  seen entries = map (λ e. (bytes e.0, e.1)) entries

  -- what a look-up by order finds
  pub found : (b : List ℕ) (entries : List (V × ℕ)) → lookup (λ k. is_eq (slice_cmp nat_cmp b (bytes k))) entries ≡ place_in (seen entries) b
  found b [] = refl
  found b (e ∷ entries) = (λ i. cond (is_eq-slice_cmp b (bytes e.0) i) (Some e.1) (found b entries i))

  -- a further key is found at its place, and all others where they were; and there is one more
  pub put_at_key : (key : V) (place : ℕ) (entries : List (V × ℕ)) → is_some (place_in (seen entries) (bytes key)) ≡ false
      → ((b : List ℕ) → place_in (seen (insert_entry in_order entries key place)) b ≡ cond (bytes_eq b (bytes key)) (Some place) (place_in (seen entries) b))
      × (length (seen (insert_entry in_order entries key place)) ≡ length (seen entries) + 1)
  put_at_key key place [] new = (λ b. refl, refl)
  put_at_key key place (e ∷ entries) new = by (in_order key e.0) refl (put_at_key key place entries)
    where
      rest : List (V × ℕ)
      rest = insert_entry in_order entries key place

      other : bytes_eq (bytes key) (bytes e.0) ≡ false
      other = apart (bytes_eq (bytes key) (bytes e.0)) new
        where
          apart : (t : Bool) → is_some (cond t (Some e.1) (place_in (seen entries) (bytes key))) ≡ false → t ≡ false
          apart true n = absurd (cc n)
          apart false n = refl

      behind : (t : Bool) → t ≡ false → is_some (cond t (Some e.1) (place_in (seen entries) (bytes key))) ≡ false → is_some (place_in (seen entries) (bytes key)) ≡ false
      behind true f n = absurd (cc f)
      behind false f n = n

      swapped : (b : List ℕ) (t u : Bool) → bytes_eq b (bytes e.0) ≡ t → bytes_eq b (bytes key) ≡ u → (o : Option ℕ) → cond t (Some e.1) (cond u (Some place) o) ≡ cond u (Some place) (cond t (Some e.1) o)
      swapped b true true x y o =
          let same : bytes_eq (bytes key) (bytes e.0) ≡ true = (bytes_eq-Decides (bytes key) (bytes e.0)).1 (sym ((bytes_eq-Decides b (bytes key)).0 y) ∙ (bytes_eq-Decides b (bytes e.0)).0 x) in
          let no : true ≡ false = sym same ∙ other in
          absurd (cc no)
      swapped b true false x y o = refl
      swapped b false true x y o = refl
      swapped b false false x y o = refl

      by : (o : Ordering) → in_order key e.0 ≡ o
          → (is_some (place_in (seen entries) (bytes key)) ≡ false → ((b : List ℕ) → place_in (seen rest) b ≡ cond (bytes_eq b (bytes key)) (Some place) (place_in (seen entries) b)) × (length (seen rest) ≡ length (seen entries) + 1))
          → ((b : List ℕ) → place_in (seen (match_ordering o ((key, place) ∷ e ∷ entries) ((e.0, place) ∷ entries) (e ∷ rest))) b ≡ cond (bytes_eq b (bytes key)) (Some place) (place_in (seen (e ∷ entries)) b))
          × (length (seen (match_ordering o ((key, place) ∷ e ∷ entries) ((e.0, place) ∷ entries) (e ∷ rest))) ≡ length (seen (e ∷ entries)) + 1)
      by Less is again = (λ b. refl, omega arith)
      by Equal is again = (let no : true ≡ false = ap is_eq (sym is) ∙ is_eq-slice_cmp (bytes key) (bytes e.0) ∙ other in absurd (cc no))
      by Greater is again =
          let put = again (behind (bytes_eq (bytes key) (bytes e.0)) other new) in (
            λ b. ap (cond (bytes_eq b (bytes e.0)) (Some e.1)) (put.0 b) ∙ swapped b (bytes_eq b (bytes e.0)) (bytes_eq b (bytes key)) refl refl (place_in (seen entries) b),
            (let one = put.1 in omega (arith, one)),
          )
