-- Blocks that are put in their places, one after the other, are those that were met, in their order.
use Rattle.std.proofs.Common.{◌≡◌, ◌⊎◌, inl, inr, ℕ, zero, suc, Bool, true, false, cond, List, [], ◌∷◌, length, set, Some, refl, sym, ap, ◌∙◌, subst}
use Rattle.std.specs.List.{All, AllByRecursion, slice_get}
use Rattle.std.specs.Str.{bytes_eq}
use Rattle.std.specs.Ordering.{is_eq, nat_cmp}
use Rattle.std.specs.Cmp.Lexicographic.{slice_cmp}
use Rattle.std.specs.Map.{lookup}
use Rattle.std.proofs.lemmas.List.{length-map, length-set}
use Rattle.std.proofs.lemmas.List.Elements.{recursion_from_All}
use Rattle.std.proofs.lemmas.Slice.Eq.{bytes_eq-Decides}
use Rattle.session_steps.specs.MetState.{MetState, AreMet, place_in}
use Rattle.session_steps.proofs.Members.{found, seen}

inside : (b c : List ℕ) → Some b ≡ Some c → b ≡ c
inside b c h = cc h

number : (n q : ℕ) → Some n ≡ Some q → n ≡ q
number n q h = cc h

-- lists of one length that have the same at each place
pub same_list : (met blocks : List (List ℕ)) → length blocks ≡ length met → ((b : List ℕ) (q : ℕ) → slice_get met q ≡ Some b → slice_get blocks q ≡ Some b) → blocks ≡ met
same_list [] [] size each = refl
same_list [] (c ∷ blocks) size each = absurd (cc size)
same_list (m ∷ met) [] size each = absurd (cc size)
same_list (m ∷ met) (c ∷ blocks) size each = (λ i. inside c m (each m 0 refl) i ∷ same_list met blocks (one_less size) (λ b q at. each b (suc q) at) i)
  where
    one_less : suc (length blocks) ≡ suc (length met) → length blocks ≡ length met
    one_less e = cc e

set_here : (blocks : List (List ℕ)) (q : ℕ) (c b : List ℕ) → slice_get blocks q ≡ Some c → slice_get (set blocks q b) q ≡ Some b
set_here [] q c b h = absurd (cc h)
set_here (x ∷ blocks) zero c b h = refl
set_here (x ∷ blocks) (suc q) c b h = set_here blocks q c b h

-- there is something at a place within
some_at : (met blocks : List (List ℕ)) → length blocks ≡ length met → (q : ℕ) (b : List ℕ) → slice_get met q ≡ Some b → (c : List ℕ) × (slice_get blocks q ≡ Some c)
some_at [] blocks size q b h = absurd (cc h)
some_at (m ∷ met) [] size q b h = absurd (cc size)
some_at (m ∷ met) (c ∷ blocks) size zero b h = (c, refl)
some_at (m ∷ met) (c ∷ blocks) size (suc q) b h = some_at met blocks (one_less size) q b h
  where
    one_less : suc (length blocks) ≡ suc (length met) → length blocks ≡ length met
    one_less e = cc e

-- what stands at a place stands there still, if the same was put at that place or something at another one
set_keeps : (blocks : List (List ℕ)) (p q : ℕ) (x b : List ℕ) → (p ≡ q → x ≡ b) → slice_get blocks q ≡ Some b → slice_get (set blocks p x) q ≡ Some b
set_keeps [] p q x b same h = absurd (cc h)
set_keeps (c ∷ blocks) zero zero x b same h = ap Some (same refl)
set_keeps (c ∷ blocks) zero (suc q) x b same h = h
set_keeps (c ∷ blocks) (suc p) zero x b same h = h
set_keeps (c ∷ blocks) (suc p) (suc q) x b same h = set_keeps blocks p q x b (λ e. same (ap suc e)) h

module _ {V : Type 0} (bytes : V → List ℕ) where
  -- each block stands in its place, or is among those that are left
  abbrev pub IsPut : List (List ℕ) → List (V × ℕ) → List (List ℕ) → Type 0
  IsPut met rest blocks = (b : List ℕ) (q : ℕ) → slice_get met q ≡ Some b → (slice_get blocks q ≡ Some b) ⊎ (place_in (seen bytes rest) b ≡ Some q)

  pub nothing_put : (met : List (List ℕ)) (s : MetState) (entries : List (V × ℕ)) (blocks : List (List ℕ)) (n : ℕ) → record { places = seen bytes entries; bytes = n } ≡ s → AreMet met s → IsPut met entries blocks
  nothing_put met s entries blocks n is are b q at = inr (ap (λ (t : MetState). place_in t.places b) is ∙ (are.placed b q).1 at)

  pub one_put : (met : List (List ℕ)) (s : MetState) → AreMet met s → (e : V × ℕ) (rest : List (V × ℕ)) (blocks : List (List ℕ)) (b : List ℕ) → b ≡ bytes e.0 → length blocks ≡ length met
      → place_in s.places (bytes e.0) ≡ Some e.1 → IsPut met (e ∷ rest) blocks → IsPut met rest (set blocks e.1 b)
  one_put met s are e rest blocks b copied size found put x q at = elim (put x q at) [
    | inl stood ↦ inl (set_keeps blocks e.1 q b x (λ p. copied ∙ inside (bytes e.0) x (sym here ∙ ap (slice_get met) p ∙ at)) stood)
    | inr left ↦ by (bytes_eq x (bytes e.0)) refl left
  ]
    where
      here : slice_get met e.1 ≡ Some (bytes e.0)
      here = (are.placed (bytes e.0) e.1).0 found

      by : (t : Bool) → bytes_eq x (bytes e.0) ≡ t → cond t (Some e.1) (place_in (seen bytes rest) x) ≡ Some q → (slice_get (set blocks e.1 b) q ≡ Some x) ⊎ (place_in (seen bytes rest) x ≡ Some q)
      by true same is =
          let within = some_at met blocks size e.1 (bytes e.0) here in
          inl (ap (slice_get (set blocks e.1 b)) (sym (number e.1 q is)) ∙ set_here blocks e.1 within.0 b within.1 ∙ ap Some (copied ∙ sym ((bytes_eq-Decides x (bytes e.0)).0 same)))
      by false same is = inr is

  pub all_put : (met : List (List ℕ)) (blocks : List (List ℕ)) → length blocks ≡ length met → IsPut met [] blocks → blocks ≡ met
  all_put met blocks size put = same_list met blocks size (λ b q at. by b q (put b q at))
    where
      by : (b : List ℕ) (q : ℕ) → (slice_get blocks q ≡ Some b) ⊎ (place_in (seen bytes []) b ≡ Some q) → slice_get blocks q ≡ Some b
      by b q (inl at) = at
      by b q (inr none) = absurd (cc none)

  -- the blocks that are put so far, where these entries are left
  pub record ArePut (s : MetState) (rest : List (V × ℕ)) (blocks : List (List ℕ)) : Type 0 where
    pub size : length blocks ≡ length s.places
    pub put : (met : List (List ℕ)) → AreMet met s → IsPut met rest blocks
    pub found_at : AllByRecursion (λ e. place_in s.places (bytes e.0) ≡ Some e.1) rest

  pub are_first : (s : MetState) (entries rest : List (V × ℕ)) (n : ℕ) (blocks : List (List ℕ)) → record { places = seen bytes entries; bytes = n } ≡ s → length blocks ≡ length entries
      → All (λ e. lookup (λ k. is_eq (slice_cmp nat_cmp (bytes e.0) (bytes k))) entries ≡ Some e.1) entries → rest ≡ entries → ArePut s rest blocks
  are_first s entries rest n blocks is size all same = subst (λ es. ArePut s es blocks) (sym same) (
      record {
        size = size ∙ sym (length-map _ _) ∙ ap (λ (t : MetState). length t.places) is;
        put = λ met are. nothing_put met s entries blocks n is are;
        found_at = each entries (recursion_from_All (λ e. lookup (λ k. is_eq (slice_cmp nat_cmp (bytes e.0) (bytes k))) entries ≡ Some e.1) entries all);
      }
      )
    where
      each : (es : List (V × ℕ)) → AllByRecursion (λ e. lookup (λ k. is_eq (slice_cmp nat_cmp (bytes e.0) (bytes k))) entries ≡ Some e.1) es → AllByRecursion (λ e. place_in s.places (bytes e.0) ≡ Some e.1) es
      each [] rest = tt
      each (e ∷ es) (this, rest) = (ap (λ (t : MetState). place_in t.places (bytes e.0)) (sym is) ∙ sym (found bytes (bytes e.0) entries) ∙ this, each es rest)

  pub are_next : (s : MetState) (before rest : List (V × ℕ)) (e : V × ℕ) (blocks after : List (List ℕ)) (b : List ℕ) → before ≡ e ∷ rest → b ≡ bytes e.0 → after ≡ set blocks e.1 b → ArePut s before blocks → ArePut s rest after
  are_next s before rest e blocks after b left copied is held =
      let are : ArePut s (e ∷ rest) blocks = subst (λ es. ArePut s es blocks) left held in
      subst (ArePut s rest) (sym is) (
      record {
        size = length-set blocks e.1 b ∙ are.size;
        put = λ met same. one_put met s same e rest blocks b copied (are.size ∙ sym same.as_many) are.found_at.0 (are.put met same);
        found_at = are.found_at.1;
      }
      )

  pub are_last : (s : MetState) (rest : List (V × ℕ)) (blocks : List (List ℕ)) → ArePut s rest blocks → rest ≡ [] → (met : List (List ℕ)) → AreMet met s → blocks ≡ met
  are_last s rest blocks held none met same = all_put met blocks (held.size ∙ sym same.as_many) (subst (λ es. IsPut met es blocks) none (held.put met same))
