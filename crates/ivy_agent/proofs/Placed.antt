-- An edge in its place.
use Rattle.std.proofs.Common.{◌≡◌, ℕ, suc, ◌+◌, ◌<◌, ◌≤◌, Bool, true, false, cond, not, List, [], ◌∷◌, drop, length, get_or, Some, arith, refl, sym, ap, ◌∙◌, ◌||◌}
use Rattle.std.proofs.Math.Seq.{drop-cons}
use Rattle.std.proofs.lemmas.List.{drop_all}
use Rattle.std.specs.Prelude.{is_some}
use Rattle.std.specs.List.{list_any, insert, position_or_len}
use Rattle.std.specs.Ordering.{is_lt, is_eq}
use Rattle.std.specs.declared.cmp.Ordering.{Ordering}
use Rattle.std.specs.declared.cmp.Ordering.TheVariants.{Less, Equal, Greater}
use Rattle.std.specs.FinMap.Entries.{by_order, put, find as value_at}
use Rattle.ivy_base.specs.declared.key.Key.{Key}
use Rattle.ivy_base.specs.Naming.{key_cmp}
use Rattle.tree_model.specs.Tree.{same_key}
use Rattle.log_model.specs.Vector.{Vector}
use Rattle.log_model.specs.Fetched.{Edge}
use Rattle.log_fetch.specs.declared.edges.Edge as kept
use Rattle.log_fetch.specs.Edges.{edge_of, edges_of}
use Rattle.ivy_agent.specs.Edges.{put_under}

module _ (log : Key) (v : Vector) where
  abbrev pub edge : Edge
  edge = record { vector = v }

  abbrev pub new_edge : kept.Edge
  new_edge = record { log = log; vector = v }

  -- whether an edge is the log's
  abbrev is_its : kept.Edge → Bool
  is_its e = same_key log e.log

  abbrev is_past : kept.Edge → Bool
  is_past e = is_lt (key_cmp log e.log)

  pub has_it : (es : List kept.Edge) → is_some (value_at key_cmp log (edges_of es)) ≡ list_any is_its es
  has_it [] = refl
  has_it (e ∷ es) = by (is_its e) (has_it es)
    where
      by : (b : Bool) → is_some (value_at key_cmp log (edges_of es)) ≡ list_any is_its es → is_some (cond b (Some (edge_of e).1) (value_at key_cmp log (edges_of es))) ≡ (b || list_any is_its es)
      by true h = refl
      by false h = h

  placed_by : (o : Ordering) (e : kept.Edge) (es : List kept.Edge) → (is_eq o || list_any is_its es) ≡ false → (list_any is_its es ≡ false → edges_of (insert es (position_or_len is_past es) new_edge) ≡ put key_cmp log edge (edges_of es))
      → edges_of (insert (e ∷ es) (cond (not (is_lt o)) (1 + position_or_len is_past es) 0) new_edge) ≡ by_order o ((log, edge) ∷ edges_of (e ∷ es)) ((e.log, edge) ∷ edges_of es) (edge_of e ∷ put key_cmp log edge (edges_of es))
  placed_by Less e es none rest = refl
  placed_by Equal e es none rest = absurd (cc none)
  placed_by Greater e es none rest =
      let n = position_or_len is_past es in
      let one : 1 + n ≡ suc n = omega arith in
      ap (λ (i : ℕ). edges_of (insert (e ∷ es) i new_edge)) one ∙ ap (λ (more : List (Key × Edge)). edge_of e ∷ more) (rest none)

  -- before the first of a later log
  pub placed : (es : List kept.Edge) → list_any is_its es ≡ false → edges_of (insert es (position_or_len is_past es) new_edge) ≡ put key_cmp log edge (edges_of es)
  placed [] none = refl
  placed (e ∷ es) none = placed_by (key_cmp log e.log) e es none (placed es)

  pub stays : (es : List kept.Edge) → list_any is_its es ≡ true → edges_of es ≡ put_under log edge (edges_of es)
  stays es there = sym (ap (λ (b : Bool). cond b (edges_of es) (put key_cmp log edge (edges_of es))) (has_it es ∙ there))

  pub is_placed : (es : List kept.Edge) → list_any is_its es ≡ false → edges_of (insert es (position_or_len is_past es) new_edge) ≡ put_under log edge (edges_of es)
  is_placed es none = placed es none ∙ sym (ap (λ (b : Bool). cond b (edges_of es) (put key_cmp log edge (edges_of es))) (has_it es ∙ none))

module _ (log its : Key) (v : Vector) (es seen : List kept.Edge) (there : Bool) (seen_is : seen ≡ es) (log_is : log ≡ its) (told : there ≡ list_any (λ e. same_key log e.log) seen) where
  pub stays_at : there ≡ true → edges_of es ≡ put_under its (edge log v) (edges_of es)
  stays_at has = stays log v es (ap (λ (s : List kept.Edge). list_any (λ e. same_key log e.log) s) (sym seen_is) ∙ sym told ∙ has) ∙ ap (λ (k : Key). put_under k (edge log v) (edges_of es)) log_is

  pub placed_at : there ≡ false → (new again : List kept.Edge) (place : ℕ) (copy : Vector) → again ≡ es → place ≡ position_or_len (λ e. is_lt (key_cmp log e.log)) again → copy ≡ v → new ≡ insert es place (record { log = log; vector = copy })
      → edges_of new ≡ put_under its (edge log v) (edges_of es)
  placed_at lacks new again place copy again_is place_is copy_is new_is =
      let none : list_any (λ e. same_key log e.log) es ≡ false = ap (λ (s : List kept.Edge). list_any (λ e. same_key log e.log) s) (sym seen_is) ∙ sym told ∙ lacks in
      ap edges_of (new_is ∙ ap (λ (w : Vector). insert es place (record { log = log; vector = w })) copy_is ∙ ap (λ (i : ℕ). insert es i (record { log = log; vector = v })) (place_is ∙ ap (λ (s : List kept.Edge). position_or_len (λ e. is_lt (key_cmp log e.log)) s) again_is))
      ∙ is_placed log v es none
      ∙ ap (λ (k : Key). put_under k (edge log v) (edges_of es)) log_is

-- ---- the first that passes

module _ {X : Type 0} (p : X → Bool) (xs : List X) where
  abbrev pub SoFar : ℕ → Type 0
  SoFar i = position_or_len p xs ≡ i + position_or_len p (drop i xs)

  module _ (i : ℕ) (x : X) (within : i < length xs) (is : x ≡ get_or xs i x) (so_far : SoFar i) where
    next : (b : Bool) → p x ≡ b → position_or_len p (drop i xs) ≡ cond (not b) (1 + position_or_len p (drop (suc i) xs)) 0
    next b h = ap (position_or_len p) (drop-cons xs i x within ∙ ap (λ (y : X). y ∷ drop (suc i) xs) (sym is)) ∙ ap (λ (t : Bool). cond (not t) (1 + position_or_len p (drop (suc i) xs)) 0) h

    pub is_first : p x ≡ true → i ≡ position_or_len p xs
    is_first h = let e : position_or_len p (drop i xs) ≡ 0 = next true h in omega (arith, so_far, e)

    pub one_past : p x ≡ false → SoFar (i + 1)
    one_past h =
        let e : position_or_len p (drop i xs) ≡ 1 + position_or_len p (drop (suc i) xs) = next false h in
        let n : suc i ≡ i + 1 = omega arith in
        let f : position_or_len p (drop (suc i) xs) ≡ position_or_len p (drop (i + 1) xs) = ap (λ (m : ℕ). position_or_len p (drop m xs)) n in
        omega (arith, so_far, e, f)

  pub none_first : (i : ℕ) → length xs ≤ i → i ≤ length xs → SoFar i → length xs ≡ position_or_len p xs
  none_first i past bound so_far =
      let e : position_or_len p (drop i xs) ≡ 0 = ap (position_or_len p) (drop_all i xs past) in
      omega (arith, so_far, e, past, bound)
