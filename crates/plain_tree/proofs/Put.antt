-- The place at which an entry is put, found from the front on.
use Rattle.std.proofs.Common.{◌≡◌, ℕ, suc, ◌+◌, ◌<◌, ◌≤◌, List, [], ◌∷◌, ◌++◌, take, drop, length, slice_set, slice_index_or, not, filter, refl, sym, ap, ◌∙◌, arith}
use Rattle.std.specs.declared.cmp.Ordering.{Ordering}
use Rattle.std.specs.declared.cmp.Ordering.TheVariants.{Less, Equal, Greater}
use Rattle.std.specs.FinMap.Entries.{put, by_order, where_key}
use Rattle.std.specs.Cmp.{eq_by_cmp_equiv}
use Rattle.std.specs.Ordering.{eq_by_cmp}
use Rattle.ivy_base.specs.declared.key.Key.{Key}
use Rattle.tree_model.specs.Tree.{Place, place_cmp}
use Rattle.tree_model.proofs.Keys.{places_total}
use Rattle.std.proofs.lemmas.List.{drop_more, drop_all, append_assoc, take_all, take_more, set_split, get_or_default}
use Rattle.plain_tree.specs.Search.{IsFoundAt, BelongsAt}

module _ {K X : Type 0} (R : K → K → Ordering) (k : K) (es : List (K × X)) where
  -- what is put goes after the first entries, so many
  abbrev pub GoesBehind : ℕ → Type 0
  GoesBehind at = (v : X) → put R k v es ≡ take at es ++ put R k v (drop at es)

  pub goes_behind_none : GoesBehind 0
  goes_behind_none v = refl

  module _ (at : ℕ) (d : K × X) (within : at < length es) (after : GoesBehind at) where
    here : (v : X) → put R k v es ≡ take at es ++ by_order (R k (slice_index_or es at d).0) ((k, v) ∷ slice_index_or es at d ∷ drop (at + 1) es) (((slice_index_or es at d).0, v) ∷ drop (at + 1) es) (slice_index_or es at d ∷ put R k v (drop (at + 1) es))
    here v = after v ∙ ap (λ l. take at es ++ put R k v l) (drop_more es at d within)

    pub belongs_here : R k (slice_index_or es at d).0 ≡ Less → BelongsAt R k at es
    belongs_here less = record {
      within = omega (arith, within);
      puts = λ v. here v ∙ ap (λ o. take at es ++ by_order o ((k, v) ∷ slice_index_or es at d ∷ drop (at + 1) es) (((slice_index_or es at d).0, v) ∷ drop (at + 1) es) (slice_index_or es at d ∷ put R k v (drop (at + 1) es))) less
          ∙ ap (λ l. take at es ++ (k, v) ∷ l) (sym (drop_more es at d within));
    }

    pub found_here : R k (slice_index_or es at d).0 ≡ Equal → IsFoundAt R k at es
    found_here equal = let next : at + 1 ≡ suc at = omega arith in record {
      within = within;
      puts = λ v x. here v ∙ ap (λ o. take at es ++ by_order o ((k, v) ∷ slice_index_or es at d ∷ drop (at + 1) es) (((slice_index_or es at d).0, v) ∷ drop (at + 1) es) (slice_index_or es at d ∷ put R k v (drop (at + 1) es))) equal
          ∙ ap (λ n. take at es ++ ((slice_index_or es at d).0, v) ∷ drop n es) next
          ∙ sym (set_split es at ((slice_index_or es at d).0, v) within)
          ∙ ap (λ (e : K × X). slice_set es at (e.0, v)) (get_or_default es at d x within);
    }

    pub goes_behind_more : R k (slice_index_or es at d).0 ≡ Greater → GoesBehind (at + 1)
    goes_behind_more greater v =
        here v ∙ ap (λ o. take at es ++ by_order o ((k, v) ∷ slice_index_or es at d ∷ drop (at + 1) es) (((slice_index_or es at d).0, v) ∷ drop (at + 1) es) (slice_index_or es at d ∷ put R k v (drop (at + 1) es))) greater
        ∙ sym (append_assoc (take at es) (slice_index_or es at d ∷ []) (put R k v (drop (at + 1) es)))
        ∙ ap (λ l. l ++ put R k v (drop (at + 1) es)) (sym (take_more es at d within))

  pub belongs_last : (at : ℕ) → length es ≤ at → GoesBehind at → BelongsAt R k (length es) es
  belongs_last at past after = record {
    within = omega arith;
    puts = λ v. after v
        ∙ (λ i. take_all at es past i ++ put R k v (drop_all at es past i))
        ∙ (λ i. sym (take_all (length es) es (omega arith)) i ++ (k, v) ∷ sym (drop_all (length es) es (omega arith)) i);
  }

-- taken out are those that tie with the place, from whichever side it is asked
pub without : (p : Place) (names : List (Place × Key)) → filter (λ e. not (eq_by_cmp place_cmp p e.0)) names ≡ where_key place_cmp (λ q. not (eq_by_cmp place_cmp q p)) names
without p names = λ i. filter (λ e. not ((eq_by_cmp_equiv places_total).symm p e.0 i)) names
