-- The posts of one kind, copied one after the other.
use Rattle.std.proofs.Common.{◌≡◌, ℕ, ◌+◌, ◌<◌, ◌≤◌, Bool, true, false, cond, List, [], ◌∷◌, ◌++◌, length, get_or, take, filter, sym, ap, ◌∙◌}
use Rattle.std.proofs.lemmas.List.{append_assoc, append-nil, take_all}
use Rattle.std.proofs.lemmas.List.Elements.{filter_more}
use Rattle.dht_ids.specs.declared.post.Post.{Post}

module _ (keep : Post → Bool) (posts front : List Post) where
  -- what was copied of the first of them
  abbrev pub copied : ℕ → List Post
  copied n = front ++ filter keep (take n posts)

  next_copied : (n : ℕ) (post : Post) (more : List Post) → n < length posts → post ≡ get_or posts n post → cond (keep post) (post ∷ []) [] ≡ more → copied n ++ more ≡ copied (n + 1)
  next_copied n post more within is kept =
      append_assoc front (filter keep (take n posts)) more
      ∙ ap (λ (l : List Post). front ++ (filter keep (take n posts) ++ l)) (sym kept ∙ ap (λ (p : Post). cond (keep p) (p ∷ []) []) is)
      ∙ ap (λ (l : List Post). front ++ l) (sym (filter_more keep posts n post within))

  pub with_it : (n : ℕ) (post : Post) (passes : Bool) (old new : List Post) → n < length posts → post ≡ get_or posts n post → passes ≡ keep post → passes ≡ true → old ≡ copied n → new ≡ old ++ post ∷ [] → new ≡ copied (n + 1)
  with_it n post passes old new within is tested it before now =
      now ∙ ap (λ (l : List Post). l ++ post ∷ []) before ∙ next_copied n post (post ∷ []) within is (ap (λ (b : Bool). cond b (post ∷ []) []) (sym tested ∙ it))

  pub without_it : (n : ℕ) (post : Post) (passes : Bool) (old : List Post) → n < length posts → post ≡ get_or posts n post → passes ≡ keep post → passes ≡ false → old ≡ copied n → old ≡ copied (n + 1)
  without_it n post passes old within is tested it before =
      before ∙ sym (append-nil (copied n)) ∙ next_copied n post [] within is (ap (λ (b : Bool). cond b (post ∷ []) []) (sym tested ∙ it))

  pub all_copied : (n : ℕ) (new : List Post) → length posts ≤ n → new ≡ copied n → new ≡ front ++ filter keep posts
  all_copied n new within is = is ∙ ap (λ (l : List Post). front ++ filter keep l) (take_all n posts within)
