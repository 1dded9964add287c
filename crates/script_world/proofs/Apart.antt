-- Keys that come one after another, with their head keys.
use Rattle.std.proofs.Common.{◌≡◌, ℕ, ◌+◌, ◌<◌, Bool, true, false, cond, ◌&&◌, ◌||◌, List, [], ◌∷◌, ◌++◌, length, get_or, take, drop, refl, sym, ap, ◌∙◌}
use Rattle.std.specs.Prelude.{not}
use Rattle.std.specs.List.{list_all}
use Rattle.std.proofs.lemmas.List.{take-append-drop, take_more}
use Rattle.std.proofs.lemmas.List.Folds.{list_all-append, list_any-append}
use Rattle.ivy_base.specs.declared.key.Key.{Key}
use Rattle.ivy_base.specs.declared.key.PubKey.{PubKey}
use Rattle.ivy_base.specs.Naming.{head_key_of}
use Rattle.tree_model.specs.Tree.{same_key}
use Rattle.log_model.specs.View.{is_log_of, have_own_head_keys}
use Rattle.view_blocks.proofs.Heads.{own_heads_of_both}

regrouped : (a s b l : Bool) → ((a && (not s && true)) && (b && not l)) ≡ ((a && b) && not (s || l))
regrouped false s b l = refl
regrouped true true false l = refl
regrouped true true true l = refl
regrouped true false b l = refl

-- with one more key
own_pushed : (ks : List PubKey) (k : PubKey) → have_own_head_keys (ks ++ k ∷ []) ≡ (have_own_head_keys ks && not (is_log_of ks (head_key_of k)))
own_pushed [] k = refl
own_pushed (a ∷ later) k =
    let differ : PubKey → Bool = λ other. not (same_key (head_key_of a) (head_key_of other)) in
    (λ i. list_all-append differ later (k ∷ []) i && own_pushed later k i)
    ∙ regrouped (list_all differ later) (same_key (head_key_of a) (head_key_of k)) (have_own_head_keys later) (is_log_of later (head_key_of k))

-- keys with head keys of their own, and one more whose head key is new
pub still_own : (ks : List PubKey) (k : PubKey) → have_own_head_keys ks ≡ true → is_log_of ks (head_key_of k) ≡ false → have_own_head_keys (ks ++ k ∷ []) ≡ true
still_own ks k own new = own_pushed ks k ∙ rw (own, new) refl

-- the head keys that are held, with one more
pub held_more : (ks : List PubKey) (k : PubKey) (head q : Key) (now before : Bool) → head ≡ head_key_of k → now ≡ cond (same_key head q) true before → before ≡ is_log_of ks q → now ≡ is_log_of (ks ++ k ∷ []) q
held_more ks k head q now before head_is more held =
    more ∙ (λ i. cond (same_key (head_is i) q) true (held i))
    ∙ by (same_key (head_key_of k) q) (is_log_of ks q)
    ∙ sym (list_any-append (λ owner. same_key (head_key_of owner) q) ks (k ∷ []))
  where
    by : (t b : Bool) → cond t true b ≡ (b || (t || false))
    by true true = refl
    by true false = refl
    by false true = refl
    by false false = refl

and_false : (b : Bool) → (b && false) ≡ false
and_false true = refl
and_false false = refl

own_front : (ks ls : List PubKey) → have_own_head_keys ks ≡ false → have_own_head_keys (ks ++ ls) ≡ false
own_front ks ls h = own_heads_of_both ks ls ∙ rw h refl

-- a key whose head key stood before
pub stands_twice : (all seen : List PubKey) (n : ℕ) (k : PubKey) → seen ≡ take n all → n < length all → k ≡ get_or all n k → is_log_of seen (head_key_of k) ≡ true → have_own_head_keys all ≡ false
stands_twice all seen n k seen_is within k_is there =
    let front : take (n + 1) all ≡ seen ++ k ∷ [] = take_more all n k within ∙ (λ i. sym seen_is i ++ sym k_is i ∷ []) in
    let whole : (seen ++ k ∷ []) ++ drop (n + 1) all ≡ all = ap (λ (ks : List PubKey). ks ++ drop (n + 1) all) (sym front) ∙ take-append-drop (n + 1) all in
    let again : have_own_head_keys (seen ++ k ∷ []) ≡ false = own_pushed seen k ∙ ap (λ (b : Bool). have_own_head_keys seen && not b) there ∙ and_false (have_own_head_keys seen) in
    ap have_own_head_keys (sym whole) ∙ own_front (seen ++ k ∷ []) (drop (n + 1) all) again

-- a search of the head keys that are held answers for the keys
module _ (seen : List PubKey) (k : PubKey) (head : Key) (added held : Bool) (new : added ≡ not held) (is : held ≡ is_log_of seen head) (head_is : head ≡ head_key_of k) where
  pub was_there : added ≡ false → is_log_of seen (head_key_of k) ≡ true
  was_there h = ap (λ (l : Key). is_log_of seen l) (sym head_is) ∙ sym is ∙ by held (sym new ∙ h)
    where
      by : (b : Bool) → not b ≡ false → b ≡ true
      by true e = refl
      by false e = sym e

  pub was_new : added ≡ true → is_log_of seen (head_key_of k) ≡ false
  was_new h = ap (λ (l : Key). is_log_of seen l) (sym head_is) ∙ sym is ∙ by held (sym new ∙ h)
    where
      by : (b : Bool) → not b ≡ true → b ≡ false
      by true e = sym e
      by false e = refl
