-- What putting a peer among others twice does: no more than putting it once.
use Rattle.std.proofs.Common.{◌≡◌, ℕ, ◌-◌, ◌+◌, ◌<◌, Bool, true, false, cond, List, [], ◌∷◌, length, drop, get_or, refl, sym, ap, ◌∙◌, subst, arith, eqb}
use Rattle.std.proofs.lemmas.Bool.{cond-true, cond-false, eq-eqb, ne_eqb}
use Rattle.std.proofs.lemmas.List.{drop_more, get_or_default}
use Rattle.ring_model.specs.Arc.{is_strictly_between as is_inside}
use Rattle.ring_model.specs.Route.{with_nearer, nearer_with}
use Rattle.ring_model.proofs.Routes.{with_nearer-cases}

module _ {A : Type 0} (place : A → ℕ) where
  stays_at : (key : ℕ) (y z : A) (zs : List A) → place y ≡ place z → with_nearer place key y (z ∷ zs) ≡ z ∷ zs
  stays_at key y z zs e = cond-true (eqb (place y) (place z)) (z ∷ zs) (cond (is_inside (place z) (place y) key) (y ∷ z ∷ zs) (z ∷ with_nearer place key y zs)) (eq-eqb (place y) (place z) e)

  -- one that stands where an entry does is kept out
  put_again : (key : ℕ) (x y : A) (l : List A) → place y ≡ place x → with_nearer place key y (with_nearer place key x l) ≡ with_nearer place key x l
  put_again key x y [] e = stays_at key y x [] e
  put_again key x y (z ∷ zs) e =
      with_nearer-cases place (λ l. with_nearer place key y l ≡ l) key x z zs
      (λ q. stays_at key y z zs (e ∙ q))
      (λ d t. stays_at key y x (z ∷ zs) e)
      (λ d f.
      let apart : eqb (place y) (place z) ≡ false = ne_eqb (place y) (place z) (λ q. d (sym e ∙ q)) in
      let outside : is_inside (place z) (place y) key ≡ false = subst (λ v. is_inside (place z) v key ≡ false) (sym e) f in
      let rest = with_nearer place key x zs in
      cond-false (eqb (place y) (place z)) (z ∷ rest) (cond (is_inside (place z) (place y) key) (y ∷ z ∷ rest) (z ∷ with_nearer place key y rest)) apart
      ∙ cond-false (is_inside (place z) (place y) key) (y ∷ z ∷ rest) (z ∷ with_nearer place key y rest) outside
      ∙ ap (λ l. z ∷ l) (put_again key x y zs e))

  -- what the loop over the peers keeps: what is left to be put, and that the last one put would change nothing
  pub record ArePut (n : A) (key : ℕ) (peers start : List A) (i : ℕ) (found : List A) : Type 0 where
    pub rest : nearer_with place n key (drop i peers) found ≡ nearer_with place n key peers start
    pub again : 0 < i → (y d : A) → place y ≡ place (get_or peers (i - 1) d) → nearer_with place n key (y ∷ []) found ≡ found

  -- a peer is put, or isn't strictly between
  pub put_more : (n : A) (key : ℕ) (peers start : List A) (i : ℕ) (found : List A) (d : A) → i < length peers → ArePut n key peers start i found → ArePut n key peers start (i + 1) (nearer_with place n key (get_or peers i d ∷ []) found)
  put_more n key peers start i found d h p = record {
    rest = sym (ap (λ l. nearer_with place n key l found) (drop_more peers i d h)) ∙ p.rest;
    again = λ pos y e q. twice y (q ∙ ap place (here e));
  }
    where
      here : (e : A) → get_or peers (i + 1 - 1) e ≡ get_or peers i d
      here e = let k : i + 1 - 1 ≡ i = omega arith in ap (λ j. get_or peers j e) k ∙ get_or_default peers i e d h

      twice : (y : A) → place y ≡ place (get_or peers i d) → nearer_with place n key (y ∷ []) (nearer_with place n key (get_or peers i d ∷ []) found) ≡ nearer_with place n key (get_or peers i d ∷ []) found
      twice y e = by (is_inside (place n) (place (get_or peers i d)) key) refl
        where
          by : (b : Bool) → is_inside (place n) (place (get_or peers i d)) key ≡ b → nearer_with place n key (y ∷ []) (cond b (with_nearer place key (get_or peers i d) found) found) ≡ cond b (with_nearer place key (get_or peers i d) found) found
          by true t = cond-true (is_inside (place n) (place y) key) (with_nearer place key y (with_nearer place key (get_or peers i d) found)) (with_nearer place key (get_or peers i d) found) (ap (λ v. is_inside (place n) v key) e ∙ t) ∙ put_again key (get_or peers i d) y found e
          by false f = cond-false (is_inside (place n) (place y) key) (with_nearer place key y found) found (ap (λ v. is_inside (place n) v key) e ∙ f)
