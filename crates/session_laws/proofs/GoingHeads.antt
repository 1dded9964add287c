-- Heads, as judged, can be put in the order in which they are tried.
use Rattle.std.proofs.Common.{◌≡◌, ◌⊎◌, inl, inr, ⊎_elim, ℕ, ◌<◌, ◌≤◌, true, List, [], ◌∷◌, refl, sym, ap, ◌∙◌, subst, arith, Contains}
use Rattle.std.specs.Prelude.{◌↔◌}
use Rattle.std.specs.Ordering.{is_lt, ordering_reverse}
use Rattle.std.specs.declared.cmp.Ordering.{Ordering}
use Rattle.std.specs.declared.cmp.Ordering.TheVariants.{Less, Equal, Greater}
use Rattle.std.proofs.lemmas.Bool.{cases_lt}
use Rattle.ivy_base.specs.Naming.{key_cmp}
use Rattle.tree_model.proofs.Keys.{exact_keys, keys_total}
use Rattle.log_model.specs.Vector.{Stamp}
use Rattle.log_model.proofs.Lists.{each, each_from, here, there, in_cons, in_nothing}
use Rattle.turn_model.specs.Candidates.{IsTriedBefore}
use Rattle.session_model.specs.Walks.{AreTried, InTryingOrder}

less_is : (o : Ordering) → is_lt o ≡ true → o ≡ Less
less_is Less h = refl
less_is Equal h = cc
less_is Greater h = cc

before_both : (s t u : Stamp) → IsTriedBefore s t → IsTriedBefore t u → IsTriedBefore s u
before_both s t u (inl f) (inl g) = inl (omega (arith, f, g))
before_both s t u (inl f) (inr g) = inl (omega (arith, f, g.0))
before_both s t u (inr f) (inl g) = inl (omega (arith, f.0, g))
before_both s t u (inr f) (inr g) = inr (f.0 ∙ g.0, ap is_lt (keys_total.trans s.name t.name u.name (less_is _ f.1) (less_is _ g.1)))

-- of two heads one is tried before the other, or they are one
one_before : (s t : Stamp) → IsTriedBefore s t ⊎ ((s ≡ t) ⊎ IsTriedBefore t s)
one_before s t = elim (cases_lt t.seq s.seq) [
  | inl more ↦ inl (inl more)
  | inr least ↦ elim (cases_lt s.seq t.seq) [
    | inl fewer ↦ inr (inr (inl fewer))
    | inr most ↦ by (omega (arith, least, most)) (key_cmp s.name t.name) refl
  ]
]
  where
    by : s.seq ≡ t.seq → (o : Ordering) → key_cmp s.name t.name ≡ o → IsTriedBefore s t ⊎ ((s ≡ t) ⊎ IsTriedBefore t s)
    by same Less e = inl (inr (same, ap is_lt e))
    by same Equal e = let names = exact_keys s.name t.name e in inr (inl (λ i. record { seq = same i; name = names i }))
    by same Greater e = inr (inr (inr (sym same, ap is_lt (keys_total.antisymm t.name s.name ∙ ap ordering_reverse e))))

-- one head more, in its place
record Placed (t : Stamp) (ts : List Stamp) : Type 0 where
  tried : List Stamp
  has : (u : Stamp) → Contains tried u ↔ ((t ≡ u) ⊎ Contains ts u)
  order : InTryingOrder tried

placed : (t : Stamp) (ts : List Stamp) → InTryingOrder ts → Placed t ts
placed t [] order = record { tried = t ∷ []; has = λ u. (λ c. in_cons t [] u c, λ c. ⊎_elim (λ is. subst (Contains (t ∷ [])) is (here t [])) (λ none. absurd (in_nothing u none)) c); order = (tt, tt) }
placed t (x ∷ xs) order = elim (one_before t x) [
  | inl before ↦ record {
    tried = t ∷ x ∷ xs;
    has = λ u. (λ c. in_cons t (x ∷ xs) u c, λ c. ⊎_elim (λ is. subst (Contains (t ∷ x ∷ xs)) is (here t (x ∷ xs))) (λ more. there t (x ∷ xs) u more) c);
    order = ((before, each_from (IsTriedBefore t) xs (λ u c. before_both t x u before (each (IsTriedBefore x) xs u order.0 c))), order);
  }
  | inr (inl same) ↦ record {
    tried = x ∷ xs;
    has = λ u. (λ c. inr c, λ c. ⊎_elim (λ is. subst (Contains (x ∷ xs)) (sym same ∙ is) (here x xs)) (λ more. more) c);
    order = order;
  }
  | inr (inr after) ↦ (
      let p : Placed t xs = placed t xs order.1 in
      record {
        tried = x ∷ p.tried;
        has = λ u. (
          λ c. ⊎_elim (λ is. inr (subst (Contains (x ∷ xs)) is (here x xs))) (λ more. ⊎_elim (λ is. inl is) (λ old. inr (there x xs u old)) ((p.has u).0 more)) (in_cons x p.tried u c),
          λ c. ⊎_elim (λ is. there x p.tried u ((p.has u).1 (inl is)))
              (λ old. ⊎_elim (λ is. subst (Contains (x ∷ p.tried)) is (here x p.tried)) (λ more. there x p.tried u ((p.has u).1 (inr more))) (in_cons x xs u old)) c,
        );
        order = (each_from (IsTriedBefore x) p.tried (λ u c. ⊎_elim (λ is. subst (IsTriedBefore x) is after) (λ old. each (IsTriedBefore x) xs u order.0 old) ((p.has u).0 c)), p.order);
      }
      )
]

pub tried_of : (floor : ℕ) (heads : List Stamp) → (tried : List Stamp) × AreTried floor heads tried
tried_of floor [] = ([], record { each = λ t. (λ c. absurd (in_nothing t c), λ h. absurd (in_nothing t h.0)); order = tt })
tried_of floor (h ∷ heads) = by (tried_of floor heads) (cases_lt floor h.seq)
  where
    by : (tried : List Stamp) × AreTried floor heads tried → (floor < h.seq) ⊎ (h.seq ≤ floor) → (tried : List Stamp) × AreTried floor (h ∷ heads) tried
    by rest (inl far) =
        let p : Placed h rest.0 = placed h rest.0 rest.1.order in (
          p.tried,
          record {
            each = λ t. (
              λ c. ⊎_elim (λ is. (subst (Contains (h ∷ heads)) is (here h heads), subst (λ (x : Stamp). floor < x.seq) is far)) (λ old. let w = (rest.1.each t).0 old in (there h heads t w.0, w.1)) ((p.has t).0 c),
              λ w. ⊎_elim (λ is. (p.has t).1 (inl is)) (λ old. (p.has t).1 (inr ((rest.1.each t).1 (old, w.1)))) (in_cons h heads t w.0),
            );
            order = p.order;
          },
        )
    by rest (inr near) = (
      rest.0,
      record {
        each = λ t. (
          λ c. let w = (rest.1.each t).0 c in (there h heads t w.0, w.1),
          λ w. ⊎_elim (λ is. absurd (let far = subst (λ (x : Stamp). floor < x.seq) (sym is) w.1 in omega (arith, near, far))) (λ old. (rest.1.each t).1 (old, w.1)) (in_cons h heads t w.0),
        );
        order = rest.1.order;
      },
    )
