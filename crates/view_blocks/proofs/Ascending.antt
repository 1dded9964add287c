-- Keys ascend where each is below the next.
use Rattle.std.proofs.Common.{◌≡◌, ℕ, zero, suc, ◌<◌, Bool, true, false, ◌&&◌, List, [], ◌∷◌, length, get_or, Some, refl, sym, ap, subst, arith, add-one}
use Rattle.std.specs.List.{list_all, IsAllAdjacentAnswer}
use Rattle.std.specs.Cmp.Lexicographic.{slice_cmp, slice_partial_cmp, lists_agrees}
use Rattle.std.specs.Ordering.{is_lt, nat_cmp}
use Rattle.std.specs.declared.cmp.Ordering.{Ordering}
use Rattle.std.specs.declared.cmp.Ordering.TheVariants.{Less, Equal, Greater}
use Rattle.ivy_base.specs.declared.key.PubKey.{PubKey}
use Rattle.ivy_base.specs.Naming.{owner_cmp}
use Rattle.tree_model.proofs.Sound.{both_true}
use Rattle.log_model.proofs.Lists.{both}
use Rattle.log_model.proofs.Owners.{owners_total}
use Rattle.log_model.specs.View.{ascend}

abbrev pub is_below : PubKey → PubKey → Bool
is_below a b = is_lt (owner_cmp a b)

-- the derived `<` of keys is that of their order
pub partial_is : (xs ys : List ℕ) → slice_partial_cmp (λ x y. Some (nat_cmp x y)) xs ys ≡ Some (slice_cmp nat_cmp xs ys)
partial_is xs ys = lists_agrees (λ x y. refl) xs ys

less : (o : Ordering) → is_lt o ≡ true → o ≡ Less
less Less h = refl
less Equal h = cc
less Greater h = cc

below_trans : (a b c : PubKey) → is_below a b ≡ true → is_below b c ≡ true → is_below a c ≡ true
below_trans a b c p q = ap is_lt (owners_total.trans a b c (less (owner_cmp a b) p) (less (owner_cmp b c) q))

below_all : (a b : PubKey) (cs : List PubKey) → is_below a b ≡ true → list_all (λ c. is_below b c) cs ≡ true → list_all (λ c. is_below a c) cs ≡ true
below_all a b [] p q = refl
below_all a b (c ∷ cs) p q =
    let each = both_true (is_below b c) (list_all (λ d. is_below b d) cs) q in
    both (is_below a c) (list_all (λ d. is_below a d) cs) (below_trans a b c p each.0) (below_all a b cs p each.1)

ascends : (keys : List PubKey) → ((k : ℕ) (d : PubKey) → suc k < length keys → true ≡ is_below (get_or keys k d) (get_or keys (suc k) d)) → ascend keys ≡ true
ascends [] h = refl
ascends (a ∷ []) h = refl
ascends (a ∷ b ∷ cs) h =
    let rest : ascend (b ∷ cs) ≡ true = ascends (b ∷ cs) (λ k d within. h (suc k) d (omega arith)) in
    let first : is_below a b ≡ true = sym (h 0 a (omega arith)) in
    let after = both_true (list_all (λ c. is_below b c) cs) (ascend cs) rest in
    both (is_below a b && list_all (λ c. is_below a c) cs) (ascend (b ∷ cs)) (both (is_below a b) (list_all (λ c. is_below a c) cs) first (below_all a b cs first after.0)) rest

first_false : (a b : Bool) → a ≡ false → (a && b) ≡ false
first_false true b h = cc
first_false false b h = refl

second_false : (a b : Bool) → b ≡ false → (a && b) ≡ false
second_false true b h = h
second_false false b h = refl

falls : (keys : List PubKey) (k : ℕ) → suc k < length keys → ((d : PubKey) → false ≡ is_below (get_or keys k d) (get_or keys (suc k) d)) → ascend keys ≡ false
falls [] k within h = absurd (omega (arith, within))
falls (a ∷ []) k within h = absurd (omega (arith, within))
falls (a ∷ b ∷ cs) zero within h =
    first_false (is_below a b && list_all (λ c. is_below a c) cs) (ascend (b ∷ cs)) (first_false (is_below a b) (list_all (λ c. is_below a c) cs) (sym (h a)))
falls (a ∷ b ∷ cs) (suc k) within h =
    second_false (is_below a b && list_all (λ c. is_below a c) cs) (ascend (b ∷ cs)) (falls (b ∷ cs) k (omega (arith, within)) h)

-- what `is_sorted_by` answers
pub ascend_from : (keys : List PubKey) (r : Bool) → IsAllAdjacentAnswer (λ x y b. b ≡ is_below x y) keys r → r ≡ ascend keys
ascend_from keys true h = sym (ascends keys (λ k d within. let R : ℕ → Type 0 = λ j. true ≡ is_below (get_or keys k d) (get_or keys j d) in subst R (add-one k) (h k d (omega arith))))
ascend_from keys false h =
    let k = h.0 in
    sym (falls keys k (omega (arith, h.1)) (λ d. let R : ℕ → Type 0 = λ j. false ≡ is_below (get_or keys k d) (get_or keys j d) in subst R (add-one k) (h.2 d)))
