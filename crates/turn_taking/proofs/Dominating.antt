-- The test whether a vector goes as far as another one.
use Rattle.std.proofs.Common.{◌≡◌, ◌↔◌, ⊎_elim, ◌≤◌, Bool, true, false, ◌&&◌, ◌||◌, List, [], ◌∷◌, refl, sym, ap, arith, le-leb, leb-true}
use Rattle.std.specs.Prelude.{IsTrue, nat_le, not}
use Rattle.std.specs.List.{list_all, list_any}
use Rattle.ivy_base.specs.declared.key.Key.{Key}
use Rattle.log_model.specs.Vector.{Dominates, Entry, Vector, reach, seq_of}
use Rattle.log_model.proofs.Lists.{all_pass, passes}
use Rattle.log_model.proofs.Part.{found_stamp}
use Rattle.log_model.proofs.Weights.{Sorted}
use Rattle.causal_order.proofs.Fronts.{stamp_there}
use Rattle.agent_model.specs.Standing.{dominates}

pub far : (v w : Vector) → dominates v w ≡ true → Dominates v w
far v w h log = ⊎_elim
    (λ none. let zero : seq_of w log ≡ 0 = ap reach none in omega (arith, zero))
    (λ f.
    let le : f.0.1.seq ≤ seq_of v f.0.0 = leb-true f.0.1.seq (seq_of v f.0.0) (passes (λ (e : Entry). nat_le e.1.seq (seq_of v e.0)) w f.0 h f.1) in
    let there : seq_of w log ≡ f.0.1.seq = ap reach f.3 in
    let same : seq_of v f.0.0 ≡ seq_of v log = ap (λ (k : Key). seq_of v k) f.2 in
    omega (arith, le, there, same))
    (found_stamp w log)

tests : (v w : Vector) → Sorted w → Dominates v w → dominates v w ≡ true
tests v w sorted dom = all_pass (λ (e : Entry). nat_le e.1.seq (seq_of v e.0)) w
    (λ e c.
    let there : seq_of w e.0 ≡ e.1.seq = ap reach (stamp_there e.0 w e.1 sorted c) in
    let le = dom e.0 in
    le-leb e.1.seq (seq_of v e.0) (omega (arith, there, le)))

pub answers : (v w : Vector) (b : Bool) → Sorted w → (IsTrue b ↔ Dominates v w) → b ≡ dominates v w
answers v w true sorted h = sym (tests v w sorted (h.0 refl))
answers v w false sorted h = by (dominates v w) refl
  where
    by : (t : Bool) → dominates v w ≡ t → false ≡ t
    by true e = let yes = h.1 (far v w e) in cc
    by false e = refl

-- some fail where not all pass
pub some_fail : {X : Type 0} (test : X → Bool) (xs : List X) → list_any (λ x. not (test x)) xs ≡ not (list_all test xs)
some_fail test [] = refl
some_fail test (x ∷ xs) = by (test x) (some_fail test xs)
  where
    by : (b : Bool) → list_any (λ y. not (test y)) xs ≡ not (list_all test xs) → (not b || list_any (λ y. not (test y)) xs) ≡ not (b && list_all test xs)
    by true again = again
    by false again = refl
