-- A turn of the tally goes on with its history; the calls of two passes.
use Rattle.std.proofs.Common.{◌≡◌, ℕ, ◌+◌, List, [], ◌∷◌, ◌++◌, length, Some, IfSome, Result, Ok, Err, IfOk, refl, sym, ap, ◌∙◌, subst, arith, length-append}
use Rattle.value_gate.specs.declared.history.Entry.{Entry}
use Rattle.value_gate.specs.Histories.{entry, calls_by, IsLegal, GoesOn, Stays}
use Rattle.value_gate.specs.Passes.{PassView, TookTurn, IsOwnHistory, calls_of}
use Rattle.value_gate.proofs.Beginnings.{prefix_self}
use Rattle.gate_trials.specs.declared.tally.Tally.{Tally}
use Rattle.gate_trials.specs.Tallies.{sum_after, AreRight, TallyStands}

sum_on : (n : ℕ) (es : List (Entry (ℕ × ℕ))) (e : Entry (ℕ × ℕ)) → sum_after n (es ++ e ∷ []) ≡ sum_after n es + e.turn.0
sum_on n [] e = refl
sum_on n (d ∷ ds) e = sum_on (n + d.turn.0) ds e

right_on : (n : ℕ) (es : List (Entry (ℕ × ℕ))) (e : Entry (ℕ × ℕ)) → AreRight n es → e.turn.1 ≡ sum_after n es + e.turn.0 → AreRight n (es ++ e ∷ [])
right_on n [] e all next = (next, tt)
right_on n (d ∷ ds) e all next = (all.0, right_on (n + d.turn.0) ds e all.1 next)

right_last : (n : ℕ) (es : List (Entry (ℕ × ℕ))) (e : Entry (ℕ × ℕ)) → AreRight n (es ++ e ∷ []) → e.turn.1 ≡ sum_after n (es ++ e ∷ [])
right_last n [] e all = all.0
right_last n (d ∷ ds) e all = right_last (n + d.turn.0) ds e all.1

-- the reply of a turn that was taken is the sum after all turns that its pass has then seen
replied_sum : (opening : Tally) (p q : PassView Tally (ℕ × ℕ)) (asked reply : ℕ) → p.opening ≡ Some opening → TookTurn p (asked, reply) q → IsOwnHistory TallyStands q
    → reply ≡ sum_after opening.sum q.history
replied_sum opening p q asked reply owner took own =
    let e : Entry (ℕ × ℕ) = entry p.number (length p.calls + 1) (asked, reply) in
    let history : q.history ≡ took.0 ++ e ∷ [] = ap (λ (x : PassView Tally (ℕ × ℕ)). x.history) took.2 in
    let opened : q.opening ≡ Some opening = ap (λ (x : PassView Tally (ℕ × ℕ)). x.opening) took.2 ∙ owner in
    let legal : IfSome (Some opening) (λ (o : Tally). IsLegal TallyStands o q.history × (calls_by q.number q.history ≡ q.calls)) =
    subst (λ x. IfSome x (λ (o : Tally). IsLegal TallyStands o q.history × (calls_by q.number q.history ≡ q.calls))) opened own in
    let stood = legal.0.reached q.history (prefix_self q.history) in
    let right : AreRight opening.sum (took.0 ++ e ∷ []) = subst (AreRight opening.sum) history stood.1.0 in
    right_last opening.sum took.0 e right ∙ ap (λ l. sum_after opening.sum l) (sym history)

pub replied : {F : Type 0} (opening : Tally) (p q : PassView Tally (ℕ × ℕ)) (asked : ℕ) (r : Result ℕ F) → p.opening ≡ Some opening
    → IfOk r (λ reply. TookTurn p (asked, reply) q) → IsOwnHistory TallyStands q → IfOk r (λ reply. reply ≡ sum_after opening.sum q.history)
replied opening p q asked (Ok reply) owner took own = replied_sum opening p q asked reply owner took own
replied opening p q asked (Err fault) owner took own = tt

pub goes_on : (old new : Tally) (asked reply : ℕ) → reply ≡ old.sum + asked → new.sum ≡ reply → GoesOn TallyStands old new (asked, reply)
goes_on old new asked reply sum now opening history pass call stands =
    let e : Entry (ℕ × ℕ) = entry pass call (asked, reply) in
    let next : reply ≡ sum_after opening.sum history + asked = sum ∙ ap (λ (k : ℕ). k + asked) stands.1 in
    (right_on opening.sum history e stands.0 next, now ∙ (next ∙ sym (sum_on opening.sum history e)))

pub stays : (old new : Tally) → new.sum ≡ old.sum → Stays TallyStands old new
stays old new same opening history stands = (stands.0, same ∙ stands.1)

pub calls_of_two : {A T : Type 0} (passes : List (PassView A T)) (p q : PassView A T) → passes ≡ p ∷ q ∷ [] → length (calls_of passes) ≡ length p.calls + length q.calls
calls_of_two passes p q are = omega (arith, ap (λ l. length (calls_of l)) are, length-append p.calls (q.calls ++ []), length-append q.calls [])
