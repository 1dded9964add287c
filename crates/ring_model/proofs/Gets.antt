-- Lists of nodes, each once, and trails that grow by one ask.
use Rattle.std.proofs.Common.{◌≡◌, ℕ, ◌+◌, Bool, if◌then◌else◌, List, [], ◌∷◌, ◌++◌, Option, Some, None, refl, ap, sym, ◌∙◌, inl, inr, ⊎_elim, ◌⊎◌, zero-add}
use Rattle.std.specs.Option.{option_map}
use Rattle.std.specs.List.{cons_option}
use Rattle.std.proofs.lemmas.List.{append-nil}
use Rattle.std.proofs.lemmas.List.Elements.{filter_map-append}
use Rattle.std.proofs.lemmas.List.Sums.{sum_by-append}
use Rattle.ring_model.specs.Members.{IsAmong, first}
use Rattle.ring_model.specs.Gets.{AreFirsts, answered_in, given}
use Rattle.ring_model.specs.Gets.AreFirsts.{none, again, new}
use Rattle.ring_model.proofs.Lists.{none_some}

-- one more node that stood before
pub firsts_again : {A : Type 0} (seen ps qs : List A) (p : A) → AreFirsts seen ps qs → IsAmong p seen ⊎ IsAmong p qs → AreFirsts seen (ps ++ p ∷ []) qs
firsts_again seen [] [] p none h = ⊎_elim (λ s. again s none) absurd h
firsts_again seen [] (_ ∷ qs) p f h = elim f [ ]
firsts_again seen (q ∷ ps) qs p (again s f) h = again s (firsts_again seen ps qs p f h)
firsts_again seen (q ∷ ps) (_ ∷ qs) p (new n f) (inl s) = new n (firsts_again (q ∷ seen) ps qs p f (inl (inr s)))
firsts_again seen (q ∷ ps) (_ ∷ qs) p (new n f) (inr (inl e)) = new n (firsts_again (q ∷ seen) ps qs p f (inl (inl e)))
firsts_again seen (q ∷ ps) (_ ∷ qs) p (new n f) (inr (inr h)) = new n (firsts_again (q ∷ seen) ps qs p f (inr h))

-- one more node that didn't stand before
pub firsts_new : {A : Type 0} (seen ps qs : List A) (p : A) → AreFirsts seen ps qs → (IsAmong p seen → ⊥) → (IsAmong p qs → ⊥) → AreFirsts seen (ps ++ p ∷ []) (qs ++ p ∷ [])
firsts_new seen [] [] p none s h = new s none
firsts_new seen [] (_ ∷ qs) p f s h = elim f [ ]
firsts_new seen (q ∷ ps) qs p (again a f) s h = again a (firsts_new seen ps qs p f s h)
firsts_new seen (q ∷ ps) (_ ∷ qs) p (new n f) s h = new n (firsts_new (q ∷ seen) ps qs p f (λ i. ⊎_elim (λ e. h (inl e)) s i) (λ i. h (inr i)))

-- one more ask is answered, or isn't
pub answered_more : {A X : Type 0} (answers : X → Bool) (trail : List (A × X)) (p : A) (x : X) → answered_in answers (trail ++ (p, x) ∷ []) ≡ answered_in answers trail + (if answers x then 1 else 0)
answered_more answers trail p x = sum_by-append (λ s. if answers s.1 then 1 else 0) trail ((p, x) ∷ []) ∙ ap (λ n. answered_in answers trail + n) (zero-add (if answers x then 1 else 0))

-- one more ask gave nothing
pub given_none : {A X : Type 0} (block : X → Option (List ℕ)) (trail : List (A × X)) (p : A) (x : X) → block x ≡ None → given block (trail ++ (p, x) ∷ []) ≡ given block trail
given_none {A = A} block trail p x e =
    filter_map-append (λ s. option_map {U = A × List ℕ} (λ bytes. (s.0, bytes)) (block s.1)) trail ((p, x) ∷ []) ∙ ap (λ o. given block trail ++ cons_option (option_map {U = A × List ℕ} (λ bytes. (p, bytes)) o) []) e
    ∙ append-nil (given block trail)

-- one more ask gave bytes
pub given_some : {A X : Type 0} (block : X → Option (List ℕ)) (trail : List (A × X)) (p : A) (x : X) (bytes : List ℕ) → block x ≡ Some bytes → given block (trail ++ (p, x) ∷ []) ≡ given block trail ++ (p, bytes) ∷ []
given_some {A = A} block trail p x bytes e =
    filter_map-append (λ s. option_map {U = A × List ℕ} (λ bytes. (s.0, bytes)) (block s.1)) trail ((p, x) ∷ []) ∙ ap (λ o. given block trail ++ cons_option (option_map {U = A × List ℕ} (λ bytes. (p, bytes)) o) []) e

-- the first of a list that has one more
pub first_some : {X : Type 0} (xs : List X) (x y : X) → first xs ≡ Some y → first (xs ++ x ∷ []) ≡ Some y
first_some [] x y e = absurd (none_some y e)
first_some (z ∷ xs) x y e = e

pub first_none : {X : Type 0} (xs : List X) (x : X) → first xs ≡ None → first (xs ++ x ∷ []) ≡ Some x
first_none [] x e = refl
first_none (z ∷ xs) x e = absurd (none_some z (sym e))
