-- The zeros after an item.
use Rattle.std.proofs.Common.{◌≡◌, ℕ, zero, suc, ◌≤◌, true, false, nat_eq, List, [], ◌∷◌, ◌++◌, take, drop, refl, sym, ◌∙◌, arith}
use Rattle.std.specs.Prelude.{Bool, replicate}
use Rattle.std.specs.Bool.{Decides}
use Rattle.std.specs.Cmp.Lexicographic.{pointwise}
use Rattle.std.proofs.lemmas.List.{take-append-drop}
use Rattle.std.proofs.lemmas.Slice.Eq.{slice_eq-Decides}
use Rattle.std.specs.Cmp.{unsigned_Decides}

three_zeros : (n : ℕ) → n ≤ 3 → take {A = ℕ} n (0 ∷ 0 ∷ 0 ∷ []) ≡ replicate n 0
three_zeros zero h = refl
three_zeros (suc zero) h = refl
three_zeros (suc (suc zero)) h = refl
three_zeros (suc (suc (suc zero))) h = refl
three_zeros (suc (suc (suc (suc n)))) h = absurd (omega (arith, h))

same_front : (bytes front : List ℕ) (n : ℕ) → n ≤ 3 → front ≡ take n bytes → pointwise nat_eq front (take n (0 ∷ 0 ∷ 0 ∷ [])) ≡ pointwise nat_eq (take n bytes) (replicate n 0)
same_front bytes front n h f = rw (f, three_zeros n h) refl

zeros_decide : (bytes front : List ℕ) (n : ℕ) (b : Bool) → n ≤ 3 → front ≡ take n bytes → pointwise nat_eq front (take n (0 ∷ 0 ∷ 0 ∷ [])) ≡ b → Decides b (take n bytes ≡ replicate n 0)
zeros_decide bytes front n b h f e = slice_eq-Decides unsigned_Decides (take n bytes) (replicate n 0) b (sym e ∙ same_front bytes front n h f)

pub front_of_zeros : (bytes front rest : List ℕ) (n : ℕ) → n ≤ 3 → front ≡ take n bytes → rest ≡ drop n bytes → pointwise nat_eq front (take n (0 ∷ 0 ∷ 0 ∷ [])) ≡ true → bytes ≡ replicate n 0 ++ rest
front_of_zeros bytes front rest n h f r e =
    let zeros : take n bytes ≡ replicate n 0 = (zeros_decide bytes front n true h f e).0 refl in
    sym (take-append-drop n bytes) ∙ rw (zeros, r) refl

pub no_zeros : (bytes front : List ℕ) (n : ℕ) → n ≤ 3 → front ≡ take n bytes → pointwise nat_eq front (take n (0 ∷ 0 ∷ 0 ∷ [])) ≡ false → take n bytes ≡ replicate n 0 → ⊥
no_zeros bytes front n h f e z =
    let no : false ≡ true = (zeros_decide bytes front n false h f e).1 z in
    absurd (cc no)
