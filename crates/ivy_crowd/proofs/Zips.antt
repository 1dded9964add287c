-- Lists place by place, and what the calls of several threads gave.
use Rattle.std.proofs.Common.{◌≡◌, ℕ, zero, suc, ◌+◌, ◌<◌, List, [], ◌∷◌, ◌++◌, length, map, All, refl, sym, ap, ◌∙◌, subst, arith, add-one}
use Rattle.std.specs.Prelude.{slice_index_or, flat_map}
use Rattle.std.specs.List.{AllZip, range_with_len}
use Rattle.std.proofs.lemmas.List.Elements.{All-cons, All-nil}
use Rattle.std.specs.Fork.{GivesJobs}
use denote.Param.Members.{Shared}

module _ {A B : Type 0} where
  pub zip_push : (R : A → B → Type 0) (xs : List A) (ys : List B) (x : A) (y : B) → AllZip R xs ys → R x y
      → AllZip R (xs ++ x ∷ []) (ys ++ y ∷ [])
  zip_push R [] [] x y all one = (one, tt)
  zip_push R [] (z ∷ ys) x y all one = absurd all
  zip_push R (w ∷ xs) [] x y all one = absurd all
  zip_push R (w ∷ xs) (z ∷ ys) x y all one = (all.0, zip_push R xs ys x y all.1 one)

  -- what follows for each of the second list
  pub zip_right : (R : A → B → Type 0) (P : B → Type 0) → ((x : A) (y : B) → R x y → P y) → (xs : List A) (ys : List B)
      → AllZip R xs ys → All P ys
  zip_right R P each [] [] all = All-nil P
  zip_right R P each [] (y ∷ ys) all = absurd all
  zip_right R P each (x ∷ xs) [] all = absurd all
  zip_right R P each (x ∷ xs) (y ∷ ys) all = All-cons P y ys (each x y all.0) (zip_right R P each xs ys all.1)

  -- what follows where the second list's elements are mapped
  pub zip_to : {D : Type 0} (R : A → B → Type 0) (P : B → Type 0) (S : A → D → Type 0) (f : B → D)
      → ((x : A) (y : B) → R x y → P y → S x (f y)) → (xs : List A) (ys : List B) → AllZip R xs ys → All P ys → AllZip S xs (map f ys)
  zip_to R P S f each [] [] all some = tt
  zip_to R P S f each [] (y ∷ ys) all some = absurd all
  zip_to R P S f each (x ∷ xs) [] all some = absurd all
  zip_to R P S f each (x ∷ xs) (y ∷ ys) all some =
      let rest = zip_to R P S f each xs ys all.1 (λ k d h. some (suc k) d (omega arith)) in
      (each x y all.0 (some 0 y (omega arith)), rest)

-- over a list between
pub zip_over : {A B D : Type 0} (R : A → B → Type 0) (Q : B → D → Type 0) (S : A → D → Type 0)
    → ((x : A) (y : B) (z : D) → R x y → Q y z → S x z) → (xs : List A) (ys : List B) (zs : List D) → AllZip R xs ys
    → AllZip Q ys zs → AllZip S xs zs
zip_over R Q S each [] [] [] p q = tt
zip_over R Q S each [] [] (z ∷ zs) p q = absurd q
zip_over R Q S each [] (y ∷ ys) zs p q = absurd p
zip_over R Q S each (x ∷ xs) [] zs p q = absurd p
zip_over R Q S each (x ∷ xs) (y ∷ ys) [] p q = absurd q
zip_over R Q S each (x ∷ xs) (y ∷ ys) (z ∷ zs) p q = (each x y z p.0 q.0, zip_over R Q S each xs ys zs p.1 q.1)

-- numbers from a on, and one more
pub range_more : (a n : ℕ) → range_with_len a (suc n) ≡ range_with_len a n ++ (a + n) ∷ []
range_more a zero = ap (λ k. k ∷ []) (omega arith)
range_more a (suc n) = ap (λ l. a ∷ l) (range_more (a + 1) n ∙ ap (λ k. range_with_len (a + 1) n ++ k ∷ []) (omega arith))

-- what each call of several threads gave
pub from_jobs : {F J X : Type 0} (g : Shared F (J × Unit {0}) X) (f : F) (P : J → X → Type 0)
    → ((j : J) (x : X) → g.post f (j, tt) x → P j x) → (js : List J) (xs : List X) → length xs ≡ length js → GivesJobs g f js xs → AllZip P js xs
from_jobs g f P each [] [] same given = tt
from_jobs g f P each [] (x ∷ xs) same given = absurd (omega arith)
from_jobs g f P each (j ∷ js) [] same given = absurd (omega arith)
from_jobs {J} {X} g f P each (j ∷ js) (x ∷ xs) same given =
    let first = (given 0 x (omega arith)).1 in (
      subst (λ (k : J). P k x) (sym (first.job_is j)) (each first.job x first.call.met),
      from_jobs g f P each js xs (omega arith) (λ i d h. let next = (given (suc i) d (omega arith)).1 in
          (refl, record { job = next.job; job_read = next.job_read; job_is = next.job_is; call = next.call })),
    )
