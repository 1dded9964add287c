-- Chains of a desk's states, step by step, and what is seen of them.
use Rattle.std.proofs.Common.{◌≡◌, ℕ, ◌+◌, ◌<◌, length, get_or, List, [], ◌∷◌, ◌++◌, Option, Some, None, map, ap, ◌∙◌, sym, subst}
use Rattle.std.specs.Prelude.{IsPermutation, Result, Ok, Err}
use Rattle.std.specs.List.{AllZip, swap_remove}
use Rattle.std.proofs.lemmas.List.{append_assoc, length-append, map-append}
use Rattle.std.proofs.lemmas.List.Sorted.{IsPermutation-refl, IsPermutation-append_left, IsPermutation-pop_more, IsPermutation-to_front, IsPermutation-map, IsPermutation-swap_remove}
use Rattle.job_desk.specs.Chains.{CameBack, Execution, DeskKind, Stops, Went, begun, gave, stopped, took}

-- ---- lists

-- one more at the end of both
pub AllZip-pushed : {A B : Type 0} (S : A → B → Type 0) (xs : List A) (ys : List B) (x : A) (y : B) → AllZip S xs ys → S x y → AllZip S (xs ++ x ∷ []) (ys ++ y ∷ [])
AllZip-pushed S [] [] x y h s = (s, tt)
AllZip-pushed S [] (b ∷ ys) x y h s = absurd h
AllZip-pushed S (a ∷ xs) [] x y h s = absurd h
AllZip-pushed S (a ∷ xs) (b ∷ ys) x y h s = (h.0, AllZip-pushed S xs ys x y h.1 s)

-- what is seen of a list after a push
pub map-pushed : {A B : Type 0} (f : A → B) (xs ys zs : List A) (v : A) (x : B) → zs ≡ ys ++ v ∷ [] → ys ≡ xs → f v ≡ x → map f zs ≡ map f xs ++ x ∷ []
map-pushed f xs ys zs v x p q r =
    ap (map f) (p ∙ ap (λ l. l ++ v ∷ []) q) ∙ (map-append f xs (v ∷ []) ∙ ap (λ y. map f xs ++ y ∷ []) r)

-- how long a list is after a push
pub length-pushed : {A : Type 0} (ys zs : List A) (v : A) → zs ≡ ys ++ v ∷ [] → length zs ≡ length ys + 1
length-pushed ys zs v p = ap length p ∙ length-append ys (v ∷ [])

-- what is seen of a list after one of it was taken out
pub map-taken : {A B : Type 0} (f : A → B) (xs ys : List A) (i : ℕ) (x : A) → i < length xs → x ≡ get_or xs i x → ys ≡ swap_remove xs i x → IsPermutation (map f xs) (f x ∷ map f ys)
map-taken f xs ys i x lt at is = IsPermutation-map f xs (x ∷ ys) (subst (λ l. IsPermutation xs (x ∷ l)) (sym is) (IsPermutation-swap_remove xs i x lt at))

-- ---- steps

module _ {D J R F : Type 0} (kind : DeskKind D J R F) where
  -- nothing was given yet
  pub none-given : (d : D) → CameBack kind d d [] []
  none-given d = record { jobs = []; came = []; done = []; went = begun; each_once = IsPermutation-refl []; served = tt }

  pub one-given : (b d e : D) (out : List J) (stops : List (Result Unit F)) (j : J) → CameBack kind b d out stops → kind.gives d (Some j) e → CameBack kind b e (out ++ j ∷ []) stops
  one-given b d e out stops j h p = record {
    jobs = h.jobs ++ j ∷ [];
    came = h.came;
    done = h.done;
    went = gave j h.went p;
    each_once = subst (λ l. IsPermutation (h.jobs ++ j ∷ []) l) (append_assoc h.came out (j ∷ [])) (IsPermutation-append_left (j ∷ []) h.jobs (h.came ++ out) h.each_once);
    served = h.served;
  }

  pub one-taken : (b d e : D) (out rest : List J) (stops : List (Result Unit F)) (j : J) (r : R) → CameBack kind b d out stops → IsPermutation out (j ∷ rest) → kind.serves j r → kind.takes d r e → CameBack kind b e rest stops
  one-taken b d e out rest stops j r h one s p = record {
    jobs = h.jobs;
    came = h.came ++ j ∷ [];
    done = h.done ++ r ∷ [];
    went = took r h.went p;
    each_once = IsPermutation-pop_more h.jobs h.came out rest j h.each_once one;
    served = AllZip-pushed kind.serves h.came h.done j r h.served s;
  }

  -- one more is given, and comes back at once
  pub one-served : (b d e k : D) (out : List J) (stops : List (Result Unit F)) (j : J) (r : R) → CameBack kind b d out stops → kind.gives d (Some j) e → kind.serves j r → kind.takes e r k → CameBack kind b k out stops
  one-served b d e k out stops j r h p s q = one-taken b e k (out ++ j ∷ []) out stops j r (one-given b d e out stops j h p) (IsPermutation-to_front out j) s q

  pub one-stop : (b d e : D) (out : List J) (stops : List (Result Unit F)) (why : Result Unit F) → CameBack kind b d out stops → Stops kind d why e → CameBack kind b e out (stops ++ why ∷ [])
  one-stop b d e out stops why h p = record {
    jobs = h.jobs;
    came = h.came;
    done = h.done;
    went = stopped why h.went p;
    each_once = h.each_once;
    served = h.served;
  }

-- ---- what is seen of a chain

-- a chain of one kind of desks is a chain of what is seen of them, where each call is seen as a call
module _ {L D J R F : Type 0} (look : L → D) (kind : DeskKind L J R F) (seen : DeskKind D J R F)
    (gives : (l m : L) (j : Option J) → kind.gives l j m → seen.gives (look l) j (look m))
    (refuses : (l m : L) (f : F) → kind.refuses l f m → seen.refuses (look l) f (look m))
    (takes : (l m : L) (r : R) → kind.takes l r m → seen.takes (look l) r (look m)) where
  stop-seen : (l m : L) (why : Result Unit F) → Stops kind l why m → Stops seen (look l) why (look m)
  stop-seen l m (Ok _) p = gives l m None p
  stop-seen l m (Err f) p = refuses l m f p

  pub went-seen : (b d : L) (c : Execution J R F) → Went kind b c d → Went seen (look b) c (look d)
  went-seen b _ _ begun = begun
  went-seen b _ _ (gave j h p) = gave j (went-seen b _ _ h) (gives _ _ (Some j) p)
  went-seen b _ _ (took r h p) = took r (went-seen b _ _ h) (takes _ _ r p)
  went-seen b _ _ (stopped why h p) = stopped why (went-seen b _ _ h) (stop-seen _ _ why p)
