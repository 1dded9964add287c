-- The views of all passes, one of which changes.
use Rattle.std.proofs.Common.{◌≡◌, ◌≢◌, ◌⊎◌, ℕ, zero, suc, ◌+◌, ◌<◌, ◌≤◌, Bool, true, false, List, [], ◌∷◌, ◌++◌, length, set, sum_by, Option, Some, None, IfSome, refl, ap, sym, ◌∙◌, subst, inl, inr, ⊎_elim, arith, append_assoc}
use Rattle.std.proofs.lemmas.List.{append-nil}
use Rattle.std.proofs.lemmas.List.Sums.{sum_by-append}
use mathlib.Core.Logic.{dite}
use mathlib.Core.Option.{some, some-injective, some-ne-none}
use native.Mathlib.Decide.{ℕ_discrete}
use lib.ListN.{get_elem?}
use Rattle.atomic_table.proofs.Lists.{at_set, at_longer, set_else}
use Rattle.value_gate.specs.declared.history.Entry.{Entry}
use Rattle.value_gate.specs.declared.knows.Gone.{Gone}
use Rattle.value_gate.specs.declared.knows.Knows.{Knows}
use Rattle.value_gate.specs.Rules.{total, all_calls, calls_of_gone, Fits, IsGone, AreGone}
use Rattle.value_gate.specs.Steps.{ended, joined}
use Rattle.value_gate.proofs.Beginnings.{prefix_more, calls_others}

pub if_some : {X : Type 0} (P : X → Type 0) (x : Option X) → ((o : X) → x ≡ Some o → P o) → IfSome x P
if_some P (Some o) f = f o refl
if_some P None f = tt

pub not_true : (b : Bool) → (b ≡ true → false ≡ true) → b ≡ false
not_true true f = sym (f refl)
not_true false f = refl

module _ {A : Type 0} where
  pub set_at : (l : List A) (i : ℕ) (a b : A) → get_elem? l i ≡ some a → get_elem? (set l i b) i ≡ some b
  set_at [] i a b e = absurd (some-ne-none a (sym e))
  set_at (x ∷ xs) zero a b e = refl
  set_at (x ∷ xs) (suc i) a b e = set_at xs i a b e

  pub same_at : (l : List A) (i : ℕ) (a b : A) → get_elem? l i ≡ some a → get_elem? l i ≡ some b → a ≡ b
  same_at l i a b e d = some-injective a b (sym e ∙ d)

  -- what stands in a list one longer, and where
  pub at_end : (l : List A) (a b : A) (j : ℕ) → get_elem? (l ++ a ∷ []) j ≡ some b → (get_elem? l j ≡ some b) ⊎ ((j ≡ length l) × (a ≡ b))
  at_end [] a b zero e = inr (refl, some-injective a b e)
  at_end [] a b (suc j) e = absurd (some-ne-none b (sym e))
  at_end (x ∷ xs) a b zero e = inl e
  at_end (x ∷ xs) a b (suc j) e = ⊎_elim (λ t. inl t) (λ (t : (j ≡ length xs) × (a ≡ b)). inr (ap suc t.0, t.1)) (at_end xs a b j e)

  pub below_length : (l : List A) (i : ℕ) (a : A) → get_elem? l i ≡ some a → i < length l
  below_length [] i a e = absurd (some-ne-none a (sym e))
  below_length (x ∷ xs) zero a e = omega arith
  below_length (x ∷ xs) (suc i) a e = let h = below_length xs i a e in omega (arith, h)

gone_calls_append : {T : Type 0} (gs gs' : List (Gone T)) → calls_of_gone (gs ++ gs') ≡ calls_of_gone gs ++ calls_of_gone gs'
gone_calls_append [] gs' = refl
gone_calls_append (g ∷ gs) gs' = ap (λ l. g.calls ++ l) (gone_calls_append gs gs') ∙ sym (append_assoc g.calls (calls_of_gone gs) (calls_of_gone gs'))

module _ {A T : Type 0} where
  pub total_set : (l : List (Knows A T)) (j : ℕ) (v w : Knows A T) → get_elem? l j ≡ some v → total (set l j w) + v.parts ≡ total l + w.parts
  total_set [] j v w e = absurd (some-ne-none v (sym e))
  total_set (x ∷ xs) zero v w e = omega (arith, ap (λ (k : Knows A T). k.parts) (some-injective x v e))
  total_set (x ∷ xs) (suc j) v w e = omega (arith, total_set xs j v w e)

  pub total_end : (l : List (Knows A T)) (w : Knows A T) → total (l ++ w ∷ []) ≡ total l + w.parts
  total_end [] w = omega arith
  total_end (x ∷ xs) w = omega (arith, total_end xs w)

  part_of_total : (l : List (Knows A T)) (j : ℕ) (v : Knows A T) → get_elem? l j ≡ some v → v.parts ≤ total l
  part_of_total [] j v e = absurd (some-ne-none v (sym e))
  part_of_total (x ∷ xs) zero v e = omega (arith, ap (λ (k : Knows A T). k.parts) (some-injective x v e))
  part_of_total (x ∷ xs) (suc j) v e = omega (arith, part_of_total xs j v e)

  pub two_of_total : (l : List (Knows A T)) (j k : ℕ) (v u : Knows A T) → k ≢ j → get_elem? l j ≡ some v → get_elem? l k ≡ some u → v.parts + u.parts ≤ total l
  two_of_total [] j k v u n e d = absurd (some-ne-none v (sym e))
  two_of_total (x ∷ xs) zero zero v u n e d = absurd (n refl)
  two_of_total (x ∷ xs) zero (suc k) v u n e d = omega (arith, ap (λ (y : Knows A T). y.parts) (some-injective x v e), part_of_total xs k u d)
  two_of_total (x ∷ xs) (suc j) zero v u n e d = omega (arith, ap (λ (y : Knows A T). y.parts) (some-injective x u d), part_of_total xs j v e)
  two_of_total (x ∷ xs) (suc j) (suc k) v u n e d = omega (arith, two_of_total xs j k v u (λ h. n (ap suc h)) e d)

  -- what the calls weigh that a view tells of
  abbrev pub told : (Entry T → ℕ) → Knows A T → ℕ
  told f v = sum_by f v.calls + sum_by f (calls_of_gone v.gone)

  told_all : (f : Entry T → ℕ) (v : Knows A T) (vs : List (Knows A T)) → sum_by f (all_calls (v ∷ vs)) ≡ told f v + sum_by f (all_calls vs)
  told_all f v vs = omega (arith, sum_by-append f v.calls (calls_of_gone v.gone ++ all_calls vs), sum_by-append f (calls_of_gone v.gone) (all_calls vs))

  pub calls_set : (f : Entry T → ℕ) (l : List (Knows A T)) (j : ℕ) (v w : Knows A T) → get_elem? l j ≡ some v → sum_by f (all_calls (set l j w)) + told f v ≡ sum_by f (all_calls l) + told f w
  calls_set f [] j v w e = absurd (some-ne-none v (sym e))
  calls_set f (x ∷ xs) zero v w e = omega (arith, ap (λ (k : Knows A T). told f k) (some-injective x v e), told_all f x xs, told_all f w xs)
  calls_set f (x ∷ xs) (suc j) v w e = omega (arith, calls_set f xs j v w e, told_all f x xs, told_all f x (set xs j w))

  pub calls_end : (f : Entry T → ℕ) (l : List (Knows A T)) (w : Knows A T) → sum_by f (all_calls (l ++ w ∷ [])) ≡ sum_by f (all_calls l) + told f w
  calls_end f [] w = omega (arith, told_all f w [])
  calls_end f (x ∷ xs) w = omega (arith, calls_end f xs w, told_all f x xs, told_all f x (xs ++ w ∷ []))

  abbrev pub IdleIn : List (Knows A T) → Type 0
  IdleIn l = (j : ℕ) (u : Knows A T) → get_elem? l j ≡ some u → u.parts ≡ 0 → (u.calls ≡ []) × (calls_of_gone u.gone ≡ [])

  idle_tells : (f : Entry T → ℕ) (u : Knows A T) → (u.calls ≡ []) × (calls_of_gone u.gone ≡ []) → told f u ≡ 0
  idle_tells f u none = omega (arith, ap (λ l. sum_by f l) none.0, ap (λ l. sum_by f l) none.1)

  idle_all : (f : Entry T → ℕ) (l : List (Knows A T)) → IdleIn l → total l ≡ 0 → sum_by f (all_calls l) ≡ 0
  idle_all f [] idle none = refl
  idle_all f (x ∷ xs) idle none = omega (arith, told_all f x xs, idle_tells f x (idle 0 x refl (omega (arith, none))), idle_all f xs (λ j u e. idle (suc j) u e) (omega (arith, none)))

  -- the view that has all parts tells of all calls
  pub calls_of_all : (f : Entry T → ℕ) (l : List (Knows A T)) (j : ℕ) (v : Knows A T) → IdleIn l → get_elem? l j ≡ some v → v.parts ≡ total l → sum_by f (all_calls l) ≡ told f v
  calls_of_all f [] j v idle e all = absurd (some-ne-none v (sym e))
  calls_of_all f (x ∷ xs) zero v idle e all =
      let same : x ≡ v = some-injective x v e in
      omega (arith, told_all f x xs, ap (λ (k : Knows A T). told f k) same, idle_all f xs (λ k u d. idle (suc k) u d) (omega (arith, all, ap (λ (k : Knows A T). k.parts) same)))
  calls_of_all f (x ∷ xs) (suc j) v idle e all =
      let less = part_of_total xs j v e in
      omega (arith, told_all f x xs, idle_tells f x (idle 0 x refl (omega (arith, all, less))), calls_of_all f xs j v (λ k u d. idle (suc k) u d) e (omega (arith, all, less)))

  -- what ends leaves its calls
  pub ended_calls : (x : Option A) (number : ℕ) (calls : List (Entry T)) → (x ≡ None → calls ≡ []) → calls_of_gone (ended x number calls) ≡ calls
  ended_calls (Some o) number calls note = append-nil calls
  ended_calls None number calls note = sym (note refl)

  pub joined_calls : (v w : Knows A T) → (w.opening ≡ None → w.calls ≡ []) → calls_of_gone (joined v w).gone ≡ calls_of_gone v.gone ++ (calls_of_gone w.gone ++ w.calls)
  joined_calls v w note =
      let last : List (Gone T) = ended w.opening w.number w.calls in
      gone_calls_append v.gone (w.gone ++ last) ∙ ap (λ l. calls_of_gone v.gone ++ l) (gone_calls_append w.gone last ∙ ap (λ l. calls_of_gone w.gone ++ l) (ended_calls w.opening w.number w.calls note))

  -- a join keeps what is told
  pub joined_tells : (f : Entry T → ℕ) (v w : Knows A T) → (w.opening ≡ None → w.calls ≡ []) → told f (joined v w) ≡ told f v + told f w
  joined_tells f v w note = omega (
    arith,
    ap (λ l. sum_by f l) (joined_calls v w note),
    sum_by-append f (calls_of_gone v.gone) (calls_of_gone w.gone ++ w.calls),
    sum_by-append f (calls_of_gone w.gone) w.calls,
  )

  pub joined_idle : (v w : Knows A T) → (w.opening ≡ None → w.calls ≡ []) → (v.parts ≡ 0 → (v.calls ≡ []) × (calls_of_gone v.gone ≡ [])) → (w.parts ≡ 0 → (w.calls ≡ []) × (calls_of_gone w.gone ≡ []))
      → (joined v w).parts ≡ 0 → ((joined v w).calls ≡ []) × (calls_of_gone (joined v w).gone ≡ [])
  joined_idle v w note idle idle' none =
      let a = idle (omega (arith, none)) in
      let b = idle' (omega (arith, none)) in
      (a.0, joined_calls v w note ∙ (ap (λ l. l ++ (calls_of_gone w.gone ++ w.calls)) a.1 ∙ (ap (λ l. l ++ w.calls) b.1 ∙ b.0)))

  -- each view fits where the changed one does, and the others do as before
  pub each_set : (opening : A) (l : List (Knows A T)) (id : ℕ) (w : Knows A T) (h h' : List (Entry T))
      → ((place : ℕ) (v : Knows A T) → get_elem? l place ≡ some v → Fits opening h place v)
      → ((place : ℕ) (v : Knows A T) → place ≢ id → Fits opening h place v → Fits opening h' place v)
      → Fits opening h' id w
      → (place : ℕ) (v : Knows A T) → get_elem? (set l id w) place ≡ some v → Fits opening h' place v
  each_set opening l id w h h' each others mine j u there = ⊎_elim
      (λ (t : (j ≡ id) × (w ≡ u)). subst (λ (k : ℕ). Fits opening h' k u) (sym t.0) (subst (λ (y : Knows A T). Fits opening h' id y) t.1 mine))
      (λ (t : (j ≢ id) × (get_elem? l j ≡ some u)). others j u t.0 (each j u t.1))
      (at_set l id j w u there)

  -- a history that grows by an entry of another pass
  pub fits_on : (opening : A) (h : List (Entry T)) (e : Entry T) (place : ℕ) (v : Knows A T) → place ≢ e.pass → Fits opening h place v → Fits opening (h ++ e ∷ []) place v
  fits_on opening h e place v other f = record {
    seen = prefix_more v.seen h (e ∷ []) f.seen;
    own = f.own;
    met = f.met;
    owner = f.owner;
    calls = λ o is. ((f.calls o is).0, calls_others place h e other ∙ (f.calls o is).1);
    note = f.note;
    idle = f.idle;
  }

  pub all_gone : (l l' : List (Knows A T)) (h h' : List (Entry T)) → ((g : Gone T) → IsGone l h g → IsGone l' h' g)
      → (gs : List (Gone T)) → AreGone l h gs → AreGone l' h' gs
  all_gone l l' h h' f [] all = tt
  all_gone l l' h h' f (g ∷ gs) all = (f g all.0, all_gone l l' h h' f gs all.1)

  pub gone_append : (l : List (Knows A T)) (h : List (Entry T)) (gs gs' : List (Gone T)) → AreGone l h gs → AreGone l h gs' → AreGone l h (gs ++ gs')
  gone_append l h [] gs' all all' = all'
  gone_append l h (g ∷ gs) gs' all all' = (all.0, gone_append l h gs gs' all.1 all')

  -- what is gone stays gone where a note is set to a note
  pub gone_set : (l : List (Knows A T)) (h : List (Entry T)) (id : ℕ) (v w : Knows A T) → get_elem? l id ≡ some v → (v.opening ≡ None → w.opening ≡ None)
      → (g : Gone T) → IsGone l h g → IsGone (set l id w) h g
  gone_set l h id v w at still g is = dite (ℕ_discrete g.number id)
      (λ here. let same : v ≡ is.1 = same_at l id v is.1 at (subst (λ (k : ℕ). get_elem? l k ≡ some is.1) here is.2) in
      (is.0, w, subst (λ (k : ℕ). get_elem? (set l id w) k ≡ some w) (sym here) (set_at l id v w at), still (ap (λ (k : Knows A T). k.opening) same ∙ is.3)))
      (λ away. (is.0, is.1, set_else l id g.number w away ∙ is.2, is.3))

  pub gone_longer : (l : List (Knows A T)) (h : List (Entry T)) (n : Knows A T) (g : Gone T) → IsGone l h g → IsGone (l ++ n ∷ []) h g
  gone_longer l h n g is = (is.0, is.1, at_longer l (n ∷ []) g.number is.1 is.2, is.3)

  -- a history that grows by an entry of a pass that is not gone
  pub gone_on : (l : List (Knows A T)) (h : List (Entry T)) (e : Entry T) (v : Knows A T) (o : A) → get_elem? l e.pass ≡ some v → v.opening ≡ Some o
      → (g : Gone T) → IsGone l h g → IsGone l (h ++ e ∷ []) g
  gone_on l h e v o at owner g is =
      let other : g.number ≢ e.pass = λ here.
      let same : v ≡ is.1 = same_at l e.pass v is.1 at (subst (λ (k : ℕ). get_elem? l k ≡ some is.1) here is.2) in absurd (cc (owner, is.3, ap (λ (k : Knows A T). k.opening) same)) in
      (calls_others g.number h e other ∙ is.0, is.1, is.2, is.3)

  -- the passes that are gone, where one view changes
  pub gone_each : (l : List (Knows A T)) (h : List (Entry T)) (id : ℕ) (v w : Knows A T) → get_elem? l id ≡ some v → (v.opening ≡ None → w.opening ≡ None)
      → ((place : ℕ) (u : Knows A T) → get_elem? l place ≡ some u → AreGone l h u.gone)
      → AreGone (set l id w) h w.gone
      → (place : ℕ) (u : Knows A T) → get_elem? (set l id w) place ≡ some u → AreGone (set l id w) h u.gone
  gone_each l h id v w at still all mine j u there = ⊎_elim
      (λ (t : (j ≡ id) × (w ≡ u)). subst (λ (y : Knows A T). AreGone (set l id w) h y.gone) t.1 mine)
      (λ (t : (j ≢ id) × (get_elem? l j ≡ some u)). all_gone l (set l id w) h h (gone_set l h id v w at still) u.gone (all j u t.1))
      (at_set l id j w u there)

  -- the same where the view's own list stays
  pub gone_same : (l : List (Knows A T)) (h : List (Entry T)) (id : ℕ) (v w : Knows A T) → get_elem? l id ≡ some v → w.opening ≡ v.opening → w.gone ≡ v.gone
      → ((place : ℕ) (u : Knows A T) → get_elem? l place ≡ some u → AreGone l h u.gone)
      → (place : ℕ) (u : Knows A T) → get_elem? (set l id w) place ≡ some u → AreGone (set l id w) h u.gone
  gone_same l h id v w at same same' all = gone_each l h id v w at (λ is. same ∙ is) all
      (subst (λ gs. AreGone (set l id w) h gs) (sym same') (all_gone l (set l id w) h h (gone_set l h id v w at (λ is. same ∙ is)) v.gone (all id v at)))

  pub gone_end : (l : List (Knows A T)) (h : List (Entry T)) (n : Knows A T) → n.gone ≡ []
      → ((place : ℕ) (u : Knows A T) → get_elem? l place ≡ some u → AreGone l h u.gone)
      → (place : ℕ) (u : Knows A T) → get_elem? (l ++ n ∷ []) place ≡ some u → AreGone (l ++ n ∷ []) h u.gone
  gone_end l h n none_gone all j u there = ⊎_elim
      (λ (t : get_elem? l j ≡ some u). all_gone l (l ++ n ∷ []) h h (gone_longer l h n) u.gone (all j u t))
      (λ (t : (j ≡ length l) × (n ≡ u)). subst (λ gs. AreGone (l ++ n ∷ []) h gs) (sym none_gone ∙ ap (λ (y : Knows A T). y.gone) t.1) tt)
      (at_end l n u j there)
