-- Blocks stay at their owners.
use Rattle.std.proofs.Common.{◌≡◌, ℕ, zero, suc, ◌<◌, ◌≤◌, Bool, true, false, cond, not, List, [], ◌∷◌, length, take, filter, Option, Some, None, refl, sym, ap, ◌∙◌, subst, arith, inl, inr, ⊎_elim, ◌⊎◌, length-take, length-append, ltb, leb}
use Rattle.std.proofs.lemmas.Bool.{cases_Bool, cases_lt, ltb-true, ltb-false, le-leb, lt-ltb, le-ltb, leb-true}
use Rattle.std.proofs.lemmas.List.{take_all}
use Rattle.std.proofs.lemmas.List.Elements.{filter-append}
use Rattle.std.proofs.lemmas.List.Filters.{length-filter_both}
use Rattle.ring_model.specs.Members.{IsAmong, from_place, owners}
use Rattle.ring_model.specs.Blocks.{raised, IsAtLeast, IsMoved, AreMoved}
use Rattle.ring_model.specs.Blocks.IsMoved.{idle, puts}
use Rattle.ring_model.specs.Blocks.AreMoved.{none, next}
use Rattle.ring_model.proofs.Lists.{among-left, among-right, among_filtered, filter_swap, filter_front, length_both, length_front, among_filter}

raised_least : (v : ℕ) (o : Option ℕ) → IsAtLeast v (raised v o)
raised_least v None = omega arith
raised_least v (Some w) = by (ltb w v) refl
  where
    by : (b : Bool) → ltb w v ≡ b → IsAtLeast v (cond b (Some v) (Some w))
    by true e = omega arith
    by false e = ltb-false w v e

raised_more : (u v : ℕ) (o : Option ℕ) → IsAtLeast u o → IsAtLeast u (raised v o)
raised_more u v None h = absurd h
raised_more u v (Some w) h = by (ltb w v) refl
  where
    by : (b : Bool) → ltb w v ≡ b → IsAtLeast u (cond b (Some v) (Some w))
    by true e = let l : w < v = ltb-true w v e in omega arith
    by false e = h

least_less : (u v : ℕ) (o : Option ℕ) → u ≤ v → IsAtLeast v o → IsAtLeast u o
least_less u v None l h = h
least_less u v (Some w) l h = omega arith

nothing : (v : ℕ) (o : Option ℕ) → o ≡ None → IsAtLeast v o → ⊥
nothing v o e h = subst (IsAtLeast v) e h

-- nodes that are one or not
module _ {A : Type 0} (owns : A → Bool) (same : (m n : A) → (m ≡ n) ⊎ (m ≡ n → ⊥)) where
  -- a put never lowers what an owner holds
  owner_keeps : (v : ℕ) (n m : A) (old new : A → Option ℕ) → IsMoved owns n old new → owns m ≡ true → IsAtLeast v (old m) → IsAtLeast v (new m)
  owner_keeps v n m old new (idle e f) o h = subst (IsAtLeast v) (sym (f m)) h
  owner_keeps v n m old new (puts u e at rest own away) o h =
      ⊎_elim
      (λ q. subst (λ z. IsAtLeast v (new z)) (sym q) (subst (IsAtLeast v) (sym (own (subst (λ z. owns z ≡ true) q o))) (subst (λ z. IsAtLeast v (old z)) q h)))
      (λ d. subst (IsAtLeast v) (sym (at m d o)) (raised_more v u (old m) h))
      (same m n)

  -- after each node's part the owners hold at least what any node held
  pub owners_hold : {ns : List A} {old new : A → Option ℕ} (v : ℕ) → AreMoved owns ns old new → (((m : A) → owns m ≡ true → IsAtLeast v (old m)) ⊎ ((z : A) × IsAmong z ns × IsAtLeast v (old z))) → (m : A) → owns m ≡ true → IsAtLeast v (new m)
  owners_hold v none (inl all) m o = all m o
  owners_hold v none (inr (z, h, l)) m o = elim h [ ]
  owners_hold v (next {n = n} {ns = ns} {old = old} {mid = mid} st more) (inl all) m o = owners_hold v more (inl (λ k ok. owner_keeps v n k old mid st ok (all k ok))) m o
  owners_hold v (next {n = n} {ns = ns} {old = old} {mid = mid} st more) (inr (z, h, l)) m o = owners_hold v more (⊎_elim (λ q. here q st) (λ d. there d h) (same n z)) m o
    where
      here : n ≡ z → IsMoved owns n old mid → ((k : A) → owns k ≡ true → IsAtLeast v (mid k)) ⊎ ((y : A) × IsAmong y ns × IsAtLeast v (mid y))
      here q (idle e f) = absurd (nothing v (old z) (subst (λ y. old y ≡ None) q e) l)
      here q (puts u e at rest own away) =
          let lu : v ≤ u = subst (IsAtLeast v) (sym (ap old q) ∙ e) l in
          inl (λ k ok. ⊎_elim
          (λ w. subst (IsAtLeast v) (sym (ap mid w ∙ own (subst (λ y. owns y ≡ true) w ok) ∙ e)) lu)
          (λ d. subst (IsAtLeast v) (sym (at k d ok)) (least_less v u (raised u (old k)) lu (raised_least u (old k))))
          (same k n))

      stays : (n ≡ z → ⊥) → IsMoved owns n old mid → IsAtLeast v (mid z)
      stays d (idle e f) = subst (IsAtLeast v) (sym (f z)) l
      stays d (puts u e at rest own away) =
          ⊎_elim
          (λ t. subst (IsAtLeast v) (sym (at z (λ q. d (sym q)) t)) (raised_more v u (old z) l))
          (λ t. subst (IsAtLeast v) (sym (rest z (λ q. d (sym q)) t)) l)
          (cases_Bool (owns z))

      there : (n ≡ z → ⊥) → (n ≡ z) ⊎ IsAmong z ns → ((k : A) → owns k ≡ true → IsAtLeast v (mid k)) ⊎ ((y : A) × IsAmong y ns × IsAtLeast v (mid y))
      there d (inl q) = absurd (d q)
      there d (inr i) = inr (z, i, stays d st)

  -- and nobody else holds anything
  pub others_drop : {ns : List A} {old new : A → Option ℕ} → AreMoved owns ns old new → (m : A) → owns m ≡ false → ((old m ≡ None) ⊎ IsAmong m ns) → new m ≡ None
  others_drop none m o (inl e) = e
  others_drop none m o (inr h) = elim h [ ]
  others_drop (next {n = n} {ns = ns} {old = old} {mid = mid} st more) m o h = others_drop more m o (by st h (same n m))
    where
      by : IsMoved owns n old mid → ((old m ≡ None) ⊎ ((n ≡ m) ⊎ IsAmong m ns)) → ((n ≡ m) ⊎ (n ≡ m → ⊥)) → (mid m ≡ None) ⊎ IsAmong m ns
      by (idle e f) h (inl q) = inl (f m ∙ subst (λ z. old z ≡ None) q e)
      by (idle e f) (inl g) (inr d) = inl (f m ∙ g)
      by (idle e f) (inr (inl q)) (inr d) = absurd (d q)
      by (idle e f) (inr (inr i)) (inr d) = inr i
      by (puts u e at rest own away) h (inl q) = inl (subst (λ z. mid z ≡ None) q (away (subst (λ z. owns z ≡ false) (sym q) o)))
      by (puts u e at rest own away) (inl g) (inr d) = inl (rest m (λ q. d (sym q)) o ∙ g)
      by (puts u e at rest own away) (inr (inl q)) (inr d) = absurd (d q)
      by (puts u e at rest own away) (inr (inr i)) (inr d) = inr i

module _ {A : Type 0} (place : A → ℕ) where
  from_place-filter : (p : A → Bool) (live : List A) (key : ℕ) → filter p (from_place place live key) ≡ from_place place (filter p live) key
  from_place-filter p live key =
      filter-append p (filter (λ m. leb key (place m)) live) (filter (λ m. ltb (place m) key) live)
      ∙ rw (filter_swap p (λ m. leb key (place m)) live, filter_swap p (λ m. ltb (place m) key) live) refl

  among_take_more : (j k : ℕ) (m : A) (xs : List A) → j ≤ k → IsAmong m (take j xs) → IsAmong m (take k xs)
  among_take_more zero k m xs h i = elim i [ ]
  among_take_more (suc j) zero m xs h i = absurd (omega arith)
  among_take_more (suc j) (suc k) m [] h i = elim i [ ]
  among_take_more (suc j) (suc k) m (x ∷ xs) h (inl e) = inl e
  among_take_more (suc j) (suc k) m (x ∷ xs) h (inr i) = inr (among_take_more j k m xs (omega arith) i)

  -- an owner that lives on is an owner of those that live on
  pub owner_stays : (r : ℕ) (before : List A) (lives : A → Bool) (key : ℕ) (m : A) → IsAmong m (owners place r before key) → lives m ≡ true → IsAmong m (owners place r (filter lives before) key)
  owner_stays r before lives key m h t =
      let i : IsAmong m (filter lives (take r (from_place place before key))) = among_filter lives m (take r (from_place place before key)) h t in
      let e = filter_front lives r (from_place place before key) in
      let j : IsAmong m (take (length (filter lives (take r (from_place place before key)))) (filter lives (from_place place before key))) = subst (IsAmong m) e i in
      let small : length (filter lives (take r (from_place place before key))) ≤ r =
      let b = length-filter_both lives (λ z. not (lives z)) (λ z. refl) (take r (from_place place before key)) in omega (arith, length-take r (from_place place before key)) in
      among_take_more _ r m (from_place place (filter lives before) key) small (subst (λ l. IsAmong m (take (length (filter lives (take r (from_place place before key)))) l)) (from_place-filter lives before key) j)

  in_some : (xs : List A) → 0 < length xs → (m : A) × IsAmong m xs
  in_some [] h = absurd (omega arith)
  in_some (x ∷ xs) h = (x, inl refl)

  filter_holds : (p : A → Bool) (m : A) (xs : List A) → IsAmong m (filter p xs) → p m ≡ true
  filter_holds p m [] h = elim h [ ]
  filter_holds p m (x ∷ xs) h = by (p x) refl (filter_holds p m xs) h
    where
      by : (b : Bool) → p x ≡ b → (IsAmong m (filter p xs) → p m ≡ true) → IsAmong m (cond b (x ∷ filter p xs) (filter p xs)) → p m ≡ true
      by true e f (inl q) = subst (λ z. p z ≡ true) q e
      by true e f (inr i) = f i
      by false e f i = f i

  -- of a key's owners one lives on, where fewer than r nodes stop and not all do
  pub owner_lives : (r : ℕ) (before : List A) (lives : A → Bool) (key : ℕ) → length (filter (λ m. not (lives m)) before) < r → (z : A) → IsAmong z before → lives z ≡ true
      → (m : A) × IsAmong m (owners place r before key) × (lives m ≡ true)
  owner_lives r before lives key few z zb zl = by (cases_lt (length (from_place place before key)) r)
    where
      from_all : IsAmong z (from_place place before key)
      from_all =
          ⊎_elim
          (λ h. among-right z (filter (λ m. leb key (place m)) before) (filter (λ m. ltb (place m) key) before) (among_filter (λ m. ltb (place m) key) z before zb (lt-ltb (place z) key h)))
          (λ h. among-left z (filter (λ m. leb key (place m)) before) (filter (λ m. ltb (place m) key) before) (among_filter (λ m. leb key (place m)) z before zb (le-leb key (place z) h)))
          (cases_lt (place z) key)

      dead : length (filter (λ m. not (lives m)) (take r (from_place place before key))) < r
      dead =
          let a = length_front (λ m. not (lives m)) r (from_place place before key) in
          let b = ap length (from_place-filter (λ m. not (lives m)) before key) in
          let c = length_both (λ m. leb key (place m)) (λ m. ltb (place m) key) (λ m t. le-ltb (place m) key (leb-true key (place m) t)) (filter (λ m. not (lives m)) before) in
          omega (arith, length-append (filter (λ m. leb key (place m)) (filter (λ m. not (lives m)) before)) (filter (λ m. ltb (place m) key) (filter (λ m. not (lives m)) before)))

      by : (length (from_place place before key) < r) ⊎ (r ≤ length (from_place place before key)) → (m : A) × IsAmong m (owners place r before key) × (lives m ≡ true)
      by (inl h) = (z, subst (IsAmong z) (sym (take_all r (from_place place before key) (omega arith))) from_all, zl)
      by (inr h) =
          let b = length-filter_both lives (λ m. not (lives m)) (λ m. refl) (take r (from_place place before key)) in
          let d = dead in
          let some : 0 < length (filter lives (take r (from_place place before key))) = omega (arith, length-take r (from_place place before key)) in
          let q = in_some (filter lives (take r (from_place place before key))) some in
          (q.0, among_filtered lives q.0 (take r (from_place place before key)) q.1, filter_holds lives q.0 (take r (from_place place before key)) q.1)

-- what all owners held at an earlier moment, since when fewer than r nodes stopped, an owner that lives still holds
pub block_stays : {A : Type 0} (place : A → ℕ) (r : ℕ) (before : List A) (lives : A → Bool) (key v : ℕ) (held now : A → Option ℕ) → length (filter (λ m. not (lives m)) before) < r → (z : A) → IsAmong z before → lives z ≡ true
    → ((m : A) → IsAmong m (owners place r before key) → IsAtLeast v (held m)) → ((m : A) → lives m ≡ true → IsAtLeast v (held m) → IsAtLeast v (now m))
    → (m : A) × IsAmong m (owners place r (filter lives before) key) × (lives m ≡ true) × IsAtLeast v (now m)
block_stays place r before lives key v held now few z zb zl all kept =
    let q = owner_lives place r before lives key few z zb zl in
    (q.0, owner_stays place r before lives key q.0 q.1 q.2, q.2, kept q.0 q.2 (all q.0 q.1))
