-- The open sessions of a world, and the code's.
use Rattle.std.proofs.Common.{◌≡◌, ℕ, zero, suc, ◌+◌, arith, Bool, true, false, cond, List, [], ◌∷◌, ◌++◌, length, map, filter, set, refl, sym, ap, ◌∙◌, subst, Option, Some, None, Contains}
use Rattle.std.specs.Prelude.{find, nat_lt, not}
use Rattle.std.specs.List.{position, position_or_len, remove}
use Rattle.std.specs.Str.{bytes_eq}
use Rattle.log_model.proofs.Lists.{here, there}
use Rattle.world_model.specs.World.{NamedSession}
use Rattle.world_laws.specs.Invariant.{AreApart}
use Rattle.world_laws.proofs.Placed.{same_name}
use Rattle.script_machine.specs.WorldState.{AreOpenAs, IsOpenAs, OpenState}

abbrev pub has_name : List ℕ → NamedSession → Bool
has_name name t = bytes_eq t.name name

abbrev pub is_named : List ℕ → OpenState → Bool
is_named name o = bytes_eq o.name name

abbrev pub names : List NamedSession → List (List ℕ)
names ts = map (λ (t : NamedSession). t.name) ts

-- the same sessions in the same ring
pub moved : (q r : Option ℕ) (us ts : List NamedSession) (os : List OpenState) → q ≡ r → us ≡ ts → AreOpenAs r ts os → AreOpenAs q us os
moved q r us ts os ring same h = subst (λ (x : Option ℕ). AreOpenAs x us os) (sym ring) (subst (λ (xs : List NamedSession). AreOpenAs r xs os) (sym same) h)

module _ (r : Option ℕ) where
  -- one more
  pub one_more : (ts : List NamedSession) (os : List OpenState) (t : NamedSession) (o : OpenState) → AreOpenAs r ts os → IsOpenAs r t o → AreOpenAs r (ts ++ t ∷ []) (os ++ o ∷ [])
  one_more [] [] t o all is = (is, tt)
  one_more (u ∷ ts) (p ∷ os) t o all is = (all.0, one_more ts os t o all.1 is)
  one_more [] (p ∷ os) t o all is = absurd all
  one_more (u ∷ ts) [] t o all is = absurd all

  -- those of a participant are gone
  pub without : (log : List ℕ) (ts : List NamedSession) (os : List OpenState) → AreOpenAs r ts os
      → AreOpenAs r (filter (λ (t : NamedSession). not (bytes_eq t.session.by log)) ts) (filter (λ (o : OpenState). not (bytes_eq o.by log)) os)
  without log [] [] all = tt
  without log (t ∷ ts) (o ∷ os) all = by (bytes_eq t.session.by log) (bytes_eq o.by log) (ap (λ (n : List ℕ). bytes_eq n log) all.0.by) (without log ts os all.1)
    where
      left : List NamedSession
      left = filter (λ (u : NamedSession). not (bytes_eq u.session.by log)) ts

      rest : List OpenState
      rest = filter (λ (p : OpenState). not (bytes_eq p.by log)) os

      by : (b c : Bool) → b ≡ c → AreOpenAs r left rest → AreOpenAs r (cond (not b) (t ∷ left) left) (cond (not c) (o ∷ rest) rest)
      by true true same h = h
      by false false same h = (all.0, h)
      by true false same h = absurd cc
      by false true same h = absurd cc
  without log [] (o ∷ os) all = absurd all
  without log (t ∷ ts) [] all = absurd all

  module _ (name : List ℕ) where
    -- what a walk finds
    abbrev pub IsFoundAs : List NamedSession → Option OpenState → Type 0
    IsFoundAs ts None = find (has_name name) ts ≡ None
    IsFoundAs ts (Some o) = (t : NamedSession) × (find (has_name name) ts ≡ Some t) × IsOpenAs r t o

    pub found_as : (ts : List NamedSession) (os : List OpenState) → AreOpenAs r ts os → IsFoundAs ts (find (is_named name) os)
    found_as [] [] all = refl
    found_as (t ∷ ts) (o ∷ os) all = by (bytes_eq o.name name) (ap (λ (n : List ℕ). bytes_eq n name) all.0.name) (find (is_named name) os) (found_as ts os all.1)
      where
        later : (x : Option OpenState) → find (has_name name) (t ∷ ts) ≡ find (has_name name) ts → IsFoundAs ts x → IsFoundAs (t ∷ ts) x
        later None skip h = skip ∙ h
        later (Some p) skip h = (h.0, skip ∙ h.1, h.2)

        by : (b : Bool) → bytes_eq t.name name ≡ b → (x : Option OpenState) → IsFoundAs ts x → IsFoundAs (t ∷ ts) (cond b (Some o) x)
        by true is x h = (t, ap (λ (c : Bool). cond c (Some t) (find (has_name name) ts)) is, all.0)
        by false is x h = later x (ap (λ (c : Bool). cond c (Some t) (find (has_name name) ts)) is) h
    found_as [] (o ∷ os) all = absurd all
    found_as (t ∷ ts) [] all = absurd all

    -- ---- one of its name

    abbrev place : List OpenState → ℕ
    place os = position_or_len (is_named name) os

    abbrev pub placed : NamedSession → NamedSession → NamedSession
    placed new t = cond (bytes_eq t.name name) new t

    placed_others : (new : NamedSession) (ts : List NamedSession) → (Contains (names ts) name → ⊥) → map (placed new) ts ≡ ts
    placed_others new [] none = refl
    placed_others new (t ∷ ts) none = by (bytes_eq t.name name) refl (placed_others new ts (λ c. none (there t.name (names ts) name c)))
      where
        by : (b : Bool) → bytes_eq t.name name ≡ b → map (placed new) ts ≡ ts → cond b new t ∷ map (placed new) ts ≡ t ∷ ts
        by true is rest = absurd (none (subst (λ (n : List ℕ). Contains (t.name ∷ names ts) n) (same_name t.name name is) (here t.name (names ts))))
        by false is rest = ap (λ (us : List NamedSession). t ∷ us) rest

    filter_others : (ts : List NamedSession) → (Contains (names ts) name → ⊥) → filter (λ (t : NamedSession). not (bytes_eq t.name name)) ts ≡ ts
    filter_others [] none = refl
    filter_others (t ∷ ts) none = by (bytes_eq t.name name) refl (filter_others ts (λ c. none (there t.name (names ts) name c)))
      where
        by : (b : Bool) → bytes_eq t.name name ≡ b → filter (λ (u : NamedSession). not (bytes_eq u.name name)) ts ≡ ts
            → cond (not b) (t ∷ filter (λ (u : NamedSession). not (bytes_eq u.name name)) ts) (filter (λ (u : NamedSession). not (bytes_eq u.name name)) ts) ≡ t ∷ ts
        by true is rest = absurd (none (subst (λ (n : List ℕ). Contains (t.name ∷ names ts) n) (same_name t.name name is) (here t.name (names ts))))
        by false is rest = ap (λ (us : List NamedSession). t ∷ us) rest

    -- in its place
    placed_open : (new : NamedSession) (p : OpenState) → IsOpenAs r new p → (ts : List NamedSession) (os : List OpenState) → AreOpenAs r ts os → AreApart (names ts)
        → AreOpenAs r (map (placed new) ts) (set os (place os) p)
    placed_open new p is [] [] all apart = tt
    placed_open new p is (t ∷ ts) (o ∷ os) all apart = by (bytes_eq t.name name) (bytes_eq o.name name) refl (ap (λ (n : List ℕ). bytes_eq n name) all.0.name) (placed_open new p is ts os all.1 apart.1)
      where
        by : (b c : Bool) → bytes_eq t.name name ≡ b → b ≡ c → AreOpenAs r (map (placed new) ts) (set os (place os) p)
            → AreOpenAs r (cond b new t ∷ map (placed new) ts) (set (o ∷ os) (cond (not c) (1 + place os) zero) p)
        by true true same both rest = (is, subst (λ (us : List NamedSession). AreOpenAs r us os) (sym (placed_others new ts (subst (λ (n : List ℕ). Contains (names ts) n → ⊥) (same_name t.name name same) apart.0))) all.1)
        by false false same both rest = subst (λ (k : ℕ). AreOpenAs r (t ∷ map (placed new) ts) (set (o ∷ os) k p)) next (all.0, rest)
          where
            next : suc (place os) ≡ 1 + place os
            next = omega arith
        by true false same both rest = absurd cc
        by false true same both rest = absurd cc
    placed_open new p is [] (o ∷ os) all apart = absurd all
    placed_open new p is (t ∷ ts) [] all apart = absurd all

    -- out
    removed_open : (ts : List NamedSession) (os : List OpenState) → AreOpenAs r ts os → AreApart (names ts)
        → AreOpenAs r (filter (λ (t : NamedSession). not (bytes_eq t.name name)) ts) (remove os (place os))
    removed_open [] [] all apart = tt
    removed_open (t ∷ ts) (o ∷ os) all apart = by (bytes_eq t.name name) (bytes_eq o.name name) refl (ap (λ (n : List ℕ). bytes_eq n name) all.0.name) (removed_open ts os all.1 apart.1)
      where
        left : List NamedSession
        left = filter (λ (u : NamedSession). not (bytes_eq u.name name)) ts

        by : (b c : Bool) → bytes_eq t.name name ≡ b → b ≡ c → AreOpenAs r left (remove os (place os)) → AreOpenAs r (cond (not b) (t ∷ left) left) (remove (o ∷ os) (cond (not c) (1 + place os) zero))
        by true true same both rest = subst (λ (us : List NamedSession). AreOpenAs r us os) (sym (filter_others ts (subst (λ (n : List ℕ). Contains (names ts) n → ⊥) (same_name t.name name same) apart.0))) all.1
        by false false same both rest = subst (λ (k : ℕ). AreOpenAs r (t ∷ left) (remove (o ∷ os) k)) next (all.0, rest)
          where
            next : suc (place os) ≡ 1 + place os
            next = omega arith
        by true false same both rest = absurd cc
        by false true same both rest = absurd cc
    removed_open [] (o ∷ os) all apart = absurd all
    removed_open (t ∷ ts) [] all apart = absurd all

    index_of : (k l i : ℕ) → cond (nat_lt k l) (Some k) None ≡ Some i → k ≡ i
    index_of k l i e = by (nat_lt k l) e
      where
        by : (t : Bool) → cond t (Some k) None ≡ Some i → k ≡ i
        by true e = cc e
        by false e = absurd (cc e)

    -- at the place that a walk finds
    module _ (ts : List NamedSession) (os : List OpenState) (i : ℕ) (at : position (is_named name) os ≡ Some i) (all : AreOpenAs r ts os) (apart : AreApart (names ts)) where
      pub put_back : (new : NamedSession) (p : OpenState) → IsOpenAs r new p → AreOpenAs r (map (placed new) ts) (set os i p)
      put_back new p is = subst (λ (k : ℕ). AreOpenAs r (map (placed new) ts) (set os k p)) (index_of (place os) (length os) i at) (placed_open new p is ts os all apart)

      pub closed : AreOpenAs r (filter (λ (t : NamedSession). not (bytes_eq t.name name)) ts) (remove os i)
      closed = subst (λ (k : ℕ). AreOpenAs r (filter (λ (t : NamedSession). not (bytes_eq t.name name)) ts) (remove os k)) (index_of (place os) (length os) i at) (removed_open ts os all apart)
