-- Two logs of one owner that are linked from the first record on, stand among blocks whose names don't collide, and end at one stamp are
-- one log.
use Rattle.std.proofs.Common.{◌≡◌, ◌⊎◌, inl, inr, ⊎_elim, ℕ, ◌+◌, ◌<◌, List, [], ◌∷◌, ◌++◌, length, Option, Some, None, refl, sym, ap, ◌∙◌, subst, arith, Contains, append_assoc}
use Rattle.std.proofs.lemmas.List.Elements.{Contains-append_right}
use Rattle.ivy_base.specs.declared.key.Key.{Key}
use Rattle.ivy_base.specs.declared.key.PubKey.{PubKey}
use Rattle.ivy_base.specs.Naming.{IsCollisionFree}
use Rattle.log_model.specs.Chain.{GoesOn, IsChain, LinkedFrom}
use Rattle.log_model.specs.Record.{Record}
use Rattle.log_model.specs.Spelling.{HasSpelling, no_name}
use Rattle.log_model.specs.Standing.{Stand, StandsAmong}
use Rattle.log_model.specs.Vector.{Stamp}
use Rattle.log_model.specs.View.{View}
use Rattle.log_model.proofs.Lists.{each, each_left, here, in_cons, in_nothing}
use Rattle.log_records.proofs.OneRecord.{one_among}
use Rattle.turn_model.specs.Known.{EndsAt}
use Rattle.turn_model.specs.Turn.{IsPrefixOf}

-- what stands before a record of the list, and after it
pub divided : (xs : List Record) (r : Record) → Contains xs r → (before : List Record) × (after : List Record) × (xs ≡ before ++ r ∷ after)
divided [] r c = absurd (in_nothing r c)
divided (x ∷ xs) r c = ⊎_elim
    (λ e. ([], xs, ap (λ (y : Record). y ∷ xs) e))
    (λ more. let w = divided xs r more in (x ∷ w.0, w.1, ap (λ (l : List Record). x ∷ l) w.2))
    (in_cons x xs r c)

-- a list is empty, or ends at a record
pub ends_some : (xs : List Record) → (xs ≡ []) ⊎ ((before : List Record) × (last : Record) × (xs ≡ before ++ last ∷ []))
ends_some [] = inl refl
ends_some (x ∷ xs) = ⊎_elim (λ none. inr ([], x, ap (λ (s : List Record). x ∷ s) none)) (λ w. inr (x ∷ w.0, w.1, ap (λ (s : List Record). x ∷ s) w.2)) (ends_some xs)

-- ---- linked records

goes_linked : (view : View) (owner : PubKey) (p : Record) (rs : List Record) → GoesOn view owner p rs → LinkedFrom owner (p.seq + 1) p.name rs
goes_linked view owner p [] h = tt
goes_linked view owner p (r ∷ rs) h =
    (h.0.owned, h.0.spelled, h.1.seq, h.1.prev, subst (λ (k : ℕ). LinkedFrom owner (k + 1) r.name rs) h.1.seq (goes_linked view owner r rs h.2))

pub chain_linked : (view : View) (owner : PubKey) (chain : List Record) → IsChain view owner chain → LinkedFrom owner 1 no_name chain
chain_linked view owner [] h = tt
chain_linked view owner (r ∷ rs) h =
    (h.0.owned, h.0.spelled, h.1.seq, h.1.prev, subst (λ (k : ℕ). LinkedFrom owner (k + 1) r.name rs) h.1.seq (goes_linked view owner r rs h.2))

module _ (owner : PubKey) where
  pub linked_left : (n : ℕ) (prev : Key) (xs ys : List Record) → LinkedFrom owner n prev (xs ++ ys) → LinkedFrom owner n prev xs
  linked_left n prev [] ys h = tt
  linked_left n prev (x ∷ xs) ys h = (h.0, h.1, h.2, h.3, linked_left (n + 1) x.name xs ys h.4)

  pub last_seq : (n : ℕ) (prev : Key) (before : List Record) (last : Record) → LinkedFrom owner n prev (before ++ last ∷ []) → last.seq ≡ n + length before
  last_seq n prev [] last h = omega (arith, h.2)
  last_seq n prev (b ∷ before) last h = let more = last_seq (n + 1) b.name before last h.4 in omega (arith, more)

  pub each_linked : (n : ℕ) (prev : Key) (xs : List Record) (r : Record) → LinkedFrom owner n prev xs → Contains xs r → (r.owner ≡ owner) × HasSpelling r
  each_linked n prev [] r h c = absurd (in_nothing r c)
  each_linked n prev (x ∷ xs) r h c = ⊎_elim (λ e. subst (λ (q : Record). (q.owner ≡ owner) × HasSpelling q) e (h.0, h.1)) (λ more. each_linked (n + 1) x.name xs r h.4 more) (in_cons x xs r c)

  -- none is numbered further than they are long
  pub short_seq : (n : ℕ) (prev : Key) (xs : List Record) (r : Record) → LinkedFrom owner n prev xs → Contains xs r → r.seq < n + length xs
  short_seq n prev [] r h c = absurd (in_nothing r c)
  short_seq n prev (x ∷ xs) r h c = ⊎_elim
      (λ e. let same : x.seq ≡ r.seq = ap (λ (q : Record). q.seq) e in let at = h.2 in omega (arith, same, at))
      (λ more. let low = short_seq (n + 1) x.name xs r h.4 more in omega (arith, low))
      (in_cons x xs r c)

-- ---- where no names collide

module _ (blocks : List (List ℕ)) (apart : IsCollisionFree blocks) (owner : PubKey) where
  one_of_name : (p q : Record) → (p.owner ≡ owner) × HasSpelling p → (q.owner ≡ owner) × HasSpelling q → StandsAmong blocks p → StandsAmong blocks q → p.name ≡ q.name → p ≡ q
  one_of_name p q f g stands_p stands_q same = one_among owner blocks apart p q f.0 g.0 f.1 g.1 stands_p stands_q same

  -- up to one record, so many before it are the same
  same_before : (n : ℕ) (prev other : Key) (a b : List Record) (l : Record) → LinkedFrom owner n prev (a ++ l ∷ []) → LinkedFrom owner n other (b ++ l ∷ []) → Stand blocks (a ++ l ∷ []) → Stand blocks (b ++ l ∷ []) → length a ≡ length b
      → (a ≡ b) × (prev ≡ other)
  same_before n prev other [] [] l f g sf sg size = (refl, sym f.3 ∙ g.3)
  same_before n prev other [] (y ∷ b) l f g sf sg size = absurd (omega (arith, size))
  same_before n prev other (x ∷ a) [] l f g sf sg size = absurd (omega (arith, size))
  same_before n prev other (x ∷ a) (y ∷ b) l f g sf sg size =
      let rest = same_before (n + 1) x.name y.name a b l f.4 g.4 sf.1 sg.1 (omega (arith, size)) in
      let first : x ≡ y = one_of_name x y (f.0, f.1) (g.0, g.1) sf.0 sg.0 rest.1 in
      ((λ i. first i ∷ rest.0 i), sym f.3 ∙ ap (λ (r : Record). r.prev) first ∙ g.3)

  -- what ends at a record of a name is the beginning of what has one of that name
  pub prefix_linked : (xs ys a : List Record) (l m : Record) → LinkedFrom owner 1 no_name xs → LinkedFrom owner 1 no_name ys → Stand blocks xs → Stand blocks ys → xs ≡ a ++ l ∷ [] → Contains ys m → m.name ≡ l.name → IsPrefixOf xs ys
  prefix_linked xs ys a l m linked_x linked_y stands_x stands_y is has same = (parts.1, whole)
    where
      parts : (before : List Record) × (after : List Record) × (ys ≡ before ++ m ∷ after)
      parts = divided ys m has

      in_x : Contains xs l
      in_x = subst (λ (s : List Record). Contains s l) (sym is) (Contains-append_right a (l ∷ []) l (here l []))

      one : m ≡ l
      one = one_of_name m l (each_linked owner 1 no_name ys m linked_y has) (each_linked owner 1 no_name xs l linked_x in_x)
          (each (StandsAmong blocks) ys m stands_y has) (each (StandsAmong blocks) xs l stands_x in_x) same

      split : ys ≡ (parts.0 ++ l ∷ []) ++ parts.1
      split = parts.2 ∙ ap (λ (r : Record). parts.0 ++ r ∷ parts.1) one ∙ sym (append_assoc parts.0 (l ∷ []) parts.1)

      linked_a : LinkedFrom owner 1 no_name (a ++ l ∷ [])
      linked_a = subst (LinkedFrom owner 1 no_name) is linked_x

      linked_b : LinkedFrom owner 1 no_name (parts.0 ++ l ∷ [])
      linked_b = linked_left owner 1 no_name (parts.0 ++ l ∷ []) parts.1 (subst (LinkedFrom owner 1 no_name) split linked_y)

      stands_b : Stand blocks (parts.0 ++ l ∷ [])
      stands_b = each_left (StandsAmong blocks) (parts.0 ++ l ∷ []) parts.1 (subst (Stand blocks) split stands_y)

      size : length a ≡ length parts.0
      size = omega (arith, last_seq owner 1 no_name a l linked_a, last_seq owner 1 no_name parts.0 l linked_b)

      whole : xs ++ parts.1 ≡ ys
      whole =
          ap (λ (s : List Record). s ++ parts.1) (is ∙ ap (λ (s : List Record). s ++ l ∷ []) (same_before 1 no_name no_name a parts.0 l linked_a linked_b (subst (Stand blocks) is stands_x) stands_b size).0)
          ∙ sym split

  -- two that end at one stamp are one
  pub one_linked : (o : Option Stamp) (xs ys : List Record) → LinkedFrom owner 1 no_name xs → LinkedFrom owner 1 no_name ys → Stand blocks xs → Stand blocks ys → EndsAt o xs → EndsAt o ys → xs ≡ ys
  one_linked None xs ys linked_x linked_y stands_x stands_y none none_too = none ∙ sym none_too
  one_linked (Some t) xs ys linked_x linked_y stands_x stands_y ends ends_too = ends.2 ∙ ap (λ (s : List Record). s ++ ends.1 ∷ []) same ∙ ap (λ (r : Record). ends_too.0 ++ r ∷ []) one ∙ sym ends_too.2
    where
      in_x : Contains xs ends.1
      in_x = subst (λ (s : List Record). Contains s ends.1) (sym ends.2) (Contains-append_right ends.0 (ends.1 ∷ []) ends.1 (here ends.1 []))

      in_y : Contains ys ends_too.1
      in_y = subst (λ (s : List Record). Contains s ends_too.1) (sym ends_too.2) (Contains-append_right ends_too.0 (ends_too.1 ∷ []) ends_too.1 (here ends_too.1 []))

      one : ends.1 ≡ ends_too.1
      one = one_of_name ends.1 ends_too.1 (each_linked owner 1 no_name xs ends.1 linked_x in_x) (each_linked owner 1 no_name ys ends_too.1 linked_y in_y)
          (each (StandsAmong blocks) xs ends.1 stands_x in_x) (each (StandsAmong blocks) ys ends_too.1 stands_y in_y) (ap (λ (s : Stamp). s.name) (ends.3 ∙ sym ends_too.3))

      linked_a : LinkedFrom owner 1 no_name (ends.0 ++ ends.1 ∷ [])
      linked_a = subst (LinkedFrom owner 1 no_name) ends.2 linked_x

      linked_b : LinkedFrom owner 1 no_name (ends_too.0 ++ ends.1 ∷ [])
      linked_b = subst (λ (r : Record). LinkedFrom owner 1 no_name (ends_too.0 ++ r ∷ [])) (sym one) (subst (LinkedFrom owner 1 no_name) ends_too.2 linked_y)

      same : ends.0 ≡ ends_too.0
      same = (same_before 1 no_name no_name ends.0 ends_too.0 ends.1 linked_a linked_b (subst (Stand blocks) ends.2 stands_x)
          (subst (λ (r : Record). Stand blocks (ends_too.0 ++ r ∷ [])) (sym one) (subst (Stand blocks) ends_too.2 stands_y))
          (omega (arith, last_seq owner 1 no_name ends.0 ends.1 linked_a, last_seq owner 1 no_name ends_too.0 ends.1 linked_b))).0
