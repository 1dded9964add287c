-- There is one list of candidates at most.
use Rattle.std.proofs.Common.{◌≡◌, ◌⊎◌, inl, inr, List, [], ◌∷◌, map, refl, sym, ap, ◌∙◌, subst}
use Rattle.std.specs.Cmp.{ranked}
use Rattle.std.specs.List.{AllByRecursion}
use Rattle.std.specs.Ordering.{is_lt, nat_cmp, ordering_reverse}
use Rattle.std.specs.declared.cmp.Ordering.{Ordering}
use Rattle.std.specs.declared.cmp.Ordering.TheVariants.{Less, Equal, Greater}
use Rattle.ivy_base.specs.declared.key.PubKey.{PubKey}
use Rattle.ivy_base.specs.Naming.{IsCollisionFree, head_key_of, key_cmp}
use Rattle.tree_model.proofs.Keys.{keys_total, exact_keys}
use Rattle.log_model.specs.Vector.{Stamp}
use Rattle.log_model.specs.Record.{Record}
use Rattle.log_model.specs.Closed.{log_of}
use Rattle.turn_model.specs.Turn.{Candidate}
use Rattle.turn_model.specs.Candidates.{IsTriedBefore, IsTried, IsPassedOver, MakeChain, Evidence, IsCandidate, reading, own_log, newest, as_known}
use Rattle.turn_laws.specs.One.{CandidatesAreUnique}
use Rattle.turn_laws.proofs.OneChain.{one_chain}

-- of two heads one is tried before the other, or they are one
abbrev AreOrdered : Stamp → Stamp → Type 0
AreOrdered s t = IsTriedBefore s t ⊎ (IsTriedBefore t s ⊎ (s ≡ t))

by_name : (s t : Stamp) → s.seq ≡ t.seq → (o : Ordering) → key_cmp s.name t.name ≡ o → AreOrdered s t
by_name s t seqs Less e = inl (inr (seqs, ap is_lt e))
by_name s t seqs Equal e = let names : s.name ≡ t.name = exact_keys s.name t.name e in inr (inr (λ i. record { seq = seqs i; name = names i }))
by_name s t seqs Greater e = inr (inl (inr (sym seqs, ap is_lt (keys_total.antisymm t.name s.name ∙ ap ordering_reverse e))))

by_number : (s t : Stamp) → (o : Ordering) → o ≡ nat_cmp s.seq t.seq → AreOrdered s t
by_number s t Less e = inr (inl (inl (ranked s.seq t.seq Less e)))
by_number s t Equal e = by_name s t (ranked s.seq t.seq Equal e) (key_cmp s.name t.name) refl
by_number s t Greater e = inl (inl (ranked s.seq t.seq Greater e))

are_ordered : (s t : Stamp) → AreOrdered s t
are_ordered s t = by_number s t (nat_cmp s.seq t.seq) refl

module _ (e : Evidence) where
  -- the chain is that of the first head whose records make one
  abbrev pub IsNewest : PubKey → List Record → Type 0
  IsNewest owner chain = (head : Stamp) × IsTried e.heads e.floor (head_key_of owner) head × MakeChain (reading e) owner head chain
      × ((other : Stamp) → IsTried e.heads e.floor (head_key_of owner) other → IsTriedBefore other head → IsPassedOver (reading e) owner other)

  -- no head's records make one
  abbrev pub NoneMakes : PubKey → Type 0
  NoneMakes owner = (head : Stamp) → IsTried e.heads e.floor (head_key_of owner) head → IsPassedOver (reading e) owner head

  abbrev pub IsOfOwn : PubKey → List Record → Type 0
  IsOfOwn owner chain = (owner ≡ e.own) × (chain ≡ log_of owner e.known)

  abbrev pub IsOfOther : PubKey → List Record → Type 0
  IsOfOther owner chain = IsNewest owner chain ⊎ (NoneMakes owner × (chain ≡ log_of owner e.known))

  -- the cases of a candidate
  abbrev pub IsOne : PubKey → List Record → Type 0
  IsOne owner chain = IsOfOwn owner chain ⊎ ((owner ≡ e.own → ⊥) × IsOfOther owner chain)

  pub cases_of : (owner : PubKey) (chain : List Record) → IsCandidate e owner chain → IsOne owner chain
  cases_of owner _ (own_log mine) = inl (mine, refl)
  cases_of owner _ (newest head chain apart tried makes first) = inr (apart, inl (head, tried, makes, first))
  cases_of owner _ (as_known apart none) = inr (apart, inr (none, refl))

  module _ (tells : IsCollisionFree e.blocks) where
    one_newest : (owner : PubKey) (chain other : List Record) (n : IsNewest owner chain) (m : IsNewest owner other) → AreOrdered n.0 m.0 → chain ≡ other
    one_newest owner chain other n m (inl before) = absurd (m.3 n.0 n.1 before chain n.2)
    one_newest owner chain other n m (inr (inl after)) = absurd (n.3 m.0 m.1 after other m.2)
    one_newest owner chain other n m (inr (inr same)) =
        one_chain (reading e) tells owner m.0 chain other (subst (λ (t : Stamp). MakeChain (reading e) owner t chain) same n.2) m.2

    one_of_other : (owner : PubKey) (chain other : List Record) → IsOfOther owner chain → IsOfOther owner other → chain ≡ other
    one_of_other owner chain other (inl n) (inl m) = one_newest owner chain other n m (are_ordered n.0 m.0)
    one_of_other owner chain other (inl n) (inr k) = absurd (k.0 n.0 n.1 chain n.2)
    one_of_other owner chain other (inr k) (inl m) = absurd (k.0 m.0 m.1 other m.2)
    one_of_other owner chain other (inr k) (inr l) = k.1 ∙ sym l.1

    one_candidate : (owner : PubKey) (chain other : List Record) → IsOne owner chain → IsOne owner other → chain ≡ other
    one_candidate owner chain other (inl a) (inl b) = a.1 ∙ sym b.1
    one_candidate owner chain other (inl a) (inr b) = absurd (b.0 a.0)
    one_candidate owner chain other (inr a) (inl b) = absurd (a.0 b.0)
    one_candidate owner chain other (inr a) (inr b) = one_of_other owner chain other a.1 b.1

    one_list : (one other : List Candidate) → map (λ c. c.owner) one ≡ map (λ c. c.owner) other
        → AllByRecursion (λ c. IsCandidate e c.owner c.chain) one
        → AllByRecursion (λ c. IsCandidate e c.owner c.chain) other → one ≡ other
    one_list [] [] owners f g = refl
    one_list [] (d ∷ other) owners f g = cc
    one_list (c ∷ one) [] owners f g = cc
    one_list (c ∷ one) (d ∷ other) owners f g =
        let owner : c.owner ≡ d.owner = cc in
        let rest : map (λ (x : Candidate). x.owner) one ≡ map (λ (x : Candidate). x.owner) other = cc in
        let here : IsCandidate e d.owner c.chain = subst (λ (o : PubKey). IsCandidate e o c.chain) owner f.0 in
        let chain : c.chain ≡ d.chain = one_candidate d.owner c.chain d.chain (cases_of d.owner c.chain here) (cases_of d.owner d.chain g.0) in
        let same : c ≡ d = λ i. record { owner = owner i; chain = chain i } in
        ap (λ (x : Candidate). x ∷ one) same ∙ ap (λ (l : List Candidate). d ∷ l) (one_list one other rest f.1 g.1)

pub candidates_are_unique : CandidatesAreUnique
candidates_are_unique e one other tells a b =
    one_list e tells one other (a.of_members ∙ sym b.of_members) a.each b.each
