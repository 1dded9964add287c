-- What a turn takes, by the heads that its session was brought: which candidates there are, what they bring, and that this is all one.
use Rattle.std.proofs.Common.{◌≡◌, ◌⊎◌, inl, inr, ⊎_elim, ℕ, Bool, List, [], ◌∷◌, map, refl, sym, ap, ◌∙◌, subst, Contains}
use Rattle.std.specs.Cmp.{ranked}
use Rattle.std.specs.List.{AllByRecursion}
use Rattle.std.specs.Ordering.{eq_by_cmp, is_lt, nat_cmp, ordering_reverse}
use Rattle.std.specs.declared.cmp.Ordering.{Ordering}
use Rattle.std.specs.declared.cmp.Ordering.TheVariants.{Less, Equal, Greater}
use Rattle.ivy_base.specs.declared.key.Key.{Key}
use Rattle.ivy_base.specs.declared.key.PubKey.{PubKey}
use Rattle.ivy_base.specs.Naming.{IsCollisionFree, head_key_of, key_cmp, owner_cmp}
use Rattle.tree_model.proofs.Keys.{exact_keys, keys_total}
use Rattle.turn_laws.proofs.OneCandidate.{IsNewest, IsOne, cases_of}
use Rattle.turn_laws.proofs.OneChain.{one_chain}
use Rattle.log_model.specs.Chain.{IsChain, IsGood, LinkedFrom}
use Rattle.log_model.specs.Closed.{IsClosed, IsClosedPart, log_of}
use Rattle.log_model.specs.Record.{Record}
use Rattle.log_model.specs.Spelling.{no_name}
use Rattle.log_model.specs.Standing.{Stand, StandsAmong}
use Rattle.log_model.specs.Vector.{Entry, Stamp, Vector}
use Rattle.log_model.specs.View.{View}
use Rattle.log_model.proofs.ClosedPart.{same_part}
use Rattle.log_model.proofs.Lists.{each, from_filter, in_filter}
use Rattle.log_model.proofs.Opening.{same_owner}
use Rattle.log_model.proofs.Part.{chain_good}
use Rattle.log_model.proofs.Sets.{chain_ascends, same_list}
use Rattle.turn_model.specs.Candidates.{IsTriedBefore, MakeChain}
use Rattle.turn_model.specs.Known.{IsUnderHead}
use Rattle.turn_model.specs.Turn.{Candidate, IsAvailable}
use Rattle.agent_model.specs.Candidates.{AreCandidatesOf, Grounds, IsCandidateOf, evidence_in, reading_in}
use Rattle.agent_model.specs.Candidates.IsCandidateOf.{misled as is_misled, by_heads}
use Rattle.turn_laws.proofs.LinkedLogs.{chain_linked}

-- ---- of two heads one is tried before the other

abbrev AreOrdered : Stamp → Stamp → Type 0
AreOrdered s t = IsTriedBefore s t ⊎ (IsTriedBefore t s ⊎ (s ≡ t))

by_name : (s t : Stamp) → s.seq ≡ t.seq → (o : Ordering) → key_cmp s.name t.name ≡ o → AreOrdered s t
by_name s t seqs Less e = inl (inr (seqs, ap is_lt e))
by_name s t seqs Equal e = let names : s.name ≡ t.name = exact_keys s.name t.name e in inr (inr (λ i. record { seq = seqs i; name = names i }))
by_name s t seqs Greater e = inr (inl (inr (sym seqs, ap is_lt (keys_total.antisymm t.name s.name ∙ ap ordering_reverse e))))

by_number : (s t : Stamp) → (o : Ordering) → o ≡ nat_cmp s.seq t.seq → AreOrdered s t
by_number s t Less e = inr (inl (inl (ranked s.seq t.seq Less e)))
by_number s t Equal e = by_name s t (ranked s.seq t.seq Equal e) (key_cmp s.name t.name) refl
by_number s t Greater e = inl (inl (ranked s.seq t.seq Greater e))

-- ---- candidates

module _ (grounds : Grounds) (view : View) (started : Vector) where
  abbrev pub IsNewHead : PubKey → List Record → Type 0
  IsNewHead owner chain = (owner ≡ grounds.standing.own → ⊥) × IsNewest (evidence_in grounds view) owner chain

  -- what was known of the log, or the chain of a head of another's log
  of_one : (owner : PubKey) (chain : List Record) → IsCandidateOf grounds view started owner chain → (chain ≡ log_of owner grounds.knew) ⊎ IsNewHead owner chain
  of_one owner _ (is_misled records misled) = inl refl
  of_one owner _ (by_heads chain not_misled candidate) = by (cases_of (evidence_in grounds view) owner chain candidate)
    where
      by : IsOne (evidence_in grounds view) owner chain → (chain ≡ log_of owner grounds.knew) ⊎ IsNewHead owner chain
      by (inl mine) = inl mine.1
      by (inr (other, inl new)) = inr (other, new)
      by (inr (other, inr old)) = inl old.1

  -- ---- there is one list of them

  module _ (apart : IsCollisionFree grounds.met) where
    one_newest : (owner : PubKey) (chain other : List Record) (n : IsNewest (evidence_in grounds view) owner chain) (m : IsNewest (evidence_in grounds view) owner other) → AreOrdered n.0 m.0 → chain ≡ other
    one_newest owner chain other n m (inl before) = absurd (m.3 n.0 n.1 before chain n.2)
    one_newest owner chain other n m (inr (inl after)) = absurd (n.3 m.0 m.1 after other m.2)
    one_newest owner chain other n m (inr (inr same)) =
        one_chain (reading_in grounds view) apart owner m.0 chain other (subst (λ (t : Stamp). MakeChain (reading_in grounds view) owner t chain) same n.2) m.2

    one_of_heads : (owner : PubKey) (chain other : List Record) → IsOne (evidence_in grounds view) owner chain → IsOne (evidence_in grounds view) owner other → chain ≡ other
    one_of_heads owner chain other (inl a) (inl b) = a.1 ∙ sym b.1
    one_of_heads owner chain other (inl a) (inr b) = absurd (b.0 a.0)
    one_of_heads owner chain other (inr a) (inl b) = absurd (a.0 b.0)
    one_of_heads owner chain other (inr (a, inl n)) (inr (b, inl m)) = one_newest owner chain other n m (by_number n.0 m.0 (nat_cmp n.0.seq m.0.seq) refl)
    one_of_heads owner chain other (inr (a, inl n)) (inr (b, inr k)) = absurd (k.0 n.0 n.1 chain n.2)
    one_of_heads owner chain other (inr (a, inr k)) (inr (b, inl m)) = absurd (k.0 m.0 m.1 other m.2)
    one_of_heads owner chain other (inr (a, inr k)) (inr (b, inr l)) = k.1 ∙ sym l.1

    one_candidate : (owner : PubKey) (chain other : List Record) → IsCandidateOf grounds view started owner chain → IsCandidateOf grounds view started owner other → chain ≡ other
    one_candidate owner _ _ (is_misled records misled) (is_misled others also) = refl
    one_candidate owner _ _ (is_misled records misled) (by_heads other not_misled candidate) = absurd (not_misled records misled)
    one_candidate owner _ _ (by_heads chain not_misled candidate) (is_misled records misled) = absurd (not_misled records misled)
    one_candidate owner _ _ (by_heads chain not_misled candidate) (by_heads other nor also) =
        one_of_heads owner chain other (cases_of (evidence_in grounds view) owner chain candidate) (cases_of (evidence_in grounds view) owner other also)

    one_list : (one other : List Candidate) → map (λ c. c.owner) one ≡ map (λ c. c.owner) other
        → AllByRecursion (λ c. IsCandidateOf grounds view started c.owner c.chain) one → AllByRecursion (λ c. IsCandidateOf grounds view started c.owner c.chain) other → one ≡ other
    one_list [] [] owners f g = refl
    one_list [] (d ∷ other) owners f g = cc
    one_list (c ∷ one) [] owners f g = cc
    one_list (c ∷ one) (d ∷ other) owners f g =
        let owner : c.owner ≡ d.owner = cc in
        let rest : map (λ (x : Candidate). x.owner) one ≡ map (λ (x : Candidate). x.owner) other = cc in
        let chain : c.chain ≡ d.chain = one_candidate d.owner c.chain d.chain (subst (λ (o : PubKey). IsCandidateOf grounds view started o c.chain) owner f.0) g.0 in
        let same : c ≡ d = λ i. record { owner = owner i; chain = chain i } in
        ap (λ (x : Candidate). x ∷ one) same ∙ ap (λ (l : List Candidate). d ∷ l) (one_list one other rest f.1 g.1)

    pub one_candidates : (one other : List Candidate) → AreCandidatesOf grounds view started one → AreCandidatesOf grounds view started other → one ≡ other
    one_candidates one other a b = one_list one other (a.of_members ∙ sym b.of_members) a.each b.each

  -- ---- what they bring

  module _ (known : List Record) (before : (r : Record) → Contains grounds.knew r → Contains known r) (candidates : List Candidate) (are : AreCandidatesOf grounds view started candidates) where
    -- it is of another's log, and of the chain that a head names
    abbrev pub IsBrought : Record → Type 0
    IsBrought r = (owner : PubKey) × (chain : List Record) × Contains chain r × (r.owner ≡ owner) × IsNewHead owner chain

    pub of_hand : (r : Record) → IsAvailable known candidates r → Contains known r ⊎ IsBrought r
    of_hand r (inl c) = inl c
    of_hand r (inr (c, stands, goes_on, among)) = ⊎_elim
        (λ old. inl (before r (from_filter (λ (x : Record). eq_by_cmp owner_cmp c.owner x.owner) grounds.knew r (subst (λ (l : List Record). Contains l r) old among)).0))
        (λ new. inr (c.owner, c.chain, among, (each (IsGood view c.owner) c.chain r (chain_good view c.owner c.chain new.1.2.chain_of_log) among).owned, new))
        (of_one c.owner c.chain (each (λ (d : Candidate). IsCandidateOf grounds view started d.owner d.chain) candidates c are.each stands))

    -- an own record is known
    pub own_known : (r : Record) → r.owner ≡ grounds.standing.own → IsAvailable known candidates r → Contains known r
    own_known r mine available = ⊎_elim (λ c. c) (λ b. absurd (b.4.0 (sym b.3 ∙ mine))) (of_hand r available)

    -- one that is brought stands among the blocks, under a head that was received
    module _ (received : List Entry) (were : (log : Key) (t : Stamp) → Contains (grounds.heads log) t → Contains received (log, t)) where
      pub brought_under : (blocks : List (List ℕ)) → ((chain : List Record) (owner : PubKey) → IsChain view owner chain → Stand grounds.met chain → Stand blocks chain) → (r : Record) → IsBrought r
          → (r.owner ≡ grounds.standing.own → ⊥) × IsUnderHead blocks received r × StandsAmong blocks r
      brought_under blocks standing r (owner, chain, among, owned, new) = (
        λ mine. new.0 (sym owned ∙ mine),
        record {
          head = (head_key_of owner, new.1.0);
          received = were (head_key_of owner) new.1.0 new.1.1.0;
          log = chain;
          linked = subst (λ (o : PubKey). LinkedFrom o 1 no_name chain) (sym owned) (chain_linked view owner chain new.1.2.chain_of_log);
          stand = standing chain owner new.1.2.chain_of_log new.1.2.stand;
          of_log = ap head_key_of (sym owned);
          ends = new.1.2.ends;
          below = among;
        },
        each (StandsAmong blocks) chain r (standing chain owner new.1.2.chain_of_log new.1.2.stand) among,
      )

    -- ---- the set that is taken

    module _ (closed : IsClosed view known) (taken : List Record) (largest : IsClosedPart view (IsAvailable known candidates) taken) where
      pub has_known : (r : Record) → Contains known r → Contains taken r
      has_known r c = largest.largest known (λ q d. inl d) closed r c

      pub own_log_known : log_of grounds.standing.own taken ≡ log_of grounds.standing.own known
      own_log_known =
          same_list (log_of grounds.standing.own taken) (log_of grounds.standing.own known) (chain_ascends view grounds.standing.own (log_of grounds.standing.own taken) (largest.closed.chains grounds.standing.own)) (chain_ascends view grounds.standing.own (log_of grounds.standing.own known) (closed.chains grounds.standing.own))
          (λ r c. let w = from_filter mine taken r c in in_filter mine known r (own_known r (same_owner grounds.standing.own r.owner w.1) (largest.part r w.0)) w.1)
          (λ r c. let w = from_filter mine known r c in in_filter mine taken r (has_known r w.0) w.1)
        where
          mine : Record → Bool
          mine r = eq_by_cmp owner_cmp grounds.standing.own r.owner

-- one set is the largest closed part
pub one_taken : (view : View) (known : List Record) (candidates : List Candidate) (taken other : List Record) → IsClosedPart view (IsAvailable known candidates) taken → IsClosedPart view (IsAvailable known candidates) other
    → taken ≡ other
one_taken view known candidates taken other f g = same_list taken other f.closed.ascending g.closed.ascending
    (same_part view (IsAvailable known candidates) taken other f g) (same_part view (IsAvailable known candidates) other taken g f)
