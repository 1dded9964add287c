-- The candidates of a turn are determined by the members' heads and records: other logs don't count.
use Rattle.std.proofs.Common.{◌≡◌, ⊎_elim, ℕ, List, [], ◌∷◌, map, Option, None, sym, ap, subst, Contains}
use Rattle.std.specs.List.{AllByRecursion}
use Rattle.ivy_base.specs.declared.key.Key.{Key}
use Rattle.ivy_base.specs.declared.key.PubKey.{PubKey}
use Rattle.ivy_base.specs.Naming.{head_key_of}
use Rattle.log_model.specs.View.{View}
use Rattle.log_model.specs.Vector.{Stamp, Vector}
use Rattle.log_model.specs.Record.{Record}
use Rattle.log_model.specs.Chain.{GoesOn, IsChain}
use Rattle.log_model.specs.Spelling.{HasSpelling}
use Rattle.log_model.specs.Standing.{Stand, StandsAmong}
use Rattle.log_model.proofs.Lists.{each, each_from, here, in_cons, in_nothing, there}
use Rattle.log_model.specs.Fetched.{GoesOnFrom, Edge}
use Rattle.turn_model.specs.Candidates.{IsCandidate, IsPassedOver, IsTried, MakeChain}
use Rattle.turn_model.specs.Candidates.IsCandidate.{own_log, newest, as_known}
use Rattle.turn_model.specs.Turn.{Candidate}
use Rattle.agent_model.specs.Standing.{Standing}
use Rattle.agent_model.specs.Candidates.{AreTaken, Grounds, IsCandidateOf, IsMisled, evidence_in, reading_in}
use Rattle.agent_model.specs.Candidates.IsCandidateOf.{misled, by_heads}
use Rattle.world_laws.specs.Laws.{OtherLogsDontInterfere}

-- records of the owner that have a spelling
abbrev AreSpelled : PubKey → List Record → Type 0
AreSpelled owner rs = AllByRecursion (λ r. (r.owner ≡ owner) × HasSpelling r) rs

-- of such a record, blocks that are here are there
abbrev AreThere : PubKey → List (List ℕ) → List (List ℕ) → Type 0
AreThere owner met more = (r : Record) → r.owner ≡ owner → HasSpelling r → StandsAmong met r → StandsAmong more r

goes_spelled : (view : View) (owner : PubKey) (p : Record) (rs : List Record) → GoesOn view owner p rs → AreSpelled owner rs
goes_spelled view owner p [] h = tt
goes_spelled view owner p (r ∷ rs) h = ((h.0.owned, h.0.spelled), goes_spelled view owner r rs h.2)

chain_spelled : (view : View) (owner : PubKey) (rs : List Record) → IsChain view owner rs → AreSpelled owner rs
chain_spelled view owner [] h = tt
chain_spelled view owner (r ∷ rs) h = ((h.0.owned, h.0.spelled), goes_spelled view owner r rs h.2)

owner_changed : (owner other : PubKey) (rs : List Record) → owner ≡ other → AreSpelled owner rs → AreSpelled other rs
owner_changed owner other rs same h = subst (λ (o : PubKey). AreSpelled o rs) same h

taken_spelled : (view : View) (owner : PubKey) (held : Option Stamp) (edge : Option Edge) (rs : List Record) → AllByRecursion (λ r. r.owner ≡ owner) rs → GoesOnFrom view held edge rs → AreSpelled owner rs
taken_spelled view owner held edge [] owned h = tt
taken_spelled view owner held edge (r ∷ rs) owned h = ((owned.0, h.0.spelled), owner_changed r.owner owner rs owned.0 (goes_spelled view r.owner r rs h.3))

stand_there : (owner : PubKey) (met more : List (List ℕ)) → AreThere owner met more → (rs : List Record) → AreSpelled owner rs → Stand met rs → Stand more rs
stand_there owner met more to [] spelled h = tt
stand_there owner met more to (r ∷ rs) spelled h = (to r spelled.0.0 spelled.0.1 h.0, stand_there owner met more to rs spelled.1 h.1)

module _ (view : View) (owner : PubKey) (met more : List (List ℕ)) (to : AreThere owner met more) where
  make_there : (floor : Vector) (head : Stamp) (chain : List Record) → MakeChain (record { blocks = met; view = view; floor = floor }) owner head chain → MakeChain (record { blocks = more; view = view; floor = floor }) owner head chain
  make_there floor head chain h = record {
    chain_of_log = h.chain_of_log;
    stand = stand_there owner met more to chain (chain_spelled view owner chain h.chain_of_log) h.stand;
    ends = h.ends;
    passes = h.passes;
  }

  taken_there : (started floor : Vector) (head : Stamp) (records : List Record) → AreTaken (record { blocks = met; view = view; floor = floor }) owner started head records → AreTaken (record { blocks = more; view = view; floor = floor }) owner started head records
  taken_there started floor head records h = record {
    owned = h.owned;
    sound = h.sound;
    onward = h.onward;
    stand = stand_there owner met more to records (taken_spelled view owner _ None records h.owned h.sound.goes_on) h.stand;
  }

tried_there : (heads others : Key → List Stamp) (log : Key) → heads log ≡ others log → (floor : Vector) (t : Stamp) → IsTried heads floor log t → IsTried others floor log t
tried_there heads others log same floor t h = (subst (λ (l : List Stamp). Contains l t) same h.0, h.1)

-- both ways
module _ (view : View) (owner : PubKey) (heads others : Key → List Stamp) (met more : List (List ℕ)) (same : heads (head_key_of owner) ≡ others (head_key_of owner))
    (to : AreThere owner met more) (from : AreThere owner more met) (s : Standing) (knew : List Record) where
  abbrev grounds : Grounds
  grounds = record { heads = heads; met = met; standing = s; knew = knew }

  abbrev other_grounds : Grounds
  other_grounds = record { heads = others; met = more; standing = s; knew = knew }

  over_there : (head : Stamp) → IsPassedOver (reading_in grounds view) owner head → IsPassedOver (reading_in other_grounds view) owner head
  over_there head none chain h = none chain (make_there view owner more met from s.floor head chain h)

  misled_there : (started : Vector) (records : List Record) → IsMisled grounds view started owner records → IsMisled other_grounds view started owner records
  misled_there started records h = record {
    of_other = h.of_other;
    from = h.from;
    starts = h.starts;
    no_edge = h.no_edge;
    head = h.head;
    tried = tried_there heads others (head_key_of owner) same s.floor h.head h.tried;
    taken = taken_there view owner met more to started s.floor h.head records h.taken;
    first = λ other tried before rs taken. h.first other (tried_there others heads (head_key_of owner) (sym same) s.floor other tried) before rs (taken_there view owner more met from started s.floor other rs taken);
    no_chain = over_there h.head h.no_chain;
  }

  candidate_there : (chain : List Record) → IsCandidate (evidence_in grounds view) owner chain → IsCandidate (evidence_in other_grounds view) owner chain
  candidate_there _ (own_log mine) = own_log mine
  candidate_there _ (newest head chain other tried makes before) = newest head chain other (tried_there heads others (head_key_of owner) same s.floor head tried) (make_there view owner met more to s.floor head chain makes)
      (λ t is_tried sooner. over_there t (before t (tried_there others heads (head_key_of owner) (sym same) s.floor t is_tried) sooner))
  candidate_there _ (as_known other none) = as_known other (λ t is_tried. over_there t (none t (tried_there others heads (head_key_of owner) (sym same) s.floor t is_tried)))

module _ (view : View) (owner : PubKey) (heads others : Key → List Stamp) (met more : List (List ℕ)) (same : heads (head_key_of owner) ≡ others (head_key_of owner))
    (to : AreThere owner met more) (from : AreThere owner more met) (s : Standing) (knew : List Record) where
  of_owner : (started : Vector) (chain : List Record) → IsCandidateOf (record { heads = heads; met = met; standing = s; knew = knew }) view started owner chain
      → IsCandidateOf (record { heads = others; met = more; standing = s; knew = knew }) view started owner chain
  of_owner started _ (misled records h) = misled records (misled_there view owner heads others met more same to from s knew started records h)
  of_owner started _ (by_heads chain none is) = by_heads chain (λ rs h. none rs (misled_there view owner others heads more met (sym same) from to s knew started rs h))
      (candidate_there view owner heads others met more same to from s knew chain is)

-- a candidate's owner is a member
owner_in : (cs : List Candidate) (c : Candidate) → Contains cs c → Contains (map (λ x. x.owner) cs) c.owner
owner_in [] c h = absurd (in_nothing c h)
owner_in (x ∷ cs) c h = ⊎_elim
    (λ is. subst (λ (o : PubKey). Contains (x.owner ∷ map (λ y. y.owner) cs) o) (ap (λ (y : Candidate). y.owner) is) (here x.owner (map (λ y. y.owner) cs)))
    (λ later. there x.owner (map (λ y. y.owner) cs) c.owner (owner_in cs c later)) (in_cons x cs c h)

pub other_logs : OtherLogsDontInterfere
other_logs view g others more started candidates agree are = record {
  of_members = are.of_members;
  each = each_from (λ c. IsCandidateOf (record g { heads = others; met = more }) view started c.owner c.chain) candidates (λ c within.
      let member : Contains view.members c.owner = subst (λ (l : List PubKey). Contains l c.owner) are.of_members (owner_in candidates c within) in
      of_owner view c.owner g.heads others g.met more (agree.same_heads c.owner member)
      (λ r owned spelled. (agree.records r (subst (Contains view.members) (sym owned) member) spelled).0)
      (λ r owned spelled. (agree.records r (subst (Contains view.members) (sym owned) member) spelled).1) g.standing g.knew started c.chain
      (each (λ (x : Candidate). IsCandidateOf g view started x.owner x.chain) candidates c are.each within));
}
