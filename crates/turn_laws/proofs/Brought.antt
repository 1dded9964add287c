-- Of each member's log a candidate, and what of it was brought.
use Rattle.std.proofs.Common.{◌≡◌, ◌⊎◌, inl, inr, ⊎_elim, ℕ, List, [], ◌∷◌, map, Some, refl, sym, ap, ◌∙◌, subst, Contains, Option, None}
use Rattle.std.specs.List.{AllByRecursion}
use Rattle.ivy_base.specs.declared.key.PubKey.{PubKey}
use Rattle.ivy_base.specs.Naming.{head_key_of}
use Rattle.log_model.specs.View.{View}
use Rattle.log_model.specs.Vector.{Stamp, Vector, seq_of}
use Rattle.log_model.specs.Record.{Record}
use Rattle.log_model.specs.Chain.{IsChain}
use Rattle.log_model.specs.Closed.{log_of}
use Rattle.log_model.specs.Standing.{StandsAmong, Stand}
use Rattle.log_model.proofs.Lists.{each, each_from}
use Rattle.turn_model.specs.Candidates.{IsPassedOver, MakeChain}
use Rattle.turn_model.specs.Known.{EndsAt, IsKnown}
use Rattle.turn_model.specs.Turn.{Candidate}
use Rattle.turn_laws.proofs.OneCandidate as one
use Rattle.agent_model.specs.Standing.{Chain, Refresh}
use Rattle.agent_model.specs.Candidates.{Grounds, IsCandidateOf, evidence_in, reading_in, misled, by_heads, records_above, BringsOf, candidate, misleading, nothing}
use Rattle.log_model.specs.Fetched.{Edge, GoesOnFrom, stamp_in}
use Rattle.turn_laws.proofs.Fronts.{from_log}
use Rattle.turn_laws.proofs.Rows.{is_above, chain_row, ends_above, IsRow, row_above}

-- the records were brought as a chain to a head of another's log: no chain to it is made, or the candidate is it
pub record IsOfHead (met : List (List ℕ)) (view : View) (own : PubKey) (floor : Vector) (owner : PubKey) (chain records : List Record) : Type 0 where
  pub other : owner ≡ own → ⊥
  pub head : Stamp
  pub stand : Stand met records
  pub ends : (r : Record) → Contains records r → EndsAt (Some head) records
  pub makes : IsPassedOver (record { blocks = met; view = view; floor = floor }) owner head ⊎ MakeChain (record { blocks = met; view = view; floor = floor }) owner head chain

-- the candidate is a chain of another's log, and its records above what the refresh started from were brought
pub record IsBrought (view : View) (own : PubKey) (brought : Refresh) (owner : PubKey) (chain : List Record) : Type 0 where
  pub other : owner ≡ own → ⊥
  pub carried : Chain
  pub stands : Contains brought.chains carried
  pub owned : carried.owner ≡ owner
  pub above : carried.records ≡ records_above brought.started owner chain
  pub chain_of_log : IsChain view owner chain

module _ (grounds : Grounds) (view : View) (own : PubKey) (known : List Record) (brought : Refresh) where
  abbrev pub AreKnown : List Record → Type 0
  AreKnown records = (r : Record) → Contains records r → Contains known r

  -- the chain is the log's candidate, and what was brought of that log is tied to it
  pub record IsTold (owner : PubKey) (chain : List Record) : Type 0 where
    pub is_candidate : IsCandidateOf grounds view brought.started owner chain
    pub goes_back : AreKnown chain ⊎ IsBrought view own brought owner chain
    pub goes_forth : (c : Chain) → Contains brought.chains c → c.owner ≡ owner → AreKnown c.records ⊎ IsOfHead grounds.met view own grounds.standing.floor owner chain c.records

  -- what is known of a log, or the chain to a head
  cases_of : (owner : PubKey) (chain : List Record) → IsCandidateOf grounds view brought.started owner chain
      → (chain ≡ log_of owner grounds.knew) ⊎ ((owner ≡ grounds.standing.own → ⊥) × (head : Stamp) × MakeChain (reading_in grounds view) owner head chain)
  cases_of owner _ (misled records m) = inl refl
  cases_of owner _ (by_heads chain well c) = ⊎_elim (λ mine. inl mine.1)
      (λ other. ⊎_elim (λ newest. inr (other.0, newest.0, newest.2)) (λ none. inl none.1) other.1)
      (one.cases_of (evidence_in grounds view) owner chain c)

  -- it is a chain of the log
  candidate_chain : IsKnown view grounds.standing.floor grounds.knew → (owner : PubKey) (chain : List Record) → IsCandidateOf grounds view brought.started owner chain → IsChain view owner chain
  candidate_chain by_floor owner chain is = ⊎_elim (λ e. subst (λ (l : List Record). IsChain view owner l) (sym e) (by_floor.chains owner)) (λ w. w.2.chain_of_log) (cases_of owner chain is)

  module _ (same_own : grounds.standing.own ≡ own) (knew_before : (r : Record) → Contains grounds.knew r → Contains known r)
      (once : (c d : Chain) → Contains brought.chains c → Contains brought.chains d → c.owner ≡ d.owner → c ≡ d) where
    log_known : (owner : PubKey) (chain : List Record) → chain ≡ log_of owner grounds.knew → AreKnown chain
    log_known owner chain e r c = knew_before r (from_log owner grounds.knew r (subst (λ (l : List Record). Contains l r) e c)).0

    -- of an owner's log one chain alone was brought
    forth : (owner : PubKey) (chain : List Record) (c : Chain) → Contains brought.chains c → c.owner ≡ owner → AreKnown c.records ⊎ IsOfHead grounds.met view own grounds.standing.floor owner chain c.records
        → (d : Chain) → Contains brought.chains d → d.owner ≡ owner → AreKnown d.records ⊎ IsOfHead grounds.met view own grounds.standing.floor owner chain d.records
    forth owner chain c stands owned h d in_chains mine =
        subst (λ (x : Chain). AreKnown x.records ⊎ IsOfHead grounds.met view own grounds.standing.floor owner chain x.records) (once c d stands in_chains (owned ∙ sym mine)) h

    of_chain : (owner : PubKey) (chain : List Record) (c : Chain) → Contains brought.chains c → c.owner ≡ owner → c.records ≡ records_above brought.started owner chain
        → IsCandidateOf grounds view brought.started owner chain
        → (chain ≡ log_of owner grounds.knew) ⊎ ((owner ≡ grounds.standing.own → ⊥) × (head : Stamp) × MakeChain (reading_in grounds view) owner head chain) → IsTold owner chain
    of_chain owner chain c stands owned above is (inl e) = record {
      is_candidate = is;
      goes_back = inl (log_known owner chain e);
      goes_forth = forth owner chain c stands owned
          (inl (λ r d. log_known owner chain e r (is_above (seq_of brought.started (head_key_of owner)) chain r (subst (λ (l : List Record). Contains l r) above d)).0));
    }
    of_chain owner chain c stands owned above is (inr (other, head, makes)) = record {
      is_candidate = is;
      goes_back = inr (record { other = λ e. other (e ∙ sym same_own); carried = c; stands = stands; owned = owned; above = above; chain_of_log = makes.chain_of_log });
      goes_forth = forth owner chain c stands owned (inr (record {
        other = λ e. other (e ∙ sym same_own);
        head = head;
        stand = each_from (λ r. StandsAmong grounds.met r) c.records (λ r d.
            each (λ r. StandsAmong grounds.met r) chain r makes.stand (is_above (seq_of brought.started (head_key_of owner)) chain r (subst (λ (l : List Record). Contains l r) above d)).0);
        ends = λ r d. subst (λ (l : List Record). EndsAt (Some head) l) (sym above)
            (ends_above view owner (seq_of brought.started (head_key_of owner)) head chain (chain_row view owner chain makes.chain_of_log) makes.ends r (subst (λ (l : List Record). Contains l r) above d));
        makes = inr makes;
      }));
    }

    told : (owner : PubKey) → BringsOf grounds view brought owner → (chain : List Record) × IsTold owner chain
    told owner (candidate c chain stands owned is above) = (chain, of_chain owner chain c stands owned above is (cases_of owner chain is))
    told owner (misleading c stands owned m) = (
      log_of owner grounds.knew,
      record {
        is_candidate = misled c.records m;
        goes_back = inl (log_known owner (log_of owner grounds.knew) refl);
        goes_forth = forth owner (log_of owner grounds.knew) c stands owned (inr (record {
          other = λ e. m.of_other (e ∙ sym same_own);
          head = m.head;
          stand = m.taken.stand;
          ends = λ r d. m.taken.sound.ends;
          makes = inl m.no_chain;
        }));
      },
    )
    told owner (nothing none is) = (
      log_of owner grounds.knew,
      record {
        is_candidate = is;
        goes_back = inl (log_known owner (log_of owner grounds.knew) refl);
        goes_forth = λ c stands owned. absurd (none c stands owned);
      },
    )

    -- of each owner's log there is a candidate
    pub choose : (owners : List PubKey) → AllByRecursion (BringsOf grounds view brought) owners
        → (cs : List Candidate) × (map (λ c. c.owner) cs ≡ owners) × AllByRecursion (λ c. IsTold c.owner c.chain) cs
    choose [] h = ([], refl, tt)
    choose (owner ∷ owners) h =
        let first = told owner h.0 in
        let rest = choose owners h.1 in
        (record { owner = owner; chain = first.0 } ∷ rest.0, ap (λ (os : List PubKey). owner ∷ os) rest.1, (first.1, rest.2))

-- ---- rows

linked_row : (view : View) (owner : PubKey) (held : Option Stamp) (edge : Option Edge) (records : List Record) → AllByRecursion (λ r. r.owner ≡ owner) records → GoesOnFrom view held edge records → IsRow view owner records
linked_row view owner held edge [] owned g = tt
linked_row view owner held edge (r ∷ rs) owned g = subst (λ (o : PubKey). IsRow view o (r ∷ rs)) owned.0 (g.0, g.3)

-- what was brought of a log is a row
module _ (grounds : Grounds) (view : View) (brought : Refresh) (by_floor : IsKnown view grounds.standing.floor grounds.knew)
    (once : (c d : Chain) → Contains brought.chains c → Contains brought.chains d → c.owner ≡ d.owner → c ≡ d) where
  pub brought_row : (owner : PubKey) → BringsOf grounds view brought owner → (c : Chain) → Contains brought.chains c → c.owner ≡ owner → IsRow view c.owner c.records
  brought_row owner (candidate d chain stands owned is above) c within mine =
      let n = seq_of brought.started (head_key_of owner) in
      let row : IsRow view owner d.records =
      subst (λ (l : List Record). IsRow view owner l) (sym above) (row_above view owner n chain (chain_row view owner chain (candidate_chain grounds view grounds.standing.own [] brought by_floor owner chain is))) in
      subst (λ (x : Chain). IsRow view x.owner x.records) (once d c stands within (owned ∙ sym mine)) (subst (λ (o : PubKey). IsRow view o d.records) (sym owned) row)
  brought_row owner (misleading d stands owned m) c within mine =
      let row : IsRow view owner d.records = linked_row view owner (stamp_in brought.started d.records) None d.records m.taken.owned m.taken.sound.goes_on in
      subst (λ (x : Chain). IsRow view x.owner x.records) (once d c stands within (owned ∙ sym mine)) (subst (λ (o : PubKey). IsRow view o d.records) (sym owned) row)
  brought_row owner (nothing none is) c within mine = absurd (none c within mine)
