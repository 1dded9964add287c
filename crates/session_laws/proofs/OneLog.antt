-- The log of one member: which head's records were taken, if any, and what its candidate is then.
use Rattle.std.proofs.Common.{◌≡◌, ◌⊎◌, inl, inr, ◌↔◌, ℕ, ◌<◌, ◌≤◌, Bool, true, false, cond, List, [], ◌∷◌, ◌++◌, map, Option, Some, None, Ok, refl, sym, ap, ◌∙◌, subst, arith, ltb-true, lt-ltb, Contains}
use Rattle.std.specs.Prelude.{nat_lt}
use Rattle.std.specs.List.{AllByRecursion}
use Rattle.std.specs.Ordering.{is_lt, ordering_reverse}
use Rattle.std.specs.declared.cmp.Ordering.{Ordering}
use Rattle.std.specs.declared.cmp.Ordering.TheVariants.{Less, Equal, Greater}
use Rattle.std.proofs.lemmas.List.{append-nil}
use Rattle.std.proofs.lemmas.List.Elements.{Contains-append_left, Contains-append_right, Contains-append_cases}
use Rattle.ivy_base.specs.declared.key.Key.{Key}
use Rattle.ivy_base.specs.declared.key.PubKey.{PubKey}
use Rattle.ivy_base.specs.Naming.{IsCollisionFree, head_key_of, key_cmp}
use Rattle.tree_model.proofs.Keys.{keys_total}
use Rattle.log_model.specs.Vector.{Stamp, Vector, stamp_at, seq_of}
use Rattle.log_model.specs.Record.{Record}
use Rattle.log_model.specs.Closed.{log_of}
use Rattle.log_model.proofs.Lists.{here, there, in_cons, each, each_left}
use Rattle.log_model.specs.Fetched.{Edge, IsSound, HasRecord, PassesFloor}
use Rattle.log_model.specs.declared.chain_fault.ChainFault.{ChainFault}
use Rattle.causal_order.specs.Available.{above}
use Rattle.turn_model.specs.Basis.{Basis}
use Rattle.turn_model.specs.Known as known
use Rattle.turn_model.specs.Candidates.{IsTriedBefore, PassesThrough, MakeChain, IsPassedOver, IsTried, Reading, own_log, newest, as_known}
use Rattle.agent_model.specs.Standing.{Standing, Chain, edge_at, go_on_from}
use Rattle.agent_model.specs.Candidates.{AreTaken, Grounds, IsMisled, IsCandidateOf, by_heads, BringsOf, candidate, misleading, nothing, records_above}
use Rattle.dht_ids.specs.declared.judge.Judged.{Judged}
use Rattle.session_model.specs.Brought.{Brought, HeadsOf, stamp_of}
use Rattle.session_model.specs.Walks.{InTryingOrder, Tries, LogEnd, Lacks, Stops, Gives, GivesNone}
use Rattle.session_model.specs.Walks.Tries.{none as none_left, wants as head_wants, misses as head_misses, gives as is_given, passes as is_passed, garbled as is_garbled}
use Rattle.session_model.specs.Refreshing.{Note, Fetches, floors_own, end_of_log, chains_of}
use Rattle.session_model.specs.Refreshing.Fetches.{wants_heads, no_heads, of_heads, of_own}
use Rattle.session_laws.specs.Bringing.{AreMet}
use Rattle.session_laws.proofs.Cuts.{StartsIn, IsLogKnown}
use Rattle.session_laws.proofs.OneHead.{starts_below, IsRefused, IsGiven, refused_came, refused_garbled, passed_over, not_taken, given_came, given_above, floor_passes, all_above, go_on_held, head_ends}

-- ---- heads in their order

is_less : (o : Ordering) → is_lt o ≡ true → o ≡ Less
is_less Less h = refl
is_less Equal h = cc
is_less Greater h = cc

pub not_both_before : (s t : Stamp) → IsTriedBefore s t → IsTriedBefore t s → ⊥
not_both_before s t (inl f) (inl g) = omega (arith, f, g)
not_both_before s t (inl f) (inr g) = omega (arith, f, g.0)
not_both_before s t (inr f) (inl g) = omega (arith, f.0, g)
not_both_before s t (inr f) (inr g) =
    let turned : is_lt (key_cmp t.name s.name) ≡ false = ap is_lt (keys_total.antisymm t.name s.name ∙ ap ordering_reverse (is_less (key_cmp s.name t.name) f.1)) in
    absurd (let e = sym g.1 ∙ turned in cc)

-- those after one of them are tried after it
behind_after : (passed : List Stamp) (head : Stamp) (rest : List Stamp) → InTryingOrder (passed ++ head ∷ rest) → AllByRecursion (IsTriedBefore head) rest
behind_after [] head rest order = order.0
behind_after (p ∷ passed) head rest order = behind_after passed head rest order.1

-- where one of two lists is divided
divided_at : (passed rest tried own : List Stamp) (head : Stamp) → passed ++ head ∷ rest ≡ tried ++ own
    → ((more : List Stamp) × (tried ≡ passed ++ head ∷ more)) ⊎ ((before : List Stamp) × (passed ≡ tried ++ before) × (own ≡ before ++ head ∷ rest))
divided_at passed rest [] own head e = inr (passed, refl, sym e)
divided_at [] rest (t ∷ tried) own head e = inl (tried, ap (λ (x : Stamp). x ∷ tried) (let same : t ≡ head = cc e in same))
divided_at (p ∷ passed) rest (t ∷ tried) own head e =
    let same : t ≡ p = cc e in
    let more : passed ++ head ∷ rest ≡ tried ++ own = cc e in
    elim (divided_at passed rest tried own head more) [
      | inl w ↦ inl (w.0, ap (λ (l : List Stamp). t ∷ l) w.1 ∙ ap (λ (x : Stamp). x ∷ passed ++ head ∷ w.0) same)
      | inr w ↦ inr (w.0, ap (λ (l : List Stamp). p ∷ l) w.1 ∙ ap (λ (x : Stamp). x ∷ tried ++ w.0) (sym same), w.2)
    ]

-- the floor's own entry, where it is fetched
own_is : (fl : Option Stamp) (b : ℕ) (before : List Stamp) (head : Stamp) (rest : List Stamp) → floors_own fl b ≡ before ++ head ∷ rest → (fl ≡ Some head) × (b < head.seq)
own_is None b [] head rest e = cc e
own_is None b (x ∷ before) head rest e = cc e
own_is (Some t) b before head rest e = by (nat_lt b t.seq) refl before e
  where
    by : (test : Bool) → nat_lt b t.seq ≡ test → (front : List Stamp) → cond test (t ∷ []) [] ≡ front ++ head ∷ rest → (Some t ≡ Some head) × (b < head.seq)
    by true far [] is =
        let same : t ≡ head = cc is in
        (ap (λ (s : Stamp). Some s) same, subst (λ (s : Stamp). b < s.seq) same (ltb-true b t.seq far))
    by true far (x ∷ []) is = cc is
    by true far (x ∷ y ∷ front) is = cc is
    by false near [] is = cc is
    by false near (x ∷ front) is = cc is

-- ---- what came of the heads

module _ (met : List (List ℕ)) (apart : IsCollisionFree met) (s : Standing) (start : Vector) (knew : List Record) (owner : PubKey) (k : IsLogKnown met s.view owner (stamp_at s.floor (head_key_of owner)) (log_of owner knew)) (from : StartsIn (stamp_at start (head_key_of owner)) (edge_at s (head_key_of owner)) (log_of owner knew)) where
  -- of the log: its name, where the fetch starts, what the floor names, what is known of the held record, and what is known
  abbrev log : Key
  log = head_key_of owner

  abbrev start_seq : ℕ
  start_seq = seq_of start (head_key_of owner)

  abbrev floor_seq : ℕ
  floor_seq = seq_of s.floor (head_key_of owner)

  abbrev edge : Option Edge
  edge = edge_at s (head_key_of owner)

  abbrev read : Reading
  read = record { blocks = met; view = s.view; floor = s.floor }

  abbrev own_knew : List Record
  own_knew = log_of owner knew

  abbrev Refused : Stamp → Type 0
  Refused t = IsRefused met apart s.view owner start s.floor own_knew k edge t

  abbrev Given : Stamp → List Record → Type 0
  Given t records = IsGiven met apart s.view owner start s.floor own_knew k edge t records

  -- a head's records were taken after heads that were passed over, or all were
  abbrev Results : List Stamp → LogEnd → Type 0
  Results ts (Lacks want) = Unit {0}
  Results ts (Stops miss) = Unit {0}
  Results ts (Gives records) = (passed : List Stamp) × (head : Stamp) × (rest : List Stamp) × (ts ≡ passed ++ head ∷ rest) × AllByRecursion Refused passed × Given head records
  Results ts GivesNone = AllByRecursion Refused ts

  one_more : (t : Stamp) (ts : List Stamp) (end : LogEnd) → Refused t → Results ts end → Results (t ∷ ts) end
  one_more t ts (Lacks want) refused h = tt
  one_more t ts (Stops miss) refused h = tt
  one_more t ts (Gives records) refused h = (t ∷ h.0, h.1, h.2, ap (λ (l : List Stamp). t ∷ l) h.3, (refused, h.4), h.5)
  one_more t ts GivesNone refused h = (refused, h)

  results : {ts : List Stamp} {brought : List Brought} {faults : List ChainFault} {end : LogEnd} → Tries (record { view = s.view; owner = owner; start = start; floor = s.floor; edge = edge }) ts brought faults end → AreMet met brought → Results ts end
  results none_left are = tt
  results (head_wants walk) are = tt
  results (head_misses walk) are = tt
  results (is_given {t = t} {ts = ts} walk sound onward) are =
      ([], t, ts, refl, tt, given_came met apart s.view owner start s.floor own_knew k edge t walk are sound onward)
  results (is_passed {t = t} {ts = ts} {brought = first} {more = more} {fault = fault} {end = end} walk some fails tries) are =
      one_more t ts end
      (refused_came met apart s.view owner start s.floor own_knew k edge t walk (λ key bytes c. are key bytes (Contains-append_left first more _ c)) fault some fails)
      (results tries (λ key bytes c. are key bytes (Contains-append_right first more _ c)))
  results (is_garbled {t = t} {ts = ts} {brought = first} {more = more} {end = end} walk tries) are =
      one_more t ts end
      (refused_garbled met apart s.view owner start s.floor own_knew k edge t walk (λ key bytes c. are key bytes (Contains-append_left first more _ c)))
      (results tries (λ key bytes c. are key bytes (Contains-append_right first more _ c)))

  -- ---- the candidate

  low : start_seq ≤ floor_seq
  low = starts_below s.view owner (stamp_at start log) (stamp_at s.floor log) edge own_knew k.chain k.ends from

  over : (t : Stamp) → floor_seq < t.seq → Refused t → IsPassedOver read owner t
  over t far refused =
      let le = low in
      passed_over met apart s.view owner start s.floor own_knew k edge t from (omega (arith, le, far)) refused

  none_taken : (t : Stamp) (records : List Record) → edge ≡ None → Refused t → AreTaken read owner start t records → ⊥
  none_taken t records no_edge refused taken =
      not_taken met apart s.view owner start s.floor own_knew k t records
      (subst (λ (e : Option Edge). IsRefused met apart s.view owner start s.floor own_knew k e t) no_edge refused) taken

  -- what is known is the chain to the floor's record
  own_makes : (t : Stamp) → stamp_at s.floor log ≡ Some t → MakeChain read owner t own_knew
  own_makes t is =
      let ends : known.EndsAt (Some t) own_knew = subst (λ (o : Option Stamp). known.EndsAt o own_knew) is k.ends in
      record {
        chain_of_log = k.chain;
        stand = k.stand;
        ends = ends;
        passes = subst (λ (o : Option Stamp). PassesThrough o own_knew) (sym is) (log_of owner knew, [], sym (append-nil own_knew), ends);
      }

  -- so the records of that are those that are known
  own_above : (t : Stamp) (records : List Record) → stamp_at s.floor log ≡ Some t → start_seq < t.seq → Given t records → records ≡ records_above start owner own_knew
  own_above t records is far given = given_above met apart s.view owner start s.floor own_knew k edge t records own_knew from far given (own_makes t is)

  -- ---- the floor's record

  -- what was taken has it; and goes on from the held record
  pub record HasFloor (t : Stamp) (end : LogEnd) : Type 0 where
    pub records : List Record
    pub is : end ≡ Gives records
    pub has : HasRecord t records
    pub owned : AllByRecursion (λ r. r.owner ≡ owner) records
    pub beyond : above start_seq records ≡ records
    pub goes_on : go_on_from (stamp_at start log) records ≡ true

  -- it isn't passed over
  floor_result : (t : Stamp) → stamp_at s.floor log ≡ Some t → start_seq < t.seq → (ts : List Stamp) → Contains ts t → (end : LogEnd) → end_of_log end ≡ None → Results ts end → HasFloor t end
  floor_result t is far ts listed (Lacks want) through h = cc through
  floor_result t is far ts listed (Stops miss) through h = cc through
  floor_result t is far ts listed (Gives records) through h = record {
    records = records;
    is = refl;
    has = subst (λ (o : Option Stamp). PassesFloor o start_seq records) is (floor_passes met apart s.view owner start s.floor own_knew k edge h.1 records h.5) far;
    owned = h.5.owned;
    beyond = all_above met apart s.view owner start s.floor own_knew k edge h.1 records h.5;
    goes_on = go_on_held met apart s.view owner start s.floor own_knew k edge h.1 records h.5;
  }
  floor_result t is far ts listed GivesNone through h =
      absurd (passed_over met apart s.view owner start s.floor own_knew k edge t from far (each Refused ts t h listed) own_knew (own_makes t is))

  own_listed : (t : Stamp) → stamp_at s.floor log ≡ Some t → start_seq < t.seq → Contains (floors_own (stamp_at s.floor log) start_seq) t
  own_listed t is far =
      subst (λ (o : Option Stamp). Contains (floors_own o start_seq) t) (sym is)
      (subst (λ (b : Bool). Contains (cond b (t ∷ []) []) t) (sym (lt-ltb start_seq t.seq far)) (here t []))

  pub floor_brought : {brought : List Brought} {notes : List Note} {end : LogEnd} → Fetches (record { standing = s; start = start }) owner brought notes end → end_of_log end ≡ None → AreMet met brought → (t : Stamp) → stamp_at s.floor log ≡ Some t → start_seq < t.seq → HasFloor t end
  floor_brought (wants_heads other) through are t is far = cc through
  floor_brought (no_heads miss other) through are t is far = cc through
  floor_brought (of_heads came tried brought faults end other are_tried tries) through are t is far =
      floor_result t is far (tried ++ floors_own (stamp_at s.floor log) start_seq) (Contains-append_right tried (floors_own (stamp_at s.floor log) start_seq) t (own_listed t is far)) end through
      (results tries (λ key bytes c. are key bytes (there (HeadsOf owner (Ok came)) brought _ c)))
  floor_brought (of_own brought faults end mine tries) through are t is far = floor_result t is far (floors_own (stamp_at s.floor log) start_seq) (own_listed t is far) end through (results tries are)

  module _ (heads : Key → List Stamp) where
    abbrev grounds : Grounds
    grounds = record { heads = heads; met = met; standing = s; knew = knew }

    own_candidate : owner ≡ s.own → IsCandidateOf grounds s.view start owner own_knew
    own_candidate mine = by_heads own_knew (λ records m. m.of_other mine) (own_log mine)

    module _ (other : owner ≡ s.own → ⊥) (tried : List Stamp) (are_tried : (t : Stamp) → Contains tried t ↔ IsTried heads s.floor log t) (order : InTryingOrder tried) where
      -- where all were passed over, it is what is known
      known_candidate : AllByRecursion Refused tried → IsCandidateOf grounds s.view start owner own_knew
      known_candidate refused = by_heads own_knew
          (λ records m. none_taken m.head records m.no_edge (each Refused tried m.head refused ((are_tried m.head).1 m.tried)) m.taken)
          (as_known other (λ t is. over t is.1 (each Refused tried t refused ((are_tried t).1 is))))

      -- else by the first whose records were taken
      module _ (passed : List Stamp) (head : Stamp) (rest : List Stamp) (is : tried ≡ passed ++ head ∷ rest) (refused : AllByRecursion Refused passed) (records : List Record) (given : Given head records) where
        is_tried : IsTried heads s.floor log head
        is_tried = (are_tried head).0 (subst (λ (l : List Stamp). Contains l head) (sym is) (Contains-append_right passed (head ∷ rest) head (here head rest)))

        after : AllByRecursion (IsTriedBefore head) rest
        after = behind_after passed head rest (subst InTryingOrder is order)

        -- another one was passed over, or is the same, or comes after it
        cases : (t : Stamp) → IsTried heads s.floor log t → Refused t ⊎ ((head ≡ t) ⊎ IsTriedBefore head t)
        cases t t_tried = elim (Contains-append_cases passed (head ∷ rest) t (subst (λ (l : List Stamp). Contains l t) is ((are_tried t).1 t_tried))) [
          | inl before ↦ inl (each Refused passed t refused before)
          | inr behind ↦ elim (in_cons head rest t behind) [
            | inl same ↦ inr (inl same)
            | inr more ↦ inr (inr (each (IsTriedBefore head) rest t after more))
          ]
        ]

        first : (t : Stamp) → IsTried heads s.floor log t → IsTriedBefore t head → Refused t
        first t t_tried before = elim (cases t t_tried) [
          | inl r ↦ r
          | inr (inl same) ↦ absurd (not_both_before t head before (subst (λ (x : Stamp). IsTriedBefore x t) (sym same) (subst (λ (x : Stamp). IsTriedBefore t x) same before)))
          | inr (inr behind) ↦ absurd (not_both_before t head before behind)
        ]

        taken : edge ≡ None → AreTaken read owner start head records
        taken no_edge = record {
          owned = given.owned;
          sound = subst (λ (e : Option Edge). IsSound s.view start e head records) no_edge given.sound;
          onward = given.onward;
          stand = given.stand;
        }

        far : start_seq < head.seq
        far = let le = low in let more = is_tried.1 in omega (arith, le, more)

        not_misled : (chain : List Record) → MakeChain read owner head chain → (others : List Record) → IsMisled grounds s.view start owner others → ⊥
        not_misled chain makes others m = elim (cases m.head m.tried) [
          | inl r ↦ none_taken m.head others m.no_edge r m.taken
          | inr (inl same) ↦ m.no_chain chain (subst (λ (t : Stamp). MakeChain read owner t chain) same makes)
          | inr (inr behind) ↦ m.first head is_tried behind records (taken m.no_edge)
        ]

        abbrev Newest : Type 0
        Newest = ((chain : List Record) × IsCandidateOf grounds s.view start owner chain × (records ≡ records_above start owner chain)) ⊎ IsMisled grounds s.view start owner records

        new_candidate : Newest
        new_candidate = elim (head_ends met apart s.view owner start s.floor own_knew k edge head records given from far) [
          | inl w ↦ inl (
            w.0,
            by_heads w.0 (not_misled w.0 w.1) (newest head w.0 other is_tried w.1 (λ t t_tried before. over t t_tried.1 (first t t_tried before))),
            given_above met apart s.view owner start s.floor own_knew k edge head records w.0 from far given w.1,
          )
          | inr m ↦ inr (record {
            of_other = other;
            from = m.0;
            starts = m.1;
            no_edge = m.2;
            head = head;
            tried = is_tried;
            taken = taken m.2;
            first = λ t t_tried before others t_taken. none_taken t others m.2 (first t t_tried before) t_taken;
            no_chain = m.3;
          })
        ]

    -- ---- what the refresh brings of the log

    module _ (chains : List Chain) (basis : Option Basis) where
      abbrev IsBroughtSo : Type 0
      IsBroughtSo = BringsOf grounds s.view (record { started = start; chains = chains; basis = basis }) owner

      -- the refresh has just those records of it
      abbrev pub HasJust : LogEnd → Type 0
      HasJust end = ((c : Chain) → Contains (chains_of owner end) c → Contains chains c) × ((c : Chain) → Contains chains c → c.owner ≡ owner → Contains (chains_of owner end) c)

      abbrev chain_of : List Record → Chain
      chain_of records = record { owner = owner; records = records }

      given_brought : (records : List Record) → HasJust (Gives records) → (chain : List Record) → IsCandidateOf grounds s.view start owner chain → records ≡ records_above start owner chain → IsBroughtSo
      given_brought records just chain is same = candidate (chain_of records) chain (just.0 (chain_of records) (here (chain_of records) [])) refl is same

      nothing_brought : HasJust GivesNone → IsCandidateOf grounds s.view start owner own_knew → IsBroughtSo
      nothing_brought just is = nothing (λ c within mine. let none = (just.1 c within mine).1 in omega (arith, none)) is

      own_brought : (mine : owner ≡ s.own) (end : LogEnd) → end_of_log end ≡ None → Results (floors_own (stamp_at s.floor log) start_seq) end → HasJust end → IsBroughtSo
      own_brought mine (Lacks want) through h just = cc through
      own_brought mine (Stops miss) through h just = cc through
      own_brought mine (Gives records) through h just =
          let w = own_is (stamp_at s.floor log) start_seq h.0 h.1 h.2 h.3 in
          given_brought records just own_knew (own_candidate mine) (own_above h.1 records w.0 w.1 h.5)
      own_brought mine GivesNone through h just = nothing_brought just (own_candidate mine)

      module _ (other : owner ≡ s.own → ⊥) (tried : List Stamp) (are_tried : (t : Stamp) → Contains tried t ↔ IsTried heads s.floor log t) (order : InTryingOrder tried) where
        newest_brought : (records : List Record) → HasJust (Gives records) → (passed : List Stamp) (head : Stamp) (rest : List Stamp) (is : tried ≡ passed ++ head ∷ rest) → AllByRecursion Refused passed → Given head records → IsBroughtSo
        newest_brought records just passed head rest is refused given = elim (new_candidate other tried are_tried order passed head rest is refused records given) [
          | inl w ↦ given_brought records just w.0 w.1 w.2
          | inr m ↦ misleading (chain_of records) (just.0 (chain_of records) (here (chain_of records) [])) refl m
        ]

        other_brought : (end : LogEnd) → end_of_log end ≡ None → Results (tried ++ floors_own (stamp_at s.floor log) start_seq) end → HasJust end → IsBroughtSo
        other_brought (Lacks want) through h just = cc through
        other_brought (Stops miss) through h just = cc through
        other_brought (Gives records) through h just =
            elim (divided_at h.0 h.2 tried (floors_own (stamp_at s.floor log) start_seq) h.1 (sym h.3)) [
              | inl w ↦ newest_brought records just h.0 h.1 w.0 w.1 h.4 h.5
              | inr w ↦ (
                  let o = own_is (stamp_at s.floor log) start_seq w.0 h.1 h.2 w.2 in
                  let refused : AllByRecursion Refused tried = each_left Refused tried w.0 (subst (AllByRecursion Refused) w.1 h.4) in
                  given_brought records just own_knew (known_candidate other tried are_tried order refused) (own_above h.1 records o.0 o.1 h.5)
                  )
            ]
        other_brought GivesNone through h just =
            nothing_brought just (known_candidate other tried are_tried order (each_left Refused tried (floors_own (stamp_at s.floor log) start_seq) h))

      -- the heads that count are those that came for it
      abbrev pub HasHeads : List Brought → Type 0
      HasHeads brought = (came : List Judged) → Contains brought (HeadsOf owner (Ok came)) → (t : Stamp) → Contains (heads log) t ↔ Contains (map stamp_of came) t

      pub log_brought : {brought : List Brought} {notes : List Note} {end : LogEnd} → Fetches (record { standing = s; start = start }) owner brought notes end → end_of_log end ≡ None → AreMet met brought → HasHeads brought → HasJust end → IsBroughtSo
      log_brought (wants_heads other) through are has just = cc through
      log_brought (no_heads miss other) through are has just = cc through
      log_brought (of_heads came tried brought faults end other are_tried tries) through are has just =
          let same = has came (here (HeadsOf owner (Ok came)) brought) in
          other_brought other tried
          (λ t. (
            λ c. let w = (are_tried.each t).0 c in ((same t).1 w.0, w.1),
            λ w. (are_tried.each t).1 ((same t).0 w.0, w.1),
          ))
          are_tried.order end through (results tries (λ key bytes c. are key bytes (there (HeadsOf owner (Ok came)) brought _ c))) just
      log_brought (of_own brought faults end mine tries) through are has just = own_brought mine end through (results tries are) just
