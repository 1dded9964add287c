-- A turn takes what the members have written, where of each other member's log its session was brought a head that goes as far, and each head that it was brought is honest.
use Rattle.std.proofs.Common.{◌≡◌, inl, inr, ⊎_elim, ◌⊎◌, ℕ, ◌+◌, ◌<◌, ◌≤◌, Bool, true, false, List, [], ◌∷◌, ◌++◌, length, map, Option, Some, None, refl, sym, ap, ◌∙◌, subst, arith, nat_lt, Contains, length-append}
use Rattle.std.specs.Prelude.{IfSome, ◌↔◌}
use Rattle.std.specs.Ordering.{eq_by_cmp}
use Rattle.std.proofs.lemmas.Bool.{ltb-false, ltb-true}
use Rattle.std.proofs.lemmas.List.{append-nil}
use Rattle.std.proofs.lemmas.List.Elements.{Contains-append_left, Contains-append_right}
use Rattle.ivy_base.specs.declared.key.PubKey.{PubKey}
use Rattle.ivy_base.specs.Naming.{IsCollisionFree, head_key_of, owner_cmp}
use Rattle.log_model.specs.Chain.{IsChain, LinkedFrom}
use Rattle.log_model.specs.Closed.{IsClosedPart, log_of}
use Rattle.log_model.specs.Rank.{own_entry}
use Rattle.log_model.specs.Record.{Record}
use Rattle.log_model.specs.Spelling.{no_name}
use Rattle.log_model.specs.Standing.{Stand, StandsAmong}
use Rattle.log_model.specs.Vector.{Stamp, Vector, reach, seq_of, stamp_at}
use Rattle.log_model.specs.View.{View}
use Rattle.log_model.proofs.Lists.{each, each_from, each_left, from_filter, here}
use Rattle.log_model.proofs.Opening.{same_owner}
use Rattle.log_model.proofs.Owners.{owner_itself}
use Rattle.log_model.proofs.Part.{chain_front}
use Rattle.turn_model.specs.Candidates.{IsTried, MakeChain, PassesThrough}
use Rattle.turn_model.specs.Known.{EndsAt, IsKnown}
use Rattle.turn_model.specs.Turn.{Candidate, IsAvailable, IsPrefixOf}
use Rattle.turn_laws.proofs.OneCandidate.{IsNewest, IsOne, cases_of}
use Rattle.agent_model.specs.Candidates.{AreCandidatesOf, Grounds, IsCandidateOf, evidence_in, reading_in}
use Rattle.agent_model.specs.Candidates.IsCandidateOf.{misled as is_misled, by_heads}
use Rattle.world_model.specs.Agents.{own_hss_key as own, own_reach}
use Rattle.world_model.specs.World.{Participant, named_bytes}
use Rattle.world_model.specs.GhostState.{knowing_of, known_of}
use Rattle.world_model.specs.Logs.{Played}
use Rattle.world_laws.specs.Invariant.{AreParticipants, EntersOwned, IsSound, Invariant}
use Rattle.world_laws.proofs.MoreMet.{more_stand}
use Rattle.world_laws.proofs.OneKnown.{stand_in_log}
use Rattle.turn_laws.proofs.LinkedLogs.{chain_linked}
use Rattle.world_laws.proofs.SignedHeads.{from_map}
use Rattle.world_laws.proofs.TurnsTaken.{IsBrought, of_hand}
use Rattle.calm_laws.specs.Completeness.{IsWritten}
use Rattle.calm_laws.specs.Takes.{IsLeftBy}
use Rattle.calm_laws.proofs.OwnLogs.{IsHonestIn, begins_it, in_whole, known_begins, over_written, sound_in, up_to_it, written, written_linked, written_long, written_stand}
use Rattle.calm_laws.proofs.RestartLines.{long}
use Rattle.calm_laws.proofs.Turns.{from_log, in_own_log}

le_or_less : (a b : ℕ) → (a ≤ b) ⊎ (b < a)
le_or_less a b = by (nat_lt b a) refl
  where
    by : (t : Bool) → nat_lt b a ≡ t → (a ≤ b) ⊎ (b < a)
    by true e = inr (ltb-true b a e)
    by false e = inl (ltb-false b a e)

-- ---- beginnings

-- of two beginnings of one list the shorter is a beginning of the other
shorter_begins : (xs ys a b : List Record) → xs ++ a ≡ ys ++ b → length xs ≤ length ys → IsPrefixOf xs ys
shorter_begins [] ys a b e le = (ys, refl)
shorter_begins (x ∷ xs) [] a b e le = absurd (omega (arith, le))
shorter_begins (x ∷ xs) (y ∷ ys) a b e le =
    let first : x ≡ y = cc e in
    let more : xs ++ a ≡ ys ++ b = cc e in
    let rest = shorter_begins xs ys a b more (omega (arith, le)) in
    (rest.0, λ i. first i ∷ rest.1 i)

-- one that is no shorter is all
all_of_it : (xs ys : List Record) → IsPrefixOf xs ys → length ys ≤ length xs → xs ≡ ys
all_of_it xs ys (rest, is) le = by rest is
  where
    by : (rest : List Record) → xs ++ rest ≡ ys → xs ≡ ys
    by [] e = sym (append-nil xs) ∙ e
    by (z ∷ rest) e = let one = length-append xs (z ∷ rest) in let two = ap length e in absurd (omega (arith, one, two, le))

module _ (w : Played) (keeps : Invariant w) (apart : IsCollisionFree (named_bytes w.0)) (honest : IsHonestIn w) (p : Participant) (p_in : Contains w.0.participants p) (view : View) (in_view : p.agent.view ≡ Some view)
    (entered : (q : Participant) → Contains w.0.participants q → Contains view.members (own q.agent) → q.agent.view ≡ Some view)
    (grounds : Grounds) (started : Vector) (meets : (b : List ℕ) → Contains w.0.met b → Contains grounds.met b) (told_apart : IsCollisionFree grounds.met)
    (own_is : grounds.standing.own ≡ own p.agent) (by_floor : IsKnown view grounds.standing.floor grounds.knew) (before : (r : Record) → Contains grounds.knew r → Contains (known_of w.1 p.name) r)
    (heard : (q : Participant) (t : Stamp) → Contains w.0.participants q → Contains (grounds.heads (head_key_of (own q.agent))) t → IsLeftBy q (head_key_of (own q.agent), t))
    (newest : (q : Participant) → Contains w.0.participants q → Contains view.members (own q.agent) → (own q.agent ≡ grounds.standing.own → ⊥) → (t : Stamp) × Contains (grounds.heads (head_key_of (own q.agent))) t × (own_reach q.agent ≤ t.seq))
    (candidates : List Candidate) (are : AreCandidatesOf grounds view started candidates) (taken : List Record) (largest : IsClosedPart view (IsAvailable (known_of w.1 p.name) candidates) taken) where
  -- whose log a member's is
  who : (owner : PubKey) → Contains view.members owner → (q : Participant) × Contains w.0.participants q × (own q.agent ≡ owner)
  who owner member =
      let all : AreParticipants w.0 view = subst (λ o. IfSome o (AreParticipants w.0)) in_view (each (EntersOwned w.0) w.0.participants p keeps.entered p_in).agent in
      let found = from_map (λ (x : Participant). own x.agent) w.0.participants owner (each (Contains (map (λ (x : Participant). own x.agent) w.0.participants)) view.members owner all member) in
      (found.0, found.1, sym found.2)

  -- ---- of one member

  module _ (q : Participant) (q_in : Contains w.0.participants q) (member : Contains view.members (own q.agent)) where
    its_view : q.agent.view ≡ Some view
    its_view = entered q q_in member

    abbrev log : List Record
    log = written w q

    log_linked : LinkedFrom (own q.agent) 1 no_name (written w q)
    log_linked = written_linked w keeps apart honest q q_in view its_view

    log_stand : Stand w.0.met (written w q)
    log_stand = written_stand w keeps apart honest q q_in view its_view

    log_long : length (written w q) ≡ own_reach q.agent
    log_long = written_long w keeps apart honest q q_in view its_view

    -- what was known of it when the session began
    knew_begins : IsPrefixOf (log_of (own q.agent) grounds.knew) (written w q)
    knew_begins = by (stamp_at grounds.standing.floor (head_key_of (own q.agent))) (by_floor.ends (own q.agent) member)
      where
        by : (o : Option Stamp) → EndsAt o (log_of (own q.agent) grounds.knew) → IsPrefixOf (log_of (own q.agent) grounds.knew) (written w q)
        by None none = (written w q, ap (λ (l : List Record). l ++ written w q) none)
        by (Some t) ends =
            begins_it w keeps apart honest q q_in view its_view w.0.met (λ a b in_a in_b. apart a b (Contains-append_left w.0.met _ a in_a) (Contains-append_left w.0.met _ b in_b)) (λ b m. m) (log_of (own q.agent) grounds.knew) t ends.1
            (chain_linked view (own q.agent) (log_of (own q.agent) grounds.knew) (by_floor.chains (own q.agent))) stand ends (in_whole _ _ ends.1 known mine) ends.3
          where
            knew_stand : (one : Record) → Contains grounds.knew one → StandsAmong w.0.met one
            knew_stand one c = each (StandsAmong w.0.met) (known_of w.1 p.name) one (sound_in w keeps apart honest p p_in view in_view).stand (before one c)

            stand : Stand w.0.met (log_of (own q.agent) grounds.knew)
            stand = stand_in_log w.0.met (own q.agent) grounds.knew (each_from (StandsAmong w.0.met) grounds.knew knew_stand)

            among : Contains (log_of (own q.agent) grounds.knew) ends.1
            among = subst (λ (l : List Record). Contains l ends.1) (sym ends.2) (Contains-append_right ends.0 (ends.1 ∷ []) ends.1 (here ends.1 []))

            owner_of_log : (rs : List Record) (one : Record) → Contains (log_of (own q.agent) rs) one → one.owner ≡ own q.agent
            owner_of_log rs one c = same_owner (own q.agent) one.owner (from_filter (λ (x : Record). eq_by_cmp owner_cmp (own q.agent) x.owner) rs one c).1

            known : IsPrefixOf (log_of (own q.agent) (known_of w.1 p.name)) (written w q)
            known = known_begins w keeps apart honest p p_in view in_view q q_in view its_view

            mine : Contains (log_of (own q.agent) (known_of w.1 p.name)) ends.1
            mine = in_own_log (own q.agent) (known_of w.1 p.name) ends.1 (before ends.1 (from_log (own q.agent) grounds.knew ends.1 among)) (owner_of_log grounds.knew ends.1 among)

    -- it goes as far as the floor
    knew_long : length (log_of (own q.agent) grounds.knew) ≡ seq_of grounds.standing.floor (head_key_of (own q.agent))
    knew_long = by (stamp_at grounds.standing.floor (head_key_of (own q.agent))) refl (by_floor.ends (own q.agent) member)
      where
        by : (o : Option Stamp) → stamp_at grounds.standing.floor (head_key_of (own q.agent)) ≡ o → EndsAt o (log_of (own q.agent) grounds.knew) → length (log_of (own q.agent) grounds.knew) ≡ seq_of grounds.standing.floor (head_key_of (own q.agent))
        by None e none = ap length none ∙ sym (ap reach e)
        by (Some t) e ends =
            let size = long (own q.agent) 1 no_name (log_of (own q.agent) grounds.knew) t (chain_linked view (own q.agent) (log_of (own q.agent) grounds.knew) (by_floor.chains (own q.agent))) ends in
            let far : seq_of grounds.standing.floor (head_key_of (own q.agent)) ≡ t.seq = ap reach e in
            omega (arith, size, far)

    -- each head of it that is tried makes a chain, which is a beginning of it
    makes : (head : Stamp) → IsTried grounds.heads grounds.standing.floor (head_key_of (own q.agent)) head → (front : List Record) × MakeChain (reading_in grounds view) (own q.agent) head front
    makes head tried = (
      up.0,
      record {
        chain_of_log = chain_front view (own q.agent) up.0 up.1 (subst (λ l. IsChain view (own q.agent) l) up.2 ((sound_in w keeps apart honest q q_in view its_view).knows.by_floor.chains (own q.agent)));
        stand = each_left (StandsAmong grounds.met) up.0 up.1 (subst (Stand grounds.met) up.2 (more_stand w.0.met grounds.met meets (written w q) log_stand));
        ends = ends;
        passes = passes (stamp_at grounds.standing.floor (head_key_of (own q.agent))) refl (by_floor.ends (own q.agent) member);
      },
    )
      where
        over : (one : Record) × Contains (written w q) one × ((own_entry one).1 ≡ head)
        over = over_written w keeps apart honest q q_in view its_view (head_key_of (own q.agent), head) (heard q head q_in tried.0)

        up : (front : List Record) × (rest : List Record) × (written w q ≡ front ++ rest) × EndsAt (Some (own_entry over.0).1) front
        up = up_to_it w keeps apart honest q q_in view its_view over.0 over.1

        ends : EndsAt (Some head) up.0
        ends = subst (λ (t : Stamp). EndsAt (Some t) up.0) over.2 up.3

        size : 1 + length up.0 ≡ head.seq + 1
        size = long (own q.agent) 1 no_name up.0 head (chain_linked view (own q.agent) up.0 (chain_front view (own q.agent) up.0 up.1 (subst (λ l. IsChain view (own q.agent) l) up.2 ((sound_in w keeps apart honest q q_in view its_view).knows.by_floor.chains (own q.agent))))) ends

        floor_first : IsPrefixOf (log_of (own q.agent) grounds.knew) up.0
        floor_first = shorter_begins (log_of (own q.agent) grounds.knew) up.0 knew_begins.0 up.1 (knew_begins.1 ∙ up.2) (let less = tried.1 in omega (arith, size, knew_long, less))

        passes : (o : Option Stamp) → stamp_at grounds.standing.floor (head_key_of (own q.agent)) ≡ o → EndsAt o (log_of (own q.agent) grounds.knew) → PassesThrough o up.0
        passes None e none = tt
        passes (Some t) e at = (log_of (own q.agent) grounds.knew, floor_first.0, sym floor_first.1, at)

    -- its newest head is tried where more was written than the floor says, and then the candidate is the whole log
    module _ (other : own q.agent ≡ grounds.standing.own → ⊥) (further : seq_of grounds.standing.floor (head_key_of (own q.agent)) < own_reach q.agent) where
      its_newest : (t : Stamp) × Contains (grounds.heads (head_key_of (own q.agent))) t × (own_reach q.agent ≤ t.seq)
      its_newest = newest q q_in member other

      newest_tried : IsTried grounds.heads grounds.standing.floor (head_key_of (own q.agent)) its_newest.0
      newest_tried = (its_newest.1, let far = its_newest.2 in omega (arith, further, far))

      whole_chain : (head : Stamp) (chain : List Record) → IsTried grounds.heads grounds.standing.floor (head_key_of (own q.agent)) head → MakeChain (reading_in grounds view) (own q.agent) head chain → own_reach q.agent ≤ head.seq → chain ≡ written w q
      whole_chain head chain tried made far =
          let over = over_written w keeps apart honest q q_in view its_view (head_key_of (own q.agent), head) (heard q head q_in tried.0) in
          let linked = chain_linked view (own q.agent) chain made.chain_of_log in
          let size = long (own q.agent) 1 no_name chain head linked made.ends in
          all_of_it chain (written w q) (begins_it w keeps apart honest q q_in view its_view grounds.met told_apart meets chain head over.0 linked made.stand made.ends over.1 over.2) (omega (arith, size, log_long, far))

      newest_chain : (chain : List Record) → IsNewest (evidence_in grounds view) (own q.agent) chain → chain ≡ written w q
      newest_chain chain n = by (le_or_less (own_reach q.agent) n.0.seq)
        where
          by : (own_reach q.agent ≤ n.0.seq) ⊎ (n.0.seq < own_reach q.agent) → chain ≡ written w q
          by (inl far) = whole_chain n.0 chain n.1 n.2 far
          by (inr low) = let made = makes its_newest.0 newest_tried in absurd (n.3 its_newest.0 newest_tried (inl (let far = its_newest.2 in omega (arith, low, far))) made.0 made.1)

      candidate_is : (chain : List Record) → IsCandidateOf grounds view started (own q.agent) chain → chain ≡ written w q
      candidate_is _ (is_misled records m) = let made = makes m.head m.tried in absurd (m.no_chain made.0 made.1)
      candidate_is _ (by_heads chain not_misled candidate) = by (cases_of (evidence_in grounds view) (own q.agent) chain candidate)
        where
          by : IsOne (evidence_in grounds view) (own q.agent) chain → chain ≡ written w q
          by (inl mine) = absurd (other mine.0)
          by (inr (apart_of, inl new)) = newest_chain chain new
          by (inr (apart_of, inr old)) = let made = makes its_newest.0 newest_tried in absurd (old.0 its_newest.0 newest_tried made.0 made.1)

      by_candidate : (one : Record) → Contains (written w q) one → IsAvailable (known_of w.1 p.name) candidates one
      by_candidate one c =
          let found = from_map (λ (x : Candidate). x.owner) candidates (own q.agent) (subst (λ (l : List PubKey). Contains l (own q.agent)) (sym are.of_members) member) in
          let is : found.0.chain ≡ written w q = candidate_is found.0.chain (subst (λ (o : PubKey). IsCandidateOf grounds view started o found.0.chain) (sym found.2) (each (λ (x : Candidate). IsCandidateOf grounds view started x.owner x.chain) candidates found.0 are.each found.1)) in
          inr (
            found.0,
            found.1,
            subst (λ (o : PubKey). IsPrefixOf (log_of o (known_of w.1 p.name)) found.0.chain) found.2 (subst (IsPrefixOf (log_of (own q.agent) (known_of w.1 p.name))) (sym is) (known_begins w keeps apart honest p p_in view in_view q q_in view its_view)),
            subst (λ (l : List Record). Contains l one) (sym is) c,
          )

    -- each of its records is available
    written_available : (one : Record) → Contains (written w q) one → IsAvailable (known_of w.1 p.name) candidates one
    written_available one c = by_owner (eq_by_cmp owner_cmp grounds.standing.own (own q.agent)) refl
      where
        its_own : own q.agent ≡ grounds.standing.own → IsAvailable (known_of w.1 p.name) candidates one
        its_own same =
            let one_of : q ≡ p = honest.own_keys q p q_in p_in (ap head_key_of (same ∙ own_is)) in
            inl (from_log (own p.agent) (known_of w.1 p.name) one (subst (λ (x : Participant). Contains (written w x) one) one_of c))

        known_far : own_reach q.agent ≤ seq_of grounds.standing.floor (head_key_of (own q.agent)) → IsAvailable (known_of w.1 p.name) candidates one
        known_far far =
            let is : log_of (own q.agent) grounds.knew ≡ written w q = all_of_it (log_of (own q.agent) grounds.knew) (written w q) knew_begins (omega (arith, far, knew_long, log_long)) in
            inl (before one (from_log (own q.agent) grounds.knew one (subst (λ (l : List Record). Contains l one) (sym is) c)))

        by_owner : (b : Bool) → eq_by_cmp owner_cmp grounds.standing.own (own q.agent) ≡ b → IsAvailable (known_of w.1 p.name) candidates one
        by_owner true e = its_own (same_owner grounds.standing.own (own q.agent) e)
        by_owner false e = ⊎_elim known_far (λ further. by_candidate differ further one c) (le_or_less (own_reach q.agent) (seq_of grounds.standing.floor (head_key_of (own q.agent))))
          where
            differ : own q.agent ≡ grounds.standing.own → ⊥
            differ same = let itself = owner_itself grounds.standing.own in cc (sym e ∙ subst (λ (o : PubKey). eq_by_cmp owner_cmp grounds.standing.own o ≡ true) (sym same) itself)

    -- the chain of a head that was brought is among its records
    brought_written : (head : Stamp) (chain : List Record) (one : Record) → Contains (grounds.heads (head_key_of (own q.agent))) head → MakeChain (reading_in grounds view) (own q.agent) head chain → Contains chain one → Contains (written w q) one
    brought_written head chain one tried made c =
        let over = over_written w keeps apart honest q q_in view its_view (head_key_of (own q.agent), head) (heard q head q_in tried) in
        in_whole chain (written w q) one (begins_it w keeps apart honest q q_in view its_view grounds.met told_apart meets chain head over.0 (chain_linked view (own q.agent) chain made.chain_of_log) made.stand made.ends over.1 over.2) c

  -- ---- both ways

  only_written : (one : Record) → Contains taken one → IsWritten w view one
  only_written one c = (q.0, q.1, q_member, ⊎_elim known brought (of_hand grounds view started (known_of w.1 p.name) before candidates are one (largest.part one c)))
    where
      member : Contains view.members one.owner
      member = each (λ (x : Record). Contains view.members x.owner) taken one largest.closed.members c

      q : (q : Participant) × Contains w.0.participants q × (own q.agent ≡ one.owner)
      q = who one.owner member

      q_member : Contains view.members (own q.0.agent)
      q_member = subst (Contains view.members) (sym q.2) member

      known : Contains (known_of w.1 p.name) one → Contains (written w q.0) one
      known k = in_whole (log_of (own q.0.agent) (known_of w.1 p.name)) (written w q.0) one (known_begins w keeps apart honest p p_in view in_view q.0 q.1 view (entered q.0 q.1 q_member)) (in_own_log (own q.0.agent) (known_of w.1 p.name) one k (sym q.2))

      brought : IsBrought grounds view started (known_of w.1 p.name) before candidates are one → Contains (written w q.0) one
      brought (owner, chain, among, is_owned, (other, new)) =
          let same : owner ≡ own q.0.agent = sym is_owned ∙ sym q.2 in
          brought_written q.0 q.1 q_member new.0 chain one (subst (λ (o : PubKey). Contains (grounds.heads (head_key_of o)) new.0) same new.1.0) (subst (λ (o : PubKey). MakeChain (reading_in grounds view) o new.0 chain) same new.2) among

  all_written : (one : Record) → IsWritten w view one → Contains taken one
  all_written one (q, q_in, member, c) = largest.largest (known_of w.1 q.name) available sound.knows.closed one (from_log (own q.agent) (known_of w.1 q.name) one c)
    where
      sound : IsSound w.0.met q (knowing_of w.1 q.name) view
      sound = sound_in w keeps apart honest q q_in view (entered q q_in member)

      available : (x : Record) → Contains (known_of w.1 q.name) x → IsAvailable (known_of w.1 p.name) candidates x
      available x among =
          let x_member = each (λ (y : Record). Contains view.members y.owner) (known_of w.1 q.name) x sound.knows.by_floor.members among in
          let o = who x.owner x_member in
          let o_member : Contains view.members (own o.0.agent) = subst (Contains view.members) (sym o.2) x_member in
          written_available o.0 o.1 o_member x (in_whole (log_of (own o.0.agent) (known_of w.1 q.name)) (written w o.0) x (known_begins w keeps apart honest q q_in view (entered q q_in member) o.0 o.1 view (entered o.0 o.1 o_member)) (in_own_log (own o.0.agent) (known_of w.1 q.name) x among (sym o.2)))

  pub takes_written : (one : Record) → Contains taken one ↔ IsWritten w view one
  takes_written one = (only_written one, all_written one)
