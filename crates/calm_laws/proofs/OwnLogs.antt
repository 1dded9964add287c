-- What each agent has written in a world whose heads are honest: heads of its log are over records of that, and what is known of the log is the beginning of it.
use Rattle.std.proofs.Common.{◌≡◌, ⊎_elim, ℕ, ◌<◌, ◌^◌, List, [], ◌∷◌, ◌++◌, length, Option, Some, None, refl, sym, ap, ◌∙◌, subst, arith, Contains, append_assoc, le_refl}
use Rattle.std.specs.Prelude.{IfSome, IsTrue, is_some}
use Rattle.std.specs.List.{AllByRecursion}
use Rattle.std.proofs.lemmas.List.{append-nil}
use Rattle.std.proofs.lemmas.List.Elements.{Contains-append_left, Contains-append_right}
use Rattle.ivy_base.specs.declared.key.PubKey.{PubKey}
use Rattle.ivy_base.specs.Naming.{IsCollisionFree, head_key_of}
use Rattle.log_model.specs.Chain.{IsChain, IsGood, LinkedFrom}
use Rattle.log_model.specs.Closed.{log_of}
use Rattle.log_model.specs.Rank.{own_entry}
use Rattle.log_model.specs.Record.{Record}
use Rattle.log_model.specs.Spelling.{HasSpelling, no_name}
use Rattle.log_model.specs.Standing.{Stand}
use Rattle.log_model.specs.Vector.{Entry, Stamp, reach, stamp_at}
use Rattle.log_model.specs.View.{View, IsView, is_named}
use Rattle.log_model.proofs.Later.{name_is_key}
use Rattle.log_model.proofs.Lists.{each, each_from, each_left, here}
use Rattle.log_model.proofs.Part.{chain_good}
use Rattle.hash_signature_model.specs.Signer.{hss_key_of}
use Rattle.log_model.specs.ViewKeys.{HasKeys}
use Rattle.turn_model.specs.Known.{EndsAt, IsBacked, IsUnderHead}
use Rattle.turn_model.specs.Turn.{IsPrefixOf}
use Rattle.turn_laws.proofs.LinkedLogs.{chain_linked, divided, each_linked, ends_some, prefix_linked}
use Rattle.session_model.specs.Brought.{stamp_of}
use Rattle.agent_model.specs.Agent.{own_key}
use Rattle.world_model.specs.Agents.{IsHssKept, HssKept, hss_signing, own_hss_key, own_reach}
use Rattle.world_model.specs.World.{Participant, named_bytes}
use Rattle.world_model.specs.GhostState.{knowing_of, known_of}
use Rattle.world_model.specs.Logs.{Played}
use Rattle.world_model.specs.Steps.{heads_by}
use Rattle.world_laws.specs.Invariant.{IsKeptSo, IsSavedWell, IsSound, IsSoundIn, IsSoundKept, IsSoundKeptIn, Invariant, NamesOneOf, SignsOnce}
use Rattle.world_laws.proofs.KnownHeads.{heads_low}
use Rattle.world_laws.proofs.MoreMet.{more_stand}
use Rattle.world_laws.proofs.OneKnown.{stand_in_log}
use Rattle.world_laws.proofs.PublicKeys.{owner_is_key}
use Rattle.world_laws.proofs.SignedHeads.{so_of}
use Rattle.calm_laws.specs.Takes.{IsLeftBy}
use Rattle.calm_laws.proofs.RestartLines.{long}
use Rattle.calm_laws.proofs.Turns.{from_log}
use Rattle.calm_laws.proofs.UpTo.{head_tells}

-- a beginning has nothing else
pub in_whole : (xs ys : List Record) (r : Record) → IsPrefixOf xs ys → Contains xs r → Contains ys r
in_whole xs ys r h c = subst (λ (l : List Record). Contains l r) h.1 (Contains-append_left xs h.0 r c)

-- ---- what is written

-- each log has a key of its own, and each head of a log that was received left the log's agent
pub record IsHonestIn (w : Played) : Type 0 where
  pub own_keys : (p q : Participant) → Contains w.0.participants p → Contains w.0.participants q → head_key_of (own_hss_key p.agent) ≡ head_key_of (own_hss_key q.agent) → p ≡ q
  pub left : (name : List ℕ) (e : Entry) (q : Participant) → Contains (knowing_of w.1 name).received e → Contains w.0.participants q → e.0 ≡ head_key_of (own_hss_key q.agent) → IsLeftBy q e

abbrev pub written : Played → Participant → List Record
written w q = log_of (own_hss_key q.agent) (known_of w.1 q.name)

module _ (w : Played) (keeps : Invariant w) (apart : IsCollisionFree (named_bytes w.0)) (honest : IsHonestIn w) where
  met_apart : IsCollisionFree w.0.met
  met_apart a b in_a in_b same = apart a b (Contains-append_left w.0.met _ a in_a) (Contains-append_left w.0.met _ b in_b) same

  -- of an agent in a view
  module _ (q : Participant) (q_in : Contains w.0.participants q) (view : View) (in_view : q.agent.view ≡ Some view) where
    pub sound_in : IsSound w.0.met q (knowing_of w.1 q.name) view
    sound_in = subst (IsSoundIn w.0.met q (knowing_of w.1 q.name)) in_view (each (λ (o : Participant). IsSoundIn w.0.met o (knowing_of w.1 o.name) o.agent.view) w.0.participants q (keeps.sound apart).agents q_in)

    signs_so : IsKeptSo SignsOnce q
    signs_so = each (IsKeptSo SignsOnce) w.0.participants q keeps.signs q_in

    abbrev k : HssKept
    k = signs_so.0

    whole : IsHssKept signs_so.0
    whole = signs_so.1

    signs : SignsOnce q signs_so.0
    signs = signs_so.3

    kept_so : IsSoundKeptIn w.0.met q (knowing_of w.1 q.name) signs_so.0 signs_so.0.view
    kept_so = so_of (λ p l. IsSoundKeptIn w.0.met p (knowing_of w.1 p.name) l l.view) q signs_so.0
        (each (IsKeptSo (λ p l. IsSoundKeptIn w.0.met p (knowing_of w.1 p.name) l l.view)) w.0.participants q (keeps.sound apart).keepers q_in) whole signs_so.2

    well : IsSavedWell q signs_so.0
    well = so_of IsSavedWell q signs_so.0 (each (IsKeptSo IsSavedWell) w.0.participants q keeps.saved q_in) whole signs_so.2

    pub member_in : Contains view.members (own_hss_key q.agent)
    member_in = (subst (λ (o : Option View). IfSome o (λ v. IsView v × HasKeys v × Contains v.members (own_hss_key q.agent) × AllByRecursion (λ e. IsTrue (is_named v e.0)) q.agent.floor)) in_view well.agent.view).2

    owned : own_hss_key q.agent ≡ own_key hss_signing signs_so.0.signer
    owned = λ i. record { 0 = hss_key_of (sym signs.same.0 i) (sym signs.same.1 i) (sym signs.same.2 i) }

    pub written_linked : LinkedFrom (own_hss_key q.agent) 1 no_name (written w q)
    written_linked = chain_linked view (own_hss_key q.agent) (written w q) (sound_in.knows.by_floor.chains (own_hss_key q.agent))

    pub written_stand : Stand w.0.met (written w q)
    written_stand = stand_in_log w.0.met (own_hss_key q.agent) (known_of w.1 q.name) sound_in.stand

    -- it is as long as its floor says, and has begun
    pub written_long : length (written w q) ≡ own_reach q.agent
    written_long = by (stamp_at q.agent.floor (head_key_of (own_hss_key q.agent))) refl (sound_in.knows.by_floor.ends (own_hss_key q.agent) member_in)
      where
        by : (o : Option Stamp) → stamp_at q.agent.floor (head_key_of (own_hss_key q.agent)) ≡ o → EndsAt o (written w q) → length (written w q) ≡ own_reach q.agent
        by None e none = absurd (let far = well.agent.some in let zero : own_reach q.agent ≡ 0 = ap reach e in omega (arith, far, zero))
        by (Some t) e ends = let size = long (own_hss_key q.agent) 1 no_name (written w q) t written_linked ends in let far : own_reach q.agent ≡ t.seq = ap reach e in omega (arith, size, far)

    heads_named : AllByRecursion (NamesOneOf signs_so.0.signer (written w q)) q.left
    heads_named = by signs_so.0.view refl kept_so (well.entered (ap is_some in_view))
      where
        of_kept : (v : View) → IsSoundKept w.0.met q (knowing_of w.1 q.name) signs_so.0 v → AllByRecursion (NamesOneOf signs_so.0.signer (written w q)) q.left
        of_kept v h =
            heads_low signs_so.0.signer q.agent.signer.made (own_reach q.agent) q.left v (own_hss_key q.agent) (stamp_at q.agent.floor (head_key_of (own_hss_key q.agent))) (written w q) h.goes_on.0
            (owner_is_key signs_so.0.signer whole.signer).size (let few = well.agent.few in omega (arith, few)) signs.left chain short (sound_in.knows.by_floor.ends (own_hss_key q.agent) member_in) (le_refl (own_reach q.agent))
            (subst (λ (l : List Record). AllByRecursion (NamesOneOf signs_so.0.signer l) q.left) h.goes_on.1 (each_left (NamesOneOf signs_so.0.signer (log_of (own_hss_key q.agent) h.known)) q.left (heads_by signs_so.0.pending) h.heads))
          where
            chain : IsChain v (own_hss_key q.agent) (written w q ++ h.goes_on.0)
            chain = subst (IsChain v (own_hss_key q.agent)) h.goes_on.1 (h.by_floor.chains (own_hss_key q.agent))

            short : AllByRecursion (λ r. r.seq < 2 ^ 32) (written w q ++ h.goes_on.0)
            short = each_from (λ (r : Record). r.seq < 2 ^ 32) (written w q ++ h.goes_on.0) (λ r c. let few = (each (IsGood v (own_hss_key q.agent)) (written w q ++ h.goes_on.0) r (chain_good v (own_hss_key q.agent) (written w q ++ h.goes_on.0) chain) c).spelled.few in omega (arith, few))

        by : (o : Option View) → signs_so.0.view ≡ o → IsSoundKeptIn w.0.met q (knowing_of w.1 q.name) signs_so.0 o → IsTrue (is_some signs_so.0.view) → AllByRecursion (NamesOneOf signs_so.0.signer (written w q)) q.left
        by None is h some = absurd (no_view is some)
          where
            no_view : signs_so.0.view ≡ None → IsTrue (is_some signs_so.0.view) → ⊥
            no_view none has = cc (sym has ∙ ap is_some none)
        by (Some v) is h some = of_kept v h

    -- a head that left it is over a record of its log
    pub over_written : (e : Entry) → IsLeftBy q e → (one : Record) × Contains (written w q) one × ((own_entry one).1 ≡ e.1)
    over_written e is_left = (named.1, named.2, sym tells ∙ sym is_left.4)
      where
        named : NamesOneOf signs_so.0.signer (written w q) is_left.0
        named = each (NamesOneOf signs_so.0.signer (written w q)) q.left is_left.0 heads_named is_left.2

        spelled : HasSpelling named.1
        spelled = (each_linked (own_hss_key q.agent) 1 no_name (written w q) named.1 written_linked named.2).1

        tells : stamp_of is_left.1 ≡ (own_entry named.1).1
        tells = head_tells e.0 is_left.0 is_left.1 (own_key hss_signing signs_so.0.signer) (own_entry named.1).1 _ is_left.3 named.3 (owner_is_key signs_so.0.signer whole.signer).size (let few = spelled.few in omega (arith, few)) (name_is_key named.1 spelled).size

    -- linked records that end at one of them are its beginning
    module _ (met : List (List ℕ)) (told_apart : IsCollisionFree met) (meets : (b : List ℕ) → Contains w.0.met b → Contains met b) where
      pub begins_it : (xs : List Record) (t : Stamp) (one : Record) → LinkedFrom (own_hss_key q.agent) 1 no_name xs → Stand met xs → EndsAt (Some t) xs → Contains (written w q) one → (own_entry one).1 ≡ t → IsPrefixOf xs (written w q)
      begins_it xs t one linked stand ends has at =
          prefix_linked met told_apart (own_hss_key q.agent) xs (written w q) ends.0 ends.1 one linked written_linked stand (more_stand w.0.met met meets (written w q) written_stand) ends.2 has (ap (λ (s : Stamp). s.name) (at ∙ sym ends.3))

    -- up to one of them
    pub up_to_it : (one : Record) → Contains (written w q) one → (front : List Record) × (rest : List Record) × (written w q ≡ front ++ rest) × EndsAt (Some (own_entry one).1) front
    up_to_it one c = let parts = divided (written w q) one c in (parts.0 ++ one ∷ [], parts.1, parts.2 ∙ sym (append_assoc parts.0 (one ∷ []) parts.1), (parts.0, one, refl, refl))

  -- what one agent knows of another's log, both in views
  module _ (p : Participant) (p_in : Contains w.0.participants p) (seen : View) (sees : p.agent.view ≡ Some seen) (q : Participant) (q_in : Contains w.0.participants q) (view : View) (in_view : q.agent.view ≡ Some view) where
    abbrev its : List Record
    its = log_of (own_hss_key q.agent) (known_of w.1 p.name)

    its_sound : IsSound w.0.met p (knowing_of w.1 p.name) seen
    its_sound = sound_in p p_in seen sees

    its_linked : LinkedFrom (own_hss_key q.agent) 1 no_name (log_of (own_hss_key q.agent) (known_of w.1 p.name))
    its_linked = chain_linked seen (own_hss_key q.agent) (log_of (own_hss_key q.agent) (known_of w.1 p.name)) (its_sound.knows.by_floor.chains (own_hss_key q.agent))

    its_stand : Stand w.0.met (log_of (own_hss_key q.agent) (known_of w.1 p.name))
    its_stand = stand_in_log w.0.met (own_hss_key q.agent) (known_of w.1 p.name) its_sound.stand

    under_begins : (a : List Record) (l : Record) → log_of (own_hss_key q.agent) (known_of w.1 p.name) ≡ a ++ l ∷ [] → l.owner ≡ own_hss_key q.agent → IsUnderHead w.0.met (knowing_of w.1 p.name).received l → IsPrefixOf (log_of (own_hss_key q.agent) (known_of w.1 p.name)) (written w q)
    under_begins a l is owned_by under =
        prefix_linked w.0.met met_apart (own_hss_key q.agent) (log_of (own_hss_key q.agent) (known_of w.1 p.name)) (written w q) a l l its_linked (written_linked q q_in view in_view) its_stand (written_stand q q_in view in_view) is
        (in_whole under.log (written w q) l longer under.below) refl
      where
        over : (r : Record) × Contains (written w q) r × ((own_entry r).1 ≡ under.head.1)
        over = over_written q q_in view in_view under.head (honest.left p.name under.head q under.received q_in (under.of_log ∙ ap head_key_of owned_by))

        longer : IsPrefixOf under.log (written w q)
        longer = begins_it q q_in view in_view w.0.met met_apart (λ b m. m) under.log under.head.1 over.0 (subst (λ (o : PubKey). LinkedFrom o 1 no_name under.log) owned_by under.linked) under.stand under.ends over.1 over.2

    pub known_begins : IsPrefixOf (log_of (own_hss_key q.agent) (known_of w.1 p.name)) (written w q)
    known_begins = ⊎_elim (λ none. (written w q, ap (λ (s : List Record). s ++ written w q) none)) (λ e. by e.0 e.1 e.2) (ends_some (log_of (own_hss_key q.agent) (known_of w.1 p.name)))
      where
        mine : own_hss_key p.agent ≡ own_hss_key q.agent → IsPrefixOf (log_of (own_hss_key q.agent) (known_of w.1 p.name)) (written w q)
        mine same = subst (λ (o : Participant). IsPrefixOf (log_of (own_hss_key q.agent) (known_of w.1 o.name)) (written w q)) (sym (honest.own_keys p q p_in q_in (ap head_key_of same))) ([], append-nil (written w q))

        by : (a : List Record) (l : Record) → log_of (own_hss_key q.agent) (known_of w.1 p.name) ≡ a ++ l ∷ [] → IsPrefixOf (log_of (own_hss_key q.agent) (known_of w.1 p.name)) (written w q)
        by a l is = ⊎_elim
            (λ by_floor. mine (sym by_floor.0 ∙ of_q))
            (λ by_head. under_begins a l is of_q by_head.1)
            (each (IsBacked w.0.met (own_hss_key p.agent) p.agent.floor (knowing_of w.1 p.name).received) (known_of w.1 p.name) l its_sound.verified.backed (from_log (own_hss_key q.agent) (known_of w.1 p.name) l among))
          where
            among : Contains (log_of (own_hss_key q.agent) (known_of w.1 p.name)) l
            among = subst (λ (s : List Record). Contains s l) (sym is) (Contains-append_right a (l ∷ []) l (here l []))

            of_q : l.owner ≡ own_hss_key q.agent
            of_q = (each_linked (own_hss_key q.agent) 1 no_name (log_of (own_hss_key q.agent) (known_of w.1 p.name)) l its_linked among).0
