-- What an agent knows was put, but for own records that it still has to publish: another's stands under a head that it received.
use Rattle.std.proofs.Common.{◌≡◌, ◌⊎◌, inl, inr, ⊎_elim, ℕ, zero, suc, ◌+◌, List, [], ◌∷◌, ◌++◌, length, map, Some, None, refl, sym, ap, ◌∙◌, subst, arith, Contains, length-append}
use Rattle.std.specs.Prelude.{IfSome}
use Rattle.std.specs.List.{AllByRecursion}
use Rattle.std.proofs.lemmas.List.Elements.{Contains-append_left}
use Rattle.ivy_base.specs.declared.key.Key.{Key}
use Rattle.ivy_base.specs.declared.key.PubKey.{PubKey}
use Rattle.ivy_base.specs.Naming.{IsCollisionFree, head_key_of, name}
use Rattle.log_model.specs.Chain.{LinkedFrom}
use Rattle.log_model.specs.Closed.{log_of}
use Rattle.log_model.specs.Record.{Record}
use Rattle.log_model.specs.Spelling.{HasSpelling, no_name, record_block}
use Rattle.log_model.specs.Standing.{Stand, StandsAmong}
use Rattle.log_records.proofs.Standing.{block_is_met}
use Rattle.log_model.specs.Vector.{Entry, Stamp, stamp_at}
use Rattle.log_model.specs.View.{View}
use Rattle.log_model.proofs.Lists.{each, each_append, each_from, each_left, each_right, in_cons, in_nothing}
use Rattle.dht_ids.specs.declared.post.Post.{Post}
use Rattle.agent_model.specs.Agent.{record_post}
use Rattle.turn_model.specs.Known.{EndsAt, IsBacked, IsUnderHead}
use Rattle.world_model.specs.Agents.{own_hss_key}
use Rattle.world_model.specs.World.{Participant, named_bytes, participant}
use Rattle.world_model.specs.GhostState.{knowing_of, known_of}
use Rattle.world_model.specs.Logs.{Played}
use Rattle.world_laws.specs.Invariant.{AreParticipants, EntersOwned, IsSound, IsSoundIn, Invariant}
use Rattle.world_laws.proofs.Bringing.{found_named}
use Rattle.world_laws.proofs.HeadKeys.{block_is_key}
use Rattle.turn_laws.proofs.LinkedLogs.{chain_linked, ends_some}
use Rattle.world_laws.proofs.SignedHeads.{from_map}
use Rattle.calm_laws.specs.Put.{AllUpTo, IsPutOr, WasPut}
use Rattle.calm_laws.proofs.RestartLines.{long}
use Rattle.calm_laws.proofs.Stages.{IsEntryPut}
use Rattle.calm_laws.proofs.Backed.{IsBackedIn}
use Rattle.calm_laws.proofs.BackedSteps.{its_backed}
use Rattle.calm_laws.proofs.Turns.{from_log}
use Rattle.calm_laws.proofs.UpTo.{none_left, up_to_weaker}
use Rattle.calm_laws.proofs.Walks.{IsBack, back_of, newest, same_prev, there_met}
use Rattle.calm_laws.proofs.Walks.IsBack.{more}
use Rattle.calm_laws.proofs.BackedWorlds.{IsBackedWorld}

-- ---- linked records, from the last one back

-- the last of them
record LastLinked (owner : PubKey) (n : ℕ) (prev : Key) (before : List Record) (last : Record) : Type 0 where
  linked : LinkedFrom owner n prev before
  names : last.prev ≡ newest prev before
  owned : last.owner ≡ owner
  spelled : HasSpelling last

last_linked : (owner : PubKey) (n : ℕ) (prev : Key) (before : List Record) (last : Record) → LinkedFrom owner n prev (before ++ last ∷ []) → LastLinked owner n prev before last
last_linked owner n prev [] last h = record { linked = tt; names = h.3; owned = h.0; spelled = h.1 }
last_linked owner n prev (b ∷ before) last h =
    let rest = last_linked owner (n + 1) b.name before last h.4 in
    record { linked = (h.0, h.1, h.2, h.3, rest.linked); names = rest.names; owned = rest.owned; spelled = rest.spelled }

newest_of : (prev : Key) (before : List Record) (last : Record) → newest prev (before ++ last ∷ []) ≡ last.name
newest_of prev [] last = refl
newest_of prev (b ∷ before) last = newest_of b.name before last

module _ (acked : List Post) (met : List (List ℕ)) (apart : IsCollisionFree met) (put_met : (p : Post) → Contains acked p → Contains met p.bytes) (log : Key) where
  abbrev Back : ℕ → Key → Type 0
  Back n key = IsBack acked [] log n key

  one_down : (owner : PubKey) → log ≡ head_key_of owner → (n : ℕ) (key : Key) (one : Record) → key ≡ one.name → log ≡ head_key_of one.owner → HasSpelling one → IsPutOr acked [] one
      → ((before : List Record) → LinkedFrom owner 1 no_name before → Stand met before → length before ≡ n → newest no_name before ≡ one.prev → AllByRecursion (WasPut acked) before)
      → (before : List Record) (last : Record) → LinkedFrom owner 1 no_name (before ++ last ∷ []) → Stand met (before ++ last ∷ []) → length (before ++ last ∷ []) ≡ suc n → newest no_name (before ++ last ∷ []) ≡ key → AllByRecursion (WasPut acked) (before ++ last ∷ [])
  one_down owner of_log n key one is same spelled there rest before last linked stand size at =
      let l = last_linked owner 1 no_name before last linked in
      let stands = block_is_met met last (each_right (StandsAmong met) before (last ∷ []) stand).0 in
      let named : last.name ≡ one.name = sym (newest_of no_name before last) ∙ at ∙ is in
      let block : record_block last ≡ record_block one = apart (record_block last) (record_block one) stands (there_met acked [] met put_met tt one there) (sym l.spelled.named ∙ named ∙ spelled.named) in
      let prev : last.prev ≡ one.prev = same_prev last one l.spelled spelled (ap head_key_of l.owned ∙ sym of_log ∙ same) block in
      let put = none_left acked one there in
      let long_before = length-append before (last ∷ []) in
      each_append (WasPut acked) before (last ∷ [])
      (rest before l.linked (each_left (StandsAmong met) before (last ∷ []) stand) (omega (arith, size, long_before)) (sym l.names ∙ prev))
      ((put.0, put.1, put.2 ∙ sym named, put.3 ∙ sym block), tt)

  -- linked records that end where one leads back were put
  all_down : (owner : PubKey) → log ≡ head_key_of owner → (n : ℕ) (key : Key) → Back n key → (rs : List Record) → LinkedFrom owner 1 no_name rs → Stand met rs → length rs ≡ n → newest no_name rs ≡ key → AllByRecursion (WasPut acked) rs
  all_down owner of_log zero key h [] linked stand size at = tt
  all_down owner of_log zero key h (x ∷ rs) linked stand size at = absurd (omega (arith, size))
  all_down owner of_log (suc n) key (more one is same spelled there h) rs linked stand size at = ⊎_elim
      (λ none. absurd (let zero_long = ap length none in omega (arith, size, zero_long)))
      (λ w. subst (AllByRecursion (WasPut acked)) (sym w.2)
      (one_down owner of_log n key one is same spelled there (λ before. all_down owner of_log n one.prev h before) w.0 w.1 (subst (LinkedFrom owner 1 no_name) w.2 linked) (subst (Stand met) w.2 stand) (sym (ap length w.2) ∙ size) (sym (ap (newest no_name) w.2) ∙ at)))
      (ends_some rs)

-- ---- what stands under a head that was received

module _ (w : Played) (keeps : Invariant w) (apart : IsCollisionFree (named_bytes w.0)) (no_key : (p : Participant) → Contains w.0.participants p → Contains w.0.met (own_hss_key p.agent).0 → ⊥) (h : IsBackedWorld w.0 w.1) where
  met_apart : IsCollisionFree w.0.met
  met_apart a b in_a in_b same = apart a b (Contains-append_left w.0.met _ a in_a) (Contains-append_left w.0.met _ b in_b) same

  -- no block that was met has the name of a member's key
  not_named : (view : View) → AreParticipants w.0 view → (owner : PubKey) → Contains view.members owner → (b : List ℕ) → Contains w.0.met b → name b ≡ head_key_of owner → ⊥
  not_named view owned owner member b in_met named =
      let found = from_map (λ (p : Participant). own_hss_key p.agent) w.0.participants owner (each (Contains (map (λ (p : Participant). own_hss_key p.agent) w.0.participants)) view.members owner owned member) in
      no_key found.0 found.1 (subst (Contains w.0.met) (block_is_key w keeps apart b found.0 in_met found.1 (named ∙ ap head_key_of found.2)) in_met)

  under_put : (view : View) → AreParticipants w.0 view → (received : List Entry) → AllByRecursion (IsEntryPut w.0.met w.1.acked) received → (one : Record) → Contains view.members one.owner → IsUnderHead w.0.met received one → WasPut w.1.acked one
  under_put view owned received so one member u = by (each (IsEntryPut w.0.met w.1.acked) received u.head so u.received)
    where
      by : IsEntryPut w.0.met w.1.acked u.head → WasPut w.1.acked one
      by (inr clash) = absurd (not_named view owned one.owner member clash.0 clash.1.1 (clash.1.0 ∙ u.of_log))
      by (inl over) =
          let back = back_of w.1.acked [] u.head.0 over.0 u.head.1 over.1 (up_to_none over.0 u.head.1 over.2) in
          let size = long one.owner 1 no_name u.log u.head.1 u.linked u.ends in
          let at : newest no_name u.log ≡ u.head.1.name = ap (newest no_name) u.ends.2 ∙ newest_of no_name u.ends.0 u.ends.1 ∙ ap (λ (s : Stamp). s.name) u.ends.3 in
          each (WasPut w.1.acked) u.log one (all_down w.1.acked w.0.met met_apart h.put_met u.head.0 one.owner u.of_log u.head.1.seq u.head.1.name back u.log u.linked u.stand (omega (arith, size)) at) u.below
        where
          up_to_none : (owner : PubKey) (head : Stamp) → AllUpTo (WasPut w.1.acked) owner head → AllUpTo (IsPutOr w.1.acked []) owner head
          up_to_none owner head x = up_to_weaker (WasPut w.1.acked) (IsPutOr w.1.acked []) owner head (λ r put. inl put) x

  -- ---- of an agent in a view

  module _ (p : Participant) (name_of : List ℕ) (is_p : participant w.0 name_of ≡ Some p) (view : View) (in_view : p.agent.view ≡ Some view) where
    among : Contains w.0.participants p
    among = (found_named w.0.participants name_of p is_p).0

    its : IsBackedIn w.0.met w.1.acked p (known_of w.1 p.name)
    its = its_backed w.0 w.1 name_of p is_p h

    sound : IsSound w.0.met p (knowing_of w.1 p.name) view
    sound = subst (IsSoundIn w.0.met p (knowing_of w.1 p.name)) in_view (each (λ (x : Participant). IsSoundIn w.0.met x (knowing_of w.1 x.name) x.agent.view) w.0.participants p (keeps.sound apart).agents among)

    pub owned : AreParticipants w.0 view
    owned = subst (λ o. IfSome o (AreParticipants w.0)) in_view (each (EntersOwned w.0) w.0.participants p keeps.entered among).agent

    pub known_put : (one : Record) → Contains (known_of w.1 p.name) one → WasPut w.1.acked one ⊎ ((one.owner ≡ own_hss_key p.agent) × Contains p.agent.pending (record_post one))
    known_put one c = by (each (IsBacked w.0.met (own_hss_key p.agent) p.agent.floor (knowing_of w.1 p.name).received) (known_of w.1 p.name) one sound.verified.backed c)
      where
        mine_put : one.owner ≡ own_hss_key p.agent → IsPutOr w.1.acked p.agent.pending one → WasPut w.1.acked one ⊎ ((one.owner ≡ own_hss_key p.agent) × Contains p.agent.pending (record_post one))
        mine_put mine (inl put) = inl put
        mine_put mine (inr later) = inr (mine, later)

        by : IsBacked w.0.met (own_hss_key p.agent) p.agent.floor (knowing_of w.1 p.name).received one → WasPut w.1.acked one ⊎ ((one.owner ≡ own_hss_key p.agent) × Contains p.agent.pending (record_post one))
        by (inl mine) = mine_put mine.0 (its.agent.records one c mine.0)
        by (inr other) = inl (under_put view owned (knowing_of w.1 p.name).received (h.received p.name) one (each (λ (x : Record). Contains view.members x.owner) (known_of w.1 p.name) one sound.knows.by_floor.members c) other.1)

    -- each record up to the floor's is there
    pub floor_there : (owner : PubKey) → Contains view.members owner → (t : Stamp) → stamp_at p.agent.floor (head_key_of owner) ≡ Some t → AllUpTo (IsPutOr w.1.acked p.agent.pending) owner t
    floor_there owner member t at = record {
      log = log_of owner (known_of w.1 p.name);
      linked = chain_linked view owner (log_of owner (known_of w.1 p.name)) (sound.knows.by_floor.chains owner);
      ends = subst (λ o. EndsAt o (log_of owner (known_of w.1 p.name))) at (sound.knows.by_floor.ends owner member);
      each = each_from (IsPutOr w.1.acked p.agent.pending) (log_of owner (known_of w.1 p.name)) (λ one c. either one (known_put one (from_log owner (known_of w.1 p.name) one c)));
    }
      where
        either : (one : Record) → WasPut w.1.acked one ⊎ ((one.owner ≡ own_hss_key p.agent) × Contains p.agent.pending (record_post one)) → IsPutOr w.1.acked p.agent.pending one
        either one (inl put) = inl put
        either one (inr later) = inr later.1

-- before it enters a view an agent knows its own opening alone
pub outside_put : (w : Played) → Invariant w → IsCollisionFree (named_bytes w.0) → IsBackedWorld w.0 w.1 → (p : Participant) → participant w.0 p.name ≡ Some p → p.agent.view ≡ None → (one : Record) → Contains (known_of w.1 p.name) one
    → WasPut w.1.acked one ⊎ ((one.owner ≡ own_hss_key p.agent) × Contains p.agent.pending (record_post one))
outside_put w keeps apart h p is_p outside one c = with_mine (its.agent.records one c mine)
  where
    its : IsBackedIn w.0.met w.1.acked p (known_of w.1 p.name)
    its = its_backed w.0 w.1 p.name p is_p h

    sound : IsSoundIn w.0.met p (knowing_of w.1 p.name) None
    sound = subst (IsSoundIn w.0.met p (knowing_of w.1 p.name)) outside (each (λ (x : Participant). IsSoundIn w.0.met x (knowing_of w.1 x.name) x.agent.view) w.0.participants p (keeps.sound apart).agents (found_named w.0.participants p.name p is_p).0)

    mine : one.owner ≡ own_hss_key p.agent
    mine = ⊎_elim (λ (e : sound.0 ≡ one). subst (λ (x : Record). x.owner ≡ own_hss_key p.agent) e sound.4.0.owned) (λ none. absurd (in_nothing one none)) (in_cons sound.0 [] one (subst (λ l. Contains l one) sound.1 c))

    with_mine : IsPutOr w.1.acked p.agent.pending one → WasPut w.1.acked one ⊎ ((one.owner ≡ own_hss_key p.agent) × Contains p.agent.pending (record_post one))
    with_mine (inl put) = inl put
    with_mine (inr later) = inr (mine, later)
