-- The run of a whole call's line: what its session was brought of each log goes as far as the log, and its turn takes all that was written, where heads are honest.
use Rattle.std.proofs.Common.{◌≡◌, ◌≢◌, ◌⊎◌, inl, inr, ⊎_elim, ℕ, ◌≤◌, Bool, true, cond, List, [], ◌∷◌, ◌++◌, map, filter, Option, Some, None, Result, Ok, Err, refl, sym, ap, ◌∙◌, subst, arith, Contains}
use Rattle.std.specs.Prelude.{◌↔◌}
use Rattle.std.specs.List.{AllByRecursion}
use Rattle.std.specs.Option.{option_map_or}
use Rattle.std.proofs.lemmas.List.Elements.{Contains-append_cases, Contains-append_left, Contains-append_right}
use Rattle.ivy_base.specs.declared.key.Key.{Key}
use Rattle.ivy_base.specs.declared.key.PubKey.{PubKey}
use Rattle.ivy_base.specs.declared.operation.Moment.{Moment}
use Rattle.ivy_base.specs.Naming.{IsCollisionFree, head_key_of}
use Rattle.tree_model.specs.Tree.{same_key}
use Rattle.tree_model.proofs.Keys.{same_key_is, same_key_itself}
use Rattle.dhash_model.specs.Signed.{hss_judged}
use Rattle.log_model.specs.Record.{Record}
use Rattle.log_model.specs.Vector.{Entry, Stamp}
use Rattle.log_model.specs.View.{View}
use Rattle.log_model.proofs.Lists.{each, each_append, from_filter, here, in_cons, in_filter, in_nothing}
use Rattle.ring_model.specs.Circle.{number}
use Rattle.ring_model.specs.Members.{IsAmong, owners}
use Rattle.ring_model.proofs.Lists.{all-both}
use Rattle.dht_ids.specs.Peers.{place}
use Rattle.round_laws.proofs.Nodes.{order_by}
use Rattle.log_model.specs.Closed.{IsClosedPart}
use Rattle.turn_model.specs.Known.{IsKnown}
use Rattle.turn_model.specs.Turn.{IsAvailable, Turned}
use Rattle.agent_model.specs.Candidates.{AreCandidatesOf}
use Rattle.dht_ids.specs.Asked.{told}
use Rattle.dht_ids.specs.declared.ask.Answer.{Answer}
use Rattle.dht_ids.specs.declared.ask.Ask.{Ask}
use Rattle.dht_ids.specs.declared.ask.Heard.{Heard}
use Rattle.dht_ids.specs.declared.judge.Judged.{Judged}
use Rattle.dht_ids.specs.declared.peer.Peer.{Peer}
use Rattle.dht_ids.specs.declared.post.Post.{Post}
use Rattle.dhash_model.specs.GetHead.{IsGetOfHead}
use Rattle.dhash_model.specs.declared.miss.Miss.{Miss}
use Rattle.dhash_model.specs.declared.kind.BlockKind.{BlockKind}
use Rattle.dhash_model.specs.declared.kind.BlockKind.TheVariants.{Content, Head}
use Rattle.agent_model.specs.Agent.{is_head}
use Rattle.agent_model.specs.Standing.{Chain, Refresh, Standing}
use Rattle.agent_model.specs.Turning.{TurnEnd}
use Rattle.session_model.specs.Brought.{BlockOf, Brought, HeadsOf, WantedOfRing, all_heads, brought_in, heads_at, heads_of, stamp_of}
use Rattle.session_model.specs.Brought.WantedOfRing.{Content as wants_content}
use Rattle.session_model.specs.Executions.{grounds_of, Fails, IsRefusal}
use Rattle.session_model.specs.Executions.Fails.{fails, goes_on}
use Rattle.session_model.specs.Executions.TakesTurn.{answers, begins_again, gives_up}
use Rattle.session_model.specs.Refreshing.{Done, FailsBy, Fetches, FetchesAll, Needs, Note, RefreshEnd, Refreshes, end_of_log}
use Rattle.session_model.specs.Refreshing.Fetches.{no_heads, of_heads, of_own, wants_heads as fetch_heads}
use Rattle.session_model.specs.Refreshing.FetchesAll.{all as fetches_all, goes_on as fetches_on, stays as fetches_stay}
use Rattle.session_model.specs.Refreshing.Refreshes.{fetching, loading}
use Rattle.session_model.specs.Sessions.{Cache, Gets, Hears, Session, Takes, TakesAll, Wants, pending_block, wanted_key, with_part}
use Rattle.session_model.specs.Sessions.Gets.{content as got_content, heads as got_heads}
use Rattle.session_model.specs.Sessions.Hears.{gets_on, got, puts, puts_on}
use Rattle.session_model.specs.Sessions.Takes.{cached, posted}
use Rattle.session_model.specs.Sessions.TakesAll.{more as takes_more, none as takes_none}
use Rattle.session_model.specs.Walks.{Gives, GivesNone, Lacks, LogEnd, Stops}
use Rattle.world_model.specs.Agents.{HssAgent, HssKept, TakesHssTurn, own_hss_key, own_reach}
use Rattle.world_model.specs.Fates.{FateOf}
use Rattle.world_model.specs.Logs.{Played}
use Rattle.world_model.specs.Steps.{Acts, RunsOut, Configuration, Steps, ask_told, with_cache}
use Rattle.world_model.specs.Steps.Acts.{asks, asks_in_vain, is_refused, settles, turns}
use Rattle.world_model.specs.Steps.RunsOut.{is_over as runs_over, more as runs_more}
use Rattle.world_model.specs.Steps.Steps.{acts, lacks_memory}
use Rattle.world_model.specs.GhostState.{HadTurn, Knowing, GhostState, knowing_of, known_of}
use Rattle.world_model.specs.World.{Participant, World, named_bytes, participant}
use Rattle.world_model.specs.Holding.{block_rank}
use Rattle.world_laws.specs.Headline.{IsOnReplay}
use Rattle.world_laws.specs.Invariant.{IsSoundSession, Invariant}
use Rattle.world_laws.proofs.Bringing.{found_named, its_key, its_view}
use Rattle.calm_laws.proofs.BlockKinds.{OfContent, OfHeads}
use Rattle.calm_laws.proofs.Gets.{AreGot, IsOwnedAs, head_given}
use Rattle.calm_laws.proofs.Stretches.{IsAckHeld}
use Rattle.calm_laws.proofs.Worlds.{acked_on}
use Rattle.calm_laws.proofs.CalmHeld.{post_rank_is}
use Rattle.calm_laws.proofs.CalmNodes.{HeldStays, IsHeld, IsOfKind}
use Rattle.calm_laws.proofs.CalmPuts.{block_of, entries_by, kind_of}
use Rattle.calm_laws.proofs.CalmStates.{found_placed}
use Rattle.world_laws.proofs.OneSteps.{GoesWell}
use Rattle.world_laws.proofs.Receiving.{holds_then}
use Rattle.world_laws.proofs.SessionLinesSteps.{Leads, step_leads}
use Rattle.world_laws.proofs.SignedAmong.{met_stays}
use Rattle.world_laws.proofs.SignedHeads.{from_map}
use Rattle.world_laws.proofs.Frames.{into_map}
use Rattle.world_laws.proofs.HeadKeys.{block_is_key}
use Rattle.world_laws.proofs.TakingOn.{brought_then}
use Rattle.world_laws.proofs.HeadlineOfPublishing.{settles_past}
use Rattle.calm_laws.specs.Completeness.{HaveHeads, IsWritten}
use Rattle.calm_laws.specs.Takes.{HaveNewest, IsLeftBy}
use Rattle.calm_laws.proofs.Calls.{AllKinds, IsFetched, IsRinged, ask_got, not_available}
use Rattle.calm_laws.proofs.CallSteps.{IsInCall, IsPast, acts_on, answered_past, in_call, lacks_past, met_apart, names_of, past_told}
use Rattle.calm_laws.proofs.GotHeads.{AllHoldOf, AreHeardOf, EntryOf, IsHeardOf, fate_told, heads_so, takes_all_heard, then_heard}
use Rattle.calm_laws.proofs.KeysStay.{KeysStay, acts_stay, placed_stay, stay_then}
use Rattle.calm_laws.proofs.LeftHeads.{left_under}
use Rattle.calm_laws.proofs.OwnLogs.{IsHonestIn}
use Rattle.calm_laws.proofs.Standing.{IsCalmWorld, ring_of}
use Rattle.calm_laws.proofs.BackedSteps.{ConfigurationSo, fate_same, step_so, takes_all_same}
use Rattle.calm_laws.proofs.TakesLogs.{takes_written}
use Rattle.calm_laws.proofs.BackedWorlds.{IsBackedWorld}

-- ---- a refresh that is done has the heads of each other member

none_lacks : (log : LogEnd) (end : RefreshEnd) → end_of_log log ≡ Some end → end ≡ Done → ⊥
none_lacks (Lacks want) end e f = let same : Needs want ≡ end = cc e in cc (same ∙ f)
none_lacks (Stops miss) end e f = let same : FailsBy miss ≡ end = cc e in cc (same ∙ f)
none_lacks (Gives records) end e f = cc e
none_lacks GivesNone end e f = cc e

abbrev HasHeads : PubKey → List Brought → Type 0
HasHeads owner brought = (heads : List Judged) × Contains brought (HeadsOf owner (Ok heads))

log_has : (s : Standing) (start : _) (owner : PubKey) {brought : List Brought} {notes : List Note} {log : LogEnd} → Fetches (record { standing = s; start = start }) owner brought notes log → end_of_log log ≡ None → owner ≢ s.own → HasHeads owner brought
log_has s start owner (fetch_heads not_own) e other = absurd (cc e)
log_has s start owner (no_heads miss not_own) e other = absurd (cc e)
log_has s start owner (of_heads heads tried brought faults end not_own are tries) e other = (heads, here (HeadsOf owner (Ok heads)) brought)
log_has s start owner (of_own brought faults end mine tries) e other = absurd (other mine)

all_have : (s : Standing) (start : _) (owner : PubKey) → owner ≢ s.own → {owners : List PubKey} {brought : List Brought} {notes : List Note} {chains : List Chain} {end : RefreshEnd} → FetchesAll (record { standing = s; start = start }) owners brought notes chains end → end ≡ Done → Contains owners owner → HasHeads owner brought
all_have s start owner other fetches_all e c = absurd (in_nothing owner c)
all_have s start owner other (fetches_stay {log = log} {end = end} part is) e c = absurd (none_lacks log end is e)
all_have s start owner other (fetches_on {owner = first} {owners = owners} {brought = brought} {more = more} part is rest) e c = ⊎_elim
    (λ same. let h = log_has s start first part is (λ mine. other (sym same ∙ mine)) in (h.0, Contains-append_left brought more (HeadsOf owner (Ok h.0)) (subst (λ o. Contains brought (HeadsOf o (Ok h.0))) same h.1)))
    (λ later. let h = all_have s start owner other rest e later in (h.0, Contains-append_right brought more (HeadsOf owner (Ok h.0)) h.1))
    (in_cons first owners owner c)

done_has : (s : Standing) (owner : PubKey) → owner ≢ s.own → {brought : List Brought} {notes : List Note} {given : Refresh} {end : RefreshEnd} → Refreshes s brought notes given end → end ≡ Done → Contains s.view.members owner → HasHeads owner brought
done_has s owner other (loading loads) e c = absurd (cc e)
done_has s owner other (fetching {loaded = loaded} {brought = brought} basis loads fetch) e c = let h = all_have s _ owner other fetch e c in (h.0, Contains-append_right loaded brought (HeadsOf owner (Ok h.0)) h.1)

-- and so their stamps
in_heads : (brought : List Brought) (owner : PubKey) (heads : List Judged) (j : Judged) → Contains brought (HeadsOf owner (Ok heads)) → Contains heads j → Contains (all_heads brought) (head_key_of owner, stamp_of j)
in_heads [] owner heads j c d = absurd (in_nothing _ c)
in_heads (b ∷ brought) owner heads j c d = ⊎_elim
    (λ same. Contains-append_left (heads_of b) (all_heads brought) (head_key_of owner, stamp_of j) (subst (λ x. Contains (heads_of x) (head_key_of owner, stamp_of j)) (sym same) (into_map (λ (x : Judged). (head_key_of owner, stamp_of x)) heads j d)))
    (λ later. Contains-append_right (heads_of b) (all_heads brought) (head_key_of owner, stamp_of j) (in_heads brought owner heads j later d))
    (in_cons b brought (HeadsOf owner (Ok heads)) c)

at_heads : (brought : List Brought) (log : Key) (t : Stamp) → Contains (all_heads brought) (log, t) → Contains (heads_at brought log) t
at_heads brought log t c = into_map (λ (e : Entry). e.1) (filter (λ (e : Entry). same_key e.0 log) (all_heads brought)) (log, t) (in_filter (λ (e : Entry). same_key e.0 log) (all_heads brought) (log, t) c (same_key_itself log))

from_heads : (brought : List Brought) (log : Key) (t : Stamp) → Contains (heads_at brought log) t → Contains (all_heads brought) (log, t)
from_heads brought log t c =
    let found = from_map (λ (e : Entry). e.1) (filter (λ (e : Entry). same_key e.0 log) (all_heads brought)) t c in
    let entry = from_filter (λ (e : Entry). same_key e.0 log) (all_heads brought) found.0 found.1 in
    let one : found.0 ≡ (log, t) = (λ i. (same_key_is found.0.0 log entry.1 i, sym found.2 i)) in
    subst (Contains (all_heads brought)) one entry.0

-- ---- the run

module _ (r : ℕ) (w : Played) (world : IsCalmWorld r w) (backed : IsBackedWorld w.0 w.1) (apart : IsCollisionFree (named_bytes w.0)) (no_key : (p : Participant) → Contains w.0.participants p → Contains w.0.met (own_hss_key p.agent).0 → ⊥) (have : HaveHeads w)
    (newest : HaveNewest w) where
  -- an owner of its key holds a head of a log that goes as far as the log
  newest_owned : (q : Participant) → Contains w.0.participants q
      → IsOwnedAs (ring_of r w world) w.0 (head_key_of (own_hss_key q.agent)) Head (own_reach q.agent)
  newest_owned q among = record {
    owner = ack.owner;
    owns = subst (λ k. IsAmong ack.owner (owners place r (order_by (ring_of r w world).base) (number k))) put.4 ack.owns;
    holds = subst (λ k. IsHeld w.0 k Head (own_reach q.agent) ack.owner) put.4 (subst (λ x. IsHeld w.0 put.0.key (cond x Head Content) (own_reach q.agent) ack.owner) put.3 lower);
  }
    where
      put : (p : Post) × (j : Judged) × Contains w.1.acked p × (is_head p.kind ≡ true) × (p.key ≡ head_key_of (own_hss_key q.agent)) × (hss_judged p.key p.bytes ≡ Some j) × (own_reach q.agent ≤ j.seq)
      put = newest q among

      ack : IsAckHeld (ring_of r w world) w.0 put.0
      ack = acked_on r world.stopped w world.state put.0 put.2

      ranked : block_rank hss_judged put.0.key (block_of put.0) ≡ put.1.seq
      ranked = sym (post_rank_is put.0) ∙ (ap (λ b. cond b (option_map_or (λ (j : Judged). j.seq) (hss_judged put.0.key put.0.bytes) 0) 0) put.3 ∙ ap (λ o. option_map_or (λ (j : Judged). j.seq) o 0) put.5)

      lower : IsHeld w.0 put.0.key (kind_of put.0) (own_reach q.agent) ack.owner
      lower = let h = ack.holds.held in let far = put.6 in (h.0, h.1, h.2, omega (arith, h.3, ranked, far))

  -- content that was met, or a head that left
  abbrev pub Either : Key → List ℕ → Type 0
  Either key b = OfContent w.0 key b
      ⊎ OfHeads w.0 key b

  either_of : (kind : BlockKind) (key : Key) (b : List ℕ)
      → IsOfKind (OfContent w.0)
      (OfHeads w.0) key kind b → Either key b
  either_of Content key b h = inl h
  either_of Head key b h = inr h

  -- what was brought of a log's heads goes as far as the log
  abbrev pub PartNewest : Brought → Type 0
  PartNewest (HeadsOf owner (Ok heads)) = ((q : Participant) → Contains w.0.participants q → own_hss_key q.agent ≡ owner → (j : Judged) × Contains heads j × (own_reach q.agent ≤ j.seq)) × AllByRecursion (λ j. EntryOf Either (head_key_of owner, stamp_of j)) heads
  PartNewest (HeadsOf owner (Err miss)) = Unit {0}
  PartNewest (BlockOf key came) = Unit {0}

  abbrev AllNewest : Session → Type 0
  AllNewest s = AllByRecursion PartNewest (brought_in s.parts)

  with_newest : (s : Session) (b : Brought) (asks_it : List Heard) → AllNewest s → PartNewest b → AllNewest (with_part s b asks_it)
  with_newest s b asks_it h new = subst (AllByRecursion PartNewest) (sym (brought_then s.parts b asks_it)) (each_append PartNewest (brought_in s.parts) (b ∷ []) h (new, tt))

  takes_newest : {s t : Session} {cache after : Cache} → Takes hss_judged r s cache t after → AllNewest s → AllNewest t
  takes_newest {s} (posted key bytes wants none is) h = with_newest s (BlockOf key (Ok bytes)) [] h tt
  takes_newest {s} (cached key bytes wants none missing is) h = with_newest s (BlockOf key (Ok bytes)) [] h tt

  takes_all_newest : {s t : Session} {cache after : Cache} → TakesAll hss_judged r s cache t after → AllNewest s → AllNewest t
  takes_all_newest (takes_none none) h = h
  takes_all_newest (takes_more one rest) h = takes_all_newest rest (takes_newest one h)

  fails_newest : {s t : Session} → Fails s t → AllNewest s → AllNewest t
  fails_newest (fails notes given miss xid asked at refreshed asks_it) h = h
  fails_newest (goes_on none) h = h

  brought_newest : (v : World) → IsRinged r w world backed (met_apart r w world backed apart no_key have) have v → (want : WantedOfRing) (trail : List Heard) (b : Brought) → Gets hss_judged r (entries_by (ring_of r w world).base) want trail b
      → AreGot (ring_of r w world) w.0 trail → AllByRecursion (IsHeardOf Either) trail → PartNewest b
  brought_newest v ring _ trail _ (got_heads {owner = owner} came get) so given_so = by came refl
    where
      by : (x : Result (List Judged) Miss) → came ≡ x → PartNewest (HeadsOf owner came)
      by (Err miss) e = subst (λ x. PartNewest (HeadsOf owner x)) (sym e) tt
      by (Ok heads) e = subst (λ x. PartNewest (HeadsOf owner x)) (sym e) (
        λ q q_in same.
            let given = head_given (ring_of r w world) w.0 v (head_key_of (own_hss_key q.agent)) (own_reach q.agent) trail came (newest_owned q q_in) ring so
            (subst (λ o. IsGetOfHead (hss_judged (head_key_of o)) (head_key_of o) r (entries_by (ring_of r w world).base) trail came) (sym same) get) in
            (given.one, subst (λ l. Contains l given.one) (some_heads given.heads heads (sym given.came_is ∙ e)) given.among, given.newer),
        heads_so Either (head_key_of owner) r (entries_by (ring_of r w world).base) trail heads came get e given_so,
      )
        where
          some_heads : (a b : List Judged) → ◌≡◌ {A = Result (List Judged) Miss} (Ok a) (Ok b) → a ≡ b
          some_heads a b f = cc f
  brought_newest v ring _ trail _ (got_content came get) so given_so = tt

  -- ---- one ask

  holds_of : (v : World) → AllKinds r w world backed (met_apart r w world backed apart no_key have) have v → AllHoldOf Either v
  holds_of v kinds id n at key block found = either_of block.kind key block.bytes ((kinds id n at).kinds key block found)

  refused_heard : {now : Moment} {a : HssAgent} {view : View} {failing : Bool} {s : Session} {end : TurnEnd} {after : HssAgent} {saving : Option HssKept} {t : Session} → TakesHssTurn (record { agent = a; view = view; now = now; fails = failing }) s end after saving t → IsRefusal end → AreHeardOf Either t
  refused_heard (answers notes given xid asked reply applied after saving done asks_it turned) refusal = absurd refusal
  refused_heard (begins_again notes given xid asked end after saving done asks_it turned refused few) refusal = tt
  refused_heard (gives_up notes given xid asked end after saving done asks_it turned refused many) refusal = tt

  heard_newest : {s heard : Session} {cache after : Cache} {node : Peer} {question : Ask} {given : Answer} → IsFetched r w world backed (met_apart r w world backed apart no_key have) have s → AllNewest s → (v next : World) → FateOf hss_judged v node question given next
      → IsRinged r w world backed (met_apart r w world backed apart no_key have) have v → AllKinds r w world backed (met_apart r w world backed apart no_key have) have v → HeldStays w.0 v → AreHeardOf Either s
      → Hears hss_judged r s cache node question given heard after → AllNewest heard
  heard_newest h old v next fate ring kinds held were (gets_on want wants asks_next part) = old
  heard_newest {s} {node = node} {question = question} {given = given} h old v next fate ring kinds held were (got want brought wants asks_next whole) =
      let a = ask_got r w world backed (met_apart r w world backed apart no_key have) have (wanted_key want) question asks_next.is_of node given v next fate ring kinds held in
      with_newest s brought (s.current ++ told node question given) old
      (brought_newest next a.0 want (s.current ++ told node question given) brought (subst (λ es. Gets hss_judged r es want (s.current ++ told node question given) brought) h.entries whole) (all-both _ s.current (told node question given) h.asked a.3) (each_append (IsHeardOf Either) s.current (told node question given) were (fate_told Either fate (holds_of v kinds))))
  heard_newest h old v next fate ring kinds held were (puts_on said p posts acks is asks_next part) = old
  heard_newest h old v next fate ring kinds held were (puts said p posts acks came is asks_next whole) = old

  refused_newest : {now : Moment} {a : HssAgent} {view : View} {failing : Bool} {s : Session} {end : TurnEnd} {after : HssAgent} {saving : Option HssKept} {t : Session} → TakesHssTurn (record { agent = a; view = view; now = now; fails = failing }) s end after saving t → IsRefusal end → AllNewest s → AllNewest t
  refused_newest (answers notes given xid asked reply applied after saving done asks_it turned) refusal h = absurd refusal
  refused_newest (begins_again notes given xid asked end after saving done asks_it turned refused few) refusal h = tt
  refused_newest (gives_up notes given xid asked end after saving done asks_it turned refused many) refusal h = h

  takes_view : {s t : Session} {cache after : Cache} → TakesAll hss_judged r s cache t after → t.standing.view ≡ s.standing.view
  takes_view (takes_none none) = refl
  takes_view (takes_more one rest) = takes_view rest ∙ one_view one
    where
      one_view : {s t : Session} {cache after : Cache} → Takes hss_judged r s cache t after → t.standing.view ≡ s.standing.view
      one_view (posted key bytes wants none is) = refl
      one_view (cached key bytes wants none missing is) = refl

  -- ---- the heads that were brought

  -- such a head of a participant's log left its agent
  left_of : Invariant w → IsHonestIn w → (q : Participant) → Contains w.0.participants q → (e : Entry) → e.0 ≡ head_key_of (own_hss_key q.agent) → EntryOf Either e → IsLeftBy q e
  left_of keeps honest q q_in e of_log (b, j, inl content, judged, is) = absurd (no_key q q_in (subst (Contains w.0.met) same content.0))
    where
      same : b ≡ (own_hss_key q.agent).0
      same = block_is_key w keeps apart b q content.0 q_in (content.1 ∙ of_log)
  left_of keeps honest q q_in e of_log (b, j, inr (in_met, left, some), judged, is) = (b, j, subst (λ (p : Participant). Contains p.left b) one left.3, judged, is)
    where
      p_in : Contains w.0.participants left.1
      p_in = (found_named w.0.participants left.0 left.1 left.2).0

      one : left.1 ≡ q
      one = honest.own_keys left.1 q p_in q_in (sym (left_under w left.1 b e.0 keeps p_in left.3 some) ∙ of_log)

  all_entries : (bs : List Brought) → AllByRecursion PartNewest bs → (e : Entry) → Contains (all_heads bs) e → EntryOf Either e
  all_entries [] h e c = absurd (in_nothing e c)
  all_entries (b ∷ bs) h e c = ⊎_elim (λ first. of_part b h.0 first) (λ later. all_entries bs h.1 e later) (Contains-append_cases (heads_of b) (all_heads bs) e c)
    where
      of_part : (b : Brought) → PartNewest b → Contains (heads_of b) e → EntryOf Either e
      of_part (HeadsOf owner (Ok heads)) n d = let found = from_map (λ (j : Judged). (head_key_of owner, stamp_of j)) heads e d in subst (EntryOf Either) (sym found.2) (each (λ (j : Judged). EntryOf Either (head_key_of owner, stamp_of j)) heads found.0 n.1 found.1)
      of_part (HeadsOf owner (Err miss)) n d = absurd (in_nothing e d)
      of_part (BlockOf key came) n d = absurd (in_nothing e d)

  -- ---- the configurations of the line

  module _ (by_name : List ℕ) (view : View) where
    -- nothing is known yet that wasn't known before the line
    pub record InRun (c : Configuration) : Type 0 where
      pub call : IsInCall r w world backed apart no_key have c
      pub known : (n : List ℕ) → known_of c.ghost_state n ≡ known_of w.1 n
      pub turns : c.ghost_state.turns ≡ w.1.turns
      pub meets : (b : List ℕ) → Contains w.0.met b → Contains c.world.met b
      pub keys : KeysStay w.0.participants c.world.participants
      pub heard : AreHeardOf Either c.session
      pub parts : AllByRecursion PartNewest (brought_in c.session.parts)
      pub of : (c.session.by ≡ by_name) × (c.session.standing.view ≡ view)

    -- a turn that was had in such a configuration
    pub record HadAt (h : HadTurn) : Type 0 where
      pub at : Configuration
      pub run : InRun at
      pub by : Participant
      pub is_by : participant at.world at.session.by ≡ Some by
      pub in_view : View
      pub after : HssAgent
      pub turned : Turned
      pub is : h ≡ record { session = at.session; began = at.began; by = by; knowing = knowing_of at.ghost_state by.name; view = in_view; met = named_bytes at.world; now = at.world.now; after = after; turned = turned }

    -- no turn was had, or one
    abbrev pub HadOne : Configuration → Type 0
    HadOne c = (c.ghost_state.turns ≡ w.1.turns) ⊎ ((h : HadTurn) × HadAt h × (c.ghost_state.turns ≡ w.1.turns ++ h ∷ []))

    abbrev GoesOn : Configuration → Type 0
    GoesOn c = InRun c ⊎ (IsPast c.session × HadOne c)

    told_known : (st : GhostState) (name : List ℕ) (s t : Session) (n : List ℕ) → known_of (ask_told st name s t) n ≡ known_of st n
    told_known st name s t n = holds_then st name _ (λ (k : Knowing). k.known ≡ known_of st n) (λ k e. e) n refl

    acts_run : (c next : Configuration) → InRun c → (p : Participant) → participant c.world c.session.by ≡ Some p → ((key : Key) → Wants hss_judged r c.session (wants_content key) → pending_block key c.session.standing.pending ≡ None) → GoesWell r next → ConfigurationSo next
        → KeysStay c.world.participants next.world.participants → (next.session.by ≡ c.session.by) × (next.session.standing.view ≡ c.session.standing.view) → Acts hss_judged r p c next → GoesOn next
    acts_run c _ h p is_p unposted then_well so keys same (asks node question given v heard t cache fate hears goes) =
        ⊎_elim
        (λ call. inl (record {
          call = call;
          known = λ n. told_known c.ghost_state p.name c.session t n ∙ h.known n;
          turns = h.turns;
          meets = λ b m. subst (λ l. Contains l b) (sym (fate_same fate).1) (h.meets b m);
          keys = stay_then w.0.participants c.world.participants _ h.keys keys;
          heard = then_heard Either hears goes h.heard (fate_told Either fate (holds_of c.world h.call.kinds));
          parts = fails_newest goes (heard_newest h.call.fetched h.parts c.world v fate h.call.ring h.call.kinds h.call.held h.heard hears);
          of = (same.0 ∙ h.of.0, same.1 ∙ h.of.1);
        }))
        (λ past. inr (past, inl h.turns))
        (acts_on r w world backed apart no_key have c _ h.call p is_p unposted then_well so (asks node question given v heard t cache fate hears goes))
    acts_run c _ h p is_p unposted then_well so keys same (asks_in_vain node question given v heard t cache fate hears lacking) =
        ⊎_elim (λ call. absurd ((lacks_past lacking).0 call.at)) (λ past. inr (past, inl h.turns)) (acts_on r w world backed apart no_key have c _ h.call p is_p unposted then_well so (asks_in_vain node question given v heard t cache fate hears lacking))
    acts_run c _ h p is_p unposted then_well so keys same (turns seen reply applied after saving t turned in_view takes replies is_turn) =
        let had : HadTurn = record { session = c.session; began = c.began; by = p; knowing = knowing_of c.ghost_state p.name; view = seen; met = named_bytes c.world; now = c.world.now; after = after; turned = turned } in
        inr (answered_past takes h.call.missed, inr (had, record { at = c; run = h; by = p; is_by = is_p; in_view = seen; after = after; turned = turned; is = refl }, ap (λ ts. ts ++ had ∷ []) h.turns))
    acts_run c _ h p is_p unposted then_well so keys same (is_refused seen end after saving t in_view refusal takes) =
        ⊎_elim
        (λ call. inl (record {
          call = call;
          known = h.known;
          turns = h.turns;
          meets = λ b m. met_stays c.world.met (map (λ (o : Post). o.bytes) after.pending) b (h.meets b m);
          keys = stay_then w.0.participants c.world.participants _ h.keys keys;
          heard = refused_heard takes refusal;
          parts = refused_newest takes refusal h.parts;
          of = (same.0 ∙ h.of.0, same.1 ∙ h.of.1);
        }))
        (λ past. inr (past, inl h.turns))
        (acts_on r w world backed apart no_key have c _ h.call p is_p unposted then_well so (is_refused seen end after saving t in_view refusal takes))
    acts_run c _ h p is_p unposted then_well so keys same (settles after t is) =
        ⊎_elim (λ call. absurd (settles_past is call.at)) (λ past. inr (past, inl h.turns)) (acts_on r w world backed apart no_key have c _ h.call p is_p unposted then_well so (settles after t is))

    step_run : {c next : Configuration} → InRun c → Steps hss_judged r by_name c next → GoesOn next
    step_run {c} {next} h (acts p taken cache _ is_p takes act) =
        acts_run mid next in_it (record p { cache = cache }) found (not_available r w world backed (met_apart r w world backed apart no_key have) have takes in_it.call.fetched) then_well next_so
        (acts_stay by_name found_by act) (led.same.call.0 ∙ sym (takes_all_same takes).1, led.same.call.2 ∙ sym (takes_view takes)) act
      where
        step : Steps hss_judged r by_name c next
        step = acts p taken cache next is_p takes act

        mid : Configuration
        mid = with_cache hss_judged r c p taken cache

        in_it : InRun mid
        in_it = record {
          call = in_call r w world backed apart no_key have c h.call by_name h.of.0 p taken cache is_p takes;
          known = h.known;
          turns = h.turns;
          meets = h.meets;
          keys = stay_then w.0.participants c.world.participants mid.world.participants h.keys (placed_stay c.world p (record p { cache = cache }) by_name is_p refl refl);
          heard = takes_all_heard Either takes h.heard;
          parts = takes_all_newest takes h.parts;
          of = ((takes_all_same takes).1 ∙ h.of.0, takes_view takes ∙ h.of.1);
        }

        led : Leads c next r
        led = step_leads r by_name c next h.of.0 h.call.well.keeps h.call.well.hand h.call.well.ringed step

        then_well : GoesWell r next
        then_well = record { keeps = led.leaves.0; hand = led.leaves.1; ringed = led.same.replicas ∙ h.call.well.ringed }

        now_apart : IsCollisionFree (named_bytes c.world)
        now_apart = names_of r w world backed apart no_key have c.world h.call.met_same h.call.keys_same

        next_so : ConfigurationSo next
        next_so = step_so r h.of.0 (λ a b in_a in_b e. now_apart a b (Contains-append_left c.world.met _ a in_a) (Contains-append_left c.world.met _ b in_b) e) (λ at. record { well = h.call.well; apart = now_apart }) step h.call.configuration

        found_by : participant mid.world by_name ≡ Some (record p { cache = cache })
        found_by = found_placed c.world by_name p (record p { cache = cache }) c.world.met is_p refl (λ x m. m) (λ x m. m)

        found : participant mid.world taken.by ≡ Some (record p { cache = cache })
        found = ap (participant mid.world) ((takes_all_same takes).1 ∙ h.of.0) ∙ found_by
    step_run h (lacks_memory p taken t cache is_p takes lacking) = inr (lacks_past lacking, inl h.turns)

    pub runs_had : {c next : Configuration} → RunsOut hss_judged r by_name c next → InRun c → HadOne next
    runs_had (runs_over said over) h = inl h.turns
    runs_had (runs_more step rest) h = ⊎_elim
        (λ on. runs_had rest on)
        (λ past. let same = past_told r rest past.0 in ⊎_elim (λ none. inl (same ∙ none)) (λ had. inr (had.0, had.1, same ∙ had.2)) past.1)
        (step_run h step)

    -- ---- the turn

    module _ (keeps : Invariant w) (honest : IsHonestIn w) (p : Participant) (is_p : participant w.0 by_name ≡ Some p) (in_view : p.agent.view ≡ Some view)
        (entered : (q : Participant) → Contains w.0.participants q → Contains view.members (own_hss_key q.agent) → q.agent.view ≡ Some view) where
      of_configuration : (c : Configuration) (h : InRun c) (by : Participant) → participant c.world c.session.by ≡ Some by → (seen : View) (after : HssAgent) (turned : Turned)
          → (turn : IsOnReplay (record { session = c.session; began = c.began; by = by; knowing = knowing_of c.ghost_state by.name; view = seen; met = named_bytes c.world; now = c.world.now; after = after; turned = turned }))
          → (one : Record) → Contains turn.taken one ↔ IsWritten w seen one
      of_configuration c h by is_by seen after turned turn one = subst (λ v. Contains turn.taken one ↔ IsWritten w v one) (sym seen_is) (takes_written w keeps apart honest p p_in view in_view entered (grounds_of (named_bytes c.world) c.session c.began.knew) turn.given.started
          (λ b m. Contains-append_left c.world.met _ b (h.meets b m)) now_apart own_is
          (subst (λ v. IsKnown v c.session.standing.floor c.began.knew) h.of.1 sound.knows.by_floor) before heard newest_heads
          turn.candidates (subst (λ v. AreCandidatesOf (grounds_of (named_bytes c.world) c.session c.began.knew) v turn.given.started turn.candidates) seen_is turn.of_heads)
          turn.taken (subst (λ v. IsClosedPart v (IsAvailable (known_of w.1 p.name) turn.candidates) turn.taken) seen_is (subst (λ k. IsClosedPart seen (IsAvailable k turn.candidates) turn.taken) known_is turn.taken_is_largest)) one)
        where
          p_at : Contains w.0.participants p × (p.name ≡ by_name)
          p_at = found_named w.0.participants by_name p is_p

          p_in : Contains w.0.participants p
          p_in = p_at.0

          now_apart : IsCollisionFree (named_bytes c.world)
          now_apart = names_of r w world backed apart no_key have c.world h.call.met_same h.call.keys_same

          sound : IsSoundSession c.world c.ghost_state c.session c.began
          sound = h.call.well.hand.sound now_apart

          one_view : (a b : View) → Some a ≡ Some b → a ≡ b
          one_view a b e = cc e

          one_participant : (a b : Participant) → Some a ≡ Some b → a ≡ b
          one_participant a b e = cc e

          seen_is : seen ≡ view
          seen_is = one_view seen c.session.standing.view (sym turn.in_view ∙ its_view c r h.call.well.hand by is_by) ∙ h.of.1

          named : by.name ≡ p.name
          named = (found_named c.world.participants c.session.by by is_by).1 ∙ h.of.0 ∙ sym p_at.1

          known_is : known_of c.ghost_state by.name ≡ known_of w.1 p.name
          known_is = ap (known_of c.ghost_state) named ∙ h.known p.name

          own_is : c.session.standing.own ≡ own_hss_key p.agent
          own_is =
              let x = h.keys by_name p is_p in
              let same : x.0 ≡ by = one_participant x.0 by (sym x.1 ∙ ap (participant c.world) (sym h.of.0) ∙ is_by) in
              its_key c r h.call.well.hand by is_by ∙ ap (λ (y : Participant). own_hss_key y.agent) (sym same) ∙ x.2

          before : (q : Record) → Contains c.began.knew q → Contains (known_of w.1 p.name) q
          before q m = subst (λ l. Contains l q) (h.known p.name) (subst (λ n. Contains (known_of c.ghost_state n) q) (h.of.0 ∙ sym p_at.1) (sound.known q m))

          heard : (q : Participant) (t : Stamp) → Contains w.0.participants q → Contains (heads_at (brought_in c.session.parts) (head_key_of (own_hss_key q.agent))) t → IsLeftBy q (head_key_of (own_hss_key q.agent), t)
          heard q t q_in m =
              let of = all_entries (brought_in c.session.parts) h.parts (head_key_of (own_hss_key q.agent), t) (from_heads (brought_in c.session.parts) (head_key_of (own_hss_key q.agent)) t m) in
              left_of keeps honest q q_in (head_key_of (own_hss_key q.agent), t) refl of

          newest_heads : (q : Participant) → Contains w.0.participants q → Contains view.members (own_hss_key q.agent) → (own_hss_key q.agent ≡ c.session.standing.own → ⊥) → (t : Stamp) × Contains (heads_at (brought_in c.session.parts) (head_key_of (own_hss_key q.agent))) t × (own_reach q.agent ≤ t.seq)
          newest_heads q q_in member other =
              let has = done_has c.session.standing (own_hss_key q.agent) other turn.refreshed refl (subst (λ (v : View). Contains v.members (own_hss_key q.agent)) (sym h.of.1) member) in
              let j = (each PartNewest (brought_in c.session.parts) (HeadsOf (own_hss_key q.agent) (Ok has.0)) h.parts has.1).0 q q_in refl in
              (stamp_of j.0, at_heads (brought_in c.session.parts) (head_key_of (own_hss_key q.agent)) (stamp_of j.0) (in_heads (brought_in c.session.parts) (own_hss_key q.agent) has.0 j.0 has.1 j.1), j.2)

      pub takes_at : (h : HadTurn) → HadAt h → (turn : IsOnReplay h) (one : Record) → Contains turn.taken one ↔ IsWritten w h.view one
      takes_at h had turn one =
          (subst (λ (x : HadTurn). (t : IsOnReplay x) → Contains t.taken one ↔ IsWritten w x.view one) (sym had.is) (λ t. of_configuration had.at had.run had.by had.is_by had.in_view had.after had.turned t one)) turn
