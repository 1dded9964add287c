-- A whole call in a calm script, where of each log a head was put: its refresh misses nothing.
use Rattle.std.proofs.Common.{◌≡◌, ◌≢◌, ◌⊎◌, inl, inr, ⊎_elim, ℕ, Bool, true, false, cond, ◌&&◌, not, List, [], ◌∷◌, ◌++◌, find, Option, Some, None, Result, Ok, Err, refl, sym, ap, ◌∙◌, subst, arith, Contains}
use Rattle.std.specs.Prelude.{nat_eq, option_and_then}
use Rattle.std.specs.List.{AllByRecursion}
use Rattle.std.specs.Option.{option_map_or}
use Rattle.std.specs.FinMap.Entries.{find as value_at}
use Rattle.std.proofs.lemmas.List.{append-nil}
use Rattle.ivy_base.specs.declared.key.Key.{Key}
use Rattle.ivy_base.specs.declared.key.PubKey.{PubKey}
use Rattle.ivy_base.specs.Naming.{IsCollisionFree, head_key_of, key_cmp, name}
use Rattle.tree_model.specs.Tree.{same_key}
use Rattle.tree_model.proofs.Keys.{same_key_itself}
use Rattle.ring_model.specs.Circle.{number}
use Rattle.ring_model.specs.Members.{IsAmong, owners}
use Rattle.ring_model.proofs.Lists.{all-both}
use Rattle.dhash_model.specs.Signed.{hss_judged}
use Rattle.log_model.specs.Record.{Record}
use Rattle.log_model.specs.Spelling.{HasSpelling, record_block}
use Rattle.log_model.specs.Vector.{Stamp, Vector}
use Rattle.log_model.specs.View.{View}
use Rattle.log_model.proofs.Lists.{each, each_append, each_from, here, in_cons, in_nothing, there}
use Rattle.dht_ids.specs.Asked.{told}
use Rattle.dht_ids.specs.Peers.{place}
use Rattle.dht_ids.specs.declared.ask.Answer.{Answer}
use Rattle.dht_ids.specs.declared.ask.Ask.{Ask}
use Rattle.dht_ids.specs.declared.ask.Ask.TheVariants as ask
use Rattle.dht_ids.specs.declared.ask.Heard.{Heard}
use Rattle.dht_ids.specs.declared.judge.Judged.{Judged}
use Rattle.dht_ids.specs.declared.peer.Peer.{Peer}
use Rattle.dht_ids.specs.declared.post.Post.{Post}
use Rattle.dhash_model.specs.GetBlock.{IsGetOfBlock}
use Rattle.dhash_model.specs.GetHead.{IsGetOfHead}
use Rattle.dhash_model.specs.declared.miss.Miss.{Miss}
use Rattle.dhash_model.specs.Stores.{Block}
use Rattle.dhash_model.specs.declared.kind.BlockKind.{BlockKind}
use Rattle.dhash_model.specs.declared.kind.BlockKind.TheVariants.{Content, Head}
use Rattle.agent_model.specs.Agent.{is_head, record_post}
use Rattle.log_model.specs.declared.chain_fault.ChainFault.{ChainFault}
use Rattle.log_model.specs.Fetched.{Edge}
use Rattle.agent_model.specs.Standing.{Chain, Refresh, Standing}
use Rattle.session_model.specs.Brought.{BlockOf, Brought, HeadsOf, WantedOfRing, brought_in, stamp_of}
use Rattle.session_model.specs.Brought.WantedOfRing.{Content as wants_content, Heads as wants_heads}
use Rattle.session_model.specs.Refreshing.{FailsBy, Fetches, FetchesAll, Needs, Note, RefreshEnd, Refreshes, end_of_log}
use Rattle.session_model.specs.Refreshing.Fetches.{no_heads, of_heads, of_own, wants_heads as fetch_heads}
use Rattle.session_model.specs.Refreshing.FetchesAll.{all as fetches_all, goes_on as fetches_on, stays as fetches_stay}
use Rattle.session_model.specs.Refreshing.Refreshes.{fetching, loading}
use Rattle.session_model.specs.Walks.{Gives, GivesNone, Lacks, LogEnd, Stops, Tries}
use Rattle.session_model.specs.Walks.Tries.{garbled as tries_garbled, gives, misses as tries_miss, none as tries_none, passes, wants as tries_want}
use Rattle.session_model.specs.Sessions.{Cache, Gets, Hears, Publishing, Refreshing, Session, Takes, TakesAll, Wants, pending_block, wanted_key, with_part}
use Rattle.session_model.specs.Sessions.Hears.{gets_on, got, puts, puts_on}
use Rattle.session_model.specs.Sessions.Gets.{content as got_content, heads as got_heads}
use Rattle.session_model.specs.Sessions.Takes.{cached, posted}
use Rattle.session_model.specs.Sessions.TakesAll.{more as takes_more, none as takes_none}
use Rattle.world_model.specs.Agents.{own_hss_key}
use Rattle.world_model.specs.Nodes.{Node}
use Rattle.world_model.specs.World.{Participant, World, node_at, peer_of}
use Rattle.world_model.specs.Fates.{FateOf, asking}
use Rattle.world_model.specs.Fates.Fates.{more as fates_more, none as fates_none}
use Rattle.world_model.specs.Logs.{Played}
use Rattle.world_model.specs.Holding.{held_in}
use Rattle.world_model.specs.RingOf.{own_node}
use Rattle.round_laws.proofs.Nodes.{order_by}
use Rattle.round_laws.proofs.Storing.{under}
use Rattle.calm_laws.proofs.CalmNodes.{HeldStays, IsHeld}
use Rattle.calm_laws.proofs.CalmPuts.{entries_by, kind_of}
use Rattle.world_laws.proofs.TakingOn.{brought_then}
use Rattle.calm_laws.proofs.BlockKinds.{IsOf}
use Rattle.calm_laws.proofs.Gets.{AreGot, IsOwnedAs, block_given, gets_go, head_given}
use Rattle.calm_laws.proofs.Holding.{AreOrderly}
use Rattle.calm_laws.proofs.Stretches.{IsAckHeld, IsRingOf, Stretch}
use Rattle.calm_laws.proofs.Worlds.{acked_on}
use Rattle.calm_laws.specs.Completeness.{HaveHeads}
use Rattle.calm_laws.specs.Put.{IsPutOr, WasPut}
use Rattle.calm_laws.proofs.Stages.{IsEntryPut, IsMet, heads_put}
use Rattle.calm_laws.proofs.HeldHeads.{IsHeardPut}
use Rattle.calm_laws.proofs.Standing.{IsCalmWorld, ring_of}
use Rattle.calm_laws.proofs.UpTo.{up_to_weaker}
use Rattle.calm_laws.proofs.Walks.{BroughtSo, FloorSo, IsBack, back_of}
use Rattle.calm_laws.proofs.BackedWorlds.{IsBackedWorld}

-- what passes is found
found_some : {A : Type 0} (test : A → Bool) (xs : List A) (x : A) → Contains xs x → test x ≡ true → find test xs ≡ None → ⊥
found_some test [] x c so none = in_nothing x c
found_some test (y ∷ xs) x c so none = by (test y) refl none (λ later. found_some test xs x later so)
  where
    by : (b : Bool) → test y ≡ b → cond b (Some y) (find test xs) ≡ None → (Contains xs x → find test xs ≡ None → ⊥) → ⊥
    by true e f rest = cc f
    by false e f rest = ⊎_elim (λ same. differ (subst (λ z. test z ≡ false) same e)) (λ later. rest later f) (in_cons y xs x c)
      where
        differ : test x ≡ false → ⊥
        differ g = cc (sym so ∙ g)

-- a record among the posts is available
posted_so : (posts : List Post) (one : Record) → Contains posts (record_post one) → pending_block one.name posts ≡ None → ⊥
posted_so posts one c none = found_some (λ (p : Post). not (is_head p.kind) && same_key p.key one.name) posts (record_post one) c (same_key_itself one.name) (not_found (find (λ (p : Post). not (is_head p.kind) && same_key p.key one.name) posts) none)
  where
    not_found : (o : Option Post) → option_map_or (λ (p : Post). Some p.bytes) o None ≡ None → o ≡ None
    not_found None e = refl
    not_found (Some p) e = cc e

module _ (r : ℕ) (w : Played) (world : IsCalmWorld r w) (backed : IsBackedWorld w.0 w.1) (apart : IsCollisionFree w.0.met) (have : HaveHeads w) where
  abbrev Ring : Stretch
  Ring = ring_of r w world

  abbrev pub IsRinged : World → Type 0
  IsRinged v = IsRingOf (ring_of r w world) v

  abbrev pub AllKinds : World → Type 0
  AllKinds v = AreOrderly w.0 v

  abbrev Owned : Key → BlockKind → Type 0
  Owned key kind = IsOwnedAs Ring w.0 key kind 0

  abbrev Got : List Heard → Type 0
  Got trail = AreGot Ring w.0 trail

  -- ---- who holds what was put

  any_rank : (key : Key) (kind : BlockKind) (least : ℕ) (m : Peer) → IsHeld w.0 key kind least m → IsHeld w.0 key kind 0 m
  any_rank key kind least m h = (h.0, h.1, h.2, omega arith)

  node_holds : (key : Key) (m : Peer) (c : Block) → held_in w.0 key m ≡ Some c → (n : Node) × (node_at w.0 m.id ≡ Some n) × (under key n ≡ Some c)
  node_holds key m c is = by (node_at w.0 m.id) refl is
    where
      by : (o : Option Node) → node_at w.0 m.id ≡ o → option_and_then (λ (n : Node). value_at key_cmp key n.blocks) (own_node m o) ≡ Some c → (n : Node) × (node_at w.0 m.id ≡ Some n) × (under key n ≡ Some c)
      by None at e = cc e
      by (Some n) at e = (n, at, mine (nat_eq (peer_of n).number m.number) e)
        where
          mine : (b : Bool) → option_and_then (λ (n : Node). value_at key_cmp key n.blocks) (cond b (Some n) None) ≡ Some c → under key n ≡ Some c
          mine true f = f
          mine false f = cc f

  no_head_there : (one : Record) → HasSpelling one → Contains w.0.met (record_block one) → (m : Peer) (least : ℕ) → IsHeld w.0 one.name Head least m → ⊥
  no_head_there one spelled in_met m least h =
      let n = node_holds one.name m h.0 h.1 in
      world.state.apart one.name (record_block one) h.0.bytes (in_met, sym spelled.named) (subst (λ k. IsOf w.0 one.name k h.0.bytes) h.2 ((world.state.good.orderly m.id n.0 n.1).kinds one.name h.0 n.2))

  block_met : (one : Record) → WasPut w.1.acked one → Contains w.0.met (record_block one)
  block_met one put = subst (Contains w.0.met) put.3 (backed.put_met put.0 put.1)

  ack_held : (p : Post) → Contains w.1.acked p → IsAckHeld Ring w.0 p
  ack_held p c = acked_on r world.stopped w world.state p c

  content_owned : (one : Record) → HasSpelling one → WasPut w.1.acked one → Owned one.name Content
  content_owned one spelled put = by (is_head put.0.kind) refl
    where
      ack : IsAckHeld Ring w.0 put.0
      ack = ack_held put.0 put.1

      at_name : (b : Bool) → is_head put.0.kind ≡ b → IsHeld w.0 one.name (cond b Head Content) 0 ack.owner
      at_name b e = subst (λ k. IsHeld w.0 k (cond b Head Content) 0 ack.owner) put.2 (subst (λ x. IsHeld w.0 put.0.key (cond x Head Content) 0 ack.owner) e (any_rank put.0.key (kind_of put.0) _ ack.owner ack.holds.held))

      by : (b : Bool) → is_head put.0.kind ≡ b → Owned one.name Content
      by true e = absurd (no_head_there one spelled (block_met one put) ack.owner 0 (at_name true e))
      by false e = record { owner = ack.owner; owns = subst (λ k. IsAmong ack.owner (owners place Ring.r (order_by Ring.base) (number k))) put.2 ack.owns; holds = at_name false e }

  head_owned : (q : Participant) → Contains w.0.participants q → Owned (head_key_of (own_hss_key q.agent)) Head
  head_owned q among =
      let put = have q among in
      let ack = ack_held put.0 put.1 in
      record {
        owner = ack.owner;
        owns = subst (λ k. IsAmong ack.owner (owners place Ring.r (order_by Ring.base) (number k))) put.3 ack.owns;
        holds = subst (λ k. IsHeld w.0 k Head 0 ack.owner) put.3 (subst (λ x. IsHeld w.0 put.0.key (cond x Head Content) 0 ack.owner) put.2 (any_rank put.0.key (kind_of put.0) _ ack.owner ack.holds.held));
      }

  -- ---- gets

  pub content_got : (v : World) → IsRinged v → (one : Record) → HasSpelling one → WasPut w.1.acked one → (trail : List Heard) (came : Result (List ℕ) Miss) → Got trail → IsGetOfBlock one.name r (entries_by Ring.base) trail came → came ≡ Ok (record_block one)
  content_got v ring one spelled put trail came so get =
      block_given Ring w.0 v one.name 0 (record_block one) trail came (content_owned one spelled put) ring so
      (block_met one put, sym spelled.named) (λ b c. apart b (record_block one) c.0 (block_met one put) (c.1 ∙ spelled.named)) get

  pub head_got : (v : World) → IsRinged v → (q : Participant) → Contains w.0.participants q → (trail : List Heard) (came : Result (List Judged) Miss) → Got trail
      → IsGetOfHead (hss_judged (head_key_of (own_hss_key q.agent))) (head_key_of (own_hss_key q.agent)) r (entries_by Ring.base) trail came → (heads : List Judged) × (came ≡ Ok heads)
  head_got v ring q among trail came so get =
      let given = head_given Ring w.0 v (head_key_of (own_hss_key q.agent)) 0 trail came (head_owned q among) ring so get in
      (given.heads, given.came_is)

  -- one ask of a get
  pub ask_got : (key : Key) (question : Ask) → (question ≡ ask.Route key) ⊎ (question ≡ ask.Get key) → (node : Peer) (given : Answer) (v next : World) → FateOf hss_judged v node question given next → IsRinged v → AllKinds v → HeldStays w.0 v
      → IsRinged next × AllKinds next × HeldStays w.0 next × Got (told node question given)
  ask_got key question is_of node given v next fate ring kinds held =
      let a = gets_go Ring question key is_of ((node, given) ∷ []) (asking question ((node, given) ∷ [])) w.0 v next refl
      (fates_more node question given fate fates_none) ring kinds held in
      (a.still, a.orderly, λ k kind least m h. a.held k kind least m h, subst Got (append-nil (told node question given)) a.got)

  -- ---- what a session was brought

  abbrev Back : List Post → Key → ℕ → Key → Type 0
  Back pending log n key = IsBack w.1.acked pending log n key

  -- heads lead back; and what was missed isn't there
  abbrev PartKept : List Post → Brought → Type 0
  PartKept pending (HeadsOf owner (Ok heads)) = AllByRecursion (λ j. Back pending (head_key_of owner) j.seq j.name) heads
  PartKept pending (HeadsOf owner (Err miss)) = ⊥
  PartKept pending (BlockOf key (Ok bytes)) = Unit {0}
  PartKept pending (BlockOf key (Err miss)) = (one : Record) → key ≡ one.name → HasSpelling one → IsPutOr w.1.acked pending one → ⊥

  -- all that it was brought is so, where blocks have their names
  pub all_brought : (pending : List Post) (bs : List Brought) → AllByRecursion (PartKept pending) bs → ((key : Key) (bytes : List ℕ) → Contains bs (BlockOf key (Ok bytes)) → (name bytes ≡ key) × Contains w.0.met bytes) → AllByRecursion (BroughtSo w.1.acked pending w.0.met) bs
  all_brought pending bs kept blocks = each_from (BroughtSo w.1.acked pending w.0.met) bs (λ b c. by b (each (PartKept pending) bs b kept c) (λ key bytes e. blocks key bytes (subst (Contains bs) e c)))
    where
      by : (b : Brought) → PartKept pending b → ((key : Key) (bytes : List ℕ) → b ≡ BlockOf key (Ok bytes) → (name bytes ≡ key) × Contains w.0.met bytes) → BroughtSo w.1.acked pending w.0.met b
      by (HeadsOf owner (Ok heads)) k f = λ log e. subst (λ x. AllByRecursion (λ (j : Judged). IsBack w.1.acked pending x j.seq j.name) heads) (sym e) k
      by (HeadsOf owner (Err miss)) k f = λ log e. k
      by (BlockOf key (Ok bytes)) k f = λ log. f key bytes refl
      by (BlockOf key (Err miss)) k f = λ log. k

  -- a session that refreshes, by what it was brought and by what it was answered in the get on its way
  pub record IsFetched (s : Session) : Type 0 where
    pub pending : AllByRecursion (IsMet w.0.met) s.standing.pending
    pub asked : Got s.current
    pub unposted : s.current ≢ [] → (key : Key) → Wants hss_judged r s (wants_content key) → pending_block key s.standing.pending ≡ None
    pub parts : AllByRecursion (PartKept s.standing.pending) (brought_in s.parts)
    pub floor : FloorSo w.1.acked s.standing.pending s.standing s.standing.view.members
    pub members : (owner : PubKey) → Contains s.standing.view.members owner → (q : Participant) × Contains w.0.participants q × (own_hss_key q.agent ≡ owner)
    pub entries : s.entries ≡ entries_by Ring.base

  with_part_so : (s : Session) (b : Brought) (asks : List Heard) → IsFetched s → PartKept s.standing.pending b → IsFetched (with_part s b asks)
  with_part_so s b asks h new = record {
    pending = h.pending;
    asked = tt;
    unposted = λ some. absurd (some refl);
    parts = subst (AllByRecursion (PartKept s.standing.pending)) (sym (brought_then s.parts b asks)) (each_append (PartKept s.standing.pending) (brought_in s.parts) (b ∷ []) h.parts (new, tt));
    floor = h.floor;
    members = h.members;
    entries = h.entries;
  }

  takes_so : {s t : Session} {cache after : Cache} → Takes hss_judged r s cache t after → IsFetched s → IsFetched t
  takes_so {s} (posted key bytes wants none is) h = with_part_so s (BlockOf key (Ok bytes)) [] h tt
  takes_so {s} (cached key bytes wants none missing is) h = with_part_so s (BlockOf key (Ok bytes)) [] h tt

  pub takes_all_so : {s t : Session} {cache after : Cache} → TakesAll hss_judged r s cache t after → IsFetched s → IsFetched t
  takes_all_so (takes_none none) h = h
  takes_all_so (takes_more one rest) h = takes_all_so rest (takes_so one h)

  takes_end : {s t : Session} {cache after : Cache} → TakesAll hss_judged r s cache t after → (u : Session) (later : Cache) → Takes hss_judged r t after u later → ⊥
  takes_end (takes_none none) = none
  takes_end (takes_more one rest) = takes_end rest

  -- what is asked for isn't available
  pub not_available : {s t : Session} {cache after : Cache} → TakesAll hss_judged r s cache t after → IsFetched t → (key : Key) → Wants hss_judged r t (wants_content key) → pending_block key t.standing.pending ≡ None
  not_available {t = t} {after = after} takes h key wants = by t.current refl
    where
      none_posted : t.current ≡ [] → (o : Option (List ℕ)) → pending_block key t.standing.pending ≡ o → o ≡ None
      none_posted empty None e = refl
      none_posted empty (Some bytes) e = absurd (takes_end takes _ _ (posted key bytes wants empty e))

      by : (c : List Heard) → t.current ≡ c → pending_block key t.standing.pending ≡ None
      by [] e = none_posted e (pending_block key t.standing.pending) refl
      by (x ∷ c) e = h.unposted (λ empty. some (sym e ∙ empty)) key wants
        where
          some : x ∷ c ≡ [] → ⊥
          some f = cc f

  -- an entry that was put leads back, where its log is a member's
  entry_back : (pending : List Post) (owner : PubKey) → ((b : List ℕ) → Contains w.0.met b → name b ≡ head_key_of owner → ⊥) → (j : Judged) → IsEntryPut w.0.met w.1.acked (head_key_of owner, stamp_of j) → Back pending (head_key_of owner) j.seq j.name
  entry_back pending owner clear j (inl h) = back_of w.1.acked pending (head_key_of owner) h.0 (stamp_of j) h.1 (up_to_weaker (WasPut w.1.acked) (IsPutOr w.1.acked pending) h.0 (stamp_of j) (λ one put. inl put) h.2)
  entry_back pending owner clear j (inr h) = absurd (clear h.0 h.1.1 h.1.0)

  -- ---- one ask

  module _ (clear : (q : Participant) → Contains w.0.participants q → (b : List ℕ) → Contains w.0.met b → name b ≡ head_key_of (own_hss_key q.agent) → ⊥) where
    -- what a get brings is so
    brought_kept : (s : Session) → IsFetched s → ((key : Key) → Wants hss_judged r s (wants_content key) → pending_block key s.standing.pending ≡ None) → ((owner : PubKey) → Wants hss_judged r s (wants_heads owner) → Contains s.standing.view.members owner)
        → (v : World) → IsRinged v → (want : WantedOfRing) → Wants hss_judged r s want → (trail : List Heard) (b : Brought) → Gets hss_judged r (entries_by Ring.base) want trail b → Got trail → AllByRecursion (IsHeardPut w.0.met w.1.acked) trail → PartKept s.standing.pending b
    brought_kept s h unposted member v ring _ wants trail _ (got_heads {owner = owner} came get) so heard =
        let q = h.members owner (member owner wants) in
        let at : (heads : List Judged) × (came ≡ Ok heads) = head_got v ring q.0 q.1 trail came so (subst (λ o. IsGetOfHead (hss_judged (head_key_of o)) (head_key_of o) r (entries_by Ring.base) trail came) (sym q.2) get) in
        subst (λ x. PartKept s.standing.pending (HeadsOf owner x)) (sym at.1)
        (each_from (λ j. Back s.standing.pending (head_key_of owner) j.seq j.name) at.0 (λ j c.
        entry_back s.standing.pending owner (λ x in_met named. clear q.0 q.1 x in_met (named ∙ ap head_key_of (sym q.2))) j
        (each (λ (x : Judged). IsEntryPut w.0.met w.1.acked (head_key_of owner, stamp_of x)) at.0 j (heads_put w.0.met w.1.acked (head_key_of owner) r (entries_by Ring.base) trail at.0 came get at.1 heard) c)))
    brought_kept s h unposted member v ring _ wants trail _ (got_content {key = key} came get) so heard = by came refl
      where
        not_there : (miss : Miss) → came ≡ Err miss → (one : Record) → key ≡ one.name → HasSpelling one → IsPutOr w.1.acked s.standing.pending one → ⊥
        not_there miss e one is spelled (inl put) = let right = content_got v ring one spelled put trail came so (subst (λ k. IsGetOfBlock k r (entries_by Ring.base) trail came) is get) in never (sym e ∙ right)
          where
            never : {bytes : List ℕ} → ◌≡◌ {A = Result (List ℕ) Miss} (Err miss) (Ok bytes) → ⊥
            never f = cc f
        not_there miss e one is spelled (inr c) = posted_so s.standing.pending one c (subst (λ k. pending_block k s.standing.pending ≡ None) is (unposted key wants))

        by : (x : Result (List ℕ) Miss) → came ≡ x → PartKept s.standing.pending (BlockOf key came)
        by (Ok bytes) e = subst (λ x. PartKept s.standing.pending (BlockOf key x)) (sym e) tt
        by (Err miss) e = subst (λ x. PartKept s.standing.pending (BlockOf key x)) (sym e) (not_there miss e)

    -- the session once it was answered
    pub heard_kept : {s heard : Session} {cache after : Cache} {node : Peer} {question : Ask} {given : Answer} → s.stage ≡ Refreshing → IsFetched s → ((key : Key) → Wants hss_judged r s (wants_content key) → pending_block key s.standing.pending ≡ None)
        → ((owner : PubKey) → Wants hss_judged r s (wants_heads owner) → Contains s.standing.view.members owner) → AllByRecursion (IsHeardPut w.0.met w.1.acked) s.current → (v next : World) → FateOf hss_judged v node question given next → IsRinged v → AllKinds v → HeldStays w.0 v
        → AllByRecursion (IsHeardPut w.0.met w.1.acked) (told node question given) → Hears hss_judged r s cache node question given heard after → IsFetched heard × IsRinged next × AllKinds next × HeldStays w.0 next
    heard_kept {s} {node = node} {question = question} {given = given} at h unposted member were v next fate ring kinds held new (gets_on want wants asks_next part) =
        let a = ask_got (wanted_key want) question asks_next.is_of node given v next fate ring kinds held in (
          record {
            pending = h.pending;
            asked = all-both _ s.current (told node question given) h.asked a.3;
            unposted = λ some key w_key. unposted key w_key;
            parts = h.parts;
            floor = h.floor;
            members = h.members;
            entries = h.entries;
          },
          a.0,
          a.1,
          a.2,
        )
    heard_kept {s} {node = node} {question = question} {given = given} at h unposted member were v next fate ring kinds held new (got want brought wants asks_next whole) =
        let a = ask_got (wanted_key want) question asks_next.is_of node given v next fate ring kinds held in (
          with_part_so s brought (s.current ++ told node question given) h
              (brought_kept s h unposted member next a.0 want wants (s.current ++ told node question given) brought (subst (λ es. Gets hss_judged r es want (s.current ++ told node question given) brought) h.entries whole) (all-both _ s.current (told node question given) h.asked a.3)
              (each_append (IsHeardPut w.0.met w.1.acked) s.current (told node question given) were new)),
          a.0,
          a.1,
          a.2,
        )
    heard_kept {s} at h unposted member were v next fate ring kinds held new (puts_on said p posts acks is asks_next part) = absurd (not_refreshing (sym is ∙ at))
      where
        not_refreshing : Publishing said (p ∷ posts) acks ≡ Refreshing → ⊥
        not_refreshing e = cc e
    heard_kept {s} at h unposted member were v next fate ring kinds held new (puts said p posts acks came is asks_next whole) = absurd (not_refreshing (sym is ∙ at))
      where
        not_refreshing : Publishing said (p ∷ posts) acks ≡ Refreshing → ⊥
        not_refreshing e = cc e

-- ---- a refresh wants heads of members alone

tries_content : {view : View} {owner : PubKey} {start floor : Vector} {edge : Option Edge} {ts : List Stamp} {brought : List Brought} {faults : List ChainFault} {end : LogEnd} → Tries (record { view = view; owner = owner; start = start; floor = floor; edge = edge }) ts brought faults end → (other : PubKey) → end ≡ Lacks (wants_heads other) → ⊥
tries_content tries_none other e = cc e
tries_content (tries_want walk) other e = cc e
tries_content (tries_miss walk) other e = cc e
tries_content (gives walk sound onward) other e = cc e
tries_content (passes walk ample fault rest) other e = tries_content rest other e
tries_content (tries_garbled walk rest) other e = tries_content rest other e

lacks_heads : (s : Standing) (start : Vector) (owner other : PubKey) {brought : List Brought} {notes : List Note} {end : LogEnd} → Fetches (record { standing = s; start = start }) owner brought notes end → end ≡ Lacks (wants_heads other) → owner ≡ other
lacks_heads s start owner other (fetch_heads not_own) e = cc e
lacks_heads s start owner other (no_heads miss not_own) e = cc e
lacks_heads s start owner other (of_heads heads tried brought faults end not_own are tries) e = absurd (tries_content tries other e)
lacks_heads s start owner other (of_own brought faults end mine tries) e = absurd (tries_content tries other e)

needs_lacks : (log : LogEnd) (end : RefreshEnd) (other : PubKey) → end_of_log log ≡ Some end → end ≡ Needs (wants_heads other) → log ≡ Lacks (wants_heads other)
needs_lacks (Lacks want) end other e f = let same : Needs want ≡ end = cc e in let one : want ≡ wants_heads other = cc (same ∙ f) in ap (λ x. Lacks x) one
needs_lacks (Stops miss) end other e f = let same : FailsBy miss ≡ end = cc e in absurd (never (same ∙ f))
  where
    never : FailsBy miss ≡ Needs (wants_heads other) → ⊥
    never x = cc x
needs_lacks (Gives records) end other e f = cc e
needs_lacks GivesNone end other e f = cc e

all_heads_of : (s : Standing) (start : Vector) (other : PubKey) {owners : List PubKey} {brought : List Brought} {notes : List Note} {chains : List Chain} {end : RefreshEnd} → FetchesAll (record { standing = s; start = start }) owners brought notes chains end → end ≡ Needs (wants_heads other) → Contains owners other
all_heads_of s start other fetches_all e = cc e
all_heads_of s start other (fetches_stay {owner = owner} {owners = owners} {log = log} {end = end} part is) e =
    subst (Contains (owner ∷ owners)) (lacks_heads s start owner other part (needs_lacks log end other is e)) (here owner owners)
all_heads_of s start other (fetches_on {owner = owner} {owners = owners} part is rest) e = there owner owners other (all_heads_of s start other rest e)

heads_of_member : (s : Standing) (other : PubKey) {brought : List Brought} {notes : List Note} {given : Refresh} {end : RefreshEnd} → Refreshes s brought notes given end → end ≡ Needs (wants_heads other) → Contains s.view.members other
heads_of_member s other (loading loads) e = cc e
heads_of_member s other (fetching basis loads fetch) e = all_heads_of s _ other fetch e

pub wanted_member : (r : ℕ) (s : Session) (owner : PubKey) → Wants hss_judged r s (wants_heads owner) → Contains s.standing.view.members owner
wanted_member r s owner wants = heads_of_member s.standing owner wants.3 refl
