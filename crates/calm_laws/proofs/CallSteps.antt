-- The steps of a whole call in a calm script, where of each log a head was put: it refreshes so, or it is past that and has missed nothing.
use Rattle.std.proofs.Common.{◌≡◌, ◌⊎◌, inl, inr, ⊎_elim, ℕ, Bool, cond, List, [], ◌∷◌, ◌++◌, map, Option, Some, None, Ok, refl, sym, ap, ◌∙◌, subst, Contains}
use Rattle.std.specs.List.{AllByRecursion}
use Rattle.std.specs.Str.{bytes_eq}
use Rattle.std.proofs.lemmas.List.{append-nil}
use Rattle.std.proofs.lemmas.List.Elements.{Contains-append_left, Contains-append_right, Contains-append_cases}
use Rattle.ivy_base.specs.declared.key.Key.{Key}
use Rattle.ivy_base.specs.declared.key.PubKey.{PubKey}
use Rattle.ivy_base.specs.declared.operation.Moment.{Moment}
use Rattle.ivy_base.specs.Naming.{IsCollisionFree, head_key_of, name}
use Rattle.dhash_model.specs.Signed.{hss_judged}
use Rattle.log_model.specs.Vector.{Stamp, stamp_at}
use Rattle.log_model.specs.View.{View}
use Rattle.log_model.proofs.Lists.{each, each_from, in_cons, in_nothing}
use Rattle.ring_model.proofs.Lists.{all_weaker}
use Rattle.dht_ids.specs.declared.ask.Answer.{Answer}
use Rattle.dht_ids.specs.declared.ask.Ask.{Ask}
use Rattle.dht_ids.specs.declared.ask.Heard.{Heard}
use Rattle.dht_ids.specs.declared.peer.Peer.{Peer}
use Rattle.dht_ids.specs.declared.post.Post.{Post}
use Rattle.nfs_model.specs.declared.replies.Reply.{Reply}
use Rattle.hash_signature_model.specs.Signer.{Signer}
use Rattle.agent_model.specs.Agent.{own_key}
use Rattle.agent_model.specs.Standing.{begun_again_in}
use Rattle.agent_model.specs.Turning.{Answered, TurnEnd}
use Rattle.dhash_model.specs.declared.miss.Miss.{Miss}
use Rattle.agent_model.specs.Standing.{Refresh}
use Rattle.session_model.specs.Brought.{BlockOf, brought_in}
use Rattle.session_model.specs.Brought.WantedOfRing.{Content as wants_content}
use Rattle.session_model.specs.Refreshing.{FailsBy, Note, Refreshes}
use Rattle.session_model.specs.Executions.{anew}
use Rattle.session_model.specs.Executions.Begins.{alone as begins_alone, refreshes as begins_refreshing}
use Rattle.session_model.specs.Executions.{Fails, IsRefusal, LacksMemory, Settles}
use Rattle.session_model.specs.Executions.Fails.{fails, goes_on}
use Rattle.session_model.specs.Executions.LacksMemory.{lacks}
use Rattle.session_model.specs.Executions.Settles.{settles as settles_all}
use Rattle.session_model.specs.Executions.TakesTurn.{answers, begins_again, gives_up}
use Rattle.session_model.specs.Sessions.{Cache, Hears, Over, Publishing, Refreshing, Session, Takes, TakesAll, Wants, acknowledged, pending_block}
use Rattle.session_model.specs.Sessions.Hears.{gets_on, got, puts, puts_on}
use Rattle.session_model.specs.Sessions.Takes.{cached, posted}
use Rattle.session_model.specs.Sessions.TakesAll.{more as takes_more, none as takes_none}
use Rattle.world_model.specs.Agents.{HssAgent, HssKept, TakesHssTurn, hss_signing, own_hss_key}
use Rattle.world_model.specs.Calls.{BeginsWith, Sending}
use Rattle.world_model.specs.Fates.{FateOf}
use Rattle.world_model.specs.Keepers.{fails_next}
use Rattle.world_model.specs.Logs.{Played}
use Rattle.world_model.specs.Steps.{Acts, RunsOut, Configuration, Steps, acked_by, after_turn, ask_told, met_by, turning_of, with_cache, world_after}
use Rattle.world_model.specs.Steps.Acts.{asks, asks_in_vain, is_refused, settles, turns}
use Rattle.world_model.specs.Steps.RunsOut.{is_over as runs_over, more as runs_more}
use Rattle.world_model.specs.Steps.Steps.{acts, lacks_memory}
use Rattle.world_model.specs.GhostState.{HadTurn, GhostState, beginning, having_begun, known_of}
use Rattle.world_model.specs.World.{Participant, World, named_bytes, participant, with_participant}
use Rattle.world_laws.specs.Invariant.{AreParticipants, Invariant}
use Rattle.calm_laws.proofs.CalmNodes.{HeldStays, same_rings}
use Rattle.calm_laws.proofs.CalmStates.{found_placed}
use Rattle.world_laws.proofs.Frames.{into_map, same_keys}
use Rattle.world_laws.proofs.HeadKeys.{block_is_key}
use Rattle.world_laws.proofs.OneSteps.{GoesWell}
use Rattle.world_laws.proofs.SessionLinesSteps.{Leads, step_leads}
use Rattle.world_laws.proofs.SignedAmong.{from_met}
use Rattle.world_laws.proofs.SignedHeads.{from_map}
use Rattle.world_laws.proofs.TakingOn.{taking_keeps}
use Rattle.world_laws.proofs.HeadlineOfPublishing.{past_put, turn_refreshes}
use Rattle.calm_laws.proofs.Lines.{entries_are}
use Rattle.calm_laws.proofs.States.{kept_ring}
use Rattle.calm_laws.specs.Completeness.{HaveHeads}
use Rattle.calm_laws.proofs.Backed.{IsBackedIn}
use Rattle.calm_laws.proofs.Calls.{AllKinds, IsFetched, IsRinged, all_brought, heard_kept, not_available, takes_all_so, wanted_member}
use Rattle.calm_laws.proofs.HeldHeads.{IsHeardPut, fate_heard, more_heard}
use Rattle.calm_laws.proofs.Known.{floor_there, owned}
use Rattle.calm_laws.proofs.Stages.{IsMet, StageSo}
use Rattle.calm_laws.proofs.Standing.{IsCalmWorld, ring_of}
use Rattle.calm_laws.proofs.BackedSteps.{ConfigurationSo, all_some, cached_backed, fate_same, its_backed, step_so, takes_all_heard, takes_all_same}
use Rattle.calm_laws.proofs.Turns.{refused_same}
use Rattle.calm_laws.proofs.Walks.{IsBack, back_of, never_fails}
use Rattle.calm_laws.proofs.BackedWorlds.{IsBackedWorld}

-- the session is past its refresh, and has missed nothing
abbrev pub IsPast : Session → Type 0
IsPast s = (s.stage ≡ Refreshing → ⊥) × (s.missed ≡ None)

-- ---- past it

hears_past : {r : ℕ} {s heard : Session} {cache after : Cache} {node : Peer} {question : Ask} {given : Answer} → IsPast s → Hears hss_judged r s cache node question given heard after → IsPast heard
hears_past past (gets_on want wants next part) = absurd (past.0 wants.0)
hears_past past (got want brought wants next whole) = absurd (past.0 wants.0)
hears_past past (puts_on said p posts acks at next part) = past
hears_past past (puts said p posts acks came at next whole) = (past_put said p posts acks (acknowledged came), past.1)

fails_past : {s t : Session} → IsPast s → Fails s t → IsPast t
fails_past past (fails notes given miss xid asked at refreshed asks_it) = absurd (past.0 at)
fails_past past (goes_on none) = past

pub lacks_past : {s t : Session} → LacksMemory s t → IsPast t
lacks_past (lacks notes shown given end xid asked at refreshed asks_it rest front) = (λ e. cc e, refl)

settles_past : {a after : HssAgent} {s t : Session} → s.missed ≡ None → Settles a s after t → IsPast t
settles_past missed (settles_all said acks at) = (λ e. cc e, missed)

pub answered_past : {now : Moment} {a : HssAgent} {view : View} {failing : Bool} {s : Session} {reply : Reply} {applied : ℕ} {after : HssAgent} {saving : Option HssKept} {t : Session} → TakesHssTurn (record { agent = a; view = view; now = now; fails = failing }) s (Answered reply applied) after saving t → s.missed ≡ None → IsPast t
answered_past (answers notes given xid asked reply applied after saving done asks_it turned) missed = (λ e. cc e, missed)
answered_past (begins_again notes given xid asked end after saving done asks_it turned refused few) missed = absurd refused
answered_past (gives_up notes given xid asked end after saving done asks_it turned refused many) missed = absurd refused

module _ (r : ℕ) where
  takes_missed : {s t : Session} {cache after : Cache} → Takes hss_judged r s cache t after → t.missed ≡ s.missed
  takes_missed (posted key bytes wants none is) = refl
  takes_missed (cached key bytes wants none missing is) = refl

  pub takes_all_missed : {s t : Session} {cache after : Cache} → TakesAll hss_judged r s cache t after → t.missed ≡ s.missed
  takes_all_missed (takes_none none) = refl
  takes_all_missed (takes_more one rest) = takes_all_missed rest ∙ takes_missed one

  acts_past : {p : Participant} {c next : Configuration} → IsPast c.session → Acts hss_judged r p c next → IsPast next.session
  acts_past past (asks node question given next heard t cache fate hears goes) = fails_past (hears_past past hears) goes
  acts_past past (asks_in_vain node question given next heard t cache fate hears lacking) = lacks_past lacking
  acts_past past (turns view reply applied after saving t turned in_view takes replies is_turn) = absurd (past.0 (turn_refreshes takes))
  acts_past past (is_refused view end after saving t in_view refusal takes) = absurd (past.0 (turn_refreshes takes))
  acts_past past (settles after t is) = settles_past past.1 is

  pub step_past : {name : List ℕ} {c next : Configuration} → IsPast c.session → Steps hss_judged r name c next → IsPast next.session
  step_past past (acts p taken cache next is_p takes act) = acts_past ((λ e. past.0 (sym (takes_all_same takes).0 ∙ e)), takes_all_missed takes ∙ past.1) act
  step_past past (lacks_memory p taken t cache is_p takes lacking) = lacks_past lacking

  pub runs_past : {name : List ℕ} {c next : Configuration} → RunsOut hss_judged r name c next → IsPast c.session → next.session.missed ≡ None
  runs_past (runs_over said over) past = past.1
  runs_past (runs_more step rest) past = runs_past rest (step_past past step)

-- ---- turns that are told

-- each turn is an old one, or no names of what was met before it collided
abbrev pub AreApart : List HadTurn → List HadTurn → Type 0
AreApart old now = (h : HadTurn) → Contains now h → Contains old h ⊎ IsCollisionFree h.met

none_new : (old now : List HadTurn) → now ≡ old → AreApart old now
none_new old now same h c = inl (subst (λ (l : List HadTurn). Contains l h) same c)

one_new : (old : List HadTurn) (had : HadTurn) → IsCollisionFree had.met → AreApart old (old ++ had ∷ [])
one_new old had apart h c = ⊎_elim (λ earlier. inl earlier)
    (λ new. inr (⊎_elim (λ same. subst (λ (x : HadTurn). IsCollisionFree x.met) same apart) (λ none. absurd (in_nothing h none)) (in_cons had [] h new)))
    (Contains-append_cases old (had ∷ []) h c)

both_apart : (old mid now : List HadTurn) → AreApart old mid → AreApart mid now → AreApart old now
both_apart old mid now first second h c = ⊎_elim (λ within. first h within) (λ apart. inr apart) (second h c)

module _ (r : ℕ) where
  -- past its refresh a session has no turn
  acts_told : {p : Participant} {c next : Configuration} → (c.session.stage ≡ Refreshing → ⊥) → Acts hss_judged r p c next → next.ghost_state.turns ≡ c.ghost_state.turns
  acts_told past (asks node question given next heard t cache fate hears goes) = refl
  acts_told past (asks_in_vain node question given next heard t cache fate hears lacking) = refl
  acts_told past (turns view reply applied after saving t turned in_view takes replies is_turn) = absurd (past (turn_refreshes takes))
  acts_told past (is_refused view end after saving t in_view refusal takes) = refl
  acts_told past (settles after t is) = refl

  step_told : {name : List ℕ} {c next : Configuration} → IsPast c.session → Steps hss_judged r name c next → next.ghost_state.turns ≡ c.ghost_state.turns
  step_told past (acts p taken cache next is_p takes act) = acts_told (λ e. past.0 (sym (takes_all_same takes).0 ∙ e)) act
  step_told past (lacks_memory p taken t cache is_p takes lacking) = refl

  pub past_told : {name : List ℕ} {c next : Configuration} → RunsOut hss_judged r name c next → IsPast c.session → next.ghost_state.turns ≡ c.ghost_state.turns
  past_told (runs_over said over) past = refl
  past_told (runs_more step rest) past = past_told rest (step_past r past step) ∙ step_told past step

  acts_apart : {p : Participant} {c next : Configuration} → IsCollisionFree (named_bytes c.world) → Acts hss_judged r p c next → AreApart c.ghost_state.turns next.ghost_state.turns
  acts_apart apart (asks node question given next heard t cache fate hears goes) = none_new _ _ refl
  acts_apart apart (asks_in_vain node question given next heard t cache fate hears lacking) = none_new _ _ refl
  acts_apart {c = c} apart (turns view reply applied after saving t turned in_view takes replies is_turn) = one_new c.ghost_state.turns _ apart
  acts_apart apart (is_refused view end after saving t in_view refusal takes) = none_new _ _ refl
  acts_apart apart (settles after t is) = none_new _ _ refl

-- ---- in it

module _ (r : ℕ) (w : Played) (world : IsCalmWorld r w) (backed : IsBackedWorld w.0 w.1) (apart : IsCollisionFree (named_bytes w.0)) (no_key : (p : Participant) → Contains w.0.participants p → Contains w.0.met (own_hss_key p.agent).0 → ⊥) (have : HaveHeads w) where
  pub met_apart : IsCollisionFree w.0.met
  met_apart a b in_a in_b same = apart a b (Contains-append_left w.0.met _ a in_a) (Contains-append_left w.0.met _ b in_b) same

  clear : (q : Participant) → Contains w.0.participants q → (b : List ℕ) → Contains w.0.met b → name b ≡ head_key_of (own_hss_key q.agent) → ⊥
  clear q among b in_met named =
      let same = block_is_key w world.keeps apart b q in_met among named in
      no_key q among (subst (Contains w.0.met) same in_met)

  pub record IsInCall (c : Configuration) : Type 0 where
    pub well : GoesWell r c
    pub ring : IsRinged r w world backed met_apart have c.world
    pub kinds : AllKinds r w world backed met_apart have c.world
    pub held : HeldStays w.0 c.world
    pub met_same : (b : List ℕ) → Contains c.world.met b → Contains w.0.met b
    pub keys_same : map (λ (p : Participant). (own_hss_key p.agent).0) c.world.participants ≡ map (λ (p : Participant). (own_hss_key p.agent).0) w.0.participants
    pub acked : c.ghost_state.acked ≡ w.1.acked
    pub configuration : ConfigurationSo c
    pub at : c.session.stage ≡ Refreshing
    pub missed : c.session.missed ≡ None
    pub fetched : IsFetched r w world backed met_apart have c.session

  -- no names of what is met and whose keys there are collide
  pub names_of : (v : World) → ((b : List ℕ) → Contains v.met b → Contains w.0.met b) → map (λ (p : Participant). (own_hss_key p.agent).0) v.participants ≡ map (λ (p : Participant). (own_hss_key p.agent).0) w.0.participants → IsCollisionFree (named_bytes v)
  names_of v met keys a b in_a in_b same = apart a b (more a in_a) (more b in_b) same
    where
      more : (x : List ℕ) → Contains (named_bytes v) x → Contains (named_bytes w.0) x
      more x c = ⊎_elim (λ m. Contains-append_left w.0.met _ x (met x m)) (λ k. Contains-append_right w.0.met _ x (subst (λ l. Contains l x) keys k)) (Contains-append_cases v.met (map (λ (p : Participant). (own_hss_key p.agent).0) v.participants) x c)

  -- who stands in such a world has a key of this one
  same_owner : (v : World) → map (λ (p : Participant). (own_hss_key p.agent).0) v.participants ≡ map (λ (p : Participant). (own_hss_key p.agent).0) w.0.participants → (p : Participant) → Contains v.participants p → (q : Participant) × Contains w.0.participants q × (own_hss_key q.agent ≡ own_hss_key p.agent)
  same_owner v keys p among =
      let found = from_map (λ (x : Participant). (own_hss_key x.agent).0) w.0.participants (own_hss_key p.agent).0 (subst (λ l. Contains l (own_hss_key p.agent).0) keys (into_map (λ (x : Participant). (own_hss_key x.agent).0) v.participants p among)) in
      (found.0, found.1, λ i. record { 0 = sym found.2 i })

  no_key_of : (v : World) → ((b : List ℕ) → Contains v.met b → Contains w.0.met b) → map (λ (p : Participant). (own_hss_key p.agent).0) v.participants ≡ map (λ (p : Participant). (own_hss_key p.agent).0) w.0.participants → (p : Participant) → Contains v.participants p → Contains v.met (own_hss_key p.agent).0 → ⊥
  no_key_of v met keys p among c = let q = same_owner v keys p among in no_key q.0 q.1 (subst (λ (o : PubKey). Contains w.0.met o.0) (sym q.2) (met _ c))

  members_of : (v : World) → map (λ (p : Participant). (own_hss_key p.agent).0) v.participants ≡ map (λ (p : Participant). (own_hss_key p.agent).0) w.0.participants → (view : View) → AreParticipants v view → (owner : PubKey) → Contains view.members owner → (q : Participant) × Contains w.0.participants q × (own_hss_key q.agent ≡ owner)
  members_of v keys view are owner member =
      let p = from_map (λ (x : Participant). own_hss_key x.agent) v.participants owner (each (Contains (map (λ (x : Participant). own_hss_key x.agent) v.participants)) view.members owner are member) in
      let q = same_owner v keys p.0 p.1 in
      (q.0, q.1, q.2 ∙ sym p.2)

  -- what a session is given of its agent when it begins
  pub floor_of : (v : World) (st : GhostState) → Invariant (v, st) → ((b : List ℕ) → Contains v.met b → Contains w.0.met b) → map (λ (p : Participant). (own_hss_key p.agent).0) v.participants ≡ map (λ (p : Participant). (own_hss_key p.agent).0) w.0.participants → st.acked ≡ w.1.acked
      → IsBackedWorld v st → (p : Participant) (name : List ℕ) → participant v name ≡ Some p → (view : View) → p.agent.view ≡ Some view → (owner : PubKey) → Contains view.members owner → (t : Stamp) → stamp_at p.agent.floor (head_key_of owner) ≡ Some t
      → IsBack w.1.acked p.agent.pending (head_key_of owner) t.seq t.name
  floor_of v st keeps met keys acked back p name is_p view in_view owner member t at =
      subst (λ a. IsBack a p.agent.pending (head_key_of owner) t.seq t.name) acked
      (back_of st.acked p.agent.pending (head_key_of owner) owner t refl (floor_there (v, st) keeps (names_of v met keys) (no_key_of v met keys) back p name is_p view in_view owner member t at))

  -- ---- steps

  heard_here : (c : Configuration) → ((b : List ℕ) → Contains c.world.met b → Contains w.0.met b) → c.ghost_state.acked ≡ w.1.acked → (hs : List Heard) → AllByRecursion (IsHeardPut c.world.met c.ghost_state.acked) hs → AllByRecursion (IsHeardPut w.0.met w.1.acked) hs
  heard_here c met acked hs h = more_heard c.world.met w.0.met c.ghost_state.acked w.1.acked met (λ p m. subst (λ l. Contains l p) acked m) hs h

  none_acked : (c : Configuration) (t : Session) → c.session.stage ≡ Refreshing → c.ghost_state.acked ++ acked_by c.session.stage t.stage ≡ c.ghost_state.acked
  none_acked c t at = subst (λ stage. c.ghost_state.acked ++ acked_by stage t.stage ≡ c.ghost_state.acked) (sym at) (append-nil c.ghost_state.acked)

  -- with another cache of its participant, and what is available taken
  module _ (c : Configuration) (h : IsInCall c) (name_by : List ℕ) (named : c.session.by ≡ name_by) (p : Participant) (taken : Session) (cache : Cache) (is_p : participant c.world name_by ≡ Some p) (takes : TakesAll hss_judged r c.session p.cache taken cache) where
    abbrev q : Participant
    q = record p { cache = cache }

    abbrev mid : Configuration
    mid = with_cache hss_judged r c p taken cache

    found : participant c.world c.session.by ≡ Some p
    found = ap (participant c.world) named ∙ is_p

    same : (taken.stage ≡ c.session.stage) × (taken.by ≡ c.session.by)
    same = takes_all_same takes

    pub in_call : IsInCall (with_cache hss_judged r c p taken cache)
    in_call = (let kept = taking_keeps c r p taken cache h.well.keeps h.well.hand found (all_some takes) in record {
      well = record { keeps = kept.0; hand = kept.1; ringed = h.well.ringed };
      ring = kept_ring (ring_of r w world) c.world (with_participant c.world (record p { cache = cache })) (same_rings c.world (with_participant c.world (record p { cache = cache })) refl refl refl refl) h.ring;
      kinds = λ id n at. h.kinds id n at;
      held = λ k kind least m i. h.held k kind least m i;
      met_same = h.met_same;
      keys_same = same_keys c.world h.well.keeps.apart c.session.by p found (record p { cache = cache }) refl refl ∙ h.keys_same;
      acked = h.acked;
      configuration = (cached_backed c.world c.ghost_state name_by p cache is_p h.configuration.0, (subst (StageSo c.world.met c.ghost_state.acked) (sym same.0) h.configuration.1.0, takes_all_heard c.world.met c.ghost_state.acked takes h.configuration.1.1));
      at = same.0 ∙ h.at;
      missed = takes_all_missed r takes ∙ h.missed;
      fetched = takes_all_so r w world backed met_apart have takes h.fetched;
    })

  -- a refresh that is so hasn't failed
  not_failed : (s : Session) → IsFetched r w world backed met_apart have s → ((key : Key) (bytes : List ℕ) → Contains (brought_in s.parts) (BlockOf key (Ok bytes)) → (name bytes ≡ key) × Contains w.0.met bytes)
      → {notes : List Note} {given : Refresh} {miss : Miss} → Refreshes s.standing (brought_in s.parts) notes given (FailsBy miss) → ⊥
  not_failed s f blocks {miss = miss} refreshed =
      never_fails w.1.acked s.standing.pending w.0.met met_apart backed.put_met f.pending s.standing refreshed f.floor (all_brought r w world backed met_apart have s.standing.pending (brought_in s.parts) f.parts blocks) miss refl

  -- ---- an ask

  module _ (c next : Configuration) (h : IsInCall c) (p : Participant) (is_p : participant c.world c.session.by ≡ Some p) (unposted : (key : Key) → Wants hss_judged r c.session (wants_content key) → pending_block key c.session.standing.pending ≡ None)
      (then_well : GoesWell r next) (next_so : ConfigurationSo next) where
    -- what the session goes on with
    asked_so : (node : Peer) (question : Ask) (given : Answer) (v : World) (heard t : Session) (cache : Cache) → FateOf hss_judged c.world node question given v → Hears hss_judged r c.session p.cache node question given heard cache → Fails heard t
        → next ≡ record { world = with_participant v (record p { cache = cache }); ghost_state = ask_told c.ghost_state p.name c.session t; session = t; began = c.began } → heard.stage ≡ c.session.stage → heard.missed ≡ c.session.missed → IsInCall next ⊎ IsPast next.session
    asked_so node question given v heard t cache fate hears goes is stage_same missed_same = by_end t goes is
      where
        kept : IsFetched r w world backed met_apart have heard × IsRinged r w world backed met_apart have v × AllKinds r w world backed met_apart have v × HeldStays w.0 v
        kept = heard_kept r w world backed met_apart have clear h.at h.fetched unposted (λ owner wants. wanted_member r c.session owner wants) (heard_here c h.met_same h.acked c.session.current h.configuration.1.1) c.world v fate h.ring h.kinds h.held
            (heard_here c h.met_same h.acked _ (fate_heard c.world.met c.ghost_state.acked fate h.configuration.0.nodes)) hears

        met_is : next.world.met ≡ c.world.met
        met_is = ap (λ (x : Configuration). x.world.met) is ∙ (fate_same fate).1

        met_next : (b : List ℕ) → Contains next.world.met b → Contains w.0.met b
        met_next b m = h.met_same b (subst (λ l. Contains l b) met_is m)

        keys_next : map (λ (x : Participant). (own_hss_key x.agent).0) next.world.participants ≡ map (λ (x : Participant). (own_hss_key x.agent).0) w.0.participants
        keys_next =
            ap (λ (x : Configuration). map (λ (y : Participant). (own_hss_key y.agent).0) x.world.participants) is
            ∙ ap (λ (ps : List Participant). map (λ (y : Participant). (own_hss_key y.agent).0) (map (λ (o : Participant). cond (bytes_eq o.name p.name) (record p { cache = cache }) o) ps)) (fate_same fate).0
            ∙ same_keys c.world h.well.keeps.apart c.session.by p is_p (record p { cache = cache }) refl refl ∙ h.keys_same

        blocks : (key : Key) (bytes : List ℕ) → Contains (brought_in next.session.parts) (BlockOf key (Ok bytes)) → (name bytes ≡ key) × Contains w.0.met bytes
        blocks key bytes m = let so = (then_well.hand.sound (names_of next.world met_next keys_next)).blocks key bytes m in (so.0, met_next bytes so.1)

        by_end : (u : Session) → Fails heard u → next ≡ record { world = with_participant v (record p { cache = cache }); ghost_state = ask_told c.ghost_state p.name c.session u; session = u; began = c.began } → IsInCall next ⊎ IsPast next.session
        by_end _ (fails notes gives miss xid asked at refreshed asks_it) e = absurd (not_failed heard kept.0 (λ key bytes m. blocks key bytes (subst (λ (x : Configuration). Contains (brought_in x.session.parts) (BlockOf key (Ok bytes))) (sym e) m)) refreshed)
        by_end _ (goes_on none) e = inl (record {
          well = then_well;
          ring = subst (λ (x : Configuration). IsRinged r w world backed met_apart have x.world) (sym e)
              (kept_ring (ring_of r w world) v (with_participant v (record p { cache = cache })) (same_rings v (with_participant v (record p { cache = cache })) refl refl refl refl) kept.1);
          kinds = subst (λ (x : Configuration). AllKinds r w world backed met_apart have x.world) (sym e) (λ id n at. kept.2 id n at);
          held = subst (λ (x : Configuration). HeldStays w.0 x.world) (sym e) (λ k kind least m i. kept.3 k kind least m i);
          met_same = met_next;
          keys_same = keys_next;
          acked = ap (λ (x : Configuration). x.ghost_state.acked) e ∙ none_acked c heard h.at ∙ h.acked;
          configuration = next_so;
          at = ap (λ (x : Configuration). x.session.stage) e ∙ stage_same ∙ h.at;
          missed = ap (λ (x : Configuration). x.session.missed) e ∙ missed_same ∙ h.missed;
          fetched = subst (λ (x : Configuration). IsFetched r w world backed met_apart have x.session) (sym e) kept.0;
        })

  -- what is heard while it refreshes leaves its stage
  heard_same : {s heard : Session} {cache after : Cache} {node : Peer} {question : Ask} {given : Answer} → s.stage ≡ Refreshing → Hears hss_judged r s cache node question given heard after → (heard.stage ≡ s.stage) × (heard.missed ≡ s.missed)
  heard_same at (gets_on want wants next part) = (refl, refl)
  heard_same at (got want brought wants next whole) = (refl, refl)
  heard_same at (puts_on said p posts acks is next part) = (refl, refl)
  heard_same {s} at (puts said p posts acks came is next whole) = absurd (not_refreshing (sym is ∙ at))
    where
      not_refreshing : Publishing said (p ∷ posts) acks ≡ Refreshing → ⊥
      not_refreshing e = cc e

  -- ---- a turn that was refused

  refused_so : (c : Configuration) (h : IsInCall c) (p : Participant) → participant c.world c.session.by ≡ Some p → (view : View) (end : TurnEnd) (after : HssAgent) (saving : Option HssKept) (t : Session) → p.agent.view ≡ Some view → IsRefusal end → TakesHssTurn (turning_of c.world p view) c.session end after saving t
      → (next : Configuration) → next ≡ record c { world = world_after c.world (after_turn p after saving); session = t; began = record c.began { knew = known_of c.ghost_state p.name } } → GoesWell r next → ConfigurationSo next → IsInCall next ⊎ IsPast next.session
  refused_so c h p is_p view _ _ _ _ in_view refusal (answers notes given xid asked reply applied after saving done asks_it turned) next is then_well so = absurd refusal
  refused_so c h p is_p view _ _ _ _ in_view refusal (gives_up notes given xid asked end after saving done asks_it turned refused many) next is then_well so = inr (subst (λ (x : Configuration). IsPast x.session) (sym is) ((λ e. cc e), refl))
  refused_so c h p is_p view _ _ _ _ in_view refusal (begins_again notes given xid asked end after saving done asks_it turned refused few) next is then_well so = inl (record {
    well = then_well;
    ring = subst (λ (x : Configuration). IsRinged r w world backed met_apart have x.world) (sym is)
        (kept_ring (ring_of r w world) c.world (world_after c.world (after_turn p after saving)) (same_rings c.world (world_after c.world (after_turn p after saving)) refl refl refl refl) h.ring);
    kinds = subst (λ (x : Configuration). AllKinds r w world backed met_apart have x.world) (sym is) (λ id n at. h.kinds id n at);
    held = subst (λ (x : Configuration). HeldStays w.0 x.world) (sym is) (λ k kind least m i. h.held k kind least m i);
    met_same = subst (λ (x : Configuration). (b : List ℕ) → Contains x.world.met b → Contains w.0.met b) (sym is) met_then;
    keys_same = ap (λ (x : Configuration). map (λ (y : Participant). (own_hss_key y.agent).0) x.world.participants) is ∙ same_keys c.world h.well.keeps.apart c.session.by p is_p (after_turn p after saving) refl owned_same ∙ h.keys_same;
    acked = ap (λ (x : Configuration). x.ghost_state.acked) is ∙ h.acked;
    configuration = so;
    at = ap (λ (x : Configuration). x.session.stage) is ∙ h.at;
    missed = ap (λ (x : Configuration). x.session.missed) is ∙ h.missed;
    fetched = subst (λ (x : Configuration). IsFetched r w world backed met_apart have x.session) (sym is) (record {
      pending = pending_then;
      asked = tt;
      unposted = λ some. absurd (some refl);
      parts = tt;
      floor = each_from _ view.members (λ owner member t at. subst (λ ps. IsBack w.1.acked ps (head_key_of owner) t.seq t.name) (sym same.0)
          (floor_of c.world c.ghost_state h.well.keeps h.met_same h.keys_same h.acked h.configuration.0 p c.session.by is_p view in_view owner member t (ap (λ f. stamp_at f (head_key_of owner)) (sym same.2) ∙ at)));
      members = members_of c.world h.keys_same view (owned (c.world, c.ghost_state) h.well.keeps (names_of c.world h.met_same h.keys_same) (no_key_of c.world h.met_same h.keys_same) h.configuration.0 p c.session.by is_p view in_view);
      entries = h.fetched.entries;
    });
  })
    where
      turn : TakesHssTurn (turning_of c.world p view) c.session end after saving (anew c.session (begun_again_in hss_signing after view))
      turn = begins_again notes given xid asked end after saving done asks_it turned refused few

      same : (after.pending ≡ p.agent.pending) × (after.signer ≡ p.agent.signer) × (after.floor ≡ p.agent.floor) × (saving ≡ None)
      same = refused_same c.world.now p.agent view (fails_next p.keeper) c.session end after saving (anew c.session (begun_again_in hss_signing after view)) turn refusal

      owned_same : own_hss_key after ≡ own_hss_key p.agent
      owned_same = ap (λ (s : Signer). own_key hss_signing s) same.1

      its : IsBackedIn c.world.met c.ghost_state.acked p (known_of c.ghost_state p.name)
      its = its_backed c.world c.ghost_state c.session.by p is_p h.configuration.0

      pending_then : AllByRecursion (IsMet w.0.met) after.pending
      pending_then = subst (AllByRecursion (IsMet w.0.met)) (sym same.0) (all_weaker (IsMet c.world.met) (IsMet w.0.met) p.agent.pending (λ x m. h.met_same x.bytes m) its.pending)

      met_then : (b : List ℕ) → Contains (met_by c.world.met after.pending) b → Contains w.0.met b
      met_then b m = ⊎_elim (λ old. h.met_same b old)
          (λ new. let found = from_map (λ (o : Post). o.bytes) after.pending b new in subst (Contains w.0.met) (sym found.2) (each (IsMet w.0.met) after.pending found.0 pending_then found.1))
          (from_met c.world.met (map (λ (o : Post). o.bytes) after.pending) b m)

  -- ---- each step

  pub acts_on : (c next : Configuration) → IsInCall c → (p : Participant) → participant c.world c.session.by ≡ Some p → ((key : Key) → Wants hss_judged r c.session (wants_content key) → pending_block key c.session.standing.pending ≡ None) → GoesWell r next → ConfigurationSo next → Acts hss_judged r p c next → IsInCall next ⊎ IsPast next.session
  acts_on c _ h p is_p unposted then_well so (asks node question given v heard t cache fate hears goes) = let same = heard_same h.at hears in asked_so c _ h p is_p unposted then_well so node question given v heard t cache fate hears goes refl same.0 same.1
  acts_on c _ h p is_p unposted then_well so (asks_in_vain node question given v heard t cache fate hears lacking) = inr (lacks_past lacking)
  acts_on c _ h p is_p unposted then_well so (turns view reply applied after saving t turned in_view takes replies is_turn) = inr (answered_past takes h.missed)
  acts_on c _ h p is_p unposted then_well so (is_refused view end after saving t in_view refusal takes) = refused_so c h p is_p view end after saving t in_view refusal takes _ refl then_well so
  acts_on c _ h p is_p unposted then_well so (settles after t is) = inr (settles_past h.missed is)

  step_on : (name_by : List ℕ) {c next : Configuration} → c.session.by ≡ name_by → Steps hss_judged r name_by c next → IsInCall c → (IsInCall next × (next.session.by ≡ name_by)) ⊎ IsPast next.session
  step_on name_by {c} {next} named (acts p taken cache _ is_p takes act) h =
      ⊎_elim (λ on. inl (on, led.same.call.0 ∙ named)) (λ past. inr past)
      (acts_on mid next in_it (record p { cache = cache }) found (not_available r w world backed met_apart have takes in_it.fetched) then_well next_so act)
    where
      mid : Configuration
      mid = with_cache hss_judged r c p taken cache

      in_it : IsInCall mid
      in_it = in_call c h name_by named p taken cache is_p takes

      led : Leads c next r
      led = step_leads r name_by c next named h.well.keeps h.well.hand h.well.ringed (acts p taken cache next is_p takes act)

      then_well : GoesWell r next
      then_well = record { keeps = led.leaves.0; hand = led.leaves.1; ringed = led.same.replicas ∙ h.well.ringed }

      now_apart : IsCollisionFree (named_bytes c.world)
      now_apart = names_of c.world h.met_same h.keys_same

      next_so : ConfigurationSo next
      next_so = step_so r named (λ a b in_a in_b e. now_apart a b (Contains-append_left c.world.met _ a in_a) (Contains-append_left c.world.met _ b in_b) e) (λ at. record { well = h.well; apart = now_apart }) (acts p taken cache next is_p takes act) h.configuration

      found : participant mid.world taken.by ≡ Some (record p { cache = cache })
      found = ap (participant mid.world) ((takes_all_same takes).1 ∙ named) ∙ found_placed c.world name_by p (record p { cache = cache }) c.world.met is_p refl (λ x m. m) (λ x m. m)
  step_on name_by named (lacks_memory p taken t cache is_p takes lacking) h = inr (lacks_past lacking)

  pub runs_on : {name_by : List ℕ} {c next : Configuration} → RunsOut hss_judged r name_by c next → c.session.by ≡ name_by → IsInCall c → next.session.missed ≡ None
  runs_on (runs_over said over) named h = absurd (not_over (sym h.at ∙ over))
    where
      not_over : Refreshing ≡ Over said → ⊥
      not_over e = cc e
  runs_on {name_by} (runs_more step rest) named h = ⊎_elim (λ on. runs_on rest on.1 on.0) (λ past. runs_past r rest past) (step_on name_by named step h)

  -- so before each turn of it no names of what was met collide
  step_apart : {name_by : List ℕ} {c next : Configuration} → c.session.by ≡ name_by → IsInCall c → Steps hss_judged r name_by c next → AreApart c.ghost_state.turns next.ghost_state.turns
  step_apart {name_by} {c} {next} named h (acts p taken cache _ is_p takes act) =
      let mid = in_call c h name_by named p taken cache is_p takes in
      acts_apart r (names_of (with_cache hss_judged r c p taken cache).world mid.met_same mid.keys_same) act
  step_apart named h (lacks_memory p taken t cache is_p takes lacking) = none_new _ _ refl

  pub runs_apart : {name_by : List ℕ} {c next : Configuration} → RunsOut hss_judged r name_by c next → c.session.by ≡ name_by → IsInCall c → AreApart c.ghost_state.turns next.ghost_state.turns
  runs_apart (runs_over said over) named h = none_new _ _ refl
  runs_apart {name_by} {c} {next} (runs_more {between = between} step rest) named h =
      both_apart c.ghost_state.turns between.ghost_state.turns next.ghost_state.turns (step_apart named h step)
      (⊎_elim (λ on. runs_apart rest on.1 on.0) (λ past. none_new _ _ (past_told r rest past)) (step_on name_by named step h))

  -- ---- it begins

  pub begins_on : (keeps : Invariant w) (s : Sending) (t : Session) (c : Configuration) → GoesWell r c → participant w.0 s.by.name ≡ Some s.by → s.by.agent.view ≡ Some s.view → BeginsWith w.0 s t
      → c ≡ record { world = w.0; ghost_state = having_begun w.1; session = t; began = beginning w.1 s.by.name } → IsInCall c ⊎ IsPast c.session
  begins_on keeps s _ c well is_by in_view (begins_alone given by) is = inr (subst (λ (x : Configuration). IsPast x.session) (sym is) ((λ e. cc e), refl))
  begins_on keeps s _ c well is_by in_view (begins_refreshing xid asked asks_it) is = inl (record {
    well = well;
    ring = subst (λ (x : Configuration). IsRinged r w world backed met_apart have x.world) (sym is) world.state.still;
    kinds = subst (λ (x : Configuration). AllKinds r w world backed met_apart have x.world) (sym is) world.state.good.orderly;
    held = subst (λ (x : Configuration). HeldStays w.0 x.world) (sym is) (λ k kind least m i. i);
    met_same = subst (λ (x : Configuration). (b : List ℕ) → Contains x.world.met b → Contains w.0.met b) (sym is) (λ b m. m);
    keys_same = ap (λ (x : Configuration). map (λ (y : Participant). (own_hss_key y.agent).0) x.world.participants) is;
    acked = ap (λ (x : Configuration). x.ghost_state.acked) is;
    configuration = subst ConfigurationSo (sym is) (record { nodes = backed.nodes; agents = backed.agents; sessions = backed.sessions; put_met = backed.put_met; received = backed.received }, (tt, tt));
    at = ap (λ (x : Configuration). x.session.stage) is;
    missed = ap (λ (x : Configuration). x.session.missed) is;
    fetched = subst (λ (x : Configuration). IsFetched r w world backed met_apart have x.session) (sym is) (record {
      pending = (its_backed w.0 w.1 s.by.name s.by is_by backed).pending;
      asked = tt;
      unposted = λ some. absurd (some refl);
      parts = tt;
      floor = each_from _ s.view.members (λ owner member t at. floor_of w.0 w.1 keeps (λ b m. m) refl refl backed s.by s.by.name is_by s.view in_view owner member t at);
      members = members_of w.0 refl s.view (owned w keeps apart no_key backed s.by s.by.name is_by s.view in_view);
      entries = entries_are (ring_of r w world) w.0 world.state.still;
    });
  })
