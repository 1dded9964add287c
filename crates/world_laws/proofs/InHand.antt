-- Steps of a session in hand that are no get and no turn leave such a world and such a session.
use Rattle.std.proofs.Common.{◌≡◌, ◌≢◌, ◌⊎◌, inl, inr, ⊎_elim, ℕ, Bool, true, false, List, [], ◌∷◌, ◌++◌, map, filter, Option, Some, None, refl, sym, ap, ◌∙◌, subst, arith, length, length-append, Contains, not}
use Rattle.std.specs.List.{AllByRecursion, list_any}
use Rattle.ring_model.proofs.Lists.{all_weaker}
use Rattle.ivy_base.specs.declared.key.Key.{Key}
use Rattle.ivy_base.specs.Naming.{IsCollisionFree}
use Rattle.dhash_model.specs.Signed.{hss_judged}
use Rattle.log_model.proofs.Lists.{each, each_append, from_filter}
use Rattle.log_model.specs.Record.{Record}
use Rattle.turn_model.specs.Basis.{Holding}
use Rattle.dht_ids.specs.Asked.{IsForData, told}
use Rattle.dht_ids.specs.declared.ask.Answer.{Answer}
use Rattle.dht_ids.specs.declared.ask.Ask.{Ask}
use Rattle.dht_ids.specs.declared.ask.Ask.TheVariants as ask
use Rattle.dht_ids.specs.declared.ask.Heard.{Heard}
use Rattle.dht_ids.specs.declared.peer.Peer.{Peer}
use Rattle.dht_ids.specs.declared.post.Ack.{Ack}
use Rattle.dht_ids.specs.declared.post.Post.{Post}
use Rattle.dhash_model.specs.declared.miss.Miss.{Miss}
use Rattle.agent_model.specs.Others.{is_of}
use Rattle.session_model.specs.Executions.{LacksMemory, Settles}
use Rattle.session_model.specs.Executions.LacksMemory.{lacks}
use Rattle.session_model.specs.Executions.Settles.{settles as settles_all}
use Rattle.session_model.specs.Asking.{AsksNext}
use Rattle.session_model.specs.Brought.{WantedOfRing}
use Rattle.session_model.specs.Refreshing.{Needs, Note}
use Rattle.session_model.specs.Replies.{said_no_memory}
use Rattle.session_model.specs.Sessions.{Cache, Hears, IsGet, Over, Publishing, Refreshing, Said, Session, Stage, Wants, after_put, held_back, wanted_key}
use Rattle.session_model.specs.Sessions.Hears.{gets_on, got, puts_on, puts}
use Rattle.world_model.specs.Agents.{HssAgent}
use Rattle.world_model.specs.Fates.{FateOf}
use Rattle.world_model.specs.World.{World, Participant, named_bytes, participant, peer_of, with_participant}
use Rattle.world_model.specs.GhostState.{Began, GhostState}
use Rattle.world_model.specs.Steps.{Configuration, acked_by, ask_told}
use Rattle.world_laws.specs.Causes.{HasCause, said_at}
use Rattle.world_laws.specs.Causes.HasCause.{alone, missed, turned, no_memory}
use Rattle.world_laws.specs.Invariant.{AreApart, GoesOn, HasSaid, IsAnswerIn, IsAtStage, IsInHand, IsMetPost, IsRefreshing, IsSoundSession, Invariant, KeepsUp}
use Rattle.world_laws.specs.Invariant.KeepsUp.{still, grown, dropped}
use Rattle.world_laws.specs.Frames.{Change, IsChangeWithinFrame, changed, unchanged}
use Rattle.world_laws.specs.Laws.{GetsGoOnKeep, LackingKeeps, PutsKeep, SettlingKeeps, VainAsksKeep}
use Rattle.session_laws.proofs.AskedGets.{gets_are_deterministic}
use Rattle.session_laws.proofs.AskedPuts.{puts_are_deterministic}
use Rattle.world_laws.proofs.Bringing.{found_named, some_same}
use Rattle.world_laws.proofs.Frames.{answer_stays, found_placed, goes_on_still, participant_keeps, placed_itself, said_still, same_keys, sound_still}
use Rattle.world_laws.proofs.MoreMet.{more_posts}
use Rattle.world_laws.proofs.NodeFates.{AskLeaves, PutsMet}
use Rattle.world_laws.proofs.Publishing.{HearsPut, ask_keeps, ask_tells, begins, fewer_met, given_then, grows, hears_put, leaves, question_fits, short_filter, still_peers, told_each}

-- ---- a session that has come further

-- with other asks on their way, at another stage, and with other notes
abbrev further : Session → List Heard → Stage → List Note → Option Miss → Session
further s current stage notes missed_by = record s { current = current; stage = stage; notes = notes; missed = missed_by }

keeps_up_further : (s : Session) (of : Holding) (a : HssAgent) (known : List Record) (current : List Heard) (stage : Stage) (notes : List Note) (missed_by : Option Miss) → KeepsUp s of a known → KeepsUp (further s current stage notes missed_by) of a known
keeps_up_further s of a known current stage notes missed_by (still load held floor) = still load held floor
keeps_up_further s of a known current stage notes missed_by (grown load all far) = grown load all far
keeps_up_further s of a known current stage notes missed_by (dropped other first load basis) = dropped other first load basis

sound_further : (w : World) (st : GhostState) (s : Session) (b : Began) (current : List Heard) (stage : Stage) (notes : List Note) (missed_by : Option Miss) → IsSoundSession w st s b → IsSoundSession w st (further s current stage notes missed_by) b
sound_further w st s b current stage notes missed_by h = record {
  by = h.by;
  is_by = h.is_by;
  of = h.of;
  knows = h.knows;
  held = h.held;
  edges = h.edges;
  to_load = h.to_load;
  known = h.known;
  floor = h.floor;
  keeps_up = keeps_up_further s h.of h.by.agent _ current stage notes missed_by h.keeps_up;
  anew = h.anew;
  stays_fresh = h.stays_fresh;
  received = h.received;
  blocks = h.blocks;
}

cause_further : (st : GhostState) (n : ℕ) (s : Session) (current : List Heard) (stage : Stage) (said : Said) → HasCause st n s said → HasCause st n (record s { current = current; stage = stage }) said
cause_further st n s current stage _ (alone given by) = alone given by
cause_further st n s current stage _ (missed xid asked given miss asks refreshed is) = missed xid asked given miss asks refreshed is
cause_further st n s current stage _ (turned h xid asked given among of asks refreshed) =
    turned h xid asked given among (record { number_is = of.number_is; by = of.by; message = of.message; entries = of.entries; standing = of.standing; parts = of.parts }) asks refreshed
cause_further st n s current stage _ (no_memory xid asked asks) = no_memory xid asked asks

said_further : (st : GhostState) (n : ℕ) (s : Session) (current : List Heard) (stage : Stage) (o : Option Said) → HasSaid st n s o → HasSaid st n (record s { current = current; stage = stage }) o
said_further st n s current stage None h = tt
said_further st n s current stage (Some said) h = cause_further st n s current stage said h

-- ---- running out of memory

pub lacking_keeps : LackingKeeps
lacking_keeps c r _ hand (lacks notes shown given end xid asked at refreshed asks rest front) = record {
  number = hand.number;
  goes_on = record {
    by = hand.goes_on.by;
    is_by = hand.goes_on.is_by;
    in_view = hand.goes_on.in_view;
    own_key = hand.goes_on.own_key;
    some_entry = hand.goes_on.some_entry;
    entries = hand.goes_on.entries;
    heard = tt;
    pending = hand.goes_on.pending;
    stage = refl;
  };
  said = no_memory xid asked asks;
  sound = λ apart. sound_further c.world c.ghost_state c.session c.began [] (Over (Some (said_no_memory xid))) shown None (hand.sound apart);
}

-- ---- settling

module _ (c : Configuration) (r : ℕ) (p : Participant) (keeps : Invariant (c.world, c.ghost_state)) (hand : IsInHand c r) (is_p : participant c.world c.session.by ≡ Some p) where
  same_by : hand.goes_on.by ≡ p
  same_by = some_same hand.goes_on.by p (sym hand.goes_on.is_by ∙ is_p)

  -- the session's agent, with a change of it within the frame condition
  module _ (d : Change) where
    abbrev pub v : World
    v = with_participant c.world (changed p d)

    found : (q : Participant) → participant c.world c.session.by ≡ Some q → participant v c.session.by ≡ Some (changed q d)
    found q is = subst (λ o. participant v c.session.by ≡ Some (changed o d)) (some_same p q (sym is_p ∙ is)) (found_placed c.world keeps.apart c.session.by p is_p (changed p d) refl)

    pub goes_on_then : GoesOn v r c.session
    goes_on_then = goes_on_still c.world v (λ b h. h) (λ q h. h) r c.session hand.goes_on d (found hand.goes_on.by hand.goes_on.is_by)

    pub sound_then : IsSoundSession c.world c.ghost_state c.session c.began → IsSoundSession v c.ghost_state c.session c.began
    sound_then h = sound_still c.world v c.ghost_state (λ b g. g) c.session c.began h d c.ghost_state.acked (found h.by h.is_by)

  settled_so : (after : HssAgent) (t : Session) → Settles p.agent c.session after t
      → Invariant (with_participant c.world (record p { agent = after }), c.ghost_state) × IsInHand (record c { world = with_participant c.world (record p { agent = after }); session = t }) r
  settled_so _ _ (settles_all said acks at) = (
    participant_keeps (c.world, c.ghost_state) c.session.by p fewer keeps is_p within_frame,
    record {
      number = hand.number;
      goes_on = record {
        by = on.by;
        is_by = on.is_by;
        in_view = on.in_view;
        own_key = on.own_key;
        some_entry = on.some_entry;
        entries = on.entries;
        heard = on.heard;
        pending = on.pending;
        stage = (subst (IsAtStage c.world r c.session) at hand.goes_on.stage).0;
      };
      said = said_further c.ghost_state c.began.number c.session c.session.current (Over said) said (subst (λ (x : Stage). HasSaid c.ghost_state c.began.number c.session (said_at x)) at hand.said);
      sound = λ apart. sound_further (v fewer) c.ghost_state c.session c.began c.session.current (Over said) c.session.notes c.session.missed (sound_then fewer (hand.sound (apart_before apart)));
    },
  )
    where
      dropped_by : Post → Bool
      dropped_by q = not (list_any (λ ack. is_of ack q) acks)

      fewer : Change
      fewer = record (unchanged p) { pending = filter dropped_by p.agent.pending }

      within_frame : IsChangeWithinFrame c.world.met p fewer
      within_frame = record {
        kept = refl;
        pending = λ q among. (from_filter dropped_by p.agent.pending q among).0;
        fewer = short_filter dropped_by p.agent.pending;
        cached = each _ c.world.participants p keeps.met.cached (found_named c.world.participants c.session.by p is_p).0;
      }

      on : GoesOn (v fewer) r c.session
      on = goes_on_then fewer

      apart_before : IsCollisionFree (named_bytes (v fewer)) → IsCollisionFree (named_bytes c.world)
      apart_before apart = subst (λ keys. IsCollisionFree (c.world.met ++ keys)) (same_keys c.world keeps.apart c.session.by p is_p (changed p fewer) refl refl) apart

pub settling_keeps : SettlingKeeps
settling_keeps c r p after t keeps hand is_p is = settled_so c r p keeps hand is_p after t is

-- ---- asks by which nothing is brought

module _ (c : Configuration) (r : ℕ) (p : Participant) (keeps : Invariant (c.world, c.ghost_state)) (hand : IsInHand c r) (ringed : c.world.replicas ≡ Some r) (is_p : participant c.world c.session.by ≡ Some p)
    (node : Peer) (question : Ask) (answer : Answer) (next : World) (heard : Session) (cache : Cache) (fate : FateOf hss_judged c.world node question answer next) (fits : IsForData question × PutsMet c.world.met question) where
  abbrev w : World
  w = c.world

  abbrev s : Session
  s = c.session

  left : AskLeaves r w next
  left = leaves w c.ghost_state r keeps ringed next node question answer fits.0 fits.1 fate

  more : (b : List ℕ) → Contains w.met b → Contains next.met b
  more = grows w c.ghost_state r keeps ringed next node question answer fits.0 fits.1 fate

  peers_then : (q : Peer) → Contains (map peer_of w.nodes) q → Contains (map peer_of next.nodes) q
  peers_then = still_peers w c.ghost_state r keeps ringed next node question answer fits.0 fits.1 fate

  heard_then : AllByRecursion (λ a. IsAnswerIn next a.got) (s.current ++ told node question answer)
  heard_then = each_append (λ (a : Heard). IsAnswerIn next a.got) s.current (told node question answer) (all_weaker _ _ s.current (λ a g. answer_stays w next more peers_then a.got g) hand.goes_on.heard)
      (told_each (IsAnswerIn next) node question answer (given_then w c.ghost_state r keeps ringed next node question answer fits.0 fits.1 fate))

  goes_with : (current : List Heard) (stage : Stage) → AllByRecursion (λ a. IsAnswerIn next a.got) current → IsAtStage next r (record s { current = current; stage = stage }) stage → GoesOn next r (record s { current = current; stage = stage })
  goes_with current stage answers_in at_stage = record {
    by = hand.goes_on.by;
    is_by = ap (λ (v : World). participant v s.by) left.rest ∙ hand.goes_on.is_by;
    in_view = hand.goes_on.in_view;
    own_key = hand.goes_on.own_key;
    some_entry = hand.goes_on.some_entry;
    entries = all_weaker _ _ s.entries peers_then hand.goes_on.entries;
    heard = answers_in;
    pending = more_posts w.met next.met more s.standing.pending hand.goes_on.pending;
    stage = at_stage;
  }

  abbrev acked_then : List Post
  acked_then = c.ghost_state.acked ++ acked_by s.stage heard.stage

  -- the session as it is then, with what it says
  hand_with : (current : List Heard) (stage : Stage) → heard ≡ record s { current = current; stage = stage } → said_at stage ≡ said_at s.stage → AllByRecursion (λ a. IsAnswerIn next a.got) current
      → IsAtStage next r (record s { current = current; stage = stage }) stage → IsInHand (record { world = next; ghost_state = record c.ghost_state { acked = acked_then }; session = heard; began = c.began }) r
  hand_with current stage is same_said answers_in at_stage =
      subst (λ (t : Session). IsInHand (record { world = next; ghost_state = record c.ghost_state { acked = acked_then }; session = t; began = c.began }) r) (sym is) (record {
        number = hand.number;
        goes_on = goes_with current stage answers_in at_stage;
        said = said_further (record c.ghost_state { acked = acked_then }) c.began.number s current stage (said_at stage)
            (subst (HasSaid (record c.ghost_state { acked = acked_then }) c.began.number s) (sym same_said) (said_still c.ghost_state acked_then c.began.number s (said_at s.stage) hand.said));
        sound = λ apart. sound_further next (record c.ghost_state { acked = acked_then }) s c.began current stage s.notes s.missed
            (sound_next (hand.sound (subst (λ (v : World). IsCollisionFree (named_bytes v)) left.rest apart)));
      })
    where
      sound_next : IsSoundSession w c.ghost_state s c.began → IsSoundSession next (record c.ghost_state { acked = acked_then }) s c.began
      sound_next g = sound_still w next c.ghost_state more s c.began g (unchanged g.by) acked_then (ap (λ (v : World). participant v s.by) left.rest ∙ g.is_by)

  same_world : cache ≡ p.cache → with_participant next (record p { cache = cache }) ≡ next
  same_world same_cache =
      ap (λ x. with_participant next (record p { cache = x })) same_cache
      ∙ placed_itself next (subst (λ (v : World). AreApart (map (λ q. q.name) v.participants)) (sym left.rest) keeps.apart) s.by p (ap (λ (v : World). participant v s.by) left.rest ∙ is_p)

  same_ghost_state : heard.parts ≡ s.parts → ask_told c.ghost_state p.name s heard ≡ record c.ghost_state { acked = acked_then }
  same_ghost_state same_parts = ask_tells c.ghost_state p.name s heard (subst AreApart (sym keeps.fits.participants) keeps.apart) same_parts

  asked_so : cache ≡ p.cache → heard.parts ≡ s.parts → IsInHand (record { world = next; ghost_state = record c.ghost_state { acked = acked_then }; session = heard; began = c.began }) r
      → Invariant (with_participant next (record p { cache = cache }), ask_told c.ghost_state p.name s heard)
      × IsInHand (record { world = with_participant next (record p { cache = cache }); ghost_state = ask_told c.ghost_state p.name s heard; session = heard; began = c.began }) r × ((ask_told c.ghost_state p.name s heard).turns ≡ c.ghost_state.turns)
  asked_so same_cache same_parts in_hand = (
    subst (λ (v : World). Invariant (v, ask_told c.ghost_state p.name s heard)) (sym (same_world same_cache))
        (subst (λ (u : GhostState). Invariant (next, u)) (sym (same_ghost_state same_parts)) (ask_keeps w c.ghost_state r keeps ringed next node question answer fits.0 fits.1 fate acked_then)),
    subst (λ (v : World). IsInHand (record { world = v; ghost_state = ask_told c.ghost_state p.name s heard; session = heard; began = c.began }) r) (sym (same_world same_cache))
        (subst (λ (u : GhostState). IsInHand (record { world = next; ghost_state = u; session = heard; began = c.began }) r) (sym (same_ghost_state same_parts)) in_hand),
    refl,
  )

-- ---- puts

said_after : (said : Option Said) (q : Post) (posts : List Post) (acks : List Ack) (came : Bool) → said_at (after_put said q posts acks came) ≡ said
said_after said q posts acks true = refl
said_after said q posts acks false = refl

module _ (c : Configuration) (r : ℕ) (p : Participant) (keeps : Invariant (c.world, c.ghost_state)) (hand : IsInHand c r) (ringed : c.world.replicas ≡ Some r) (is_p : participant c.world c.session.by ≡ Some p)
    (node : Peer) (question : Ask) (answer : Answer) (next : World) (heard : Session) (cache : Cache) (fate : FateOf hss_judged c.world node question answer next) (h : HearsPut r c.session p.cache node question answer heard cache) where
  puts_now : IsAtStage c.world r c.session (Publishing h.said (h.post ∷ h.posts) h.acks)
  puts_now = subst (IsAtStage c.world r c.session) h.at hand.goes_on.stage

  put_fits : IsForData question × PutsMet c.world.met question
  put_fits = question_fits c.world.met h.post puts_now.1.0.0 question h.next.is_of

  posts_then : AllByRecursion (IsMetPost next.met) (h.post ∷ h.posts)
  posts_then = more_posts c.world.met next.met (more c r p keeps hand ringed is_p node question answer next heard cache fate put_fits) (h.post ∷ h.posts) puts_now.1

  after_a_put : (t : Session) → t.entries ≢ [] → t.current ≡ [] → (came : Bool) → IsAtStage next r t (after_put h.said h.post h.posts h.acks came)
  after_a_put t some fresh true = (puts_now.0, posts_then.1, begins r t some fresh h.posts)
  after_a_put t some fresh false = (puts_now.0, fewer_met next.met h.post h.posts posts_then.1, begins r t some fresh (held_back h.post h.posts))

  put_so : Invariant (with_participant next (record p { cache = cache }), ask_told c.ghost_state p.name c.session heard)
      × IsInHand (record { world = with_participant next (record p { cache = cache }); ghost_state = ask_told c.ghost_state p.name c.session heard; session = heard; began = c.began }) r
      × ((ask_told c.ghost_state p.name c.session heard).turns ≡ c.ghost_state.turns)
  put_so = asked_so c r p keeps hand ringed is_p node question answer next heard cache fate put_fits h.same_cache
      (⊎_elim (λ one. ap (λ (t : Session). t.parts) one.1) (λ one. ap (λ (t : Session). t.parts) one.1) h.then_is)
      (⊎_elim
      (λ one. hand_with c r p keeps hand ringed is_p node question answer next heard cache fate put_fits (c.session.current ++ told node question answer) c.session.stage one.1 refl
      (heard_then c r p keeps hand ringed is_p node question answer next heard cache fate put_fits)
      (subst (IsAtStage next r (record c.session { current = c.session.current ++ told node question answer })) (sym h.at) (
        puts_now.0,
        posts_then,
        ⊎_elim (λ whole. absurd (one.0 whole)) (λ begun. begun) ((puts_are_deterministic hss_judged r c.session h.post).2 c.session.current node question answer h.next),
      )))
      (λ one. hand_with c r p keeps hand ringed is_p node question answer next heard cache fate put_fits [] (after_put h.said h.post h.posts h.acks one.0) one.1
      (said_after h.said h.post h.posts h.acks one.0 ∙ sym (ap said_at h.at)) tt
      (after_a_put (record c.session { current = []; stage = after_put h.said h.post h.posts h.acks one.0 }) hand.goes_on.some_entry refl one.0))
      h.then_is)

pub puts_keep : PutsKeep
puts_keep c r p node question answer next heard cache keeps hand ringed is_p other fate hears =
    put_so c r p keeps hand ringed is_p node question answer next heard cache fate (hears_put r c.session p.cache node question answer heard cache other hears)

-- ---- gets that go on

route_or_get : (met : List (List ℕ)) (question : Ask) (key : Key) → (question ≡ ask.Route key) ⊎ (question ≡ ask.Get key) → IsForData question × PutsMet met question
route_or_get met question key (inl e) = subst (λ q. IsForData q × PutsMet met q) (sym e) (tt, tt)
route_or_get met question key (inr e) = subst (λ q. IsForData q × PutsMet met q) (sym e) (tt, tt)

record HearsGet (r : ℕ) (s : Session) (cache : Cache) (node : Peer) (question : Ask) (answer : Answer) (heard : Session) (after : Cache) : Type 0 where
  same_cache : after ≡ cache
  want : WantedOfRing
  wants : Wants hss_judged r s want
  next : AsksNext (wanted_key want) (ask.Get (wanted_key want)) (IsGet hss_judged r s.entries want) s.current node question
  part : IsGet hss_judged r s.entries want (s.current ++ told node question answer) → ⊥
  is : heard ≡ record s { current = s.current ++ told node question answer }

not_longer : {X : Type 0} (xs : List X) (x : X) → xs ++ x ∷ [] ≡ xs → ⊥
not_longer xs x e = omega (arith, ap length e, length-append xs (x ∷ []))

not_both : (s : Session) (said : Option Said) (posts : List Post) (acks : List Ack) → s.stage ≡ Refreshing → s.stage ≡ Publishing said posts acks → ⊥
not_both s said posts acks e f = cc (sym e ∙ f)

hears_get : (r : ℕ) (s : Session) (cache : Cache) (node : Peer) (question : Ask) (answer : Answer) (heard : Session) (after : Cache) → s.stage ≡ Refreshing → heard.parts ≡ s.parts → Hears hss_judged r s cache node question answer heard after
    → HearsGet r s cache node question answer heard after
hears_get r s cache node question answer _ _ at same (gets_on want wants next part) = record { same_cache = refl; want = want; wants = wants; next = next; part = part; is = refl }
hears_get r s cache node question answer _ _ at same (got want brought wants next whole) = absurd (not_longer s.parts _ same)
hears_get r s cache node question answer _ _ at same (puts_on said q posts acks stage next part) = absurd (not_both s said (q ∷ posts) acks at stage)
hears_get r s cache node question answer _ _ at same (puts said q posts acks came stage next whole) = absurd (not_both s said (q ∷ posts) acks at stage)

module _ (c : Configuration) (r : ℕ) (p : Participant) (keeps : Invariant (c.world, c.ghost_state)) (hand : IsInHand c r) (ringed : c.world.replicas ≡ Some r) (is_p : participant c.world c.session.by ≡ Some p)
    (node : Peer) (question : Ask) (answer : Answer) (next : World) (heard : Session) (cache : Cache) (fate : FateOf hss_judged c.world node question answer next) (at : c.session.stage ≡ Refreshing)
    (h : HearsGet r c.session p.cache node question answer heard cache) where
  get_fits : IsForData question × PutsMet c.world.met question
  get_fits = route_or_get c.world.met question (wanted_key h.want) h.next.is_of

  refreshing : IsRefreshing r c.session
  refreshing = subst (IsAtStage c.world r c.session) at hand.goes_on.stage

  refreshing_then : IsRefreshing r (record c.session { current = c.session.current ++ told node question answer })
  refreshing_then = record {
    xid = refreshing.xid;
    asked = refreshing.asked;
    asks = refreshing.asks;
    notes = h.wants.1;
    given = h.wants.2;
    end = Needs h.want;
    refreshed = h.wants.3;
    goes_on = ⊎_elim (λ whole. absurd (h.part whole)) (λ begun. begun) ((gets_are_deterministic hss_judged r c.session.entries h.want).2 c.session.current node question answer h.next);
  }

  get_so : Invariant (with_participant next (record p { cache = cache }), ask_told c.ghost_state p.name c.session heard)
      × IsInHand (record { world = with_participant next (record p { cache = cache }); ghost_state = ask_told c.ghost_state p.name c.session heard; session = heard; began = c.began }) r
      × ((ask_told c.ghost_state p.name c.session heard).turns ≡ c.ghost_state.turns)
  get_so = asked_so c r p keeps hand ringed is_p node question answer next heard cache fate get_fits h.same_cache (ap (λ (t : Session). t.parts) h.is)
      (hand_with c r p keeps hand ringed is_p node question answer next heard cache fate get_fits (c.session.current ++ told node question answer) c.session.stage h.is refl
      (heard_then c r p keeps hand ringed is_p node question answer next heard cache fate get_fits)
      (subst (IsAtStage next r (record c.session { current = c.session.current ++ told node question answer })) (sym at) refreshing_then))

pub gets_go_on_keep : GetsGoOnKeep
gets_go_on_keep c r p node question answer next heard cache keeps hand ringed is_p at same fate hears =
    get_so c r p keeps hand ringed is_p node question answer next heard cache fate at (hears_get r c.session p.cache node question answer heard cache at same hears)

-- ---- asks in vain

-- what is asked while a session refreshes
get_fits_of : (met : List (List ℕ)) (r : ℕ) (s : Session) (cache : Cache) (node : Peer) (question : Ask) (answer : Answer) (heard : Session) (after : Cache) → s.stage ≡ Refreshing → Hears hss_judged r s cache node question answer heard after
    → IsForData question × PutsMet met question
get_fits_of met r s cache node question answer _ _ at (gets_on want wants next part) = route_or_get met question (wanted_key want) next.is_of
get_fits_of met r s cache node question answer _ _ at (got want brought wants next whole) = route_or_get met question (wanted_key want) next.is_of
get_fits_of met r s cache node question answer _ _ at (puts_on said q posts acks stage next part) = absurd (not_both s said (q ∷ posts) acks at stage)
get_fits_of met r s cache node question answer _ _ at (puts said q posts acks came stage next whole) = absurd (not_both s said (q ∷ posts) acks at stage)

lacking_refreshes : (s t : Session) → LacksMemory s t → s.stage ≡ Refreshing
lacking_refreshes s _ (lacks notes shown given end xid asked at refreshed asks rest front) = at

pub vain_asks_keep : VainAsksKeep
vain_asks_keep c r p node question answer next heard t cache keeps hand ringed is_p fate hears lacking = (
  ask_keeps c.world c.ghost_state r keeps ringed next node question answer fits.0 fits.1 fate c.ghost_state.acked,
  lacking_keeps (record c { world = next }) r t in_hand lacking,
)
  where
    fits : IsForData question × PutsMet c.world.met question
    fits = get_fits_of c.world.met r c.session p.cache node question answer heard cache (lacking_refreshes c.session t lacking) hears

    left_so : AskLeaves r c.world next
    left_so = leaves c.world c.ghost_state r keeps ringed next node question answer fits.0 fits.1 fate

    more_met : (b : List ℕ) → Contains c.world.met b → Contains next.met b
    more_met = grows c.world c.ghost_state r keeps ringed next node question answer fits.0 fits.1 fate

    peers_so : (q : Peer) → Contains (map peer_of c.world.nodes) q → Contains (map peer_of next.nodes) q
    peers_so = still_peers c.world c.ghost_state r keeps ringed next node question answer fits.0 fits.1 fate

    found_so : (q : Participant) → participant c.world c.session.by ≡ Some q → participant next c.session.by ≡ Some (changed q (unchanged q))
    found_so q is = ap (λ (v : World). participant v c.session.by) left_so.rest ∙ is

    in_hand : IsInHand (record c { world = next }) r
    in_hand = record {
      number = hand.number;
      goes_on = goes_on_still c.world next more_met peers_so r c.session hand.goes_on (unchanged hand.goes_on.by) (found_so hand.goes_on.by hand.goes_on.is_by);
      said = hand.said;
      sound = λ apart. still_sound (hand.sound (subst (λ (v : World). IsCollisionFree (named_bytes v)) left_so.rest apart));
    }
      where
        still_sound : IsSoundSession c.world c.ghost_state c.session c.began → IsSoundSession next c.ghost_state c.session c.began
        still_sound g = sound_still c.world next c.ghost_state more_met c.session c.began g (unchanged g.by) c.ghost_state.acked (found_so g.by g.is_by)
