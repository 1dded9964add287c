-- An ask of a get that is over with it: something is brought, and the refresh goes on, or has failed.
use Rattle.std.proofs.Common.{◌≡◌, ◌≢◌, ◌⊎◌, inl, inr, ⊎_elim, ℕ, Bool, true, false, cond, List, [], ◌∷◌, ◌++◌, map, length, Option, Some, Ok, refl, sym, ap, ◌∙◌, subst, arith, Contains}
use Rattle.std.specs.Prelude.{drop}
use Rattle.std.specs.List.{AllByRecursion, find}
use Rattle.std.specs.Str.{bytes_eq}
use Rattle.std.proofs.lemmas.List.{append-nil, drop_at}
use Rattle.std.proofs.lemmas.List.Elements.{Contains-append_left, Contains-append_right, Contains-append_cases}
use Rattle.std.proofs.lemmas.Slice.Eq.{bytes_eq-Decides}
use Rattle.ring_model.proofs.Lists.{all_weaker}
use Rattle.ivy_base.specs.declared.key.Key.{Key}
use Rattle.ivy_base.specs.Naming.{IsCollisionFree}
use Rattle.dhash_model.specs.Signed.{hss_judged}
use Rattle.log_model.proofs.Lists.{each, each_append, in_cons, in_nothing}
use Rattle.log_model.specs.Record.{Record}
use Rattle.log_model.specs.Vector.{Entry}
use Rattle.turn_model.specs.Basis.{Holding}
use Rattle.dht_ids.specs.Asked.{IsForData, told}
use Rattle.dht_ids.specs.declared.ask.Answer.{Answer}
use Rattle.dht_ids.specs.declared.ask.Ask.{Ask}
use Rattle.dht_ids.specs.declared.ask.Ask.TheVariants as ask
use Rattle.dht_ids.specs.declared.ask.Heard.{Heard}
use Rattle.dht_ids.specs.declared.peer.Peer.{Peer}
use Rattle.dht_ids.specs.declared.post.Ack.{Ack}
use Rattle.dht_ids.specs.declared.post.Post.{Post}
use Rattle.dhash_model.specs.declared.miss.Miss.{Miss}
use Rattle.agent_model.specs.Standing.{Refresh}
use Rattle.session_model.specs.Asking.{AsksNext}
use Rattle.session_model.specs.Brought.{Brought, BlockOf, Part, WantedOfRing, all_heads, brought_in, heads_of}
use Rattle.session_model.specs.Executions.{Fails}
use Rattle.session_model.specs.Executions.Fails.{fails as refresh_fails, goes_on as refresh_goes}
use Rattle.session_model.specs.Refreshing.{FailsBy, Note, Refreshes}
use Rattle.session_model.specs.Replies.{missed_reply, said_of}
use Rattle.session_model.specs.Sessions.{Cache, Gets, Hears, IsGet, Over, Publishing, Refreshing, Said, Session, Stage, Wants, keeping, wanted_key, with_part}
use Rattle.session_model.specs.Sessions.Hears.{gets_on, got, puts_on, puts}
use Rattle.session_laws.specs.Going.{ComesTo}
use Rattle.world_model.specs.Agents.{HssAgent}
use Rattle.world_model.specs.Fates.{FateOf}
use Rattle.world_model.specs.World.{World, Participant, named_bytes, participant, peer_of, with_participant}
use Rattle.world_model.specs.GhostState.{Began, Knowing, GhostState, knowing_of, receiving}
use Rattle.world_model.specs.Steps.{Configuration, acked_by, ask_told}
use Rattle.world_laws.specs.Causes.{said_at}
use Rattle.world_laws.specs.Causes.HasCause.{missed as missed_cause}
use Rattle.world_laws.specs.Invariant.{GoesOn, HasSaid, IsAnswerIn, IsAtStage, IsInHand, IsMetHead, IsRefreshing, IsSoundSession, Invariant, KeepsUp}
use Rattle.world_laws.specs.Invariant.KeepsUp.{still, grown, dropped}
use Rattle.world_laws.specs.Frames.{Change, IsChangeWithinFrame, changed, unchanged}
use Rattle.world_laws.specs.Laws.{GetsBringKeep}
use Rattle.world_laws.proofs.Bringing.{found_named}
use Rattle.world_laws.proofs.Frames.{answer_stays, goes_on_still, into_map, participant_keeps, same_keys, sound_still}
use Rattle.world_laws.proofs.GotParts.{BringsMet, brings_met, keeping_met}
use Rattle.world_laws.proofs.InHand.{goes_on_then, sound_then}
use Rattle.world_laws.proofs.LackingSteps.{with_others}
use Rattle.world_laws.proofs.NodeFates.{AskLeaves, PutsMet}
use Rattle.world_laws.proofs.Publishing.{ask_keeps, given_then, grows, leaves, still_peers, told_each}
use Rattle.world_laws.proofs.Receiving.{has_received, receiving_keeps, session_more}
use Rattle.world_laws.proofs.Taking.{IsMetBlock, IsMetCache}
use Rattle.world_laws.proofs.TakingOn.{brought_then, comes_with, on_so}

-- ---- a session that was brought more

-- heads more were received, and blocks more were met
record IsMore (w : World) (st : GhostState) (name : List ℕ) (before after : List Part) : Type 0 where
  heads : (e : Entry) → Contains (all_heads (brought_in after)) e → Contains (all_heads (brought_in before)) e ⊎ Contains (knowing_of st name).received e
  blocks : (key : Key) (bytes : List ℕ) → Contains (brought_in after) (BlockOf key (Ok bytes)) → Contains (brought_in before) (BlockOf key (Ok bytes)) ⊎ IsMetBlock w.met key bytes

keeps_up_brought : (s : Session) (of : Holding) (a : HssAgent) (known : List Record) (parts : List Part) (current : List Heard) (stage : Stage) (notes : List Note) (missed_by : Option Miss) → KeepsUp s of a known
    → KeepsUp (with_others s parts current stage notes missed_by) of a known
keeps_up_brought s of a known parts current stage notes missed_by (still load held floor) = still load held floor
keeps_up_brought s of a known parts current stage notes missed_by (grown load all far) = grown load all far
keeps_up_brought s of a known parts current stage notes missed_by (dropped other first load basis) = dropped other first load basis

sound_brought : (w : World) (st : GhostState) (s : Session) (b : Began) (parts : List Part) (current : List Heard) (stage : Stage) (notes : List Note) (missed_by : Option Miss) → IsMore w st s.by s.parts parts → IsSoundSession w st s b
    → IsSoundSession w st (with_others s parts current stage notes missed_by) b
sound_brought w st s b parts current stage notes missed_by more h = record {
  by = h.by;
  is_by = h.is_by;
  of = h.of;
  knows = h.knows;
  held = h.held;
  edges = h.edges;
  to_load = h.to_load;
  known = h.known;
  floor = h.floor;
  keeps_up = keeps_up_brought s h.of h.by.agent _ parts current stage notes missed_by h.keeps_up;
  anew = h.anew;
  stays_fresh = h.stays_fresh;
  received = λ e c. ⊎_elim (λ old. h.received e old) (λ new. new) (more.heads e c);
  blocks = λ key bytes c. ⊎_elim (λ old. h.blocks key bytes old) (λ new. new) (more.blocks key bytes c);
}

heads_cases : (brought : List Brought) (b : Brought) (e : Entry) → Contains (all_heads (brought ++ b ∷ [])) e → Contains (all_heads brought) e ⊎ Contains (heads_of b) e
heads_cases [] b e h = inr (subst (λ l. Contains l e) (append-nil (heads_of b)) h)
heads_cases (c ∷ brought) b e h = ⊎_elim
    (λ f. inl (Contains-append_left (heads_of c) (all_heads brought) e f))
    (λ f. ⊎_elim (λ old. inl (Contains-append_right (heads_of c) (all_heads brought) e old)) (λ new. inr new) (heads_cases brought b e f))
    (Contains-append_cases (heads_of c) (all_heads (brought ++ b ∷ [])) e h)

-- who has a name among these is found by it
found_some : (ks : List Knowing) (name : List ℕ) → Contains (map (λ k. k.name) ks) name → (k : Knowing) × (find (λ l. bytes_eq l.name name) ks ≡ Some k)
found_some [] name h = absurd (in_nothing name h)
found_some (k ∷ ks) name h = by (bytes_eq k.name name) refl (λ later. found_some ks name later)
  where
    by : (b : Bool) → bytes_eq k.name name ≡ b → (Contains (map (λ (l : Knowing). l.name) ks) name → (l : Knowing) × (find (λ o. bytes_eq o.name name) ks ≡ Some l))
        → (l : Knowing) × (cond b (Some k) (find (λ o. bytes_eq o.name name) ks) ≡ Some l)
    by true same again = (k, refl)
    by false other again = again (⊎_elim (λ is. absurd (let same : bytes_eq k.name name ≡ true = (bytes_eq-Decides k.name name).1 is in cc (sym same ∙ other))) (λ later. later) (in_cons k.name (map (λ l. l.name) ks) name h))

-- ---- the ask

module _ (c : Configuration) (r : ℕ) (p : Participant) (keeps : Invariant (c.world, c.ghost_state)) (hand : IsInHand c r) (ringed : c.world.replicas ≡ Some r) (is_p : participant c.world c.session.by ≡ Some p)
    (node : Peer) (question : Ask) (answer : Answer) (next : World) (fate : FateOf hss_judged c.world node question answer next) (at : c.session.stage ≡ Refreshing)
    (want : WantedOfRing) (brought : Brought) (wants : Wants hss_judged r c.session want)
    (asks_next : AsksNext (wanted_key want) (ask.Get (wanted_key want)) (IsGet hss_judged r c.session.entries want) c.session.current node question)
    (gets : Gets hss_judged r c.session.entries want (c.session.current ++ told node question answer) brought) where
  abbrev w : World
  w = c.world

  abbrev s : Session
  s = c.session

  abbrev asks : List Heard
  asks = s.current ++ told node question answer

  abbrev heard : Session
  heard = with_part s brought asks

  fits_of : (q : Ask) → (q ≡ ask.Route (wanted_key want)) ⊎ (q ≡ ask.Get (wanted_key want)) → IsForData q × PutsMet w.met q
  fits_of q (inl e) = subst (λ x. IsForData x × PutsMet w.met x) (sym e) (tt, tt)
  fits_of q (inr e) = subst (λ x. IsForData x × PutsMet w.met x) (sym e) (tt, tt)

  fits : IsForData question × PutsMet w.met question
  fits = fits_of question asks_next.is_of

  left : AskLeaves r w next
  left = leaves w c.ghost_state r keeps ringed next node question answer fits.0 fits.1 fate

  more : (b : List ℕ) → Contains w.met b → Contains next.met b
  more = grows w c.ghost_state r keeps ringed next node question answer fits.0 fits.1 fate

  peers_then : (q : Peer) → Contains (map peer_of w.nodes) q → Contains (map peer_of next.nodes) q
  peers_then = still_peers w c.ghost_state r keeps ringed next node question answer fits.0 fits.1 fate

  heard_then : AllByRecursion (λ a. IsAnswerIn next a.got) asks
  heard_then = each_append (λ (a : Heard). IsAnswerIn next a.got) s.current (told node question answer) (all_weaker _ _ s.current (λ a g. answer_stays w next more peers_then a.got g) hand.goes_on.heard)
      (told_each (IsAnswerIn next) node question answer (given_then w c.ghost_state r keeps ringed next node question answer fits.0 fits.1 fate))

  brings : BringsMet next want brought
  brings = brings_met next gets heard_then

  found_then : (q : Participant) → participant w s.by ≡ Some q → participant next s.by ≡ Some q
  found_then q is = ap (λ (v : World). participant v s.by) left.rest ∙ is

  -- ---- the world, and what is told

  abbrev told_heads : List Entry
  told_heads = all_heads (brought_in (drop (length s.parts) heard.parts))

  same_heads : told_heads ≡ heads_of brought
  same_heads = ap (λ (parts : List Part). all_heads (brought_in parts)) (drop_at s.parts (record { brought = brought; asks = asks } ∷ []) (length s.parts) refl) ∙ append-nil (heads_of brought)

  module _ (acked : List Post) where
    abbrev asked_ghost_state : GhostState
    asked_ghost_state = record c.ghost_state { acked = acked }

    abbrev then_ghost_state : GhostState
    then_ghost_state = receiving asked_ghost_state p.name told_heads

    asked_keeps : Invariant (next, asked_ghost_state)
    asked_keeps = ask_keeps w c.ghost_state r keeps ringed next node question answer fits.0 fits.1 fate acked

    told_keeps : Invariant (next, then_ghost_state)
    told_keeps = receiving_keeps next asked_ghost_state p.name told_heads asked_keeps (subst (AllByRecursion (IsMetHead next.met)) (sym same_heads) brings.heads)

    still_in_hand : IsInHand (record { world = next; ghost_state = then_ghost_state; session = s; began = c.began }) r
    still_in_hand = record {
      number = hand.number;
      goes_on = goes_on_still w next more peers_then r s hand.goes_on (unchanged hand.goes_on.by) (found_then hand.goes_on.by hand.goes_on.is_by);
      said = subst (λ (x : Stage). HasSaid then_ghost_state c.began.number s (said_at x)) (sym at) tt;
      sound = λ apart. still_sound (hand.sound (subst (λ (v : World). IsCollisionFree (named_bytes v)) left.rest apart));
    }
      where
        still_sound : IsSoundSession w c.ghost_state s c.began → IsSoundSession next then_ghost_state s c.began
        still_sound g = session_more asked_ghost_state p.name told_heads next s c.began (sound_still w next c.ghost_state more s c.began g (unchanged g.by) acked (found_then g.by g.is_by))

    abbrev d : Change
    d = record (unchanged p) { cache = keeping hss_judged r brought p.cache }

    abbrev then_world : World
    then_world = with_participant next (record p { cache = keeping hss_judged r brought p.cache })

    is_p_then : participant next s.by ≡ Some p
    is_p_then = found_then p is_p

    within_frame : IsChangeWithinFrame next.met p d
    within_frame = record {
      kept = refl;
      pending = λ post h. h;
      fewer = omega arith;
      cached = keeping_met next r brought p.cache brings.blocks (each (λ (q : Participant). IsMetCache next.met q.cache) next.participants p told_keeps.met.cached (found_named next.participants s.by p is_p_then).0);
    }

    then_keeps : Invariant (then_world, then_ghost_state)
    then_keeps = participant_keeps (next, then_ghost_state) s.by p d told_keeps is_p_then within_frame

    on : GoesOn then_world r s
    on = goes_on_then (record { world = next; ghost_state = then_ghost_state; session = s; began = c.began }) r p told_keeps still_in_hand is_p_then d

    apart_before : IsCollisionFree (named_bytes then_world) → IsCollisionFree (named_bytes next)
    apart_before apart = subst (λ keys. IsCollisionFree (next.met ++ keys)) (same_keys next told_keeps.apart s.by p is_p_then (changed p d) refl refl) apart

    -- ---- the session

    is_more : IsMore then_world then_ghost_state s.by s.parts heard.parts
    is_more = record {
      heads = λ e h. ⊎_elim (λ old. inl old) (λ new. inr (received e new)) (heads_cases (brought_in s.parts) brought e (subst (λ l. Contains (all_heads l) e) (brought_then s.parts brought asks) h));
      blocks = λ key bytes h. ⊎_elim (λ old. inl old) (λ new. inr (of_one key bytes new))
          (Contains-append_cases (brought_in s.parts) (brought ∷ []) (BlockOf key (Ok bytes)) (subst (λ l. Contains l (BlockOf key (Ok bytes))) (brought_then s.parts brought asks) h));
    }
      where
        of_one : (key : Key) (bytes : List ℕ) → Contains (brought ∷ []) (BlockOf key (Ok bytes)) → IsMetBlock next.met key bytes
        of_one key bytes h = ⊎_elim (λ is. brings.blocks key bytes is) (λ none. absurd (in_nothing (BlockOf key (Ok bytes)) none)) (in_cons brought [] (BlockOf key (Ok bytes)) h)

        named : Contains (map (λ (k : Knowing). k.name) asked_ghost_state.participants) p.name
        named = subst (λ (names : List (List ℕ)). Contains names p.name) (sym asked_keeps.fits.participants) (into_map (λ (q : Participant). q.name) next.participants p (found_named next.participants s.by p is_p_then).0)

        received : (e : Entry) → Contains (heads_of brought) e → Contains (knowing_of then_ghost_state s.by).received e
        received e h =
            let found = found_some asked_ghost_state.participants p.name named in
            subst (λ (n : List ℕ). Contains (knowing_of then_ghost_state n).received e) (found_named next.participants s.by p is_p_then).1
            (has_received asked_ghost_state p.name told_heads found.0 found.1 e (subst (λ l. Contains l e) (sym same_heads) h))

    -- as it stands then
    in_hand_so : (stage : Stage) (notes : List Note) (missed_by : Option Miss) → (let t : Session = with_others s heard.parts [] stage notes missed_by in
        IsAtStage then_world r t stage → HasSaid then_ghost_state c.began.number t (said_at stage) → IsInHand (record { world = then_world; ghost_state = then_ghost_state; session = t; began = c.began }) r)
    in_hand_so stage notes missed_by at_stage has_said = record {
      number = hand.number;
      goes_on = record {
        by = on.by;
        is_by = on.is_by;
        in_view = on.in_view;
        own_key = on.own_key;
        some_entry = on.some_entry;
        entries = on.entries;
        heard = tt;
        pending = on.pending;
        stage = at_stage;
      };
      said = has_said;
      sound = λ apart. sound_brought then_world then_ghost_state s c.began heard.parts [] stage notes missed_by is_more
          (sound_then (record { world = next; ghost_state = then_ghost_state; session = s; began = c.began }) r p told_keeps still_in_hand is_p_then d (still_in_hand.sound (apart_before apart)));
    }

    refreshing : IsRefreshing r s
    refreshing = subst (IsAtStage w r s) at hand.goes_on.stage

    came : ComesTo s.standing (brought_in heard.parts)
    came = comes_with r s want brought asks wants brings.of

    refreshing_on : ((notes : List Note) (given : Refresh) (miss : Miss) → heard.stage ≡ Refreshing → Refreshes s.standing (brought_in heard.parts) notes given (FailsBy miss) → ⊥) → IsRefreshing r heard
    refreshing_on not = record {
      xid = refreshing.xid;
      asked = refreshing.asked;
      asks = refreshing.asks;
      notes = came.notes;
      given = came.given;
      end = came.end;
      refreshed = came.refreshes;
      goes_on = on_so r heard hand.goes_on.some_entry refl came.end (λ miss is. not came.notes came.given miss at (subst (Refreshes s.standing (brought_in heard.parts) came.notes came.given) is came.refreshes));
    }

    brought_so : (t : Session) → Fails heard t → IsInHand (record { world = then_world; ghost_state = then_ghost_state; session = t; began = c.began }) r
    brought_so _ (refresh_fails notes given miss xid asked is refreshes asks_it) =
        in_hand_so (Over (Some (said_of xid (missed_reply asked miss)))) notes (Some miss) refl (missed_cause xid asked given miss asks_it refreshes refl)
    brought_so _ (refresh_goes not) = in_hand_so s.stage s.notes s.missed (subst (IsAtStage then_world r heard) (sym at) (refreshing_on not))
        (subst (λ (x : Stage). HasSaid then_ghost_state c.began.number heard (said_at x)) (sym at) tt)

  same_parts : (t : Session) → Fails heard t → t.parts ≡ heard.parts
  same_parts _ (refresh_fails notes given miss xid asked is refreshes asks_it) = refl
  same_parts _ (refresh_goes not) = refl

  got_so : (t : Session) → Fails heard t → (let world : World = with_participant next (record p { cache = keeping hss_judged r brought p.cache }) in let ghost_state : GhostState = ask_told c.ghost_state p.name s t in
      Invariant (world, ghost_state) × IsInHand (record { world = world; ghost_state = ghost_state; session = t; began = c.began }) r × (ghost_state.turns ≡ c.ghost_state.turns))
  got_so t goes = subst (λ (parts : List Part). (let world : World = with_participant next (record p { cache = keeping hss_judged r brought p.cache }) in
      let ghost_state : GhostState = record (receiving c.ghost_state p.name (all_heads (brought_in (drop (length s.parts) parts)))) { acked = acked } in
      Invariant (world, ghost_state) × IsInHand (record { world = world; ghost_state = ghost_state; session = t; began = c.began }) r × (ghost_state.turns ≡ c.ghost_state.turns)))
      (sym (same_parts t goes)) (then_keeps acked, brought_so acked t goes, refl)
    where
      acked : List Post
      acked = c.ghost_state.acked ++ acked_by s.stage t.stage

-- ---- the law

not_both : (s : Session) (said : Option Said) (posts : List Post) (acks : List Ack) → s.stage ≡ Refreshing → s.stage ≡ Publishing said posts acks → ⊥
not_both s said posts acks e f = cc (sym e ∙ f)

by_hearing : (c : Configuration) (r : ℕ) (p : Participant) (keeps : Invariant (c.world, c.ghost_state)) (hand : IsInHand c r) (ringed : c.world.replicas ≡ Some r) (is_p : participant c.world c.session.by ≡ Some p)
    (node : Peer) (question : Ask) (answer : Answer) (next : World) (fate : FateOf hss_judged c.world node question answer next) (at : c.session.stage ≡ Refreshing)
    (heard t : Session) (cache : Cache) → heard.parts ≢ c.session.parts → Hears hss_judged r c.session p.cache node question answer heard cache → Fails heard t
    → (let world : World = with_participant next (record p { cache = cache }) in let ghost_state : GhostState = ask_told c.ghost_state p.name c.session t in
    Invariant (world, ghost_state) × IsInHand (record { world = world; ghost_state = ghost_state; session = t; began = c.began }) r × (ghost_state.turns ≡ c.ghost_state.turns))
by_hearing c r p keeps hand ringed is_p node question answer next fate at _ t _ other (gets_on want wants next_ask part) goes = absurd (other refl)
by_hearing c r p keeps hand ringed is_p node question answer next fate at _ t _ other (got want brought wants next_ask whole) goes =
    got_so c r p keeps hand ringed is_p node question answer next fate at want brought wants next_ask whole t goes
by_hearing c r p keeps hand ringed is_p node question answer next fate at _ t _ other (puts_on said q posts acks stage next_ask part) goes = absurd (not_both c.session said (q ∷ posts) acks at stage)
by_hearing c r p keeps hand ringed is_p node question answer next fate at _ t _ other (puts said q posts acks came stage next_ask whole) goes = absurd (not_both c.session said (q ∷ posts) acks at stage)

pub gets_bring_keep : GetsBringKeep
gets_bring_keep c r p node question answer next heard t cache keeps hand ringed is_p at other fate hears goes =
    by_hearing c r p keeps hand ringed is_p node question answer next fate at heard t cache other hears goes
