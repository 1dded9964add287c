-- A step of a session that only publishes leaves a world in which the invariant holds, and such a session.
use Rattle.std.proofs.Common.{◌≡◌, ◌≢◌, ◌⊎◌, inl, inr, ⊎_elim, ℕ, ◌≤◌, Bool, true, false, cond, List, [], ◌∷◌, ◌++◌, length, map, filter, Option, Some, None, refl, sym, ap, ◌∙◌, subst, arith, le_refl, Contains, not}
use Rattle.std.specs.Prelude.{drop}
use Rattle.std.specs.List.{AllByRecursion, find, list_any}
use Rattle.std.specs.Option.{option_map_or}
use Rattle.std.specs.Str.{bytes_eq}
use Rattle.std.proofs.lemmas.List.{append-nil, drop_all}
use Rattle.std.proofs.lemmas.Slice.Eq.{bytes_eq-Decides}
use Rattle.ring_model.proofs.Lists.{all_weaker}
use Rattle.ivy_base.specs.declared.key.Key.{Key}
use Rattle.ivy_base.specs.declared.operation.Moment.{Moment}
use Rattle.dhash_model.specs.Signed.{hss_judged}
use Rattle.log_model.proofs.Lists.{each, each_append, each_from, from_filter, here, in_cons, in_nothing, there}
use Rattle.log_model.specs.View.{View}
use Rattle.dht_ids.specs.Asked.{IsForData, told}
use Rattle.dht_ids.specs.declared.ask.Answer.{Answer}
use Rattle.dht_ids.specs.declared.ask.Ask.{Ask}
use Rattle.dht_ids.specs.declared.ask.Ask.TheVariants as ask
use Rattle.dht_ids.specs.declared.ask.Heard.{Heard}
use Rattle.dht_ids.specs.declared.judge.Judged.{Judged}
use Rattle.dht_ids.specs.declared.peer.Peer.{Peer}
use Rattle.dht_ids.specs.declared.post.Ack.{Ack}
use Rattle.dht_ids.specs.declared.post.Post.{Post}
use Rattle.agent_model.specs.Agent.{is_head}
use Rattle.agent_model.specs.Turning.{Answered, TurnEnd}
use Rattle.agent_model.specs.Others.{is_of}
use Rattle.session_model.specs.Asking.{AsksNext, IsBegun}
use Rattle.session_model.specs.Brought.{Part, all_heads, brought_in}
use Rattle.session_model.specs.Executions.{Fails, LacksMemory, Settles, TakesTurn}
use Rattle.session_model.specs.Executions.Fails.{fails, goes_on}
use Rattle.session_model.specs.Executions.LacksMemory.{lacks}
use Rattle.session_model.specs.Executions.Settles.{settles as settles_all}
use Rattle.session_model.specs.Executions.TakesTurn.{answers as turn_answers, begins_again, gives_up}
use Rattle.session_model.specs.Sessions.{Cache, Hears, IsPut, Publishing, Refreshing, Said, Session, Stage, Takes, TakesAll, TakesSome, acknowledged, after_put, held_back, is_log, put_question}
use Rattle.session_model.specs.Sessions.Hears.{gets_on, got, puts_on, puts}
use Rattle.session_model.specs.Sessions.Takes.{posted, cached}
use Rattle.session_model.specs.Sessions.TakesAll.{none as takes_none, more as takes_more}
use Rattle.session_model.specs.Sessions.TakesSome.{none as some_none, more as some_more}
use Rattle.world_model.specs.Agents.{HssAgent, HssKept, hss_signing}
use Rattle.world_model.specs.Fates.{FateOf}
use Rattle.world_model.specs.Keepers.{fails_next}
use Rattle.world_model.specs.World.{World, Participant, participant, peer_of, with_participant}
use Rattle.world_model.specs.GhostState.{Knowing, GhostState, knowing_nothing, knowing_of, receiving}
use Rattle.world_model.specs.Steps.{Acts, Configuration, Steps, acked_by, ask_told, with_cache}
use Rattle.world_model.specs.Steps.Acts.{asks, asks_in_vain, turns, is_refused, settles}
use Rattle.world_model.specs.Steps.Steps.{acts, lacks_memory}
use Rattle.world_laws.specs.Invariant.{AreApart, IsAnswerIn, IsAtPuts, IsMetPost, IsPuttingOn, Invariant, OnlyPublishes}
use Rattle.world_laws.specs.Frames.{Change, IsChangeWithinFrame, changed, unchanged}
use Rattle.world_laws.specs.Laws.{PublishingKeeps}
use Rattle.session_laws.proofs.AskedPuts.{puts_are_deterministic}
use Rattle.world_laws.proofs.Bringing.{found_named}
use Rattle.world_laws.proofs.Frames.{answer_stays, found_placed, nodes_of_ring, one_named, participant_keeps, placed_itself, ring_keeps, same_elements}
use Rattle.world_laws.proofs.MoreMet.{more_posts}
use Rattle.world_laws.proofs.NodeFates.{AskLeaves, PutsMet, answer_is_in, ask_leaves, fate_met}

-- ---- ghost states

pub found_knowing : (ks : List Knowing) (name : List ℕ) (k : Knowing) → find (λ l. bytes_eq l.name name) ks ≡ Some k → Contains ks k × (k.name ≡ name)
found_knowing [] name k is = cc is
found_knowing (l ∷ ks) name k is = by (bytes_eq l.name name) refl is (λ h. found_knowing ks name k h)
  where
    by : (b : Bool) → bytes_eq l.name name ≡ b → cond b (Some l) (find (λ o. bytes_eq o.name name) ks) ≡ Some k → (find (λ o. bytes_eq o.name name) ks ≡ Some k → Contains ks k × (k.name ≡ name)) → Contains (l ∷ ks) k × (k.name ≡ name)
    by true same h later = let is_l : l ≡ k = cc h in (subst (Contains (l ∷ ks)) is_l (here l ks), ap (λ (o : Knowing). o.name) (sym is_l) ∙ (bytes_eq-Decides l.name name).0 same)
    by false other h later = (there l ks k (later h).0, (later h).1)

not_found : (ks : List Knowing) (name : List ℕ) → find (λ l. bytes_eq l.name name) ks ≡ None → (l : Knowing) → Contains ks l → bytes_eq l.name name ≡ true → ⊥
not_found [] name none l among same = absurd (in_nothing l among)
not_found (k ∷ ks) name none l among same = by (bytes_eq k.name name) refl none (λ h later. not_found ks name h l later same)
  where
    by : (b : Bool) → bytes_eq k.name name ≡ b → cond b (Some k) (find (λ o. bytes_eq o.name name) ks) ≡ None → (find (λ o. bytes_eq o.name name) ks ≡ None → Contains ks l → ⊥) → ⊥
    by true is h again = cc h
    by false is h again = ⊎_elim (λ e. let now : bytes_eq k.name name ≡ true = subst (λ (o : Knowing). bytes_eq o.name name ≡ true) (sym e) same in cc (sym now ∙ is)) (again h) (in_cons k ks l among)

-- who receives nothing is as before
receives_nothing : (st : GhostState) (name : List ℕ) → AreApart (map (λ k. k.name) st.participants) → receiving st name [] ≡ st
receives_nothing st name apart =
    ap (λ ks. record st { participants = ks }) (same_elements (λ l. cond (bytes_eq l.name (knowing_of st name).name) (receiving_none (knowing_of st name)) l) st.participants
    (λ l among. by l among (find (λ k. bytes_eq k.name name) st.participants) refl (bytes_eq l.name (knowing_of st name).name) refl))
  where
    receiving_none : Knowing → Knowing
    receiving_none k = record k { received = k.received ++ [] }

    as_before : (k : Knowing) → receiving_none k ≡ k
    as_before k = ap (λ heads. record k { received = heads }) (append-nil k.received)

    of_found : (o : Option Knowing) → find (λ k. bytes_eq k.name name) st.participants ≡ o → knowing_of st name ≡ option_map_or (λ k. k) o (knowing_nothing name)
    of_found o is = ap (λ (x : Option Knowing). option_map_or (λ k. k) x (knowing_nothing name)) is

    by : (l : Knowing) → Contains st.participants l → (o : Option Knowing) → find (λ k. bytes_eq k.name name) st.participants ≡ o → (b : Bool) → bytes_eq l.name (knowing_of st name).name ≡ b
        → cond b (receiving_none (knowing_of st name)) l ≡ l
    by l among o is false other = refl
    by l among None is true same =
        let named : bytes_eq l.name name ≡ true = subst (λ (k : Knowing). bytes_eq l.name k.name ≡ true) (of_found None is) same in
        absurd (not_found st.participants name is l among named)
    by l among (Some k) is true same =
        let found = found_knowing st.participants name k is in
        let named : bytes_eq l.name k.name ≡ true = subst (λ (x : Knowing). bytes_eq l.name x.name ≡ true) (of_found (Some k) is) same in
        as_before (knowing_of st name) ∙ of_found (Some k) is ∙ one_named (λ (x : Knowing). x.name) st.participants k l apart found.0 among (sym ((bytes_eq-Decides l.name k.name).0 named))

-- an ask by which nothing is brought tells of an acknowledgement alone
pub ask_tells : (st : GhostState) (name : List ℕ) (s t : Session) → AreApart (map (λ k. k.name) st.participants) → t.parts ≡ s.parts → ask_told st name s t ≡ record st { acked = st.acked ++ acked_by s.stage t.stage }
ask_tells st name s t apart same =
    ap told_of (ap (drop (length s.parts)) same ∙ drop_all (length s.parts) s.parts (le_refl (length s.parts))) ∙ ap (λ (u : GhostState). record u { acked = st.acked ++ acked_by s.stage t.stage }) (receives_nothing st name apart)
  where
    told_of : List Part → GhostState
    told_of parts = record (receiving st name (all_heads (brought_in parts))) { acked = st.acked ++ acked_by s.stage t.stage }

-- ---- sessions at their puts

pub not_at_puts : (w : World) (r : ℕ) (s : Session) (stage : Stage) → IsAtPuts w r s stage → stage ≡ Refreshing → ⊥
not_at_puts w r s stage h e = subst (IsAtPuts w r s) e h

pub takes_nothing : (judged : Key → List ℕ → Option Judged) (r : ℕ) (s t : Session) (cache after : Cache) → (s.stage ≡ Refreshing → ⊥) → Takes judged r s cache t after → ⊥
takes_nothing judged r s _ cache _ other (posted key bytes wants none is) = other wants.0
takes_nothing judged r s _ cache _ other (cached key bytes wants none missing is) = other wants.0

pub takes_all_nothing : (judged : Key → List ℕ → Option Judged) (r : ℕ) (s t : Session) (cache after : Cache) → (s.stage ≡ Refreshing → ⊥) → TakesAll judged r s cache t after → (t ≡ s) × (after ≡ cache)
takes_all_nothing judged r s _ cache _ other (takes_none none) = (refl, refl)
takes_all_nothing judged r s t cache after other (takes_more {mid = mid} {between = between} first rest) = absurd (takes_nothing judged r s mid cache between other first)

takes_some_nothing : (judged : Key → List ℕ → Option Judged) (r : ℕ) (s t : Session) (cache after : Cache) → (s.stage ≡ Refreshing → ⊥) → TakesSome judged r s cache t after → t ≡ s
takes_some_nothing judged r s _ cache _ other some_none = refl
takes_some_nothing judged r s t cache after other (some_more {mid = mid} {between = between} first rest) = absurd (takes_nothing judged r s mid cache between other first)

fails_nothing : (s t : Session) → (s.stage ≡ Refreshing → ⊥) → Fails s t → t ≡ s
fails_nothing s _ other (fails notes given miss xid message at refreshed asks_it) = absurd (other at)
fails_nothing s _ other (goes_on none) = refl

lacks_nothing : (s t : Session) → (s.stage ≡ Refreshing → ⊥) → LacksMemory s t → ⊥
lacks_nothing s _ other (lacks notes shown given end xid message at refreshed asks_it rest front) = other at

-- ---- one ask of a put

pub record HearsPut (r : ℕ) (s : Session) (cache : Cache) (node : Peer) (question : Ask) (answer : Answer) (heard : Session) (after : Cache) : Type 0 where
  pub same_cache : after ≡ cache
  pub said : Option Said
  pub post : Post
  pub posts : List Post
  pub acks : List Ack
  pub at : s.stage ≡ Publishing said (post ∷ posts) acks
  pub next : AsksNext post.key (put_question post) (IsPut hss_judged r s post) s.current node question
  pub then_is : ((IsPut hss_judged r s post (s.current ++ told node question answer) → ⊥) × (heard ≡ record s { current = s.current ++ told node question answer }))
      ⊎ ((came : Bool) × (heard ≡ record s { stage = after_put said post posts acks came; current = [] }))

pub hears_put : (r : ℕ) (s : Session) (cache : Cache) (node : Peer) (question : Ask) (answer : Answer) (heard : Session) (after : Cache) → (s.stage ≡ Refreshing → ⊥) → Hears hss_judged r s cache node question answer heard after
    → HearsPut r s cache node question answer heard after
hears_put r s cache node question answer _ _ other (gets_on want wants next part) = absurd (other wants.0)
hears_put r s cache node question answer _ _ other (got want brought wants next whole) = absurd (other wants.0)
hears_put r s cache node question answer _ _ other (puts_on said p posts acks at next part) =
    record { same_cache = refl; said = said; post = p; posts = posts; acks = acks; at = at; next = next; then_is = inl (part, refl) }
hears_put r s cache node question answer _ _ other (puts said p posts acks came at next whole) =
    record { same_cache = refl; said = said; post = p; posts = posts; acks = acks; at = at; next = next; then_is = inr (acknowledged came, refl) }

pub short_filter : {X : Type 0} (test : X → Bool) (xs : List X) → length (filter test xs) ≤ length xs
short_filter test [] = omega arith
short_filter test (x ∷ xs) = by (test x) (short_filter test xs)
  where
    by : (b : Bool) → length (filter test xs) ≤ length xs → length (cond b (x ∷ filter test xs) (filter test xs)) ≤ length (x ∷ xs)
    by true h = omega arith
    by false h = omega arith

-- what is asked of owners of a post that was met
pub question_fits : (met : List (List ℕ)) (p : Post) → Contains met p.bytes → (question : Ask) → (question ≡ ask.Route p.key) ⊎ (question ≡ put_question p) → IsForData question × PutsMet met question
question_fits met p h question (inl e) = subst (λ q. IsForData q × PutsMet met q) (sym e) (tt, tt)
question_fits met p h question (inr e) = subst (λ q. IsForData q × PutsMet met q) (sym e) (by (is_head p.kind))
  where
    by : (b : Bool) → IsForData (cond b (ask.PutHead p.key p.bytes) (ask.PutBlock p.key p.bytes)) × PutsMet met (cond b (ask.PutHead p.key p.bytes) (ask.PutBlock p.key p.bytes))
    by true = (tt, h)
    by false = (tt, h)

pub told_each : (P : Answer → Type 0) (node : Peer) (question : Ask) (answer : Answer) → P answer → AllByRecursion (λ h. P h.got) (told node question answer)
told_each P node (ask.Route key) answer h = (h, tt)
told_each P node ask.Near answer h = tt
told_each P node (ask.Notify peer) answer h = tt
told_each P node (ask.Get key) answer h = (h, tt)
told_each P node (ask.PutBlock key bytes) answer h = (h, tt)
told_each P node (ask.PutHead key bytes) answer h = (h, tt)

-- the posts that are left, after a put
pub fewer_met : (met : List (List ℕ)) (p : Post) (posts : List Post) → AllByRecursion (IsMetPost met) posts → AllByRecursion (IsMetPost met) (held_back p posts)
fewer_met met p posts h = by (is_log p.kind)
  where
    by : (b : Bool) → AllByRecursion (IsMetPost met) (cond b (filter (λ (q : Post). not (is_head q.kind)) posts) posts)
    by true = each_from (IsMetPost met) (filter (λ (q : Post). not (is_head q.kind)) posts) (λ q among. each (IsMetPost met) posts q h (from_filter (λ (q : Post). not (is_head q.kind)) posts q among).0)
    by false = h

-- the next put begins
pub begins : (r : ℕ) (s : Session) → s.entries ≢ [] → s.current ≡ [] → (posts : List Post) → IsPuttingOn r s posts
begins r s some fresh [] = fresh
begins r s some fresh (p ∷ posts) = subst (IsBegun (IsPut hss_judged r s p)) (sym fresh) ((puts_are_deterministic hss_judged r s p).3 some)

after_a_put : (w : World) (r : ℕ) (s : Session) → s.entries ≢ [] → s.current ≡ [] → (said : Option Said) (p : Post) (posts : List Post) (acks : List Ack) (came : Bool) → said ≡ None → AllByRecursion (IsMetPost w.met) posts
    → IsAtPuts w r s (after_put said p posts acks came)
after_a_put w r s some fresh said p posts acks true silent h = (silent, h, begins r s some fresh posts)
after_a_put w r s some fresh said p posts acks false silent h = (silent, fewer_met w.met p posts h, begins r s some fresh (held_back p posts))

-- ---- steps

module _ (w : World) (st : GhostState) (r : ℕ) (keeps : Invariant (w, st)) (ringed : w.replicas ≡ Some r) where
  -- what an ask for data, by which only what was met is put, leaves of the world
  module _ (next : World) (to : Peer) (question : Ask) (given : Answer) (data_ask : IsForData question) (puts_met : PutsMet w.met question) (fate : FateOf hss_judged w to question given next) where
    pub leaves : AskLeaves r w next
    leaves = ask_leaves hss_judged r w (nodes_of_ring (w, st) r keeps ringed) next to question given data_ask fate

    pub still_peers : (p : Peer) → Contains (map peer_of w.nodes) p → Contains (map peer_of next.nodes) p
    still_peers p h = subst (λ made. Contains made p) (sym leaves.peers) h

    pub ask_keeps : (acked : List Post) → Invariant (next, record st { acked = acked })
    ask_keeps acked = ring_keeps (w, st) r next acked keeps ringed leaves.rest leaves.ring leaves.peers (fate_met hss_judged w.met w next to question given puts_met keeps.met.held fate)

    same_met : next.met ≡ w.met
    same_met = ap (λ (v : World). v.met) leaves.rest

    pub grows : (b : List ℕ) → Contains w.met b → Contains next.met b
    grows b h = subst (λ met. Contains met b) (sym same_met) h

    pub given_then : IsAnswerIn next given
    given_then = answer_stays w next grows still_peers given (answer_is_in hss_judged r w (nodes_of_ring (w, st) r keeps ringed) to question next given data_ask keeps.met.held fate)

module _ (w : World) (st : GhostState) (r : ℕ) (s : Session) (p : Participant) (keeps : Invariant (w, st)) (only : OnlyPublishes w r s) (ringed : w.replicas ≡ Some r) (is_p : participant w s.by ≡ Some p) where
  abbrev Leaves : World → GhostState → Session → Type 0
  Leaves v su t = Invariant (v, su) × OnlyPublishes v r t × (su.turns ≡ st.turns)

  at_puts : s.stage ≡ Refreshing → ⊥
  at_puts e = not_at_puts w r s s.stage only.stage e

  apart : AreApart (map (λ p. p.name) w.participants)
  apart = keeps.apart

  told_apart : AreApart (map (λ k. k.name) st.participants)
  told_apart = subst AreApart (sym keeps.fits.participants) keeps.apart

  -- an ask
  module _ (next : World) (node : Peer) (question : Ask) (answer : Answer) (heard : Session) (cache : Cache) (fate : FateOf hss_judged w node question answer next)
      (h : HearsPut r s p.cache node question answer heard cache) where
    puts_now : IsAtPuts w r s (Publishing h.said (h.post ∷ h.posts) h.acks)
    puts_now = subst (IsAtPuts w r s) h.at only.stage

    fits : IsForData question × PutsMet w.met question
    fits = question_fits w.met h.post puts_now.1.0.0 question h.next.is_of

    left : AskLeaves r w next
    left = leaves w st r keeps ringed next node question answer fits.0 fits.1 fate

    more : (b : List ℕ) → Contains w.met b → Contains next.met b
    more = grows w st r keeps ringed next node question answer fits.0 fits.1 fate

    peers_then : (q : Peer) → Contains (map peer_of w.nodes) q → Contains (map peer_of next.nodes) q
    peers_then = still_peers w st r keeps ringed next node question answer fits.0 fits.1 fate

    posts_then : AllByRecursion (IsMetPost next.met) (h.post ∷ h.posts)
    posts_then = more_posts w.met next.met more (h.post ∷ h.posts) puts_now.1

    heard_then : AllByRecursion (λ a. IsAnswerIn next a.got) (s.current ++ told node question answer)
    heard_then = each_append (λ (a : Heard). IsAnswerIn next a.got) s.current (told node question answer) (all_weaker _ _ s.current (λ a g. answer_stays w next more peers_then a.got g) only.heard)
        (told_each (IsAnswerIn next) node question answer (given_then w st r keeps ringed next node question answer fits.0 fits.1 fate))

    found_then : participant next s.by ≡ Some only.by
    found_then = ap (λ (v : World). participant v s.by) left.rest ∙ only.is_by

    entries_then : AllByRecursion (Contains (map peer_of next.nodes)) s.entries
    entries_then = all_weaker _ _ s.entries peers_then only.entries

    goes_on_so : (IsPut hss_judged r s h.post (s.current ++ told node question answer) → ⊥) → OnlyPublishes next r (record s { current = s.current ++ told node question answer })
    goes_on_so part = record {
      by = only.by;
      is_by = found_then;
      some_entry = only.some_entry;
      entries = entries_then;
      heard = heard_then;
      bare = only.bare;
      stage = subst (IsAtPuts next r (record s { current = s.current ++ told node question answer })) (sym h.at) (
        puts_now.0,
        posts_then,
        ⊎_elim (λ whole. absurd (part whole)) (λ begun. begun) ((puts_are_deterministic hss_judged r s h.post).2 s.current node question answer h.next),
      );
    }

    was_put : (came : Bool) → OnlyPublishes next r (record s { stage = after_put h.said h.post h.posts h.acks came; current = [] })
    was_put came = record {
      by = only.by;
      is_by = found_then;
      some_entry = only.some_entry;
      entries = entries_then;
      heard = tt;
      bare = only.bare;
      stage = after_a_put next r (record s { stage = after_put h.said h.post h.posts h.acks came; current = [] }) only.some_entry refl h.said h.post h.posts h.acks came puts_now.0 posts_then.1;
    }

    only_then : OnlyPublishes next r heard
    only_then = ⊎_elim (λ one. subst (OnlyPublishes next r) (sym one.1) (goes_on_so one.0)) (λ one. subst (OnlyPublishes next r) (sym one.1) (was_put one.0)) h.then_is

    same_world : with_participant next (record p { cache = cache }) ≡ next
    same_world =
        ap (λ c. with_participant next (record p { cache = c })) h.same_cache
        ∙ placed_itself next (subst (λ (v : World). AreApart (map (λ p. p.name) v.participants)) (sym left.rest) apart) s.by p (ap (λ (v : World). participant v s.by) left.rest ∙ is_p)

    pub asked : (t : Session) → Fails heard t → Leaves (with_participant next (record p { cache = cache })) (ask_told st p.name s t) t
    asked t goes = (
      subst (λ (v : World). Invariant (v, ask_told st p.name s t)) (sym same_world)
          (subst (λ (u : GhostState). Invariant (next, u)) (sym (ask_tells st p.name s t told_apart (only_t.bare ∙ sym only.bare))) (ask_keeps w st r keeps ringed next node question answer fits.0 fits.1 fate (st.acked ++ acked_by s.stage t.stage))),
      subst (λ (v : World). OnlyPublishes v r t) (sym same_world) only_t,
      refl,
    )
      where
        only_t : OnlyPublishes next r t
        only_t = subst (OnlyPublishes next r) (sym (fails_nothing heard t (λ e. not_at_puts next r heard heard.stage only_then.stage e) goes)) only_then

  -- settling
  settled_so : (after : HssAgent) (t : Session) → Settles p.agent s after t → Leaves (with_participant w (record p { agent = after })) st t
  settled_so _ _ (settles_all said acks at) = (
    participant_keeps (w, st) s.by p fewer keeps is_p within_frame,
    record {
      by = changed p fewer;
      is_by = found_placed w apart s.by p is_p (changed p fewer) refl;
      some_entry = only.some_entry;
      entries = only.entries;
      heard = all_weaker _ _ s.current (λ a g. answer_stays w (with_participant w (changed p fewer)) (λ b h. h) (λ q h. h) a.got g) only.heard;
      bare = only.bare;
      stage = (subst (IsAtPuts w r s) at only.stage).0;
    },
    refl,
  )
    where
      dropped : Post → Bool
      dropped q = not (list_any (λ ack. is_of ack q) acks)

      fewer : Change
      fewer = record (unchanged p) { pending = filter dropped p.agent.pending }

      within_frame : IsChangeWithinFrame w.met p fewer
      within_frame = record {
        kept = refl;
        pending = λ q among. (from_filter dropped p.agent.pending q among).0;
        fewer = short_filter dropped p.agent.pending;
        cached = each _ w.participants p keeps.met.cached (found_named w.participants s.by p is_p).0;
      }

  turns_never : (now : Moment) (a : HssAgent) (view : View) (fails_save : Bool) (end : TurnEnd) (after : HssAgent) (saving : Option HssKept) (t : Session) → TakesTurn hss_signing (record { agent = a; view = view; now = now; fails = fails_save }) s end after saving t → ⊥
  turns_never now a view fails_save _ _ _ _ (turn_answers notes given xid asked reply applied after saving done asks_it turned) = at_puts done.0
  turns_never now a view fails_save _ _ _ _ (begins_again notes given xid asked end after saving done asks_it turned refused few) = at_puts done.0
  turns_never now a view fails_save _ _ _ _ (gives_up notes given xid asked end after saving done asks_it turned refused many) = at_puts done.0

-- what the participant's session does
acts_so : (c next : Configuration) (r : ℕ) (p : Participant) → Invariant (c.world, c.ghost_state) → OnlyPublishes c.world r c.session → c.world.replicas ≡ Some r → participant c.world c.session.by ≡ Some p → Acts hss_judged r p c next
    → Invariant (next.world, next.ghost_state) × OnlyPublishes next.world r next.session × (next.ghost_state.turns ≡ c.ghost_state.turns)
acts_so c _ r p keeps only ringed is_p (asks node question answer next heard t cache fate hears goes) =
    asked c.world c.ghost_state r c.session p keeps only ringed is_p next node question answer heard cache fate
    (hears_put r c.session p.cache node question answer heard cache (at_puts c.world c.ghost_state r c.session p keeps only ringed is_p) hears) t goes
acts_so c _ r p keeps only ringed is_p (asks_in_vain node question answer next heard t cache fate hears lacking) = absurd (lacks_nothing c.session t (at_puts c.world c.ghost_state r c.session p keeps only ringed is_p) lacking)
acts_so c _ r p keeps only ringed is_p (turns view reply applied after saving t turned in_view takes replies is_turn) =
    absurd (turns_never c.world c.ghost_state r c.session p keeps only ringed is_p c.world.now p.agent view (fails_next p.keeper) (Answered reply applied) after saving t takes)
acts_so c _ r p keeps only ringed is_p (is_refused view end after saving t in_view refusal takes) =
    absurd (turns_never c.world c.ghost_state r c.session p keeps only ringed is_p c.world.now p.agent view (fails_next p.keeper) end after saving t takes)
acts_so c _ r p keeps only ringed is_p (settles after t is) = settled_so c.world c.ghost_state r c.session p keeps only ringed is_p after t is

step_so : (c next : Configuration) (r : ℕ) → Invariant (c.world, c.ghost_state) → OnlyPublishes c.world r c.session → c.world.replicas ≡ Some r → Steps hss_judged r c.session.by c next
    → Invariant (next.world, next.ghost_state) × OnlyPublishes next.world r next.session × (next.ghost_state.turns ≡ c.ghost_state.turns)
step_so c _ r keeps only ringed (acts p taken cache next is_p takes act) = acts_so c next r p keeps only ringed is_p (subst (λ d. Acts hss_judged r p d next) same act_at)
  where
    nothing : (taken ≡ c.session) × (cache ≡ p.cache)
    nothing = takes_all_nothing hss_judged r c.session taken p.cache cache (not_at_puts c.world r c.session c.session.stage only.stage) takes

    same : with_cache hss_judged r c p c.session p.cache ≡ c
    same = ap (λ (v : World). record c { world = v }) (placed_itself c.world keeps.apart c.session.by p is_p)

    act_at : Acts hss_judged r p (with_cache hss_judged r c p c.session p.cache) next
    act_at = subst (λ (x : Session × Cache). Acts hss_judged r (record p { cache = x.1 }) (with_cache hss_judged r c p x.0 x.1) next) (λ i. (nothing.0 i, nothing.1 i)) act
step_so c _ r keeps only ringed (lacks_memory p taken t cache is_p takes lacking) =
    absurd (lacks_nothing c.session t not_then (subst (λ u. LacksMemory u t) (takes_some_nothing hss_judged r c.session taken p.cache cache not_then takes) lacking))
  where
    not_then : c.session.stage ≡ Refreshing → ⊥
    not_then = not_at_puts c.world r c.session c.session.stage only.stage

pub publishing_keeps : PublishingKeeps
publishing_keeps c next r keeps only ringed step = step_so c next r keeps only ringed step
