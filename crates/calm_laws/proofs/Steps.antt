-- Steps of sessions while the ring stays: what nodes hold stays, what is answered is true, and where a put is acknowledged an owner holds its post.
use Rattle.std.proofs.Common.{◌≡◌, ◌⊎◌, ⊎_elim, ap, ℕ, Bool, true, false, cond, List, [], ◌∷◌, ◌++◌, length, Option, Some, refl, sym, ◌∙◌, subst, nat_lt, le_refl, Contains, filter, not}
use Rattle.std.specs.List.{AllByRecursion}
use Rattle.ivy_base.specs.declared.key.Key.{Key}
use Rattle.ring_model.specs.Members.{first}
use Rattle.dhash_model.specs.Signed.{hss_judged}
use Rattle.std.proofs.lemmas.Bool.{le-ltb}
use Rattle.log_model.proofs.Lists.{each, each_append, each_from, from_filter}
use Rattle.dht_ids.specs.Asked.{IsForData, told}
use Rattle.dht_ids.specs.declared.ask.Answer.{Answer}
use Rattle.dht_ids.specs.declared.ask.Ask.{Ask}
use Rattle.dht_ids.specs.declared.ask.Ask.TheVariants as ask
use Rattle.dht_ids.specs.declared.ask.Heard.{Heard}
use Rattle.dht_ids.specs.declared.peer.Peer.{Peer}
use Rattle.dht_ids.specs.declared.post.Ack.{Ack}
use Rattle.dht_ids.specs.declared.post.Post.{Post}
use Rattle.dhash_model.specs.Puts.{holds, is_of_put}
use Rattle.dhash_model.specs.declared.kind.BlockKind.TheVariants.{Content, Head}
use Rattle.agent_model.specs.Agent.{is_head}
use Rattle.session_model.specs.Executions.{Fails, LacksMemory}
use Rattle.session_model.specs.Executions.Fails.{fails, goes_on}
use Rattle.session_model.specs.Executions.LacksMemory.{lacks}
use Rattle.session_model.specs.Sessions.{Cache, Hears, IsPutOfPost, Over, Publishing, Refreshing, Said, Session, Stage, Takes, TakesAll, TakesSome, acknowledged, after_put, held_back, is_log, put_question, wanted_key}
use Rattle.session_model.specs.Sessions.Hears.{gets_on, got, puts_on, puts}
use Rattle.session_model.specs.Sessions.Takes.{posted, cached}
use Rattle.session_model.specs.Sessions.TakesAll.{none as takes_none, more as takes_more}
use Rattle.session_model.specs.Sessions.TakesSome.{none as some_none, more as some_more}
use Rattle.world_model.specs.Nodes.{Node, answered}
use Rattle.world_model.specs.World.{World, Participant, node_at, participant, peer_of, with_node, with_participant}
use Rattle.world_model.specs.Rounds.{question_as}
use Rattle.world_model.specs.GhostState.{Began, GhostState}
use Rattle.world_model.specs.Fates.{FateOf, ask_counted}
use Rattle.world_model.specs.Steps.{Configuration, acked_by}
use Rattle.world_model.specs.Holding.{block_rank}
use Rattle.calm_laws.proofs.CalmNodes.{HeldStays, IsHeld, KeepsRings, put_answers, same_rings}
use Rattle.calm_laws.proofs.CalmPuts.{IsHeldFor, block_of, kind_of, question_is}
use Rattle.calm_laws.proofs.CalmStates.{ArePending, IsMore, IsOwnPost, asked_more, found_placed, more_posts, placed, placed_more, placed_pending, posts_at}
use Rattle.calm_laws.proofs.BlockKinds.{FitsIn, IsFit, fit_of, of_fit, post_fits}
use Rattle.calm_laws.proofs.Holding.{AreOrderly, put_held, put_is_held, taken_of}
use Rattle.calm_laws.proofs.Stretches.{Answers, AreTrue, IsAckHeld, IsMade, IsPutTrue, IsRingOf, IsTrueAt, Stretch, is_routed, put_ends, who_answers}
use Rattle.calm_laws.proofs.Stretches.Answers.{gives as has_answered, is_silent}
use Rattle.calm_laws.proofs.States.{AskGoes, InStep, IsGood, ConfigurationGoes, ask_goes, good_later, more_heard, still_acked, still_in_step}

-- ---- what sessions ask

never_less : (n : ℕ) → nat_lt n n ≡ false
never_less n = le-ltb n n (le_refl n)

pub put_data : (p : Post) → IsForData (put_question p)
put_data p = by (is_head p.kind)
  where
    by : (b : Bool) → IsForData (cond b (ask.PutHead p.key p.bytes) (ask.PutBlock p.key p.bytes))
    by true = tt
    by false = tt

pub hears_data : {r : ℕ} {s : Session} {cache : Cache} {node : Peer} {question : Ask} {given : Answer} {heard : Session} {after : Cache} → Hears hss_judged r s cache node question given heard after → IsForData question
hears_data (gets_on want wants next part) = ⊎_elim (λ e. subst IsForData (sym e) tt) (λ e. subst IsForData (sym e) tt) next.is_of
hears_data (got want brought wants next whole) = ⊎_elim (λ e. subst IsForData (sym e) tt) (λ e. subst IsForData (sym e) tt) next.is_of
hears_data (puts_on said p posts acks at next part) = ⊎_elim (λ e. subst IsForData (sym e) tt) (λ e. subst IsForData (sym e) (put_data p)) next.is_of
hears_data (puts said p posts acks came at next whole) = ⊎_elim (λ e. subst IsForData (sym e) tt) (λ e. subst IsForData (sym e) (put_data p)) next.is_of

fewer_own : (w : World) (p : Post) (posts : List Post) → AllByRecursion (IsOwnPost w) posts → AllByRecursion (IsOwnPost w) (held_back p posts)
fewer_own w p posts h = by (is_log p.kind)
  where
    by : (b : Bool) → AllByRecursion (IsOwnPost w) (cond b (filter (λ (q : Post). not (is_head q.kind)) posts) posts)
    by true = each_from (IsOwnPost w) (filter (λ (q : Post). not (is_head q.kind)) posts) (λ q among. each (IsOwnPost w) posts q h (from_filter (λ (q : Post). not (is_head q.kind)) posts q among).0)
    by false = h

module _ (ring : Stretch) where
  -- ---- one ask

  module _ (w next : World) (node : Peer) (question : Ask) (given : Answer) (up : IsMore w ring.end) (h : IsRingOf ring w)
      (fate : FateOf hss_judged w node question given next) (orderly : AreOrderly ring.end w) where
    goes : IsForData question → FitsIn ring.end question → AskGoes ring w next
    goes for_data fits = ask_goes ring w next node question given for_data fits h orderly fate

    route_goes : (key : Key) → question ≡ ask.Route key → AskGoes ring w next
    route_goes key e = goes (subst IsForData (sym e) tt) (subst (FitsIn ring.end) (sym e) tt)

    pub get_goes : (key : Key) → (question ≡ ask.Route key) ⊎ (question ≡ ask.Get key) → AskGoes ring w next
    get_goes key e = ⊎_elim (route_goes key) (λ g. goes (subst IsForData (sym g) tt) (subst (FitsIn ring.end) (sym g) tt)) e

    pub put_goes : (p : Post) → IsOwnPost w p → (question ≡ ask.Route p.key) ⊎ (question ≡ put_question p) → AskGoes ring w next
    put_goes p own e = ⊎_elim (route_goes p.key) (λ g. goes (subst IsForData (sym g) (put_data p)) (subst (FitsIn ring.end) (sym g) (post_fits w ring.end p up own))) e

    -- what is told of the answer is true
    route_told : (post : Option Post) (key : Key) → question ≡ ask.Route key → AreTrue ring next post (told node question given)
    route_told post key e = subst (λ q. AreTrue ring next post (told node q given)) (sym e)
        (λ made. is_routed ring w next node key given h (subst (λ q. FateOf hss_judged w node q given next) e fate) made, tt)

    pub get_told : (post : Option Post) (key : Key) → (question ≡ ask.Route key) ⊎ (question ≡ ask.Get key) → AreTrue ring next post (told node question given)
    get_told post key e = ⊎_elim (route_told post key) (λ g. subst (λ q. AreTrue ring next post (told node q given)) (sym g) (tt, tt)) e

    put_so : (p : Post) → IsOwnPost w p → IsMade ring node → FateOf hss_judged w node (question_as (kind_of p) p.key p.bytes) given next → IsPutTrue ring next p node given
    put_so p own made put = by (who_answers ring w next node (question_as (kind_of p) p.key p.bytes) given h made put)
      where
        fit : FitsIn ring.end (question_as (kind_of p) p.key p.bytes)
        fit = subst (FitsIn ring.end) (question_is p) (post_fits w ring.end p up own)

        taken_so : (n : Node) → node_at w node.id ≡ Some n → peer_of n ≡ node → next ≡ with_node (ask_counted w) (answered hss_judged n (question_as (kind_of p) p.key p.bytes)).1 → holds (answered hss_judged n (question_as (kind_of p) p.key p.bytes)).0 ≡ true
            → IsHeldFor next p node × IsFit (kind_of p) p.key p.bytes
        taken_so n is me next_is taken =
            let fits : IsFit (kind_of p) p.key p.bytes = of_fit ring.end p.key (kind_of p) p.bytes (taken_of ring.end (kind_of p) p.key p.bytes n fit taken) in (
              record {
                held = subst (λ v. IsHeld v p.key (kind_of p) (block_rank hss_judged p.key (block_of p)) node) (sym next_is) (put_is_held ring.end ring.apart w node (kind_of p) p.key p.bytes n fit orderly is me taken);
                met = (asked_more fate).met p.bytes own.0;
                named = λ e. subst (λ b. IsFit (cond b Head Content) p.key p.bytes) e fits;
              },
              fits,
            )

        by : Answers ring w node (question_as (kind_of p) p.key p.bytes) given next → IsPutTrue ring next p node given
        by (is_silent s l) = record {
          answers = ap is_of_put s ∙ sym l;
          held = λ e. let no : false ≡ true = sym (ap holds s) ∙ e in absurd cc;
          takes = λ room fits live. let no : false ≡ true = sym l ∙ live in absurd cc;
        }
        by (has_answered n is me l same next_is) = record {
          answers = ap is_of_put same ∙ put_answers (kind_of p) p.key p.bytes n ∙ sym l;
          held = λ e. taken_so n is me next_is (sym (ap holds same) ∙ e);
          takes = λ room fits live. ap holds same ∙ put_held ring.end room (kind_of p) p.key p.bytes n (orderly node.id n is) (fit_of ring.end (kind_of p) p.key p.bytes fit fits);
        }

    pub put_told : (p : Post) → IsOwnPost w p → (question ≡ ask.Route p.key) ⊎ (question ≡ put_question p) → AreTrue ring next (Some p) (told node question given)
    put_told p own e = ⊎_elim (route_told (Some p) p.key)
        (λ g. subst (λ q. AreTrue ring next (Some p) (told node q given)) (sym g) (by_kind (is_head p.kind) (λ made. put_so p own made (subst (λ q. FateOf hss_judged w node q given next) (g ∙ question_is p) fate)))) e
      where
        by_kind : (b : Bool) → (IsMade ring node → IsPutTrue ring next p node given) → AreTrue ring next (Some p) (told node (cond b (ask.PutHead p.key p.bytes) (ask.PutBlock p.key p.bytes)) given)
        by_kind true t = (t, tt)
        by_kind false t = (t, tt)

    pub heard_more : (post : Option Post) (trail more : List Heard) → HeldStays w next → AreTrue ring w post trail → AreTrue ring next post more → AreTrue ring next post (trail ++ more)
    heard_more post trail more held old new = each_append (λ (x : Heard). IsTrueAt ring next post x.kind x) trail more (more_heard ring w next post trail (asked_more fate) held old) new

    posts_then : (ps : List Post) → AllByRecursion (IsOwnPost w) ps → AllByRecursion (IsOwnPost next) ps
    posts_then ps own = more_posts w next ps (asked_more fate) own

  -- one of a session
  module _ (w next : World) (node : Peer) (question : Ask) (given : Answer) (up : IsMore w ring.end) (h : IsRingOf ring w)
      (fate : FateOf hss_judged w node question given next) (s : Session) (step : InStep ring w s) (st : GhostState) (good : IsGood ring w st) where
    abbrev Answered : Session → Type 0
    Answered heard = AskGoes ring w next × InStep ring next heard × ((t : Session) → Fails heard t → AllByRecursion (IsAckHeld ring next) (acked_by s.stage t.stage))

    -- a session whose stage stays acknowledges nothing
    none_acked : (P : Post → Type 0) (stage : Stage) → AllByRecursion P (acked_by stage stage)
    none_acked P Refreshing = tt
    none_acked P (Publishing said [] acks) = tt
    none_acked P (Publishing said (p ∷ posts) acks) = subst (λ b. AllByRecursion P (cond b (p ∷ []) [])) (sym (never_less (length acks))) tt
    none_acked P (Over said) = tt

    none_over : (P : Post → Type 0) (stage : Stage) (said : Option Said) → AllByRecursion P (acked_by stage (Over said))
    none_over P Refreshing said = tt
    none_over P (Publishing also [] acks) said = tt
    none_over P (Publishing also (p ∷ posts) acks) said = tt
    none_over P (Over also) said = tt

    still_none : (heard : Session) → heard.stage ≡ s.stage → (t : Session) → Fails heard t → AllByRecursion (IsAckHeld ring next) (acked_by s.stage t.stage)
    still_none heard e _ (fails notes gives miss xid asked at refreshed asks_it) = none_over (IsAckHeld ring next) s.stage _
    still_none heard e _ (goes_on none) = subst (λ stage. AllByRecursion (IsAckHeld ring next) (acked_by s.stage stage)) (sym e) (none_acked (IsAckHeld ring next) s.stage)

    post_own : {said : Option Said} {p : Post} {posts : List Post} {acks : List Ack} → s.stage ≡ Publishing said (p ∷ posts) acks → IsOwnPost w p × AllByRecursion (IsOwnPost w) posts
    post_own at = subst (λ stage. AllByRecursion (IsOwnPost w) (posts_at stage)) at step.posts

    post_heard : {said : Option Said} {p : Post} {posts : List Post} {acks : List Ack} → s.stage ≡ Publishing said (p ∷ posts) acks → AreTrue ring w (Some p) s.current
    post_heard at = subst (λ stage. AreTrue ring w (first (posts_at stage)) s.current) at step.heard

    pub answered_so : {cache after : Cache} {heard : Session} → Hears hss_judged ring.r s cache node question given heard after → Answered heard
    answered_so (gets_on want wants next_is part) =
        let a = get_goes w next node question given up h fate good.orderly (wanted_key want) next_is.is_of in (
          a,
          record {
            entries = step.entries;
            posts = posts_then w next node question given up h fate good.orderly (posts_at s.stage) step.posts;
            heard = heard_more w next node question given up h fate good.orderly (first (posts_at s.stage)) s.current (told node question given) a.held step.heard (get_told w next node question given up h fate good.orderly (first (posts_at s.stage)) (wanted_key want) next_is.is_of);
          },
          still_none _ refl,
        )
    answered_so (got want brought wants next_is whole) =
        let a = get_goes w next node question given up h fate good.orderly (wanted_key want) next_is.is_of in (a, record { entries = step.entries; posts = posts_then w next node question given up h fate good.orderly (posts_at s.stage) step.posts; heard = tt }, still_none _ refl)
    answered_so (puts_on said p posts acks at next_is part) =
        let own = post_own at in
        let a = put_goes w next node question given up h fate good.orderly p own.0 next_is.is_of in (
          a,
          record {
            entries = step.entries;
            posts = posts_then w next node question given up h fate good.orderly (posts_at s.stage) step.posts;
            heard = subst (λ stage. AreTrue ring next (first (posts_at stage)) (s.current ++ told node question given)) (sym at)
                (heard_more w next node question given up h fate good.orderly (Some p) s.current (told node question given) a.held (post_heard at) (put_told w next node question given up h fate good.orderly p own.0 next_is.is_of));
          },
          still_none _ refl,
        )
    answered_so (puts said p posts acks came at next_is whole) =
        let own = post_own at in
        let a = put_goes w next node question given up h fate good.orderly p own.0 next_is.is_of in
        let all = heard_more w next node question given up h fate good.orderly (Some p) s.current (told node question given) a.held (post_heard at) (put_told w next node question given up h fate good.orderly p own.0 next_is.is_of) in (
          a,
          record { entries = step.entries; posts = posts_after p posts said acks (acknowledged came) own.1; heard = tt },
          λ t f. subst (λ stage. AllByRecursion (IsAckHeld ring next) (acked_by stage t.stage)) (sym at)
              (put_acked said p posts acks (acknowledged came) (put_ends ring next p (s.current ++ told node question given) came a.still all (subst (λ es. IsPutOfPost ring.r es p (s.current ++ told node question given) came) step.entries whole)) t f),
        )
      where
        posts_after : (p : Post) (posts : List Post) (said : Option Said) (acks : List Ack) (b : Bool) → AllByRecursion (IsOwnPost w) posts → AllByRecursion (IsOwnPost next) (posts_at (after_put said p posts acks b))
        posts_after p posts said acks true own = posts_then w next node question given up h fate good.orderly posts own
        posts_after p posts said acks false own = fewer_own next p posts (posts_then w next node question given up h fate good.orderly posts own)

        one_acked : (P : Post → Type 0) (p : Post) (b : Bool) → P p → AllByRecursion P (cond b (p ∷ []) [])
        one_acked P p true h = (h, tt)
        one_acked P p false h = tt

        put_acked : (said : Option Said) (p : Post) (posts : List Post) (acks : List Ack) (b : Bool) → (b ≡ true → IsAckHeld ring next p) → (t : Session) → Fails (record s { stage = after_put said p posts acks b; current = [] }) t
            → AllByRecursion (IsAckHeld ring next) (acked_by (Publishing said (p ∷ posts) acks) t.stage)
        put_acked said p posts acks b held _ (fails notes gives miss xid asked at refreshed asks_it) = tt
        put_acked said p posts acks true held _ (goes_on none) = one_acked (IsAckHeld ring next) p _ (held refl)
        put_acked said p posts acks false held _ (goes_on none) = subst (λ b. AllByRecursion (IsAckHeld ring next) (cond b (p ∷ []) [])) (sym (never_less (length acks))) tt

  -- ---- what changes a participant

  takes_step : {s t : Session} {cache after : Cache} (w : World) → Takes hss_judged ring.r s cache t after → InStep ring w s → InStep ring w t
  takes_step w (posted key bytes wants none is) h = record { entries = h.entries; posts = h.posts; heard = tt }
  takes_step w (cached key bytes wants none missing is) h = record { entries = h.entries; posts = h.posts; heard = tt }

  pub takes_all_step : {s t : Session} {cache after : Cache} (w : World) → TakesAll hss_judged ring.r s cache t after → InStep ring w s → InStep ring w t
  takes_all_step w (takes_none none) h = h
  takes_all_step w (takes_more first rest) h = takes_all_step w rest (takes_step w first h)

  pub takes_some_step : {s t : Session} {cache after : Cache} (w : World) → TakesSome hss_judged ring.r s cache t after → InStep ring w s → InStep ring w t
  takes_some_step w some_none h = h
  takes_some_step w (some_more first rest) h = takes_some_step w rest (takes_step w first h)

  pub lacks_step : {s t : Session} (w : World) → LacksMemory s t → InStep ring w s → InStep ring w t
  lacks_step w (lacks notes shown given end xid asked at refreshed asks_it rest front) h = record { entries = h.entries; posts = tt; heard = tt }

  pub fails_step : {s t : Session} (w : World) → Fails s t → InStep ring w s → InStep ring w t
  fails_step w (fails notes gives miss xid asked at refreshed asks_it) h = record { entries = h.entries; posts = tt; heard = tt }
  fails_step w (goes_on none) h = h

  module _ (w : World) (n : List ℕ) (p q : Participant) (met : List (List ℕ)) (is_p : participant w n ≡ Some p) (named : q.name ≡ p.name) (grows : (b : List ℕ) → Contains w.met b → Contains met b) (left : (b : List ℕ) → Contains p.left b → Contains q.left b) where
    abbrev v : World
    v = placed w n p q met is_p named grows left

    more : IsMore w v
    more = placed_more w n p q met is_p named grows left

    pub placed_ring : KeepsRings w v
    placed_ring = same_rings w v refl refl refl refl

    pub placed_good : (st su : GhostState) → su.acked ≡ st.acked → AllByRecursion (IsOwnPost v) q.agent.pending → IsGood ring w st → IsGood ring v su
    placed_good st su e own g = good_later ring w v st su g more (λ key kind least m i. i) g.orderly (placed_pending w n p q met is_p named grows left g.pending own) refl
        (subst (AllByRecursion (IsAckHeld ring v)) (sym e) (still_acked ring w v st.acked more (λ key kind least m i. i) g.acked))

    pub placed_step : (s : Session) → InStep ring w s → InStep ring v s
    placed_step s h = still_in_step ring w v s more (λ key kind least m i. i) h

  -- what becomes of a configuration where a participant's agent and cache change, and what has left it only grows
  pub place_goes : (c : Configuration) (n : List ℕ) (p q : Participant) (met : List (List ℕ)) (su : GhostState) (t : Session) (b : Began) → participant c.world n ≡ Some p → q.name ≡ p.name → ((x : List ℕ) → Contains c.world.met x → Contains met x)
      → ((x : List ℕ) → Contains p.left x → Contains q.left x) → su.acked ≡ c.ghost_state.acked
      → ((v : World) → participant v n ≡ Some q → v.met ≡ met → IsMore c.world v → ArePending c.world → AllByRecursion (IsOwnPost v) q.agent.pending)
      → ((v : World) → IsMore c.world v → AllByRecursion (IsOwnPost v) q.agent.pending → InStep ring v c.session → InStep ring v t)
      → ConfigurationGoes ring c (record { world = record (with_participant c.world q) { met = met }; ghost_state = su; session = t; began = b })
  place_goes c n p q met su t b is_p named grows left e own step = record {
    grows = placed_more c.world n p q met is_p named grows left;
    still = placed_ring c.world n p q met is_p named grows left;
    good = λ up h g s.
        let all = own (placed c.world n p q met is_p named grows left) (found_placed c.world n p q met is_p named grows left) refl (placed_more c.world n p q met is_p named grows left) g.pending in (
          placed_good c.world n p q met is_p named grows left c.ghost_state su e all g,
          step (placed c.world n p q met is_p named grows left) (placed_more c.world n p q met is_p named grows left) all (placed_step c.world n p q met is_p named grows left c.session s),
        );
  }
