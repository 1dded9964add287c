-- Steps of sessions leave it so: each put is acknowledged while what was met is within its limit.
use Rattle.std.proofs.Common.{◌≡◌, ◌⊎◌, inl, inr, ⊎_elim, ℕ, ◌≤◌, Bool, true, false, cond, List, [], ◌∷◌, ◌++◌, length, map, Option, Some, refl, sym, ap, ◌∙◌, subst, arith, le_refl, Contains, length-append}
use Rattle.std.specs.List.{AllByRecursion}
use Rattle.std.specs.Str.{bytes_eq}
use Rattle.std.proofs.lemmas.Bool.{lt-ltb}
use Rattle.std.proofs.lemmas.List.Elements.{Contains-append_left, Contains-append_right}
use Rattle.ivy_base.specs.declared.key.Key.{Key}
use Rattle.ivy_base.specs.declared.operation.Moment.{Moment}
use Rattle.ring_model.proofs.Lists.{all_weaker}
use Rattle.dhash_model.specs.Signed.{hss_judged}
use Rattle.log_model.specs.View.{View}
use Rattle.log_model.proofs.Lists.{each, each_append, here, in_cons, in_nothing}
use Rattle.dht_ids.specs.Asked.{told}
use Rattle.dht_ids.specs.declared.ask.Answer.{Answer}
use Rattle.dht_ids.specs.declared.ask.Ask.{Ask}
use Rattle.dht_ids.specs.declared.ask.Ask.TheVariants as ask
use Rattle.dht_ids.specs.declared.ask.AskKind.{AskKind}
use Rattle.dht_ids.specs.declared.ask.AskKind.TheVariants as kind
use Rattle.dht_ids.specs.declared.ask.Heard.{Heard}
use Rattle.dht_ids.specs.declared.peer.Peer.{Peer}
use Rattle.dht_ids.specs.declared.post.Ack.{Ack}
use Rattle.dht_ids.specs.declared.post.Post.{Post}
use Rattle.dhash_model.specs.Puts.{holds, is_of_put}
use Rattle.agent_model.specs.Agent.{kept_of}
use Rattle.agent_model.specs.Turning.{TurnEnd}
use Rattle.session_model.specs.Executions.{Fails, LacksMemory, Settles}
use Rattle.session_model.specs.Executions.Fails.{fails, goes_on}
use Rattle.session_model.specs.Executions.LacksMemory.{lacks}
use Rattle.session_model.specs.Executions.Settles.{settles as settles_all}
use Rattle.session_model.specs.Executions.TakesTurn.{answers as turn_answers, begins_again, gives_up}
use Rattle.session_model.specs.Sessions.{Cache, Hears, IsPutOfPost, Publishing, Refreshing, Said, Session, Stage, Takes, TakesAll, TakesSome, ack_of, acknowledged, after_put, put_question, wanted_key}
use Rattle.session_model.specs.Sessions.Hears.{gets_on, got, puts, puts_on}
use Rattle.session_model.specs.Sessions.Takes.{cached, posted}
use Rattle.session_model.specs.Sessions.TakesAll.{more as takes_more, none as takes_none}
use Rattle.session_model.specs.Sessions.TakesSome.{more as some_more, none as some_none}
use Rattle.world_model.specs.Agents.{HssAgent, IsHssKept, HssKept, TakesHssTurn, own_reach}
use Rattle.world_model.specs.Fates.{FateOf}
use Rattle.world_model.specs.Keepers.{fails_next}
use Rattle.world_model.specs.Step.{most_bytes}
use Rattle.world_model.specs.Steps.{Acts, Configuration, Steps, acked_by, after_turn, heads_by, met_by, with_cache, world_after}
use Rattle.world_model.specs.Steps.Acts.{asks, asks_in_vain, is_refused, settles, turns}
use Rattle.world_model.specs.Steps.Steps.{acts, lacks_memory}
use Rattle.world_model.specs.World.{NamedSession, Participant, World, participant, with_participant}
use Rattle.world_laws.proofs.Bringing.{found_named, some_same}
use Rattle.calm_laws.proofs.CalmNodes.{asked_rings, same_rings}
use Rattle.calm_laws.proofs.CalmPuts.{entries_by}
use Rattle.calm_laws.proofs.CalmStates.{IsMore, IsOwnPost, found_placed, posts_at}
use Rattle.world_laws.proofs.SignedAmong.{met_stays}
use Rattle.world_laws.proofs.WholePublishing.{each_published}
use Rattle.calm_laws.proofs.Rooms.{total}
use Rattle.calm_laws.proofs.Configurations.{step_goes}
use Rattle.calm_laws.proofs.States.{InStep, IsGood, kept_ring}
use Rattle.calm_laws.proofs.Steps.{takes_all_step}
use Rattle.calm_laws.proofs.Stretches.{IsMade, IsRingOf, IsRouted, Stretch, is_routed, lives}
use Rattle.calm_laws.specs.Completeness.{FitsItsKey}
use Rattle.calm_laws.proofs.FitPosts.{AllFit, HasFit, settled_fit, taking_fit}
use Rattle.calm_laws.proofs.NewestCover.{HasNewest, IsCovered, newest_weaker, settles_newest, takes_newest}
use Rattle.calm_laws.proofs.PutsAcked.{AreFine, fate_fine, put_acked, put_step}
use Rattle.calm_laws.proofs.BackedSteps.{fate_same, takes_all_same}

acked_one : (said : Option Said) (p : Post) (posts : List Post) (acks : List Ack) → acked_by (Publishing said (p ∷ posts) acks) (Publishing said posts (acks ++ ack_of p ∷ [])) ≡ p ∷ []
acked_one said p posts acks = ap (λ b. cond b (p ∷ []) []) (lt-ltb (length acks) (length (acks ++ ack_of p ∷ [])) (let size = length-append acks (ack_of p ∷ []) in omega (arith, size)))

put_past : (said : Option Said) (p : Post) (posts : List Post) (acks : List Ack) (came : Bool) → after_put said p posts acks came ≡ Refreshing → ⊥
put_past said p posts acks true e = cc e
put_past said p posts acks false e = cc e

not_both : (said : Option Said) (posts : List Post) (acks : List Ack) (stage : Stage) → stage ≡ Publishing said posts acks → stage ≡ Refreshing → ⊥
not_both said posts acks stage at is = cc (sym at ∙ is)

pub placed_all : (P : Participant → Type 0) (q : Participant) (ps : List Participant) → P q → AllByRecursion P ps → AllByRecursion P (map (λ (o : Participant). cond (bytes_eq o.name q.name) q o) ps)
placed_all P q [] new h = tt
placed_all P q (p ∷ ps) new h = (by (bytes_eq p.name q.name), placed_all P q ps new h.1)
  where
    by : (b : Bool) → P (cond b q p)
    by true = new
    by false = h.0

-- what is to be published fits, and the newest head is covered
abbrev pub FlowsOn : List Post → List NamedSession → List Post → Participant → Type 0
FlowsOn acked ss posts q = HasFit q.agent q.keeper × HasNewest acked ss posts q.agent

pub flows_weaker : (acked more : List Post) (ss others : List NamedSession) (posts left : List Post) → ((x : Post) → IsCovered acked ss posts x → IsCovered more others left x) → (ps : List Participant) → AllByRecursion (FlowsOn acked ss posts) ps → AllByRecursion (FlowsOn more others left) ps
flows_weaker acked more ss others posts left weaker ps h = all_weaker (FlowsOn acked ss posts) (FlowsOn more others left) ps
    (λ q f. (f.0, newest_weaker acked more ss others posts left q.agent q.agent weaker refl (le_refl (own_reach q.agent)) f.1)) h

module _ (ring : Stretch) (met : List (List ℕ)) (fits_it : total met ≤ most_bytes) where
  -- an answer to a route is the ring's, and what was put was taken
  abbrev pub IsSound : AskKind → Heard → Type 0
  IsSound kind.Route h = IsMade ring h.node → IsRouted ring h.key h.node h.got
  IsSound kind.Get h = Unit {0}
  IsSound kind.PutBlock h = IsMade ring h.node → (is_of_put h.got ≡ lives ring h.node) × (holds h.got ≡ lives ring h.node)
  IsSound kind.PutHead h = IsMade ring h.node → (is_of_put h.got ≡ lives ring h.node) × (holds h.got ≡ lives ring h.node)

  abbrev pub AllSound : List Heard → Type 0
  AllSound trail = AllByRecursion (λ h. IsSound h.kind h) trail

  -- so is what the session was answered, and what it has to put fits
  abbrev pub FitSession : Session → Type 0
  FitSession s = AllSound s.current × AllFit (posts_at s.stage)

  abbrev pub IsWellNow : World → Type 0
  IsWellNow v = IsRingOf ring v × AreFine met v

  route_told : (key : Key) (v mid : World) (to : Peer) (given : Answer) → FateOf hss_judged v to (ask.Route key) given mid → IsWellNow v → IsWellNow mid × AllSound (told to (ask.Route key) given)
  route_told key v mid to given fate h = (
    (kept_ring ring v mid (asked_rings v mid to (ask.Route key) given tt fate) h.0, fate_fine met fate (λ n. refl) (λ n so. so) h.1),
    ((λ made. is_routed ring v mid to key given h.0 fate made), tt),
  )

  get_told : (key : Key) (v mid : World) (to : Peer) (given : Answer) → FateOf hss_judged v to (ask.Get key) given mid → IsWellNow v → IsWellNow mid × AllSound (told to (ask.Get key) given)
  get_told key v mid to given fate h = ((kept_ring ring v mid (asked_rings v mid to (ask.Get key) given tt fate) h.0, fate_fine met fate (λ n. refl) (λ n so. so) h.1), (tt, tt))

  -- an ask of a session
  module _ (v next : World) (node : Peer) (question : Ask) (given : Answer) (fate : FateOf hss_judged v node question given next) (is_well : IsWellNow v) where
    gets_told : (key : Key) → (question ≡ ask.Route key) ⊎ (question ≡ ask.Get key) → IsWellNow next × AllSound (told node question given)
    gets_told key (inl is) = subst (λ q. IsWellNow next × AllSound (told node q given)) (sym is) (route_told key v next node given (subst (λ q. FateOf hss_judged v node q given next) is fate) is_well)
    gets_told key (inr is) = subst (λ q. IsWellNow next × AllSound (told node q given)) (sym is) (get_told key v next node given (subst (λ q. FateOf hss_judged v node q given next) is fate) is_well)

    puts_told : (p : Post) → Contains met p.bytes → FitsItsKey p → (question ≡ ask.Route p.key) ⊎ (question ≡ put_question p) → IsWellNow next × AllSound (told node question given)
    puts_told p in_met good (inl is) = gets_told p.key (inl is)
    puts_told p in_met good (inr is) = subst (λ q. IsWellNow next × AllSound (told node q given)) (sym is) (put_step ring met fits_it p in_met good v next node given (subst (λ q. FateOf hss_judged v node q given next) is fate) is_well)

    asked_well : {s heard : Session} {cache after : Cache} → FitSession s → AllByRecursion (λ p. Contains met p.bytes) (posts_at s.stage) → Hears hss_judged ring.r s cache node question given heard after → IsWellNow next
    asked_well fit posts_met (gets_on want wants next_is part) = (gets_told (wanted_key want) next_is.is_of).0
    asked_well fit posts_met (got want brought wants next_is whole) = (gets_told (wanted_key want) next_is.is_of).0
    asked_well fit posts_met (puts_on said p posts acks at next_is part) =
        (puts_told p (subst (λ st. AllByRecursion (λ (q : Post). Contains met q.bytes) (posts_at st)) at posts_met).0 (subst (λ st. AllFit (posts_at st)) at fit.1).0 next_is.is_of).0
    asked_well fit posts_met (puts said p posts acks came at next_is whole) =
        (puts_told p (subst (λ st. AllByRecursion (λ (q : Post). Contains met q.bytes) (posts_at st)) at posts_met).0 (subst (λ st. AllFit (posts_at st)) at fit.1).0 next_is.is_of).0

    -- what comes of it
    record IsAsked (acked : List Post) (ss : List NamedSession) (s t : Session) : Type 0 where
      well : IsWellNow next
      fit : FitSession t
      covers : (x : Post) → IsCovered acked ss (posts_at s.stage) x → IsCovered (acked ++ acked_by s.stage t.stage) ss (posts_at t.stage) x

    failed_asked : (acked : List Post) (ss : List NamedSession) {s heard t : Session} → Fails heard t → (heard.stage ≡ Refreshing → posts_at s.stage ≡ []) → IsAsked acked ss s heard → IsAsked acked ss s t
    failed_asked acked ss {s} {heard} {t} (fails notes gives miss xid asked at refreshed asks_it) bare h = record {
      well = h.well;
      fit = (tt, tt);
      covers = λ x c. over x c;
    }
      where
        over : (x : Post) → IsCovered acked ss (posts_at s.stage) x → IsCovered (acked ++ acked_by s.stage t.stage) ss [] x
        over x (inl c) = inl (Contains-append_left acked (acked_by s.stage t.stage) x c)
        over x (inr (inl c)) = absurd (in_nothing x (subst (λ ps. Contains ps x) (bare at) c))
        over x (inr (inr c)) = inr (inr c)
    failed_asked acked ss (goes_on none) bare h = h

    same_cover : (acked : List Post) (ss : List NamedSession) (stage : Stage) (x : Post) → IsCovered acked ss (posts_at stage) x → IsCovered (acked ++ acked_by stage stage) ss (posts_at stage) x
    same_cover acked ss stage x (inl c) = inl (Contains-append_left acked (acked_by stage stage) x c)
    same_cover acked ss stage x (inr (inl c)) = inr (inl c)
    same_cover acked ss stage x (inr (inr c)) = inr (inr c)

    asked_so : (acked : List Post) (ss : List NamedSession) {s heard t : Session} {cache after : Cache} → s.entries ≡ entries_by ring.base → FitSession s → AllByRecursion (λ p. Contains met p.bytes) (posts_at s.stage) → Hears hss_judged ring.r s cache node question given heard after → Fails heard t → IsAsked acked ss s t
    asked_so acked ss {s} entries fit posts_met (gets_on want wants next_is part) goes =
        let a = gets_told (wanted_key want) next_is.is_of in
        failed_asked acked ss goes (λ at. ap posts_at wants.0) (record { well = a.0; fit = (each_append (λ (x : Heard). IsSound x.kind x) s.current (told node question given) fit.0 a.1, fit.1); covers = λ x c. same_cover acked ss s.stage x c })
    asked_so acked ss {s} entries fit posts_met (got want brought wants next_is whole) goes =
        let a = gets_told (wanted_key want) next_is.is_of in
        failed_asked acked ss goes (λ at. ap posts_at wants.0) (record { well = a.0; fit = (tt, fit.1); covers = λ x c. same_cover acked ss s.stage x c })
    asked_so acked ss {s} entries fit posts_met (puts_on said p posts acks at next_is part) goes =
        let all : AllFit (p ∷ posts) = subst (λ st. AllFit (posts_at st)) at fit.1 in
        let in_met : AllByRecursion (λ (q : Post). Contains met q.bytes) (p ∷ posts) = subst (λ st. AllByRecursion (λ (q : Post). Contains met q.bytes) (posts_at st)) at posts_met in
        let a = puts_told p in_met.0 all.0 next_is.is_of in
        failed_asked acked ss goes (λ is. absurd (not_both said (p ∷ posts) acks s.stage at is)) (record { well = a.0; fit = (each_append (λ (x : Heard). IsSound x.kind x) s.current (told node question given) fit.0 a.1, fit.1); covers = λ x c. same_cover acked ss s.stage x c })
    asked_so acked ss {s} entries fit posts_met (puts said p posts acks came at next_is whole) goes =
        failed_asked acked ss goes (λ is. absurd (put_past said p posts acks (acknowledged came) is)) (record { well = a.0; fit = (tt, subst (λ b. AllFit (posts_at (after_put said p posts acks b))) (sym yes) all.1); covers = covers })
      where
        all : AllFit (p ∷ posts)
        all = subst (λ st. AllFit (posts_at st)) at fit.1

        in_met : AllByRecursion (λ (q : Post). Contains met q.bytes) (p ∷ posts)
        in_met = subst (λ st. AllByRecursion (λ (q : Post). Contains met q.bytes) (posts_at st)) at posts_met

        a : IsWellNow next × AllSound (told node question given)
        a = puts_told p in_met.0 all.0 next_is.is_of

        yes : acknowledged came ≡ true
        yes = put_acked ring met fits_it p in_met.0 all.0 next a.0.0 (s.current ++ told node question given) came (each_append (λ (x : Heard). IsSound x.kind x) s.current (told node question given) fit.0 a.1)
            (subst (λ es. IsPutOfPost ring.r es p (s.current ++ told node question given) came) entries whole)

        Then : Stage → Stage → Post → Type 0
        Then before stage x = IsCovered acked ss (posts_at before) x → IsCovered (acked ++ acked_by before stage) ss (posts_at stage) x

        one_put : (x : Post) → IsCovered acked ss (p ∷ posts) x → IsCovered (acked ++ p ∷ []) ss posts x
        one_put x (inl c) = inl (Contains-append_left acked (p ∷ []) x c)
        one_put x (inr (inl c)) = ⊎_elim (λ is. inl (Contains-append_right acked (p ∷ []) x (subst (Contains (p ∷ [])) is (here p [])))) (λ later. inr (inl later)) (in_cons p posts x c)
        one_put x (inr (inr c)) = inr (inr c)

        covers : (x : Post) → IsCovered acked ss (posts_at s.stage) x → IsCovered (acked ++ acked_by s.stage (after_put said p posts acks (acknowledged came))) ss (posts_at (after_put said p posts acks (acknowledged came))) x
        covers x c =
            subst (λ b. IsCovered (acked ++ acked_by s.stage (after_put said p posts acks b)) ss (posts_at (after_put said p posts acks b)) x) (sym yes)
            (subst (λ st. IsCovered (acked ++ acked_by st (Publishing said posts (acks ++ ack_of p ∷ []))) ss posts x) (sym at)
            (subst (λ l. IsCovered (acked ++ l) ss posts x) (sym (acked_one said p posts acks)) (one_put x (subst (λ st. IsCovered acked ss (posts_at st) x) at c))))

  -- ---- steps

  lacking_bare : {s t : Session} → LacksMemory s t → (posts_at s.stage ≡ []) × (posts_at t.stage ≡ []) × AllSound t.current
  lacking_bare (lacks notes shown given end xid asked at refreshed asks_it rest front) = (ap posts_at at, refl, tt)

  takes_fit : {s t : Session} {cache after : Cache} → Takes hss_judged ring.r s cache t after → FitSession s → FitSession t
  takes_fit (posted key bytes wants none is) h = (tt, h.1)
  takes_fit (cached key bytes wants none missing is) h = (tt, h.1)

  takes_all_fit : {s t : Session} {cache after : Cache} → TakesAll hss_judged ring.r s cache t after → FitSession s → FitSession t
  takes_all_fit (takes_none none) h = h
  takes_all_fit (takes_more first rest) h = takes_all_fit rest (takes_fit first h)

  some_stage : {s t : Session} {cache after : Cache} → TakesSome hss_judged ring.r s cache t after → t.stage ≡ s.stage
  some_stage some_none = refl
  some_stage (some_more first rest) = some_stage rest ∙ one_stage first
    where
      one_stage : {s t : Session} {cache after : Cache} → Takes hss_judged ring.r s cache t after → t.stage ≡ s.stage
      one_stage (posted key bytes wants none is) = refl
      one_stage (cached key bytes wants none missing is) = refl

  turn_refreshing : {now : Moment} {a : HssAgent} {view : View} {failing : Bool} {s : Session} {end : TurnEnd} {after : HssAgent} {saving : Option HssKept} {t : Session} → TakesHssTurn (record { agent = a; view = view; now = now; fails = failing }) s end after saving t → s.stage ≡ Refreshing
  turn_refreshing (turn_answers notes given xid asked reply applied after saving done asks_it turned) = done.0
  turn_refreshing (begins_again notes given xid asked end after saving done asks_it turned refused few) = done.0
  turn_refreshing (gives_up notes given xid asked end after saving done asks_it turned refused many) = done.0

  -- what the session has to put then
  turn_fits : {now : Moment} {a : HssAgent} {view : View} {failing : Bool} {s : Session} {end : TurnEnd} {after : HssAgent} {saving : Option HssKept} {t : Session} → TakesHssTurn (record { agent = a; view = view; now = now; fails = failing }) s end after saving t → AllFit after.pending → FitSession s → FitSession t
  turn_fits (turn_answers notes given xid asked reply applied after saving done asks_it turned) fit h = (h.0, each_published FitsItsKey after.pending fit)
  turn_fits (begins_again notes given xid asked end after saving done asks_it turned refused few) fit h = (tt, h.1)
  turn_fits (gives_up notes given xid asked end after saving done asks_it turned refused many) fit h = (tt, tt)

  settles_fits : {a after : HssAgent} {s t : Session} → Settles a s after t → FitSession s → FitSession t
  settles_fits (settles_all said acks at) h = (h.0, tt)

  settles_bare : {a after : HssAgent} {s t : Session} → Settles a s after t → (posts_at s.stage ≡ []) × (posts_at t.stage ≡ [])
  settles_bare (settles_all said acks at) = (ap posts_at at, refl)

  module _ (ss others : List NamedSession) where
    -- a configuration of a session, among other open sessions
    pub record Flows (c : Configuration) : Type 0 where
      pub well : IsWellNow c.world
      pub entries : c.session.entries ≡ entries_by ring.base
      pub fit : FitSession c.session
      pub posts_met : AllByRecursion (λ p. Contains met p.bytes) (posts_at c.session.stage)
      pub sessions : c.world.sessions ≡ ss
      pub agents : AllByRecursion (FlowsOn c.ghost_state.acked others (posts_at c.session.stage)) c.world.participants

    -- its agent may be saved before a turn and after it
    abbrev pub IsSavedAt : World → List ℕ → Type 0
    IsSavedAt v name = (p : Participant) → participant v name ≡ Some p → IsHssKept (kept_of p.agent)

    none_covers : (acked : List Post) (posts left : List Post) → posts ≡ [] → (x : Post) → IsCovered acked others posts x → IsCovered acked others left x
    none_covers acked posts left none x (inl c) = inl c
    none_covers acked posts left none x (inr (inl c)) = absurd (in_nothing x (subst (λ l. Contains l x) none c))
    none_covers acked posts left none x (inr (inr c)) = inr (inr c)

    module _ (name : List ℕ) (p : Participant) (c : Configuration) (is_p : participant c.world name ≡ Some p) (h : Flows c) where
      its : FlowsOn c.ghost_state.acked others (posts_at c.session.stage) p
      its = each (FlowsOn c.ghost_state.acked others (posts_at c.session.stage)) c.world.participants p h.agents (found_named c.world.participants name p is_p).0

      acts_flow : {next : Configuration} → next.session.entries ≡ entries_by ring.base → AllByRecursion (λ x. Contains met x.bytes) (posts_at next.session.stage) → (c.session.stage ≡ Refreshing → IsSavedAt c.world name × IsSavedAt next.world name) → Acts hss_judged ring.r p c next → Flows next
      acts_flow then_entries then_met may (asks node question given v heard t cache fate hears goes) =
          let a = asked_so c.world v node question given fate h.well c.ghost_state.acked others h.entries h.fit h.posts_met hears goes in
          let more = flows_weaker c.ghost_state.acked (c.ghost_state.acked ++ acked_by c.session.stage t.stage) others others (posts_at c.session.stage) (posts_at t.stage) a.covers in
          record {
            well = (kept_ring ring v (with_participant v (record p { cache = cache })) (same_rings v (with_participant v (record p { cache = cache })) refl refl refl refl) a.well.0, a.well.1);
            entries = then_entries;
            fit = a.fit;
            posts_met = then_met;
            sessions = (fate_same fate).2 ∙ h.sessions;
            agents = subst (λ ps. AllByRecursion (FlowsOn (c.ghost_state.acked ++ acked_by c.session.stage t.stage) others (posts_at t.stage)) (map (λ (o : Participant). cond (bytes_eq o.name p.name) (record p { cache = cache }) o) ps)) (sym (fate_same fate).0)
                (placed_all (FlowsOn (c.ghost_state.acked ++ acked_by c.session.stage t.stage) others (posts_at t.stage)) (record p { cache = cache }) c.world.participants (let one = (more (p ∷ []) (its, tt)).0 in (one.0, one.1)) (more c.world.participants h.agents));
          }
      acts_flow then_entries then_met may (asks_in_vain node question given v heard t cache fate hears lacking) =
          let bare = lacking_bare lacking in
          record {
            well = asked_well c.world v node question given fate h.well h.fit h.posts_met hears;
            entries = then_entries;
            fit = (bare.2, subst AllFit (sym bare.1) tt);
            posts_met = then_met;
            sessions = (fate_same fate).2 ∙ h.sessions;
            agents = subst (AllByRecursion (FlowsOn c.ghost_state.acked others (posts_at t.stage))) (sym (fate_same fate).0)
                (flows_weaker c.ghost_state.acked c.ghost_state.acked others others (posts_at c.session.stage) (posts_at t.stage) (none_covers c.ghost_state.acked (posts_at c.session.stage) (posts_at t.stage) bare.0) c.world.participants h.agents);
          }
      acts_flow then_entries then_met may (turns view reply applied after saving t turned in_view takes replies is_turn) =
          let q : Participant = record (after_turn p after saving) { work = applied } in
          let at = turn_refreshing takes in
          let whole = (may at).0 p is_p in
          let then_whole = (may at).1 q (found_placed c.world name p q (met_by c.world.met after.pending) is_p refl (λ b m. met_stays c.world.met (map (λ (o : Post). o.bytes) after.pending) b m) (λ b m. met_stays p.left (heads_by after.pending) b m)) in
          let fit = taking_fit c.world.now p.agent p.keeper view c.session _ after saving t whole then_whole its.0 takes in
          record {
            well = (kept_ring ring c.world (world_after c.world q) (same_rings c.world (world_after c.world q) refl refl refl refl) h.well.0, h.well.1);
            entries = then_entries;
            fit = turn_fits takes fit.fit h.fit;
            posts_met = then_met;
            sessions = h.sessions;
            agents = placed_all (FlowsOn c.ghost_state.acked others (posts_at t.stage)) q c.world.participants (record { fit = fit.fit; fine = fit.fine; kept = fit.kept }, takes_newest c.ghost_state.acked others c.world.now p.agent view (fails_next p.keeper) c.session _ after saving t in_view whole its.1 takes)
                (flows_weaker c.ghost_state.acked c.ghost_state.acked others others (posts_at c.session.stage) (posts_at t.stage) (none_covers c.ghost_state.acked (posts_at c.session.stage) (posts_at t.stage) (ap posts_at at)) c.world.participants h.agents);
          }
      acts_flow then_entries then_met may (is_refused view end after saving t in_view refusal takes) =
          let q : Participant = after_turn p after saving in
          let at = turn_refreshing takes in
          let whole = (may at).0 p is_p in
          let then_whole = (may at).1 q (found_placed c.world name p q (met_by c.world.met after.pending) is_p refl (λ b m. met_stays c.world.met (map (λ (o : Post). o.bytes) after.pending) b m) (λ b m. met_stays p.left (heads_by after.pending) b m)) in
          let fit = taking_fit c.world.now p.agent p.keeper view c.session end after saving t whole then_whole its.0 takes in
          record {
            well = (kept_ring ring c.world (world_after c.world q) (same_rings c.world (world_after c.world q) refl refl refl refl) h.well.0, h.well.1);
            entries = then_entries;
            fit = turn_fits takes fit.fit h.fit;
            posts_met = then_met;
            sessions = h.sessions;
            agents = placed_all (FlowsOn c.ghost_state.acked others (posts_at t.stage)) q c.world.participants (record { fit = fit.fit; fine = fit.fine; kept = fit.kept }, takes_newest c.ghost_state.acked others c.world.now p.agent view (fails_next p.keeper) c.session end after saving t in_view whole its.1 takes)
                (flows_weaker c.ghost_state.acked c.ghost_state.acked others others (posts_at c.session.stage) (posts_at t.stage) (none_covers c.ghost_state.acked (posts_at c.session.stage) (posts_at t.stage) (ap posts_at at)) c.world.participants h.agents);
          }
      acts_flow then_entries then_met may (settles after t is) =
          let bare = settles_bare is in
          record {
            well = (kept_ring ring c.world (with_participant c.world (record p { agent = after })) (same_rings c.world (with_participant c.world (record p { agent = after })) refl refl refl refl) h.well.0, h.well.1);
            entries = then_entries;
            fit = settles_fits is h.fit;
            posts_met = then_met;
            sessions = h.sessions;
            agents = placed_all (FlowsOn c.ghost_state.acked others (posts_at t.stage)) (record p { agent = after }) c.world.participants (settled_fit p.agent after p.keeper c.session t its.0 is, settles_newest c.ghost_state.acked others p.agent c.session after t its.1 is)
                (flows_weaker c.ghost_state.acked c.ghost_state.acked others others (posts_at c.session.stage) (posts_at t.stage) (none_covers c.ghost_state.acked (posts_at c.session.stage) (posts_at t.stage) bare.0) c.world.participants h.agents);
          }

    module _ (all_met : (b : List ℕ) → Contains ring.end.met b → Contains met b) where
      -- the configuration is good
      pub record IsGoodIn (c : Configuration) : Type 0 where
        pub still : IsRingOf ring c.world
        pub good : IsGood ring c.world c.ghost_state
        pub step : InStep ring c.world c.session

      posts_in : (c : Configuration) → IsMore c.world ring.end → IsGoodIn c → AllByRecursion (λ p. Contains met p.bytes) (posts_at c.session.stage)
      posts_in c up g = all_weaker (IsOwnPost c.world) (λ p. Contains met p.bytes) (posts_at c.session.stage) (λ p own_post. all_met p.bytes (up.met p.bytes own_post.0)) g.step.posts

      pub good_then : (name : List ℕ) {c next : Configuration} → Steps hss_judged ring.r name c next → IsMore next.world ring.end → IsGoodIn c → IsGoodIn next
      good_then name {c} {next} step up h =
          let g = step_goes ring name step in
          let both = g.good up h.still h.good h.step in
          record { still = kept_ring ring c.world next.world g.still h.still; good = both.0; step = both.1 }

      pub step_flow : (name : List ℕ) {c next : Configuration} → IsMore next.world ring.end → IsGoodIn c → IsGoodIn next → (c.session.stage ≡ Refreshing → IsSavedAt c.world name × IsSavedAt next.world name) → Steps hss_judged ring.r name c next → Flows c → Flows next
      step_flow name {c} up good then_good may (acts p taken cache next is_p takes act) h =
          acts_flow name (record p { cache = cache }) (with_cache hss_judged ring.r c p taken cache) found flow then_good.step.entries (posts_in next up then_good) then_may act
        where
          mid : World
          mid = with_participant c.world (record p { cache = cache })

          found : participant mid name ≡ Some (record p { cache = cache })
          found = found_placed c.world name p (record p { cache = cache }) c.world.met is_p refl (λ b m. m) (λ b m. m)

          stage : taken.stage ≡ c.session.stage
          stage = (takes_all_same takes).0

          its_flow : FlowsOn c.ghost_state.acked others (posts_at c.session.stage) p
          its_flow = each (FlowsOn c.ghost_state.acked others (posts_at c.session.stage)) c.world.participants p h.agents (found_named c.world.participants name p is_p).0

          flow : Flows (with_cache hss_judged ring.r c p taken cache)
          flow = record {
            well = (kept_ring ring c.world mid (same_rings c.world mid refl refl refl refl) h.well.0, h.well.1);
            entries = (takes_all_step ring c.world takes good.step).entries;
            fit = takes_all_fit takes h.fit;
            posts_met = subst (λ st. AllByRecursion (λ x. Contains met x.bytes) (posts_at st)) (sym stage) h.posts_met;
            sessions = h.sessions;
            agents = subst (λ st. AllByRecursion (FlowsOn c.ghost_state.acked others (posts_at st)) mid.participants) (sym stage) (placed_all (FlowsOn c.ghost_state.acked others (posts_at c.session.stage)) (record p { cache = cache }) c.world.participants (its_flow.0, its_flow.1) h.agents);
          }

          then_may : taken.stage ≡ Refreshing → IsSavedAt mid name × IsSavedAt next.world name
          then_may at =
              let both = may (sym stage ∙ at) in
              (λ q is_q. subst (λ (x : Participant). IsHssKept (kept_of x.agent)) (some_same (record p { cache = cache }) q (sym found ∙ is_q)) (both.0 p is_p), both.1)
      step_flow name {c} up good then_good may (lacks_memory p taken t cache is_p takes lacking) h =
          let bare = lacking_bare lacking in
          let stage = some_stage takes in
          let its_flow = each (FlowsOn c.ghost_state.acked others (posts_at c.session.stage)) c.world.participants p h.agents (found_named c.world.participants name p is_p).0 in
          let mid = with_participant c.world (record p { cache = cache }) in
          record {
            well = (kept_ring ring c.world mid (same_rings c.world mid refl refl refl refl) h.well.0, h.well.1);
            entries = then_good.step.entries;
            fit = (bare.2, subst AllFit (sym bare.1) tt);
            posts_met = posts_in (with_cache hss_judged ring.r c p t cache) up then_good;
            sessions = h.sessions;
            agents = flows_weaker c.ghost_state.acked c.ghost_state.acked others others (posts_at c.session.stage) (posts_at t.stage) (none_covers c.ghost_state.acked (posts_at c.session.stage) (posts_at t.stage) (ap posts_at (sym stage) ∙ bare.0)) mid.participants
                (placed_all (FlowsOn c.ghost_state.acked others (posts_at c.session.stage)) (record p { cache = cache }) c.world.participants (its_flow.0, its_flow.1) h.agents);
          }
