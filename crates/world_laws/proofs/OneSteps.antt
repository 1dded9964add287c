-- A step of a session leads to one configuration, where memory is there and no names collide; so do many steps, and all up to the end.
use Rattle.std.proofs.Common.{◌≡◌, ℕ, Bool, true, false, List, [], ◌∷◌, ◌++◌, map, Option, Some, None, refl, sym, ap, ◌∙◌, subst, Contains}
use Rattle.ivy_base.specs.declared.operation.Moment.{Moment}
use Rattle.ivy_base.specs.Naming.{IsCollisionFree}
use Rattle.dhash_model.specs.Signed.{hss_judged}
use Rattle.log_model.proofs.Lists.{each}
use Rattle.log_model.specs.View.{View}
use Rattle.nfs_model.specs.declared.replies.Reply.{Reply}
use Rattle.turn_model.specs.Turn.{Asked, Turned}
use Rattle.dht_ids.specs.declared.ask.Answer.{Answer}
use Rattle.dht_ids.specs.declared.ask.Ask.{Ask}
use Rattle.dht_ids.specs.declared.peer.Peer.{Peer}
use Rattle.dht_ids.specs.declared.post.Ack.{Ack}
use Rattle.dht_ids.specs.declared.post.Post.{Post}
use Rattle.agent_model.specs.Standing.{Refresh}
use Rattle.agent_model.specs.Turning.{Answered, TurnEnd, Turns}
use Rattle.agent_model.specs.Turning.Becomes.{reads, saves, loses}
use Rattle.agent_model.specs.Turning.Turns.{behind, below, answers as turn_answers}
use Rattle.session_model.specs.Brought.{WantedOfRing, brought_in}
use Rattle.session_model.specs.Executions.{Fails, HasRefreshed, IsRefusal, LacksMemory, Settles}
use Rattle.session_model.specs.Executions.Fails.{fails, goes_on}
use Rattle.session_model.specs.Executions.LacksMemory.{lacks}
use Rattle.session_model.specs.Executions.Settles.{settles as settles_all}
use Rattle.session_model.specs.Executions.TakesTurn.{answers, begins_again, gives_up}
use Rattle.session_model.specs.Refreshing.{Done, Needs, Note}
use Rattle.session_model.specs.Sessions.{Cache, Hears, Over, Publishing, Refreshing, Said, Session, Stage, TakesAll, TakesSome, acknowledged, after_put}
use Rattle.session_model.specs.Sessions.Hears.{gets_on, got, puts_on, puts}
use Rattle.session_model.specs.Sessions.Takes.{posted, cached}
use Rattle.session_model.specs.Sessions.TakesAll.{none as takes_none, more as takes_more}
use Rattle.session_model.specs.Sessions.TakesSome.{none as some_none, more as some_more}
use Rattle.session_laws.proofs.OneRefresh.{refresh_is_deterministic}
use Rattle.world_model.specs.Agents.{HssAgent, IsHssTurnIn, HssKept, TakesHssTurn, hss_signing, own_hss_key}
use Rattle.world_model.specs.Fates.{FateOf}
use Rattle.world_model.specs.Fates.FateOf.{lost, stopped, answers as node_answers}
use Rattle.world_model.specs.World.{World, Participant, named_bytes, participant, with_participant}
use Rattle.world_model.specs.GhostState.{known_of}
use Rattle.world_model.specs.Steps.{Acts, RunsOut, Configuration, Steps, StepsOn, after_turn, ask_told, met_by, turning_of, with_cache}
use Rattle.world_model.specs.Steps.Acts.{asks, asks_in_vain, turns, is_refused, settles}
use Rattle.world_model.specs.Steps.Steps.{acts, lacks_memory}
use Rattle.world_model.specs.Steps.RunsOut.{is_over as runs_over, more as runs_more}
use Rattle.world_model.specs.Steps.StepsOn.{none as steps_none, is_over as steps_over, more as steps_more}
use Rattle.world_laws.specs.Invariant.{AreApart, IsInHand, Invariant}
use Rattle.world_laws.specs.Laws.{HasMemoryAt, ManyStepsAreDeterministic, PublishingIsDeterministic, SessionEndsAreDeterministic, SessionStepsAreDeterministic}
use Rattle.world_laws.proofs.Bringing.{found_named, its_view, some_same}
use Rattle.world_laws.proofs.EachStep.{all_some}
use Rattle.world_laws.proofs.Frames.{found_placed, same_keys}
use Rattle.world_laws.proofs.MoreMet.{grows_before}
use Rattle.world_laws.proofs.OneHeard.{AsksIt, all_taken_one, is_asking, lacking_says, not_putting, one_answer, one_failure, one_settling}
use Rattle.world_laws.proofs.OneHeard.AsksIt.{of_get, of_put}
use Rattle.world_laws.proofs.OneTurns.{not_both_ways, one_refusal, configuration_after, turns_one}
use Rattle.world_laws.proofs.Placed.{names_placed}
use Rattle.world_laws.proofs.SecondTurns.{one_view}
use Rattle.world_laws.proofs.SessionLinesSteps.{step_leads}
use Rattle.world_laws.proofs.Taking.{HasTaken, takes_some_so}
use Rattle.world_laws.proofs.TakingOn.{taking_keeps}
use Rattle.world_laws.proofs.TurnsConfiguration.{met_grows}
use Rattle.world_laws.proofs.WholePublishing.{step_same}

-- ---- a session does one kind of thing

needs_or_done : (want : WantedOfRing) → Needs want ≡ Done → ⊥
needs_or_done want e = cc e

more_or_none : (a b : Option Said) (p : Post) (ps : List Post) (f g : List Ack) → Publishing a (p ∷ ps) f ≡ Publishing b [] g → ⊥
more_or_none a b p ps f g e = cc e

over_or_publishing : (s : Session) (a b : Option Said) (posts : List Post) (acks : List Ack) → s.stage ≡ Over a → s.stage ≡ Publishing b posts acks → ⊥
over_or_publishing s a b posts acks over at = cc (sym over ∙ at)

over_or_refreshing : (s : Session) (a : Option Said) → s.stage ≡ Over a → s.stage ≡ Refreshing → ⊥
over_or_refreshing s a over at = cc (sym over ∙ at)

module _ (r : ℕ) (s : Session) where
  asks_or_turns : {node : Peer} {question : Ask} → AsksIt hss_judged r s node question → (notes : List Note) (given : Refresh) → HasRefreshed s notes given → ⊥
  asks_or_turns (of_get want wants next) notes given done = needs_or_done want (refresh_is_deterministic s.standing (brought_in s.parts) wants.1 notes wants.2 given (Needs want) Done wants.3 done.1).2
  asks_or_turns (of_put said p posts acks at next) notes given done = not_putting s said (p ∷ posts) acks done.0 at

  asks_or_settles : {node : Peer} {question : Ask} → AsksIt hss_judged r s node question → (said : Option Said) (acks : List Ack) → s.stage ≡ Publishing said [] acks → ⊥
  asks_or_settles (of_get want wants next) said acks at = not_putting s said [] acks wants.0 at
  asks_or_settles (of_put word p posts held is next) said acks at = more_or_none word said p posts held acks (sym is ∙ at)

  asks_or_over : {node : Peer} {question : Ask} → AsksIt hss_judged r s node question → (said : Option Said) → s.stage ≡ Over said → ⊥
  asks_or_over (of_get want wants next) said over = over_or_refreshing s said over wants.0
  asks_or_over (of_put word p posts held is next) said over = over_or_publishing s said word (p ∷ posts) held over is

-- a turn is of a refresh that is done
record HadRefreshed (s : Session) : Type 0 where
  notes : List Note
  given : Refresh
  done : HasRefreshed s notes given

had_refreshed : {now : Moment} {a : HssAgent} {view : View} {failing : Bool} {s : Session} {end : TurnEnd} {after : HssAgent} {saving : Option HssKept} {t : Session} → TakesHssTurn (record { agent = a; view = view; now = now; fails = failing }) s end after saving t → HadRefreshed s
had_refreshed (answers notes given xid asked reply applied after saving done asks_it turn) = record { notes = notes; given = given; done = done }
had_refreshed (begins_again notes given xid asked end after saving done asks_it turn refused few) = record { notes = notes; given = given; done = done }
had_refreshed (gives_up notes given xid asked end after saving done asks_it turn refused many) = record { notes = notes; given = given; done = done }

settled_at : {a : HssAgent} {s : Session} {after : HssAgent} {t : Session} → Settles a s after t → (said : Option Said) × (acks : List Ack) × (s.stage ≡ Publishing said [] acks)
settled_at (settles_all said acks at) = (said, acks, at)

-- ---- what it does

-- where it refreshes, the invariant holds of its world, and no names collide
record IsReady (r : ℕ) (p : Participant) (c : Configuration) : Type 0 where
  keeps : Invariant (c.world, c.ghost_state)
  hand : IsInHand c r
  is_p : participant c.world c.session.by ≡ Some p
  apart : IsCollisionFree (named_bytes c.world)

module _ (r : ℕ) (p : Participant) (c : Configuration) (ready : c.session.stage ≡ Refreshing → IsReady r p c) where
  abbrev Takes : View → TurnEnd → HssAgent → Option HssKept → Session → Type 0
  Takes view end after saving t = TakesHssTurn (turning_of c.world p view) c.session end after saving t

  abbrev IsIts : View → Turned → Type 0
  IsIts view turned = IsHssTurnIn (named_bytes c.world) (turning_of c.world p view) c.session c.began.knew (known_of c.ghost_state p.name) turned

  turned_or_refused : (view look : View) (reply : Reply) (applied : ℕ) (stop : TurnEnd) (after then_so : HssAgent) (saving keep : Option HssKept) (t u : Session) → view ≡ c.session.standing.view → look ≡ c.session.standing.view → IsRefusal stop
      → Takes view (Answered reply applied) after saving t → Takes look stop then_so keep u → ⊥
  turned_or_refused view look reply applied stop after then_so saving keep t u one other refusal takes taking =
      not_both_ways c p reply applied stop after then_so saving keep t u refusal
      (subst (λ (v : View). Takes v (Answered reply applied) after saving t) one takes) (subst (λ (v : View). Takes v stop then_so keep u) other taking)

  module _ (is : IsReady r p c) where
    of_view : (view : View) → p.agent.view ≡ Some view → view ≡ c.session.standing.view
    of_view view in_view = one_view view c.session.standing.view (sym in_view ∙ its_view c r is.hand p is.is_p)

    turns_alike : (view look : View) (reply also : Reply) (applied more : ℕ) (after then_so : HssAgent) (saving keep : Option HssKept) (t u : Session) (turned then_it : Turned) → view ≡ c.session.standing.view → look ≡ c.session.standing.view
        → Takes view (Answered reply applied) after saving t → Takes look (Answered also more) then_so keep u → turned.reply ≡ reply → then_it.reply ≡ also → IsIts view turned → IsIts look then_it
        → configuration_after c p view after saving applied turned t ≡ configuration_after c p look then_so keep more then_it u
    turns_alike view look reply also applied more after then_so saving keep t u turned then_it one other takes taking replies answering its too =
        ap (λ (v : View). configuration_after c p v after saving applied turned t) one
        ∙ turns_one c p r is.keeps is.hand is.is_p is.apart reply also applied more after then_so saving keep t u turned then_it
        (subst (λ (v : View). Takes v (Answered reply applied) after saving t) one takes) (subst (λ (v : View). Takes v (Answered also more) then_so keep u) other taking) replies answering
        (subst (λ (v : View). IsIts v turned) one its) (subst (λ (v : View). IsIts v then_it) other too)
        ∙ sym (ap (λ (v : View). configuration_after c p v then_so keep more then_it u) other)

  turn_ready : {view : View} {end : TurnEnd} {after : HssAgent} {saving : Option HssKept} {t : Session} → Takes view end after saving t → IsReady r p c
  turn_ready takes = ready (had_refreshed takes).done.0

  asks_no_turn : {node : Peer} {question : Ask} {answer : Answer} {heard : Session} {cache : Cache} {view : View} {end : TurnEnd} {after : HssAgent} {saving : Option HssKept} {t : Session}
      → Hears hss_judged r c.session p.cache node question answer heard cache → Takes view end after saving t → ⊥
  asks_no_turn hears takes = let had = had_refreshed takes in asks_or_turns r c.session (is_asking hss_judged r hears) had.notes had.given had.done

  asks_no_settling : {node : Peer} {question : Ask} {answer : Answer} {heard : Session} {cache : Cache} {after : HssAgent} {t : Session} → Hears hss_judged r c.session p.cache node question answer heard cache → Settles p.agent c.session after t → ⊥
  asks_no_settling hears is = let at = settled_at is in asks_or_settles r c.session (is_asking hss_judged r hears) at.0 at.1 at.2

  turns_no_settling : {view : View} {end : TurnEnd} {after : HssAgent} {saving : Option HssKept} {t : Session} {then_so : HssAgent} {u : Session} → Takes view end after saving t → Settles p.agent c.session then_so u → ⊥
  turns_no_settling takes is = let at = settled_at is in not_putting c.session at.0 [] at.1 (had_refreshed takes).done.0 at.2

  vain : {t : Session} → HasMemoryAt t → LacksMemory c.session t → ⊥
  vain {t} memory lacking = let says = lacking_says c.session t lacking in memory says.0 says.1

  acts_one : {one other : Configuration} → Acts hss_judged r p c one → Acts hss_judged r p c other → HasMemoryAt one.session → HasMemoryAt other.session → one ≡ other
  acts_one (asks node question answer next heard t cache fate hears goes) (asks whom what given after said u kept fated hearing went) m n =
      let same = one_answer hss_judged r fate fated hears hearing in
      let then_it : t ≡ u = one_failure heard t u goes (subst (λ (x : Session). Fails x u) (sym same.1) went) in
      λ i. record { world = with_participant (same.0 i) (record p { cache = same.2 i }); ghost_state = ask_told c.ghost_state p.name c.session (then_it i); session = then_it i; began = c.began }
  acts_one (asks node question answer next heard t cache fate hears goes) (turns view reply applied after saving u turned in_view takes replies is_turn) m n = absurd (asks_no_turn hears takes)
  acts_one (asks node question answer next heard t cache fate hears goes) (is_refused view end after saving u in_view refusal takes) m n = absurd (asks_no_turn hears takes)
  acts_one (asks node question answer next heard t cache fate hears goes) (settles after u is) m n = absurd (asks_no_settling hears is)
  acts_one (turns view reply applied after saving t turned in_view takes replies is_turn) (asks node question answer next heard u cache fate hears goes) m n = absurd (asks_no_turn hears takes)
  acts_one (turns view reply applied after saving t turned in_view takes replies is_turn) (turns look also more then_so keep u then_it within taking answering too) m n =
      let is = turn_ready takes in
      turns_alike is view look reply also applied more after then_so saving keep t u turned then_it (of_view is view in_view) (of_view is look within) takes taking replies answering (is_turn is.apart) (too is.apart)
  acts_one (turns view reply applied after saving t turned in_view takes replies is_turn) (is_refused look stop then_so keep u within refusal taking) m n =
      let is = turn_ready takes in
      absurd (turned_or_refused view look reply applied stop after then_so saving keep t u (of_view is view in_view) (of_view is look within) refusal takes taking)
  acts_one (turns view reply applied after saving t turned in_view takes replies is_turn) (settles then_so u is) m n = absurd (turns_no_settling takes is)
  acts_one (is_refused view end after saving t in_view refusal takes) (asks node question answer next heard u cache fate hears goes) m n = absurd (asks_no_turn hears takes)
  acts_one (is_refused view end after saving t in_view refusal takes) (turns look reply applied then_so keep u turned within taking replies is_turn) m n =
      let is = turn_ready takes in
      absurd (turned_or_refused look view reply applied end then_so after keep saving u t (of_view is look within) (of_view is view in_view) refusal taking takes)
  acts_one (is_refused view end after saving t in_view refusal takes) (is_refused look stop then_so keep u within denial taking) m n =
      let is = turn_ready takes in
      one_refusal c p end stop after then_so saving keep t u refusal denial
      (subst (λ (v : View). Takes v end after saving t) (of_view is view in_view) takes) (subst (λ (v : View). Takes v stop then_so keep u) (of_view is look within) taking)
  acts_one (is_refused view end after saving t in_view refusal takes) (settles then_so u is) m n = absurd (turns_no_settling takes is)
  acts_one (settles after t is) (asks node question answer next heard u cache fate hears goes) m n = absurd (asks_no_settling hears is)
  acts_one (settles after t is) (turns view reply applied then_so saving u turned in_view takes replies is_turn) m n = absurd (turns_no_settling takes is)
  acts_one (settles after t is) (is_refused view end then_so saving u in_view refusal takes) m n = absurd (turns_no_settling takes is)
  acts_one (settles after t is) (settles then_so u also) m n =
      let same = one_settling p.agent c.session after then_so t u is also in
      λ i. record c { world = with_participant c.world (record p { agent = same.0 i }); session = same.1 i }
  acts_one (asks_in_vain node question answer next heard t cache fate hears lacking) act m n = absurd (vain m lacking)
  acts_one (asks node question answer next heard t cache fate hears goes) (asks_in_vain whom what given after said u kept fated hearing lacking) m n = absurd (vain n lacking)
  acts_one (turns view reply applied after saving t turned in_view takes replies is_turn) (asks_in_vain whom what given next said u kept fated hearing lacking) m n = absurd (vain n lacking)
  acts_one (is_refused view end after saving t in_view refusal takes) (asks_in_vain whom what given next said u kept fated hearing lacking) m n = absurd (vain n lacking)
  acts_one (settles after t is) (asks_in_vain whom what given next said u kept fated hearing lacking) m n = absurd (vain n lacking)

-- ---- a step

-- the same, before what is available is taken
abbrev IsReadyTo : ℕ → Configuration → Type 0
IsReadyTo r c = Invariant (c.world, c.ghost_state) × IsInHand c r × IsCollisionFree (named_bytes c.world)

stage_taken : {r : ℕ} {s t : Session} {cache after : Cache} → TakesAll hss_judged r s cache t after → t.stage ≡ s.stage
stage_taken (takes_none none) = refl
stage_taken (takes_more (posted key bytes wants none is) rest) = stage_taken rest
stage_taken (takes_more (cached key bytes wants none missing is) rest) = stage_taken rest

module _ (r : ℕ) (c : Configuration) (p : Participant) (is_p : participant c.world c.session.by ≡ Some p) (taken : Session) (cache : Cache) (takes : TakesAll hss_judged r c.session p.cache taken cache) where
  taken_ready : IsReadyTo r c → IsReady r (record p { cache = cache }) (with_cache hss_judged r c p taken cache)
  taken_ready is = record {
    keeps = then_so.0;
    hand = then_so.1;
    is_p = subst (λ (u : Session). participant (with_participant c.world (record p { cache = cache })) u.by ≡ Some (record p { cache = cache })) (sym has.is)
        (found_placed c.world is.0.apart c.session.by p is_p (record p { cache = cache }) refl);
    apart = subst (λ (ks : List (List ℕ)). IsCollisionFree (c.world.met ++ ks)) (sym (same_keys c.world is.0.apart c.session.by p is_p (record p { cache = cache }) refl refl)) is.2;
  }
    where
      then_so : Invariant (with_participant c.world (record p { cache = cache }), c.ghost_state) × IsInHand (record c { world = with_participant c.world (record p { cache = cache }); session = taken }) r
      then_so = taking_keeps c r p taken cache is.0 is.1 is_p (all_some takes)

      has : HasTaken c.world.met c.session taken cache
      has = takes_some_so c.world.met (all_some takes) is.1.goes_on.pending (each _ c.world.participants p is.0.met.cached (found_named c.world.participants c.session.by p is_p).0)

step_one : (r : ℕ) (c : Configuration) {one other : Configuration} → (c.session.stage ≡ Refreshing → IsReadyTo r c) → Steps hss_judged r c.session.by c one → Steps hss_judged r c.session.by c other → HasMemoryAt one.session → HasMemoryAt other.session → one ≡ other
step_one r c ready (acts p taken cache next is_p takes act) (acts q took caching after is_q taking acting) m n =
    let same : p ≡ q = some_same p q (sym is_p ∙ is_q) in
    let one = all_taken_one hss_judged r takes (subst (λ (x : Participant). TakesAll hss_judged r c.session x.cache took caching) (sym same) taking) in
    acts_one r (record p { cache = cache }) (with_cache hss_judged r c p taken cache) (λ at. taken_ready r c p is_p taken cache takes (ready (sym (stage_taken takes) ∙ at))) act
    (subst (λ (x : Participant). Acts hss_judged r (record x { cache = cache }) (with_cache hss_judged r c x taken cache) after) (sym same)
    (subst (λ (t : Session). Acts hss_judged r (record q { cache = cache }) (with_cache hss_judged r c q t cache) after) (sym one.0)
    (subst (λ (k : Cache). Acts hss_judged r (record q { cache = k }) (with_cache hss_judged r c q took k) after) (sym one.1) acting))) m n
step_one r c ready (lacks_memory p taken t cache is_p takes lacking) step m n = let says = lacking_says taken t lacking in absurd (m says.0 says.1)
step_one r c ready (acts p taken cache next is_p takes act) (lacks_memory q took t caching is_q taking lacking) m n = let says = lacking_says took t lacking in absurd (n says.0 says.1)

-- ---- a session that is over

module _ (r : ℕ) where
  none_taken : {s t : Session} {cache after : Cache} → (s.stage ≡ Refreshing → ⊥) → TakesAll hss_judged r s cache t after → t ≡ s
  none_taken not (takes_none none) = refl
  none_taken not (takes_more (posted key bytes wants none is) rest) = absurd (not wants.0)
  none_taken not (takes_more (cached key bytes wants none missing is) rest) = absurd (not wants.0)

  nothing_taken : {s t : Session} {cache after : Cache} → (s.stage ≡ Refreshing → ⊥) → TakesSome hss_judged r s cache t after → t ≡ s
  nothing_taken not some_none = refl
  nothing_taken not (some_more (posted key bytes wants none is) rest) = absurd (not wants.0)
  nothing_taken not (some_more (cached key bytes wants none missing is) rest) = absurd (not wants.0)

  lacking_at : {s t : Session} → LacksMemory s t → s.stage ≡ Refreshing
  lacking_at (lacks notes shown given end xid asked at refreshed asks_it rest front) = at

  over_acts : {p : Participant} {c next : Configuration} → Acts hss_judged r p c next → (said : Option Said) → c.session.stage ≡ Over said → ⊥
  over_acts {c = c} (asks node question answer next heard t cache fate hears goes) said over = asks_or_over r c.session (is_asking hss_judged r hears) said over
  over_acts {c = c} (asks_in_vain node question answer next heard t cache fate hears lacking) said over = asks_or_over r c.session (is_asking hss_judged r hears) said over
  over_acts {c = c} (turns view reply applied after saving t turned in_view takes replies is_turn) said over = over_or_refreshing c.session said over (had_refreshed takes).done.0
  over_acts {c = c} (is_refused view end after saving t in_view refusal takes) said over = over_or_refreshing c.session said over (had_refreshed takes).done.0
  over_acts {c = c} (settles after t is) said over = let at = settled_at is in over_or_publishing c.session said at.0 [] at.1 over at.2

  pub over_steps : {name : List ℕ} {c next : Configuration} → Steps hss_judged r name c next → (said : Option Said) → c.session.stage ≡ Over said → ⊥
  over_steps {c = c} (acts p taken cache next is_p takes act) said over =
      over_acts act said (ap (λ (t : Session). t.stage) (none_taken (over_or_refreshing c.session said over) takes) ∙ over)
  over_steps {c = c} (lacks_memory p taken t cache is_p takes lacking) said over =
      over_or_refreshing c.session said over (ap (λ (u : Session). u.stage) (sym (nothing_taken (over_or_refreshing c.session said over) takes)) ∙ lacking_at lacking)

  -- where memory was there at the end, it was there before
  steps_memory : {name : List ℕ} {count : ℕ} {c next : Configuration} → StepsOn hss_judged r name count c next → HasMemoryAt next.session → HasMemoryAt c.session
  steps_memory steps_none m = m
  steps_memory (steps_over said over) m = m
  steps_memory (steps_more step rest) m = λ xid over. over_steps step (Some _) over

  runs_memory : {name : List ℕ} {c next : Configuration} → RunsOut hss_judged r name c next → HasMemoryAt next.session → HasMemoryAt c.session
  runs_memory (runs_over said over) m = m
  runs_memory (runs_more step rest) m = λ xid over. over_steps step (Some _) over

-- ---- names

-- no block is forgotten, and no public key
abbrev Names : World → World → Type 0
Names w next = (b : List ℕ) → Contains (named_bytes w) b → Contains (named_bytes next) b

abbrev keys : World → List (List ℕ)
keys w = map (λ (o : Participant). (own_hss_key o.agent).0) w.participants

same_names : (w next : World) → next.met ≡ w.met → keys next ≡ keys w → Names w next
same_names w next met same b h = subst (λ (ks : List (List ℕ)). Contains (next.met ++ ks) b) (sym same) (subst (λ (m : List (List ℕ)). Contains (m ++ keys w) b) (sym met) h)

pub apart_then : (w next : World) → Names w next → IsCollisionFree (named_bytes next) → IsCollisionFree (named_bytes w)
apart_then w next names apart a b in_a in_b same = apart a b (names a in_a) (names b in_b) same

fate_names : {w next : World} {to : Peer} {question : Ask} {answer : Answer} → FateOf hss_judged w to question answer next → (next.met ≡ w.met) × (next.participants ≡ w.participants)
fate_names (lost l) = (refl, refl)
fate_names (stopped n l is dead) = (refl, refl)
fate_names (node_answers n l is live) = (refl, refl)

-- a turn changes no key
turns_own : {given : Refresh} {a : HssAgent} {view : View} {failing : Bool} {asked : Asked} {now : Moment} {end : TurnEnd} {after : HssAgent} {saving : Option HssKept} → Turns hss_signing given (record { agent = a; view = view; now = now; fails = failing }) asked end after saving → own_hss_key after ≡ own_hss_key a
turns_own (behind far) = refl
turns_own (below near low) = refl
turns_own (turn_answers h written reply after saving near over basis may reads defined) = refl
turns_own (turn_answers h written reply after saving near over basis may (saves before last might fine) defined) = refl
turns_own (turn_answers h written reply after saving near over basis may (loses before last might gone) defined) = refl

pub takes_own : {now : Moment} {a : HssAgent} {view : View} {failing : Bool} {s : Session} {end : TurnEnd} {after : HssAgent} {saving : Option HssKept} {t : Session} → TakesHssTurn (record { agent = a; view = view; now = now; fails = failing }) s end after saving t → own_hss_key after ≡ own_hss_key a
takes_own (answers notes given xid asked reply applied after saving done asks_it turn) = turns_own turn
takes_own (begins_again notes given xid asked end after saving done asks_it turn refused few) = turns_own turn
takes_own (gives_up notes given xid asked end after saving done asks_it turn refused many) = turns_own turn

pub settles_own : {a : HssAgent} {s : Session} {after : HssAgent} {t : Session} → Settles a s after t → own_hss_key after ≡ own_hss_key a
settles_own (settles_all said acks at) = refl

module _ (r : ℕ) (c : Configuration) (p : Participant) (apart : AreApart (map (λ (o : Participant). o.name) c.world.participants)) (is_p : participant c.world p.name ≡ Some p) where
  keys_with : (q : Participant) → q.name ≡ p.name → own_hss_key q.agent ≡ own_hss_key p.agent → keys (with_participant c.world q) ≡ keys c.world
  keys_with q named owned = same_keys c.world apart p.name p is_p q named owned

  more_met : (q : Participant) (posts : List Post) → q.name ≡ p.name → own_hss_key q.agent ≡ own_hss_key p.agent → Names c.world (record (with_participant c.world q) { met = met_by c.world.met posts })
  more_met q posts named owned b h = subst (λ (ks : List (List ℕ)). Contains (met_by c.world.met posts ++ ks) b) (sym (keys_with q named owned)) (grows_before c.world.met (met_by c.world.met posts) (met_grows c.world.met posts) (keys c.world) b h)

  acts_names : {next : Configuration} → Acts hss_judged r p c next → Names c.world next.world
  acts_names (asks node question answer next heard t cache fate hears goes) =
      let same = fate_names fate in
      same_names c.world (with_participant next (record p { cache = cache })) same.0 (ap (λ (ps : List Participant). keys (with_participant (record c.world { participants = ps }) (record p { cache = cache }))) same.1 ∙ keys_with (record p { cache = cache }) refl refl)
  acts_names (asks_in_vain node question answer next heard t cache fate hears lacking) =
      let same = fate_names fate in same_names c.world next same.0 (ap (λ (ps : List Participant). keys (record c.world { participants = ps })) same.1)
  acts_names (turns view reply applied after saving t turned in_view takes replies is_turn) = more_met (record (after_turn p after saving) { work = applied }) after.pending refl (takes_own takes)
  acts_names (is_refused view end after saving t in_view refusal takes) = more_met (after_turn p after saving) after.pending refl (takes_own takes)
  acts_names (settles after t is) = same_names c.world (with_participant c.world (record p { agent = after })) refl (keys_with (record p { agent = after }) refl (settles_own is))

pub step_names : (r : ℕ) (c : Configuration) {next : Configuration} → Invariant (c.world, c.ghost_state) → Steps hss_judged r c.session.by c next → Names c.world next.world
step_names r c keeps (acts p taken cache next is_p takes act) = λ b h. acts_names r (with_cache hss_judged r c p taken cache) (record p { cache = cache }) apart found act b (with_names b h)
  where
    named : p.name ≡ c.session.by
    named = (found_named c.world.participants c.session.by p is_p).1

    with_names : Names c.world (with_participant c.world (record p { cache = cache }))
    with_names = same_names c.world (with_participant c.world (record p { cache = cache })) refl (same_keys c.world keeps.apart c.session.by p is_p (record p { cache = cache }) refl refl)

    apart : AreApart (map (λ (o : Participant). o.name) (with_participant c.world (record p { cache = cache })).participants)
    apart = subst AreApart (sym (names_placed (λ (o : Participant). o.name) (record p { cache = cache }) c.world.participants)) keeps.apart

    found : participant (with_participant c.world (record p { cache = cache })) p.name ≡ Some (record p { cache = cache })
    found = subst (λ (n : List ℕ). participant (with_participant c.world (record p { cache = cache })) n ≡ Some (record p { cache = cache })) (sym named)
        (found_placed c.world keeps.apart c.session.by p is_p (record p { cache = cache }) refl)
step_names r c keeps (lacks_memory p taken t cache is_p takes lacking) = same_names c.world (with_participant c.world (record p { cache = cache })) refl (same_keys c.world keeps.apart c.session.by p is_p (record p { cache = cache }) refl refl)

-- ---- one step after the other

module _ (r : ℕ) where
  -- a configuration from which steps go on
  pub record GoesWell (c : Configuration) : Type 0 where
    pub keeps : Invariant (c.world, c.ghost_state)
    pub hand : IsInHand c r
    pub ringed : c.world.replicas ≡ Some r

  well_then : {c next : Configuration} → GoesWell c → Steps hss_judged r c.session.by c next → GoesWell next × (next.session.by ≡ c.session.by)
  well_then {c} {next} w step =
      let led = step_leads r c.session.by c next refl w.keeps w.hand w.ringed step in
      (record { keeps = led.leaves.0; hand = led.leaves.1; ringed = led.same.replicas ∙ w.ringed }, led.same.call.0)

  its_step : {name : List ℕ} {c next : Configuration} → c.session.by ≡ name → Steps hss_judged r name c next → Steps hss_judged r c.session.by c next
  its_step {name} {c} {next} named step = subst (λ (n : List ℕ). Steps hss_judged r n c next) (sym named) step

  pub steps_names : {name : List ℕ} {count : ℕ} {c next : Configuration} → StepsOn hss_judged r name count c next → c.session.by ≡ name → GoesWell c → Names c.world next.world
  steps_names steps_none named w b h = h
  steps_names (steps_over said over) named w b h = h
  steps_names (steps_more {c = c} step rest) named w b h =
      let then_it = well_then w (its_step named step) in steps_names rest (then_it.1 ∙ named) then_it.0 b (step_names r c w.keeps (its_step named step) b h)

  pub runs_names : {name : List ℕ} {c next : Configuration} → RunsOut hss_judged r name c next → c.session.by ≡ name → GoesWell c → Names c.world next.world
  runs_names (runs_over said over) named w b h = h
  runs_names (runs_more {c = c} step rest) named w b h =
      let then_it = well_then w (its_step named step) in runs_names rest (then_it.1 ∙ named) then_it.0 b (step_names r c w.keeps (its_step named step) b h)

  pub steps_one : {name : List ℕ} {count : ℕ} {c one other : Configuration} → StepsOn hss_judged r name count c one → StepsOn hss_judged r name count c other → c.session.by ≡ name → GoesWell c → IsCollisionFree (named_bytes one.world)
      → HasMemoryAt one.session → HasMemoryAt other.session → one ≡ other
  steps_one steps_none steps_none named w apart m n = refl
  steps_one (steps_over said over) (steps_over word is) named w apart m n = refl
  steps_one (steps_over said over) (steps_more step rest) named w apart m n = absurd (over_steps r step said over)
  steps_one (steps_more step rest) (steps_over said over) named w apart m n = absurd (over_steps r step said over)
  steps_one {name} {other = other} (steps_more {count} {c} {between} {next} step rest) (steps_more {between = mid} also others) named w apart m n =
      let first = its_step named step in
      let then_it = well_then w first in
      let apart_mid : IsCollisionFree (named_bytes between.world) = apart_then between.world next.world (steps_names rest (then_it.1 ∙ named) then_it.0) apart in
      let apart_now : IsCollisionFree (named_bytes c.world) = apart_then c.world between.world (step_names r c w.keeps first) apart_mid in
      let same : between ≡ mid = step_one r c (λ at. (w.keeps, w.hand, apart_now)) first (its_step named also) (steps_memory r rest m) (steps_memory r others n) in
      steps_one rest (subst (λ (x : Configuration). StepsOn hss_judged r name count x other) (sym same) others) (then_it.1 ∙ named) then_it.0 apart m n

  pub runs_one : {name : List ℕ} {c one other : Configuration} → RunsOut hss_judged r name c one → RunsOut hss_judged r name c other → c.session.by ≡ name → GoesWell c → IsCollisionFree (named_bytes one.world)
      → HasMemoryAt one.session → HasMemoryAt other.session → one ≡ other
  runs_one (runs_over said over) (runs_over word is) named w apart m n = refl
  runs_one (runs_over said over) (runs_more step rest) named w apart m n = absurd (over_steps r step said over)
  runs_one (runs_more step rest) (runs_over said over) named w apart m n = absurd (over_steps r step said over)
  runs_one {name} {other = other} (runs_more {c} {between} {next} step rest) (runs_more {between = mid} also others) named w apart m n =
      let first = its_step named step in
      let then_it = well_then w first in
      let apart_mid : IsCollisionFree (named_bytes between.world) = apart_then between.world next.world (runs_names rest (then_it.1 ∙ named) then_it.0) apart in
      let apart_now : IsCollisionFree (named_bytes c.world) = apart_then c.world between.world (step_names r c w.keeps first) apart_mid in
      let same : between ≡ mid = step_one r c (λ at. (w.keeps, w.hand, apart_now)) first (its_step named also) (runs_memory r rest m) (runs_memory r others n) in
      runs_one rest (subst (λ (x : Configuration). RunsOut hss_judged r name x other) (sym same) others) (then_it.1 ∙ named) then_it.0 apart m n

pub session_steps_are_deterministic : SessionStepsAreDeterministic
session_steps_are_deterministic c one other r keeps hand ringed apart step also m n = step_one r c (λ at. (keeps, hand, apart)) step also m n

pub many_steps_are_deterministic : ManyStepsAreDeterministic
many_steps_are_deterministic c one other r count keeps hand ringed apart steps also m n = steps_one r steps also refl (record { keeps = keeps; hand = hand; ringed = ringed }) apart m n

pub session_ends_are_deterministic : SessionEndsAreDeterministic
session_ends_are_deterministic c one other r keeps hand ringed apart runs also m n = runs_one r runs also refl (record { keeps = keeps; hand = hand; ringed = ringed }) apart m n

-- ---- a session that only publishes

-- nothing will be said at its end
abbrev IsQuiet : Stage → Type 0
IsQuiet Refreshing = ⊥
IsQuiet (Publishing said posts acks) = said ≡ None
IsQuiet (Over said) = said ≡ None

none_or_said : (said : Said) → Some said ≡ None → ⊥
none_or_said said e = cc e

quiet_memory : (s : Session) → IsQuiet s.stage → HasMemoryAt s
quiet_memory s quiet xid over = none_or_said _ (subst IsQuiet over quiet)

quiet_still : (s : Session) → IsQuiet s.stage → s.stage ≡ Refreshing → ⊥
quiet_still s quiet at = subst IsQuiet at quiet

put_quiet : (said : Option Said) (p : Post) (posts : List Post) (acks : List Ack) (held : Bool) → said ≡ None → IsQuiet (after_put said p posts acks held)
put_quiet said p posts acks true is = is
put_quiet said p posts acks false is = is

module _ (r : ℕ) where
  hears_quiet : {s : Session} {cache after : Cache} {node : Peer} {question : Ask} {answer : Answer} {heard : Session} → Hears hss_judged r s cache node question answer heard after → IsQuiet s.stage → IsQuiet heard.stage
  hears_quiet {s} (gets_on want wants next part) quiet = quiet
  hears_quiet {s} (got want brought wants next gets) quiet = quiet
  hears_quiet {s} (puts_on said p posts acks at next part) quiet = quiet
  hears_quiet {s} (puts said p posts acks came at next put) quiet = put_quiet said p posts acks (acknowledged came) (subst IsQuiet at quiet)

  fails_quiet : {s t : Session} → Fails s t → IsQuiet s.stage → IsQuiet t.stage
  fails_quiet {s} (fails notes given miss xid asked at refreshed asks_it) quiet = absurd (quiet_still s quiet at)
  fails_quiet (goes_on none) quiet = quiet

  settles_quiet : {a : HssAgent} {s : Session} {after : HssAgent} {t : Session} → Settles a s after t → IsQuiet s.stage → IsQuiet t.stage
  settles_quiet (settles_all said acks at) quiet = subst IsQuiet at quiet

  acts_quiet : {p : Participant} {c next : Configuration} → Acts hss_judged r p c next → IsQuiet c.session.stage → IsQuiet next.session.stage
  acts_quiet {c = c} (asks node question answer next heard t cache fate hears goes) quiet = fails_quiet goes (hears_quiet hears quiet)
  acts_quiet {c = c} (asks_in_vain node question answer next heard t cache fate hears lacking) quiet = absurd (quiet_still c.session quiet (lacking_at r lacking))
  acts_quiet {c = c} (turns view reply applied after saving t turned in_view takes replies is_turn) quiet = absurd (quiet_still c.session quiet (had_refreshed takes).done.0)
  acts_quiet {c = c} (is_refused view end after saving t in_view refusal takes) quiet = absurd (quiet_still c.session quiet (had_refreshed takes).done.0)
  acts_quiet {c = c} (settles after t is) quiet = settles_quiet is quiet

  step_quiet : {name : List ℕ} {c next : Configuration} → Steps hss_judged r name c next → IsQuiet c.session.stage → IsQuiet next.session.stage
  step_quiet {c = c} (acts p taken cache next is_p takes act) quiet = acts_quiet act (subst (λ (t : Session). IsQuiet t.stage) (sym (none_taken r (quiet_still c.session quiet) takes)) quiet)
  step_quiet {c = c} (lacks_memory p taken t cache is_p takes lacking) quiet =
      absurd (quiet_still c.session quiet (ap (λ (u : Session). u.stage) (sym (nothing_taken r (quiet_still c.session quiet) takes)) ∙ lacking_at r lacking))

  quiet_runs : {name : List ℕ} {c one other : Configuration} → RunsOut hss_judged r name c one → RunsOut hss_judged r name c other → c.session.by ≡ name → IsQuiet c.session.stage → one ≡ other
  quiet_runs (runs_over said over) (runs_over word is) named quiet = refl
  quiet_runs (runs_over said over) (runs_more step rest) named quiet = absurd (over_steps r step said over)
  quiet_runs (runs_more step rest) (runs_over said over) named quiet = absurd (over_steps r step said over)
  quiet_runs {name} {other = other} (runs_more {c} {between} {next} step rest) (runs_more {between = mid} also others) named quiet =
      let first : Steps hss_judged r c.session.by c between = subst (λ (n : List ℕ). Steps hss_judged r n c between) (sym named) step in
      let second : Steps hss_judged r c.session.by c mid = subst (λ (n : List ℕ). Steps hss_judged r n c mid) (sym named) also in
      let same : between ≡ mid = step_one r c (λ at. absurd (quiet_still c.session quiet at)) first second (quiet_memory between.session (step_quiet first quiet)) (quiet_memory mid.session (step_quiet second quiet)) in
      quiet_runs rest (subst (λ (x : Configuration). RunsOut hss_judged r name x other) (sym same) others) ((step_same r name c between step).0 ∙ named) (step_quiet first quiet)

pub publishing_is_deterministic : PublishingIsDeterministic
publishing_is_deterministic r w p one other published also =
    let same = quiet_runs r published.1 also.1 refl refl in
    published.2 ∙ ap (λ (c : Configuration). (c.world, c.ghost_state)) same ∙ sym also.2
