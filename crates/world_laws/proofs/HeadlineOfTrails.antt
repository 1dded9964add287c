-- What a session has in its trail at the end of its steps it had before, or heard on the way as the fate of its ask.
use Rattle.std.proofs.Common.{◌≡◌, ◌⊎◌, inl, inr, ⊎_elim, ℕ, zero, suc, Bool, List, [], ◌∷◌, ◌++◌, Option, sym, ap, ◌∙◌, subst, append_assoc, Contains}
use Rattle.std.proofs.lemmas.List.{append-nil}
use Rattle.std.proofs.lemmas.List.Elements.{Contains-append_left, Contains-append_cases}
use Rattle.ivy_base.specs.declared.operation.Moment.{Moment}
use Rattle.dhash_model.specs.Signed.{hss_judged}
use Rattle.log_model.proofs.Lists.{in_cons, in_nothing}
use Rattle.log_model.specs.View.{View}
use Rattle.dht_ids.specs.Asked.{told}
use Rattle.dht_ids.specs.declared.ask.Answer.{Answer}
use Rattle.dht_ids.specs.declared.ask.Ask.{Ask}
use Rattle.dht_ids.specs.declared.ask.Ask.TheVariants as ask
use Rattle.dht_ids.specs.declared.ask.Heard.{Heard}
use Rattle.dht_ids.specs.declared.peer.Peer.{Peer}
use Rattle.agent_model.specs.Turning.{TurnEnd}
use Rattle.session_model.specs.Brought.{Brought, Part, asks_in}
use Rattle.session_model.specs.Executions.{Fails, LacksMemory, Settles, TakesTurn}
use Rattle.session_model.specs.Executions.Fails.{fails, goes_on}
use Rattle.session_model.specs.Executions.LacksMemory.{lacks}
use Rattle.session_model.specs.Executions.Settles.{settles as settles_all}
use Rattle.session_model.specs.Executions.TakesTurn.{answers as turn_answers, begins_again, gives_up}
use Rattle.session_model.specs.Sessions.{Cache, Hears, Session, Takes, TakesAll, TakesSome, with_part}
use Rattle.session_model.specs.Sessions.Hears.{gets_on, got, puts_on, puts}
use Rattle.session_model.specs.Sessions.Takes.{posted, cached}
use Rattle.session_model.specs.Sessions.TakesAll.{none as takes_none, more as takes_more}
use Rattle.session_model.specs.Sessions.TakesSome.{none as some_none, more as some_more}
use Rattle.world_model.specs.Agents.{HssAgent, HssKept, hss_signing}
use Rattle.world_model.specs.Fates.{FateOf, ask_counted}
use Rattle.world_model.specs.Fates.FateOf.{lost, stopped, answers}
use Rattle.world_model.specs.Keepers.{fails_next}
use Rattle.world_model.specs.Nodes.{answered}
use Rattle.world_model.specs.World.{Participant, World, with_node}
use Rattle.world_model.specs.Steps.{Acts, RunsOut, Configuration, Steps, with_cache}
use Rattle.world_model.specs.Steps.Acts.{asks, asks_in_vain, turns, is_refused, settles}
use Rattle.world_model.specs.Steps.Steps.{acts, lacks_memory}
use Rattle.world_model.specs.Steps.RunsOut.{is_over as runs_over, more as runs_more}
use Rattle.world_model.specs.Steps.StepsOn.{none as steps_none, more as steps_more}
use Rattle.world_laws.specs.Headline.{IsHeard, trail_of}

-- ---- what a trail has more

asks_more : (parts : List Part) (p : Part) → asks_in (parts ++ p ∷ []) ≡ asks_in parts ++ p.asks
asks_more [] p = append-nil p.asks
asks_more (q ∷ parts) p = ap (λ (later : List Heard). q.asks ++ later) (asks_more parts p) ∙ sym (append_assoc q.asks (asks_in parts) p.asks)

part_trail : (s : Session) (brought : Brought) (heard : List Heard) → trail_of (with_part s brought heard) ≡ asks_in s.parts ++ heard
part_trail s brought heard = append-nil (asks_in (s.parts ++ record { brought = brought; asks = heard } ∷ [])) ∙ asks_more s.parts (record { brought = brought; asks = heard })

-- each of one list stands in the other
abbrev AreIn : List Heard → List Heard → Type 0
AreIn some others = (h : Heard) → Contains some h → Contains others h

-- the parts alone
parts_in : (s : Session) → AreIn (asks_in s.parts ++ []) (trail_of s)
parts_in s h among = Contains-append_left (asks_in s.parts) s.current h (subst (λ (l : List Heard). Contains l h) (append-nil (asks_in s.parts)) among)

bare_part : (s : Session) (brought : Brought) → AreIn (trail_of (with_part s brought [])) (trail_of s)
bare_part s brought h among = parts_in s h (subst (λ (l : List Heard). Contains l h) (part_trail s brought []) among)

-- what is after the asks on their way is heard
or_told : (s : Session) (more : List Heard) (h : Heard) → Contains (asks_in s.parts ++ (s.current ++ more)) h → Contains (trail_of s) h ⊎ Contains more h
or_told s more h among = Contains-append_cases (trail_of s) more h (subst (λ (l : List Heard). Contains l h) (sym (append_assoc (asks_in s.parts) s.current more)) among)

-- ---- what a session's execution leaves

fails_in : (s t : Session) → Fails s t → AreIn (trail_of t) (trail_of s)
fails_in s _ (fails notes given miss xid asked at refreshed asks_it) = parts_in s
fails_in s _ (goes_on none) = λ h among. among

lacks_in : (s t : Session) → LacksMemory s t → AreIn (trail_of t) (trail_of s)
lacks_in s _ (lacks notes shown given end xid asked at refreshed asks_it rest front) = parts_in s

settles_in : (a : HssAgent) (s : Session) (after : HssAgent) (t : Session) → Settles a s after t → AreIn (trail_of t) (trail_of s)
settles_in a s _ _ (settles_all said acks at) = λ h among. among

turn_in : (now : Moment) (a : HssAgent) (view : View) (failing : Bool) (s : Session) (end : TurnEnd) (after : HssAgent) (saving : Option HssKept) (t : Session) → TakesTurn hss_signing (record { agent = a; view = view; now = now; fails = failing }) s end after saving t
    → AreIn (trail_of t) (trail_of s)
turn_in now a view failing s _ _ _ _ (turn_answers notes given xid asked reply applied after saving done asks_it turned) = λ h among. among
turn_in now a view failing s _ _ _ _ (begins_again notes given xid asked end after saving done asks_it turned refused few) = λ h among. absurd (in_nothing h among)
turn_in now a view failing s _ _ _ _ (gives_up notes given xid asked end after saving done asks_it turned refused many) = parts_in s

module _ {r : ℕ} where
  takes_in : (s t : Session) (cache after : Cache) → Takes hss_judged r s cache t after → AreIn (trail_of t) (trail_of s)
  takes_in s _ cache _ (posted key bytes wants none is) = bare_part s _
  takes_in s _ cache _ (cached key bytes wants none missing is) = bare_part s _

  takes_all_in : {s t : Session} {cache after : Cache} → TakesAll hss_judged r s cache t after → AreIn (trail_of t) (trail_of s)
  takes_all_in (takes_none none) = λ h among. among
  takes_all_in (takes_more {s} {mid} {t} {cache} {between} {after} first rest) = λ h among. takes_in s mid cache between first h (takes_all_in rest h among)

  takes_some_in : {s t : Session} {cache after : Cache} → TakesSome hss_judged r s cache t after → AreIn (trail_of t) (trail_of s)
  takes_some_in some_none = λ h among. among
  takes_some_in (some_more {s} {mid} {t} {cache} {between} {after} first rest) = λ h among. takes_in s mid cache between first h (takes_some_in rest h among)

  hears_in : (s : Session) (cache : Cache) (node : Peer) (question : Ask) (answer : Answer) (heard : Session) (after : Cache) → Hears hss_judged r s cache node question answer heard after
      → (h : Heard) → Contains (trail_of heard) h → Contains (trail_of s) h ⊎ Contains (told node question answer) h
  hears_in s cache node question answer _ _ (gets_on want wants next part) = or_told s (told node question answer)
  hears_in s cache node question answer _ _ (got want brought wants next whole) =
      λ h among. or_told s (told node question answer) h (subst (λ (l : List Heard). Contains l h) (part_trail s brought (s.current ++ told node question answer)) among)
  hears_in s cache node question answer _ _ (puts_on said p posts acks at next part) = or_told s (told node question answer)
  hears_in s cache node question answer _ _ (puts said p posts acks came at next whole) = λ h among. inl (parts_in s h among)

-- ---- a step

-- what is told of an ask is its node and its answer
told_only : (g h : Heard) → Contains (g ∷ []) h → h ≡ g
told_only g h among = ⊎_elim (λ is. sym is) (λ none. absurd (in_nothing h none)) (in_cons g [] h among)

told_so : (node : Peer) (question : Ask) (answer : Answer) (h : Heard) → Contains (told node question answer) h → (h.node ≡ node) × (h.got ≡ answer)
told_so node (ask.Route key) answer h among = (let is = told_only _ h among in (ap (λ (g : Heard). g.node) is, ap (λ (g : Heard). g.got) is))
told_so node ask.Near answer h among = absurd (in_nothing h among)
told_so node (ask.Notify peer) answer h among = absurd (in_nothing h among)
told_so node (ask.Get key) answer h among = (let is = told_only _ h among in (ap (λ (g : Heard). g.node) is, ap (λ (g : Heard). g.got) is))
told_so node (ask.PutBlock key bytes) answer h among = (let is = told_only _ h among in (ap (λ (g : Heard). g.node) is, ap (λ (g : Heard). g.got) is))
told_so node (ask.PutHead key bytes) answer h among = (let is = told_only _ h among in (ap (λ (g : Heard). g.node) is, ap (λ (g : Heard). g.got) is))

-- caches don't count for it
fate_still : (w : World) (participants : List Participant) (to : Peer) (question : Ask) (answer : Answer) (next : World) → FateOf hss_judged (record w { participants = participants }) to question answer next
    → (other : World) × FateOf hss_judged w to question answer other
fate_still w participants to question _ _ (lost l) = (ask_counted w, lost l)
fate_still w participants to question _ _ (stopped n l is dead) = (ask_counted w, stopped n l is dead)
fate_still w participants to question _ _ (answers n l is live) = (with_node (ask_counted w) (answered hss_judged n question).1, answers n l is live)

-- it was asked in that world, and this is its fate there
record IsAskedIn (w : World) (h : Heard) : Type 0 where
  pub question : Ask
  pub next : World
  pub fate : FateOf hss_judged w h.node question h.got next
  pub tells : Contains (told h.node question h.got) h

asked_in : (w : World) (participants : List Participant) (node : Peer) (question : Ask) (answer : Answer) (next : World) → FateOf hss_judged (record w { participants = participants }) node question answer next
    → (h : Heard) → Contains (told node question answer) h → IsAskedIn w h
asked_in w participants node question answer next fate h among =
    let so = told_so node question answer h among in
    let still = fate_still w participants node question answer next fate in
    record {
      question = question;
      next = still.0;
      fate = subst (λ (n : Peer). FateOf hss_judged w n question h.got still.0) (sym so.0) (subst (λ (a : Answer). FateOf hss_judged w node question a still.0) (sym so.1) still.1);
      tells = subst (λ (n : Peer). Contains (told n question h.got) h) (sym so.0) (subst (λ (a : Answer). Contains (told node question a) h) (sym so.1) among);
    }

module _ (r : ℕ) (name : List ℕ) where
  acts_in : (c : Configuration) (p q : Participant) (taken : Session) (cache : Cache) (next : Configuration) → Acts hss_judged r q (with_cache hss_judged r c p taken cache) next
      → (h : Heard) → Contains (trail_of next.session) h → Contains (trail_of taken) h ⊎ IsAskedIn c.world h
  acts_in c p q taken cache _ (asks node question answer next heard t after fate hears goes) h among =
      ⊎_elim inl (λ new. inr (asked_in c.world _ node question answer next fate h new)) (hears_in taken q.cache node question answer heard after hears h (fails_in heard t goes h among))
  acts_in c p q taken cache _ (asks_in_vain node question answer next heard t after fate hears lacking) h among = inl (lacks_in taken t lacking h among)
  acts_in c p q taken cache _ (turns view reply applied after saving t turned in_view takes replies is_turn) h among = inl (turn_in c.world.now q.agent view (fails_next q.keeper) taken _ after saving t takes h among)
  acts_in c p q taken cache _ (is_refused view end after saving t in_view refusal takes) h among = inl (turn_in c.world.now q.agent view (fails_next q.keeper) taken end after saving t takes h among)
  acts_in c p q taken cache _ (settles after t is) h among = inl (settles_in q.agent taken after t is h among)

  step_in : (c next : Configuration) → Steps hss_judged r name c next → (h : Heard) → Contains (trail_of next.session) h → Contains (trail_of c.session) h ⊎ IsAskedIn c.world h
  step_in c _ (acts p taken cache next is_p takes act) h among = ⊎_elim (λ old. inl (takes_all_in takes h old)) inr (acts_in c p _ taken cache next act h among)
  step_in c _ (lacks_memory p taken t cache is_p takes lacking) h among = inl (takes_some_in takes h (lacks_in taken t lacking h among))

  -- ---- all up to the end

  pub trails_are_heard : {c end : Configuration} → RunsOut hss_judged r name c end → (h : Heard) → Contains (trail_of end.session) h → Contains (trail_of c.session) h ⊎ IsHeard r name c end h
  trails_are_heard (runs_over said over) h among = inl among
  trails_are_heard (runs_more {c} {between} {next} step rest) h among = ⊎_elim
      (λ old. ⊎_elim inl
      (λ asked. inr (record { count = zero; configuration = c; leads = steps_none; goes_on = runs_more step rest; question = asked.question; next = asked.next; fate = asked.fate; tells = asked.tells }))
      (step_in c between step h old))
      (λ way. inr (record { count = suc way.count; configuration = way.configuration; leads = steps_more step way.leads; goes_on = way.goes_on; question = way.question; next = way.next; fate = way.fate; tells = way.tells }))
      (trails_are_heard rest h among)
