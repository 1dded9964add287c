-- A session that only publishes posts that were met, and that fit their keys: while what was met is within its limit each put of them is acknowledged, and so is that of the one among them that is looked at.
use Rattle.std.proofs.Common.{◌≡◌, ◌⊎◌, inl, inr, ⊎_elim, ℕ, ◌≤◌, cond, List, [], ◌∷◌, ◌++◌, length, length-append, Option, refl, sym, ap, subst, arith, Contains}
use Rattle.std.specs.List.{AllByRecursion}
use Rattle.std.proofs.lemmas.Bool.{lt-ltb}
use Rattle.std.proofs.lemmas.List.Elements.{Contains-append_left, Contains-append_right}
use Rattle.dhash_model.specs.Signed.{hss_judged}
use Rattle.log_model.proofs.Lists.{each_append, here, in_cons, in_nothing}
use Rattle.dht_ids.specs.Asked.{told}
use Rattle.dht_ids.specs.declared.ask.Answer.{Answer}
use Rattle.dht_ids.specs.declared.ask.Ask.{Ask}
use Rattle.dht_ids.specs.declared.ask.Ask.TheVariants as ask
use Rattle.dht_ids.specs.declared.ask.Heard.{Heard}
use Rattle.dht_ids.specs.declared.peer.Peer.{Peer}
use Rattle.dht_ids.specs.declared.post.Ack.{Ack}
use Rattle.dht_ids.specs.declared.post.Post.{Post}
use Rattle.session_model.specs.Executions.{Fails, LacksMemory, Settles}
use Rattle.session_model.specs.Executions.Fails.{fails, goes_on}
use Rattle.session_model.specs.Executions.LacksMemory.{lacks}
use Rattle.session_model.specs.Executions.Settles.{settles as settles_all}
use Rattle.session_model.specs.Sessions.{Cache, Hears, IsPutOfPost, Over, Publishing, Refreshing, Said, Session, Stage, Takes, TakesAll, TakesSome, ack_of, acknowledged, after_put, put_question}
use Rattle.session_model.specs.Sessions.Hears.{gets_on, got, puts_on, puts}
use Rattle.session_model.specs.Sessions.Takes.{posted, cached}
use Rattle.session_model.specs.Sessions.TakesAll.{none as takes_none, more as takes_more}
use Rattle.session_model.specs.Sessions.TakesSome.{none as some_none, more as some_more}
use Rattle.world_model.specs.Agents.{HssAgent}
use Rattle.world_model.specs.Fates.{FateOf}
use Rattle.world_model.specs.Steps.{Acts, RunsOut, Configuration, Steps, acked_by}
use Rattle.world_model.specs.Steps.Acts.{asks, asks_in_vain, is_refused, settles, turns}
use Rattle.world_model.specs.Steps.RunsOut.{is_over as runs_over, more as runs_more}
use Rattle.world_model.specs.Steps.Steps.{acts, lacks_memory}
use Rattle.world_model.specs.Step.{most_bytes}
use Rattle.world_model.specs.World.{Participant, World, with_participant}
use Rattle.calm_laws.proofs.CalmNodes.{same_rings}
use Rattle.calm_laws.proofs.CalmPuts.{entries_by}
use Rattle.world_laws.proofs.HeadlineOfPublishing.{IsPast, past_put, turn_refreshes}
use Rattle.calm_laws.proofs.Rooms.{total}
use Rattle.calm_laws.proofs.States.{kept_ring}
use Rattle.calm_laws.proofs.Stretches.{IsRingOf, Stretch}
use Rattle.calm_laws.specs.Completeness.{FitsItsKey}
use Rattle.calm_laws.proofs.PutsAcked.{AreFine, AreTaken, IsTaken, put_acked, put_step, route_step}

-- ---- a session that refreshes

takes_refreshing : {r : ℕ} {s t : Session} {cache after : Cache} → Takes hss_judged r s cache t after → s.stage ≡ Refreshing
takes_refreshing (posted key bytes wants none is) = wants.0
takes_refreshing (cached key bytes wants none missing is) = wants.0

-- nothing is taken in another
all_taken : (P : Session → Type 0) {r : ℕ} {s t : Session} {cache after : Cache} → TakesAll hss_judged r s cache t after → IsPast s → P s → P t
all_taken P (takes_none none) past h = h
all_taken P (takes_more first rest) past h = absurd (past (takes_refreshing first))

some_taken : (P : Session → Type 0) {r : ℕ} {s t : Session} {cache after : Cache} → TakesSome hss_judged r s cache t after → IsPast s → P s → P t
some_taken P some_none past h = h
some_taken P (some_more first rest) past h = absurd (past (takes_refreshing first))

lacks_refreshing : {s t : Session} → LacksMemory s t → s.stage ≡ Refreshing
lacks_refreshing (lacks notes shown given end xid asked at refreshed asks_it rest front) = at

-- its refresh doesn't fail
fails_same : (P : Session → Type 0) {s t : Session} → Fails s t → IsPast s → P s → P t
fails_same P (fails notes gives miss xid asked at refreshed asks_it) past h = absurd (past at)
fails_same P (goes_on none) past h = h

acked_one : (said : Option Said) (p : Post) (posts : List Post) (acks : List Ack) → acked_by (Publishing said (p ∷ posts) acks) (Publishing said posts (acks ++ ack_of p ∷ [])) ≡ p ∷ []
acked_one said p posts acks = ap (λ b. cond b (p ∷ []) []) (lt-ltb (length acks) (length (acks ++ ack_of p ∷ [])) (let size = length-append acks (ack_of p ∷ []) in omega (arith, size)))

-- ---- publishing

module _ (ring : Stretch) (met : List (List ℕ)) (fits : total met ≤ most_bytes) (looked_at : Post) where
  -- what may be put
  abbrev pub IsPuttable : Post → Type 0
  IsPuttable p = Contains met p.bytes × FitsItsKey p

  abbrev pub IsWellNow : World → Type 0
  IsWellNow v = IsRingOf ring v × AreFine met v

  -- so are the posts, what was answered of the first of them is true, and the one that is looked at was acknowledged or is among them
  abbrev pub IsToPut : List Post → List Heard → Stage → Type 0
  IsToPut acked heard Refreshing = ⊥
  IsToPut acked heard (Publishing said [] acks) = Contains acked looked_at
  IsToPut acked heard (Publishing said (p ∷ posts) acks) = (g : IsPuttable p) × AreTaken ring met fits p g.0 g.1 heard × AllByRecursion IsPuttable posts × (Contains (p ∷ posts) looked_at ⊎ Contains acked looked_at)
  IsToPut acked heard (Over said) = Contains acked looked_at

  pub record IsPutting (v : World) (acked : List Post) (s : Session) : Type 0 where
    pub entries : s.entries ≡ entries_by ring.base
    pub well : IsWellNow v
    pub stage : IsToPut acked s.current s.stage

  past_at : (acked : List Post) (heard : List Heard) (stage : Stage) → IsToPut acked heard stage → stage ≡ Refreshing → ⊥
  past_at acked heard Refreshing h is = h
  past_at acked heard (Publishing said posts acks) h is = cc is
  past_at acked heard (Over said) h is = cc is

  is_past : {v : World} {acked : List Post} {s : Session} → IsPutting v acked s → IsPast s
  is_past {acked = acked} {s = s} h = past_at acked s.current s.stage h.stage

  placed_well : (v : World) (q : Participant) → IsWellNow v → IsWellNow (with_participant v q)
  placed_well v q h = (kept_ring ring v (with_participant v q) (same_rings v (with_participant v q) refl refl refl refl) h.0, h.1)

  placed_putting : (v : World) (q : Participant) (acked : List Post) (s : Session) → IsPutting v acked s → IsPutting (with_participant v q) acked s
  placed_putting v q acked s h = record { entries = h.entries; well = placed_well v q h.well; stage = h.stage }

  -- ---- an ask

  asked_well : (p : Post) (g : IsPuttable p) (v next : World) (node : Peer) (question : Ask) (answer : Answer) → FateOf hss_judged v node question answer next → (question ≡ ask.Route p.key) ⊎ (question ≡ put_question p) → IsWellNow v
      → IsWellNow next × AreTaken ring met fits p g.0 g.1 (told node question answer)
  asked_well p g v next node question answer fate is h = ⊎_elim (λ i. so (ask.Route p.key) i (route_step ring met fits p g.0 g.1)) (λ i. so (put_question p) i (put_step ring met fits p g.0 g.1)) is
    where
      so : (asked : Ask) → question ≡ asked → ((v mid : World) (to : Peer) (given : Answer) → FateOf hss_judged v to asked given mid → IsWellNow v → IsWellNow mid × AreTaken ring met fits p g.0 g.1 (told to asked given))
          → IsWellNow next × AreTaken ring met fits p g.0 g.1 (told node question answer)
      so asked i step = subst (λ q. IsWellNow next × AreTaken ring met fits p g.0 g.1 (told node q answer)) (sym i) (step v next node answer (subst (λ q. FateOf hss_judged v node q answer next) i fate) h)

  -- the posts after the first, of which a put was acknowledged
  rest_to_put : (said : Option Said) (acked : List Post) (p : Post) (posts : List Post) (acks : List Ack) → AllByRecursion IsPuttable posts → Contains (p ∷ posts) looked_at ⊎ Contains acked looked_at → IsToPut (acked ++ p ∷ []) [] (Publishing said posts acks)
  rest_to_put said acked p posts acks good among = by posts good where_now
    where
      where_now : Contains posts looked_at ⊎ Contains (acked ++ p ∷ []) looked_at
      where_now = ⊎_elim
          (λ c. ⊎_elim (λ is. inr (Contains-append_right acked (p ∷ []) looked_at (subst (Contains (p ∷ [])) is (here p [])))) (λ later. inl later) (in_cons p posts looked_at c))
          (λ c. inr (Contains-append_left acked (p ∷ []) looked_at c))
          among

      by : (posts : List Post) → AllByRecursion IsPuttable posts → Contains posts looked_at ⊎ Contains (acked ++ p ∷ []) looked_at → IsToPut (acked ++ p ∷ []) [] (Publishing said posts acks)
      by [] good now = ⊎_elim (λ none. absurd (in_nothing looked_at none)) (λ c. c) now
      by (q ∷ qs) good now = (good.0, tt, good.1, now)

  hears_so : {v next : World} {acked : List Post} {s heard : Session} {cache after : Cache} {node : Peer} {question : Ask} {answer : Answer} → FateOf hss_judged v node question answer next → Hears hss_judged ring.r s cache node question answer heard after → IsPutting v acked s
      → (t : Session) → Fails heard t → IsPutting next (acked ++ acked_by s.stage t.stage) t
  hears_so fate (gets_on want wants next_is part) h t goes = absurd (is_past h wants.0)
  hears_so fate (got want brought wants next_is whole) h t goes = absurd (is_past h wants.0)
  hears_so {v} {next} {acked} {s} {heard} {cache} {after} {node} {question} {answer} fate (puts_on said p posts acks at next_is part) h t goes =
      let was : IsToPut acked s.current (Publishing said (p ∷ posts) acks) = subst (IsToPut acked s.current) at h.stage in
      let asked = asked_well p was.0 v next node question answer fate next_is.is_of h.well in
      let all = each_append (λ (x : Heard). IsTaken ring met fits p was.0.0 was.0.1 x.kind x) s.current (told node question answer) was.1 asked.1 in
      fails_same (λ (x : Session). IsPutting next (acked ++ acked_by s.stage x.stage) x) goes (is_past h)
      (record {
        entries = h.entries;
        well = asked.0;
        stage = subst (IsToPut (acked ++ acked_by s.stage s.stage) (s.current ++ told node question answer)) (sym at) (was.0, all, was.2, ⊎_elim (λ c. inl c) (λ c. inr (Contains-append_left acked (acked_by s.stage s.stage) looked_at c)) was.3);
      })
  hears_so {v} {next} {acked} {s} {heard} {cache} {after} {node} {question} {answer} fate (puts said p posts acks came at next_is whole) h t goes =
      let was : IsToPut acked s.current (Publishing said (p ∷ posts) acks) = subst (IsToPut acked s.current) at h.stage in
      let asked = asked_well p was.0 v next node question answer fate next_is.is_of h.well in
      let all = each_append (λ (x : Heard). IsTaken ring met fits p was.0.0 was.0.1 x.kind x) s.current (told node question answer) was.1 asked.1 in
      let yes = put_acked ring met fits p was.0.0 was.0.1 next asked.0.0 (s.current ++ told node question answer) came all (subst (λ es. IsPutOfPost ring.r es p (s.current ++ told node question answer) came) h.entries whole) in
      fails_same (λ (x : Session). IsPutting next (acked ++ acked_by s.stage x.stage) x) goes (past_put said p posts acks (acknowledged came))
      (record {
        entries = h.entries;
        well = asked.0;
        stage = subst (λ b. IsToPut (acked ++ acked_by s.stage (after_put said p posts acks b)) [] (after_put said p posts acks b)) (sym yes)
            (subst (λ stage. IsToPut (acked ++ acked_by stage (Publishing said posts (acks ++ ack_of p ∷ []))) [] (Publishing said posts (acks ++ ack_of p ∷ []))) (sym at)
            (subst (λ l. IsToPut (acked ++ l) [] (Publishing said posts (acks ++ ack_of p ∷ []))) (sym (acked_one said p posts acks)) (rest_to_put said acked p posts (acks ++ ack_of p ∷ []) was.2 was.3)));
      })

  -- ---- steps

  settles_so : {v : World} {acked : List Post} {a after : HssAgent} {s t : Session} → Settles a s after t → IsPutting v acked s → IsPutting v acked t
  settles_so {acked = acked} {s = s} (settles_all said acks at) h = record { entries = h.entries; well = h.well; stage = subst (IsToPut acked s.current) at h.stage }

  acts_so : {p : Participant} {c next : Configuration} → Acts hss_judged ring.r p c next → IsPutting c.world c.ghost_state.acked c.session → IsPutting next.world next.ghost_state.acked next.session
  acts_so {p = p} {c = c} (asks node question answer next heard t cache fate hears goes) h = placed_putting next (record p { cache = cache }) (c.ghost_state.acked ++ acked_by c.session.stage t.stage) t (hears_so fate hears h t goes)
  acts_so (asks_in_vain node question answer next heard t cache fate hears lacking) h = absurd (is_past h (lacks_refreshing lacking))
  acts_so (turns view reply applied after saving t turned in_view takes replies is_turn) h = absurd (is_past h (turn_refreshes takes))
  acts_so (is_refused view end after saving t in_view refusal takes) h = absurd (is_past h (turn_refreshes takes))
  acts_so {p = p} {c = c} (settles after t is) h = placed_putting c.world (record p { agent = after }) c.ghost_state.acked t (settles_so is h)

  step_so : {name : List ℕ} {c next : Configuration} → Steps hss_judged ring.r name c next → IsPutting c.world c.ghost_state.acked c.session → IsPutting next.world next.ghost_state.acked next.session
  step_so {c = c} (acts p taken cache next is_p takes act) h = acts_so act (placed_putting c.world (record p { cache = cache }) c.ghost_state.acked taken (all_taken (IsPutting c.world c.ghost_state.acked) takes (is_past h) h))
  step_so {c = c} (lacks_memory p taken t cache is_p takes lacking) h = absurd (is_past (some_taken (IsPutting c.world c.ghost_state.acked) takes (is_past h) h) (lacks_refreshing lacking))

  -- in the end it was acknowledged
  pub runs_acked : {name : List ℕ} {c end : Configuration} → RunsOut hss_judged ring.r name c end → IsPutting c.world c.ghost_state.acked c.session → Contains end.ghost_state.acked looked_at
  runs_acked {c = c} (runs_over said over) h = subst (IsToPut c.ghost_state.acked c.session.current) over h.stage
  runs_acked (runs_more step rest) h = runs_acked rest (step_so step h)
