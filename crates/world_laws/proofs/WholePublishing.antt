-- A participant publishes all that its agent has to, step by step.
use Rattle.std.proofs.Common.{◌≡◌, ◌≢◌, ℕ, Bool, true, false, cond, List, [], ◌∷◌, ◌++◌, map, filter, Option, Some, refl, sym, ap, ◌∙◌, subst, Contains, nat_lt}
use Rattle.std.specs.Prelude.{fold}
use Rattle.std.specs.List.{AllByRecursion}
use Rattle.ivy_base.specs.declared.key.Key.{Key}
use Rattle.ivy_base.specs.declared.operation.Moment.{Moment}
use Rattle.dhash_model.specs.Signed.{hss_judged}
use Rattle.log_model.proofs.Lists.{each, each_append, each_from, from_filter}
use Rattle.log_model.specs.View.{View}
use Rattle.dht_ids.specs.declared.ask.Answer.{Answer}
use Rattle.dht_ids.specs.declared.ask.Ask.{Ask}
use Rattle.dht_ids.specs.declared.judge.Judged.{Judged}
use Rattle.dht_ids.specs.declared.peer.Peer.{Peer}
use Rattle.dht_ids.specs.declared.post.Post.{Post}
use Rattle.agent_model.specs.Agent.{is_head}
use Rattle.agent_model.specs.Others.{is_block}
use Rattle.agent_model.specs.Turning.{TurnEnd}
use Rattle.session_model.specs.Executions.{Fails, LacksMemory, Settles, TakesTurn}
use Rattle.session_model.specs.Executions.Fails.{fails, goes_on}
use Rattle.session_model.specs.Executions.LacksMemory.{lacks}
use Rattle.session_model.specs.Executions.Settles.{settles as settles_all}
use Rattle.session_model.specs.Executions.TakesTurn.{answers as turn_answers, begins_again, gives_up}
use Rattle.session_model.specs.Sessions.{Cache, Hears, Session, Takes, TakesAll, TakesSome, in_publishing_order, is_log}
use Rattle.session_model.specs.Sessions.Hears.{gets_on, got, puts_on, puts}
use Rattle.session_model.specs.Sessions.Takes.{posted, cached}
use Rattle.session_model.specs.Sessions.TakesAll.{none as takes_none, more as takes_more}
use Rattle.session_model.specs.Sessions.TakesSome.{none as some_none, more as some_more}
use Rattle.world_model.specs.Agents.{HssAgent, HssKept, hss_signing}
use Rattle.world_model.specs.Fates.{FateOf}
use Rattle.world_model.specs.Fates.FateOf.{lost, stopped, answers}
use Rattle.world_model.specs.Nodes.{Node}
use Rattle.world_model.specs.World.{World, Participant, entries, participant, peer_of, with_numbered}
use Rattle.world_model.specs.Steps.{Acts, RunsOut, Configuration, Steps, with_cache}
use Rattle.world_model.specs.Steps.Acts.{asks, asks_in_vain, turns, is_refused, settles}
use Rattle.world_model.specs.Steps.Steps.{acts, lacks_memory}
use Rattle.world_model.specs.Steps.RunsOut.{is_over as runs_over, more as runs_more}
use Rattle.world_model.specs.Logs.{Played, to_publish}
use Rattle.world_laws.specs.Invariant.{IsMetPost, Invariant, OnlyPublishes}
use Rattle.world_laws.specs.Laws.{WholePublishingKeeps}
use Rattle.world_laws.proofs.Bringing.{found_named}
use Rattle.world_laws.proofs.Frames.{ring_of}
use Rattle.world_laws.proofs.Publishing.{begins, publishing_keeps}

-- ---- a step is of the same participant, in a ring of the same r

module _ {judged : Key → List ℕ → Option Judged} {r : ℕ} where
  hears_by : (s : Session) (cache : Cache) (node : Peer) (question : Ask) (answer : Answer) (heard : Session) (after : Cache) → Hears judged r s cache node question answer heard after → heard.by ≡ s.by
  hears_by s cache node question answer _ _ (gets_on want wants next part) = refl
  hears_by s cache node question answer _ _ (got want brought wants next whole) = refl
  hears_by s cache node question answer _ _ (puts_on said p posts acks at next part) = refl
  hears_by s cache node question answer _ _ (puts said p posts acks came at next whole) = refl

  takes_by : (s t : Session) (cache after : Cache) → Takes judged r s cache t after → t.by ≡ s.by
  takes_by s _ cache _ (posted key bytes wants none is) = refl
  takes_by s _ cache _ (cached key bytes wants none missing is) = refl

  takes_all_by : {s t : Session} {cache after : Cache} → TakesAll judged r s cache t after → t.by ≡ s.by
  takes_all_by (takes_none none) = refl
  takes_all_by (takes_more {s} {mid} {t} {cache} {between} {after} first rest) = takes_all_by rest ∙ takes_by s mid cache between first

  takes_some_by : {s t : Session} {cache after : Cache} → TakesSome judged r s cache t after → t.by ≡ s.by
  takes_some_by some_none = refl
  takes_some_by (some_more {s} {mid} {t} {cache} {between} {after} first rest) = takes_some_by rest ∙ takes_by s mid cache between first

fate_replicas : {judged : Key → List ℕ → Option Judged} {w next : World} {to : Peer} {question : Ask} {answer : Answer} → FateOf judged w to question answer next → next.replicas ≡ w.replicas
fate_replicas (lost l) = refl
fate_replicas (stopped n l is dead) = refl
fate_replicas (answers n l is live) = refl

fails_by : (s t : Session) → Fails s t → t.by ≡ s.by
fails_by s _ (fails notes given miss xid asked at refreshed asks_it) = refl
fails_by s _ (goes_on none) = refl

lacks_by : (s t : Session) → LacksMemory s t → t.by ≡ s.by
lacks_by s _ (lacks notes shown given end xid asked at refreshed asks_it rest front) = refl

settles_by : (a : HssAgent) (s : Session) (after : HssAgent) (t : Session) → Settles a s after t → t.by ≡ s.by
settles_by a s _ _ (settles_all said acks at) = refl

turn_by : (now : Moment) (a : HssAgent) (view : View) (failing : Bool) (s : Session) (end : TurnEnd) (after : HssAgent) (saving : Option HssKept) (t : Session) → TakesTurn hss_signing (record { agent = a; view = view; now = now; fails = failing }) s end after saving t → t.by ≡ s.by
turn_by now a view failing s _ _ _ _ (turn_answers notes given xid asked reply applied after saving done asks_it turned) = refl
turn_by now a view failing s _ _ _ _ (begins_again notes given xid asked end after saving done asks_it turned refused few) = refl
turn_by now a view failing s _ _ _ _ (gives_up notes given xid asked end after saving done asks_it turned refused many) = refl

abbrev IsSameIn : Configuration → Configuration → Type 0
IsSameIn c next = (next.session.by ≡ c.session.by) × (next.world.replicas ≡ c.world.replicas)

module _ (r : ℕ) where
  acts_same : (c next : Configuration) (p : Participant) → Acts hss_judged r p c next → IsSameIn c next
  acts_same c _ p (asks node question answer next heard t cache fate hears goes) =
      (fails_by heard t goes ∙ hears_by c.session p.cache node question answer heard cache hears, fate_replicas fate)
  acts_same c _ p (asks_in_vain node question answer next heard t cache fate hears lacking) = (lacks_by c.session t lacking, fate_replicas fate)
  acts_same c _ p (turns view reply applied after saving t turned in_view takes replies is_turn) = (turn_by c.world.now p.agent view _ c.session _ after saving t takes, refl)
  acts_same c _ p (is_refused view end after saving t in_view refusal takes) = (turn_by c.world.now p.agent view _ c.session end after saving t takes, refl)
  acts_same c _ p (settles after t is) = (settles_by p.agent c.session after t is, refl)

  pub step_same : (name : List ℕ) (c next : Configuration) → Steps hss_judged r name c next → IsSameIn c next
  step_same name c _ (acts p taken cache next is_p takes act) =
      let same = acts_same (with_cache hss_judged r c p taken cache) next (record p { cache = cache }) act in
      (same.0 ∙ takes_all_by takes, same.1)
  step_same name c _ (lacks_memory p taken t cache is_p takes lacking) = (lacks_by taken t lacking ∙ takes_some_by takes, refl)

-- ---- all steps

abbrev Published : Configuration → Configuration → Type 0
Published c end = Invariant (end.world, end.ghost_state) × (end.ghost_state.turns ≡ c.ghost_state.turns)

runs_keep : (r : ℕ) (name : List ℕ) {c end : Configuration} → RunsOut hss_judged r name c end → c.session.by ≡ name → Invariant (c.world, c.ghost_state) → OnlyPublishes c.world r c.session → c.world.replicas ≡ Some r → Published c end
runs_keep r name (runs_over said over) named keeps only ringed = (keeps, refl)
runs_keep r name (runs_more {c} {between} {next} step rest) named keeps only ringed =
    let one = publishing_keeps c between r keeps only ringed (subst (λ n. Steps hss_judged r n c between) (sym named) step) in
    let same = step_same r name c between step in
    let others = runs_keep r name rest (same.0 ∙ named) one.0 one.1 (same.1 ∙ ringed) in
    (others.0, others.1 ∙ one.2)

-- ---- the beginning

numbered_each : (P : Peer → Type 0) (ps : List Peer) (p : Peer) → AllByRecursion P ps → P p → AllByRecursion P (with_numbered ps p)
numbered_each P [] p h new = (new, tt)
numbered_each P (q ∷ ps) p h new = by (nat_lt p.number q.number) (numbered_each P ps p h.1 new)
  where
    by : (b : Bool) → AllByRecursion P (with_numbered ps p) → AllByRecursion P (cond b (p ∷ q ∷ ps) (q ∷ with_numbered ps p))
    by true later = (new, h)
    by false later = (h.0, later)

all_numbered : (P : Peer → Type 0) (found ps : List Peer) → AllByRecursion P found → AllByRecursion P ps → AllByRecursion P (fold with_numbered found ps)
all_numbered P found [] h new = h
all_numbered P found (p ∷ ps) h new = all_numbered P (with_numbered found p) ps (numbered_each P found p h new.0) new.1

not_empty : (ps : List Peer) (p : Peer) → with_numbered ps p ≢ []
not_empty [] p e = cc e
not_empty (q ∷ ps) p e = by (nat_lt p.number q.number) e
  where
    by : (b : Bool) → cond b (p ∷ q ∷ ps) (q ∷ with_numbered ps p) ≢ []
    by true e = cc e
    by false e = cc e

stays_some : (found ps : List Peer) → found ≢ [] → fold with_numbered found ps ≢ []
stays_some found [] some = some
stays_some found (p ∷ ps) some = stays_some (with_numbered found p) ps (not_empty found p)

pub entries_made : (w : World) → AllByRecursion (Contains (map peer_of w.nodes)) (entries w)
entries_made w = all_numbered (Contains (map peer_of w.nodes)) [] (map peer_of w.nodes) tt (each_from (Contains (map peer_of w.nodes)) (map peer_of w.nodes) (λ p h. h))

pub some_entries : (w : World) → w.nodes ≢ [] → entries w ≢ []
some_entries w some = by w.nodes some
  where
    by : (nodes : List Node) → nodes ≢ [] → fold with_numbered [] (map peer_of nodes) ≢ []
    by [] some = absurd (some refl)
    by (n ∷ nodes) some = stays_some (with_numbered [] (peer_of n)) (map peer_of nodes) (not_empty [] (peer_of n))

-- what is published is what the agent has to
pub each_published : (P : Post → Type 0) (posts : List Post) → AllByRecursion P posts → AllByRecursion P (in_publishing_order posts)
each_published P posts h = each_append P (filter (λ p. is_log p.kind) posts ++ filter (λ p. is_block p.kind) posts) (filter (λ p. is_head p.kind) posts)
    (each_append P (filter (λ p. is_log p.kind) posts) (filter (λ p. is_block p.kind) posts) (kept (λ p. is_log p.kind)) (kept (λ p. is_block p.kind))) (kept (λ p. is_head p.kind))
  where
    kept : (test : Post → Bool) → AllByRecursion P (filter test posts)
    kept test = each_from P (filter test posts) (λ p among. each P posts p h (from_filter test posts p among).0)

begins_so : (w : Played) (r : ℕ) (p : Participant) → Invariant w → w.0.replicas ≡ Some r → participant w.0 p.name ≡ Some p → OnlyPublishes w.0 r (to_publish w.0 p)
begins_so w r p keeps ringed is = record {
  by = p;
  is_by = is;
  some_entry = some_entries w.0 (ring_of w keeps ringed).1;
  entries = entries_made w.0;
  heard = tt;
  bare = refl;
  stage = (refl, posts, begins r (to_publish w.0 p) (some_entries w.0 (ring_of w keeps ringed).1) refl (in_publishing_order p.agent.pending));
}
  where
    posts : AllByRecursion (IsMetPost w.0.met) (in_publishing_order p.agent.pending)
    posts = each_published (IsMetPost w.0.met) p.agent.pending (each _ w.0.participants p keeps.met.pending (found_named w.0.participants p.name p is).0)

pub whole_publishing_keeps : WholePublishingKeeps
whole_publishing_keeps w r p next keeps ringed is published =
    let end = runs_keep r p.name published.1 refl keeps (begins_so w r p keeps ringed is) ringed in
    (subst Invariant (sym published.2) end.0, ap (λ (v : Played). v.1.turns) published.2 ∙ end.1)
