-- All that open sessions were brought was available or came of whole gets, and turns that were had are on the replay: so each line leaves
-- it.
use Rattle.std.proofs.Common.{◌≡◌, ◌≢◌, ◌⊎◌, inl, inr, ⊎_elim, ℕ, Bool, true, false, cond, not, List, [], ◌∷◌, ◌++◌, map, Option, Some, None, refl, sym, ap, ◌∙◌, subst, Contains}
use Rattle.std.specs.Prelude.{is_some, option_map, if◌then◌else◌}
use Rattle.std.specs.List.{AllByRecursion, find}
use Rattle.std.specs.Str.{bytes_eq}
use Rattle.std.proofs.lemmas.List.Elements.{Contains-append_cases}
use Rattle.ivy_base.specs.declared.key.Key.{Key}
use Rattle.log_model.proofs.Lists.{each_append, from_filter, in_cons, in_nothing}
use Rattle.dht_ids.specs.Asked.{told}
use Rattle.dht_ids.specs.declared.ask.Answer.{Answer}
use Rattle.dht_ids.specs.declared.ask.Ask.{Ask}
use Rattle.dht_ids.specs.declared.ask.Ask.TheVariants as ask
use Rattle.dht_ids.specs.declared.ask.Heard.{Heard}
use Rattle.dht_ids.specs.declared.peer.Peer.{Peer}
use Rattle.dhash_model.specs.Signed.{hss_judged}
use Rattle.session_model.specs.Brought.{Part}
use Rattle.session_model.specs.Executions.{Fails, LacksMemory, Settles}
use Rattle.session_model.specs.Executions.Begins.{alone as begins_alone, refreshes as begins_refreshing}
use Rattle.session_model.specs.Executions.Fails.{fails, goes_on}
use Rattle.session_model.specs.Executions.LacksMemory.{lacks as lacks_any}
use Rattle.session_model.specs.Executions.Settles.{settles as settles_all}
use Rattle.session_model.specs.Executions.TakesTurn.{answers as turn_answers, begins_again, gives_up}
use Rattle.session_model.specs.Sessions.{Cache, Hears, Session, Takes, TakesSome, wanted_key}
use Rattle.session_model.specs.Sessions.Hears.{gets_on, got, puts, puts_on}
use Rattle.session_model.specs.Sessions.Takes.{cached, posted}
use Rattle.session_model.specs.Sessions.TakesSome.{more as some_more, none as some_none}
use Rattle.agent_model.specs.Turning.{TurnEnd}
use Rattle.script_driver.specs.Run.{Goes}
use Rattle.script_model.specs.Lines.{command_of}
use Rattle.script_model.specs.declared.command.Command.{Command}
use Rattle.world_model.specs.Agents.{HssAgent, HssKept, TakesHssTurn, HssTurning}
use Rattle.world_model.specs.Calls.{BeginsWith, Sending}
use Rattle.world_model.specs.Logs.{Played, with_view}
use Rattle.world_model.specs.Step.{IvyStep}
use Rattle.world_model.specs.Steps.{RunsOut, Configuration}
use Rattle.world_model.specs.GhostState.{HadTurn, empty_ghost_state}
use Rattle.world_model.specs.World.{NamedSession, World, empty_world}
use Rattle.world_laws.specs.Effects.{Effect, LaterEffect, Plays}
use Rattle.world_laws.specs.Effects.Effect.{comes, loses, makes_view, of_nodes, opens, plays, renews, shows, times, touches}
use Rattle.world_laws.specs.Effects.LaterEffect.{publishes, replies}
use Rattle.world_laws.specs.Effects.Plays.{calls, ends, steps}
use Rattle.world_laws.specs.Invariant.{HasRing, Invariant}
use Rattle.world_laws.specs.Moves.{Move, Moves}
use Rattle.world_laws.specs.Moves.Move.{asks, hears, lacks, settles, takes, turns}
use Rattle.world_laws.proofs.AllLines.{does_line}
use Rattle.world_laws.proofs.Effects.{by_effects, lines_have_effects, played_moves}
use Rattle.world_laws.proofs.HeadlineOfLines.{headline_holds}
use Rattle.world_laws.proofs.Moves.{all_moves, runs_move}
use Rattle.world_laws.proofs.NodeFates.{fate_rest}
use Rattle.world_laws.proofs.Placed.{found_among}
use Rattle.world_laws.proofs.RingLines.{fates_rest}
use Rattle.world_laws.proofs.SignedHeads.{from_map}
use Rattle.stage_laws.specs.Told.{CameIn, IsTold, PartsCameIn}
use Rattle.stage_laws.specs.Told.CameIn.{available, by_get}

-- ---- a session

module _ (r : ℕ) where
  -- all that it was brought
  abbrev pub AllCameIn : Session → Type 0
  AllCameIn s = AllByRecursion (CameIn r s.entries) s.parts

  one_more : (s : Session) (p : Part) → AllCameIn s → CameIn r s.entries p → AllByRecursion (CameIn r s.entries) (s.parts ++ p ∷ [])
  one_more s p all one = each_append (CameIn r s.entries) s.parts (p ∷ []) all (one, tt)

  -- an ask of a get or a put is told of
  some_told : (front : List Heard) (node : Peer) (key : Key) (question : Ask) (answer : Answer) → (question ≡ ask.Route key) ⊎ (question ≡ ask.Get key) → front ++ told node question answer ≢ []
  some_told front node key question answer is = ⊎_elim
      (λ e. subst (λ (q : Ask). front ++ told node q answer ≢ []) (sym e) (none_empty front _))
      (λ e. subst (λ (q : Ask). front ++ told node q answer ≢ []) (sym e) (none_empty front _)) is
    where
      none_empty : (xs : List Heard) (h : Heard) → xs ++ h ∷ [] ≢ []
      none_empty [] h e = cc e
      none_empty (x ∷ xs) h e = cc e

  take_in : (s t : Session) (cache after : Cache) → Takes hss_judged r s cache t after → AllCameIn s → AllCameIn t
  take_in s _ cache _ (posted key bytes wants none is) all = one_more s _ all (available key bytes)
  take_in s _ cache _ (cached key bytes wants none missing is) all = one_more s _ all (available key bytes)

  takes_in : {s t : Session} {cache after : Cache} → TakesSome hss_judged r s cache t after → AllCameIn s → AllCameIn t
  takes_in some_none all = all
  takes_in (some_more {s} {mid} {t} {cache} {between} {after} first rest) all = takes_in rest (take_in s mid cache between first all)

  hears_in : (s : Session) (cache : Cache) (node : Peer) (question : Ask) (answer : Answer) (heard : Session) (after : Cache) → Hears hss_judged r s cache node question answer heard after → AllCameIn s → AllCameIn heard
  hears_in s cache node question answer _ _ (gets_on want wants next part) all = all
  hears_in s cache node question answer _ _ (got want brought wants next whole) all =
      one_more s _ all (by_get want brought (s.current ++ told node question answer) (some_told s.current node (wanted_key want) question answer next.is_of) whole)
  hears_in s cache node question answer _ _ (puts_on said p posts acks at next part) all = all
  hears_in s cache node question answer _ _ (puts said p posts acks came at next whole) all = all

  fails_in : (s t : Session) → Fails s t → AllCameIn s → AllCameIn t
  fails_in s _ (fails notes given miss xid asked at refreshed asks_it) all = all
  fails_in s _ (goes_on none) all = all

  lacks_in : (s t : Session) → LacksMemory s t → AllCameIn s → AllCameIn t
  lacks_in s _ (lacks_any notes shown given end xid asked at refreshed asks_it rest front) all = all

  turn_in : (turning : HssTurning) (s : Session) (end : TurnEnd) (after : HssAgent) (saving : Option HssKept) (t : Session) → TakesHssTurn turning s end after saving t → AllCameIn s → AllCameIn t
  turn_in turning s _ _ _ _ (turn_answers notes given xid asked reply applied after saving done asks_it turned) all = all
  turn_in turning s _ _ _ _ (begins_again notes given xid asked end after saving done asks_it turned refused few) all = tt
  turn_in turning s _ _ _ _ (gives_up notes given xid asked end after saving done asks_it turned refused many) all = all

  settles_in : (a after : HssAgent) (s t : Session) → Settles a s after t → AllCameIn s → AllCameIn t
  settles_in a _ s _ (settles_all said acks at) all = all

  pub begins_in : (w : World) (s : Sending) (t : Session) → BeginsWith w s t → AllCameIn t
  begins_in w s _ (begins_alone given by) = tt
  begins_in w s _ (begins_refreshing xid asked asking) = tt

  -- ---- in a world

  -- the session's parts came in; the other sessions are as they were, and so is the ring's number
  record KeepsIn (w : World) (c : Configuration) : Type 0 where
    ringed : c.world.replicas ≡ w.replicas
    others : c.world.sessions ≡ w.sessions
    parts : AllCameIn c.session

  asked_in : (w : World) (c : Configuration) (next : World) → next ≡ record (c.world) { nodes = next.nodes; asked = next.asked } → KeepsIn w c → KeepsIn w (record c { world = next })
  asked_in w c next is h = record { ringed = ap (λ (v : World). v.replicas) is ∙ h.ringed; others = ap (λ (v : World). v.sessions) is ∙ h.others; parts = h.parts }

  move_in : (w : World) {name : List ℕ} (c next : Configuration) → Move hss_judged r name c next → KeepsIn w c → KeepsIn w next
  move_in w c _ (takes p taken cache is taking) h = record { ringed = h.ringed; others = h.others; parts = takes_in taking h.parts }
  move_in w c _ (asks node question answer next fate) h = asked_in w c next (fate_rest fate) h
  move_in w c _ (hears p node question answer next heard t cache is fate hearing goes) h =
      let asked = asked_in w c next (fate_rest fate) h in
      record { ringed = asked.ringed; others = asked.others; parts = fails_in heard t goes (hears_in c.session p.cache node question answer heard cache hearing h.parts) }
  move_in w c _ (lacks t lacking) h = record { ringed = h.ringed; others = h.others; parts = lacks_in c.session t lacking h.parts }
  move_in w c _ (turns p view end after saving t work ghost_state began is in_view taking told) h = record { ringed = h.ringed; others = h.others; parts = turn_in _ c.session end after saving t taking h.parts }
  move_in w c _ (settles p after t is settling) h = record { ringed = h.ringed; others = h.others; parts = settles_in p.agent after c.session t settling h.parts }

  moves_in : (w : World) {name : List ℕ} {c end : Configuration} → Moves hss_judged r name c end → KeepsIn w c → KeepsIn w end
  moves_in w on h = all_moves (KeepsIn w) (move_in w) on h

  -- so it is of all that the session has at the end of its steps
  pub steps_came : {name : List ℕ} {c end : Configuration} → RunsOut hss_judged r name c end → AllCameIn c.session → AllCameIn end.session
  steps_came {c = c} runs all = (moves_in c.world (runs_move runs) (record { ringed = refl; others = refl; parts = all })).parts

-- ---- lines

-- the open session of that name
pub session_in : (ss : List NamedSession) (name : List ℕ) (s : Session) → option_map (λ (x : NamedSession). x.session) (find (λ x. bytes_eq x.name name) ss) ≡ Some s
    → (x : NamedSession) × Contains ss x × (x.session ≡ s)
session_in ss name s is = by (find (λ (x : NamedSession). bytes_eq x.name name) ss) refl is
  where
    by : (o : Option NamedSession) → find (λ (x : NamedSession). bytes_eq x.name name) ss ≡ o → option_map (λ (x : NamedSession). x.session) o ≡ Some s → (x : NamedSession) × Contains ss x × (x.session ≡ s)
    by None found e = cc e
    by (Some x) found e = (x, (found_among (λ (y : NamedSession). y.name) ss name x found).0, cc e)

-- it, in place of the one of its name, or one that was there
pub in_place : (ss : List NamedSession) (name : List ℕ) (s : Session) (x : NamedSession) → Contains (map (λ t. if bytes_eq t.name name then record { name = name; session = s } else t) ss) x
    → (x.session ≡ s) ⊎ Contains ss x
in_place ss name s x among =
    let from = from_map (λ (t : NamedSession). if bytes_eq t.name name then record { name = name; session = s } else t) ss x among in
    by from.0 (bytes_eq from.0.name name) from.1 from.2
  where
    by : (t : NamedSession) (b : Bool) → Contains ss t → x ≡ cond b (record { name = name; session = s }) t → (x.session ≡ s) ⊎ Contains ss x
    by t true there is = inl (ap (λ (y : NamedSession). y.session) is)
    by t false there is = inr (subst (Contains ss) (sym is) there)

same_number : (a b : ℕ) → Some a ≡ Some b → a ≡ b
same_number a b e = cc e

module _ (w : Played) (keeps : Invariant w) (came : PartsCameIn w) where
  -- the ring's number is as it was, and each open session was there
  abbrev HasFewer : Played → Type 0
  HasFewer next = (next.0.replicas ≡ w.0.replicas) × ((s : NamedSession) → Contains next.0.sessions s → Contains w.0.sessions s)

  fewer_came : (next : Played) → HasFewer next → PartsCameIn next
  fewer_came next h r s ringed among = came r s (sym h.0 ∙ ringed) (h.1 s among)

  -- as a ring is made there is no session
  ring_came : (next : World) → next.sessions ≡ w.0.sessions → (o : Option ℕ) → w.0.replicas ≡ o → HasRing w.0 o → ((r : ℕ) → w.0.replicas ≡ Some r → next.replicas ≡ Some r) → PartsCameIn (next, w.1)
  ring_came next same None is ring stays r s ringed among = absurd (in_nothing s (subst (λ (l : List NamedSession). Contains l s) (same ∙ ring.2) among))
  ring_came next same (Some k) is ring stays r s ringed among =
      came r s (is ∙ ap Some (same_number k r (sym (stays k is) ∙ ringed))) (subst (λ (l : List NamedSession). Contains l s) same among)

  played_came : {k : Command} {r : ℕ} {name : List ℕ} {c end : Configuration} {next : Played} → w.0.replicas ≡ Some r → Plays hss_judged w r k name c end next
      → (KeepsIn r w.0 c → KeepsIn r w.0 end) → PartsCameIn next
  played_came {r = r} ringed (calls log pieces s t end sends begins runs over) on =
      let after = on (record { ringed = refl; others = refl; parts = begins_in r w.0 s t begins }) in
      fewer_came (end.world, end.ghost_state) (after.ringed, λ x among. subst (λ (l : List NamedSession). Contains l x) after.others among)
  played_came {r = r} ringed (steps name count s end is going) on =
      let found = session_in w.0.sessions name s is in
      let before : AllCameIn r s = subst (AllCameIn r) found.2 (came r found.0 ringed found.1) in
      let after = on (record { ringed = refl; others = refl; parts = before }) in
      λ k x also among. ⊎_elim
      (λ its. subst (AllCameIn k) (sym its) (subst (λ (n : ℕ). AllCameIn n end.session) (same_number r k (sym ringed ∙ sym after.ringed ∙ also)) after.parts))
      (λ other. came k x (sym after.ringed ∙ also) (subst (λ (l : List NamedSession). Contains l x) after.others other))
      (in_place end.world.sessions name end.session x among)
  played_came {r = r} ringed (ends name s end is runs over) on =
      let found = session_in w.0.sessions name s is in
      let before : AllCameIn r s = subst (AllCameIn r) found.2 (came r found.0 ringed found.1) in
      let after = on (record { ringed = refl; others = refl; parts = before }) in
      λ k x also among. came k x (sym after.ringed ∙ also) (subst (λ (l : List NamedSession). Contains l x) after.others (from_filter (λ t. not (bytes_eq t.name name)) end.world.sessions x among).0)

  effect_came : (k : Command) (next : Played) → Effect hss_judged w k next → PartsCameIn next
  effect_came k _ (shows _ is) = came
  effect_came k _ (times sec nsec) = came
  effect_came k _ (loses count) = came
  effect_came k _ (of_nodes _ ring next is) = ring_came next (ap (λ (v : World). v.sessions) is.rest) w.0.replicas refl keeps.ring is.ringed
  effect_came k _ (makes_view name names others members former r view next are also new own_keys small ringed is put) =
      let same : next ≡ record (with_view w.0 name view) { nodes = next.nodes; asked = next.asked } = fates_rest put.fates in
      fewer_came (next, w.1) (ap (λ (v : World). v.replicas) same, λ s among. subst (λ (l : List NamedSession). Contains l s) (ap (λ (v : World). v.sessions) same) among)
  effect_came k _ (comes name id seed sets new) = came
  effect_came k _ (touches sort name p q posts is_p is) = came
  effect_came k _ (renews sort name p q posts set is_p is) = λ r s ringed among. came r s ringed (from_filter _ w.0.sessions s among).0
  effect_came k _ (opens name log pieces s t new sends begins) = λ r x ringed among. ⊎_elim (λ old. came r x ringed old)
      (λ its. ⊎_elim (λ e. subst (λ (y : NamedSession). AllCameIn r y.session) e (begins_in r w.0 s t begins)) (λ none. absurd (in_nothing x none)) (in_cons (record { name = name; session = t }) [] x its))
      (Contains-append_cases w.0.sessions (record { name = name; session = t } ∷ []) x among)
  effect_came k next (plays sort r name c end _ ringed is) = played_came ringed is (λ h. moves_in r w.0 (played_moves is) h)

later_came : {k : Command} (v next : Played) → LaterEffect hss_judged v k next → PartsCameIn v → PartsCameIn next
later_came v _ (publishes k alone r p end ringed is over on) came =
    let after = moves_in r v.0 (runs_move on) (record { ringed = refl; others = refl; parts = tt }) in
    λ n s also among. came n s (sym after.ringed ∙ also) (subst (λ (l : List NamedSession). Contains l s) after.others among)
later_came v _ (replies k whole said) came = by (is_some said.message)
  where
    by : (b : Bool) → PartsCameIn (cond b (record (v.0) { replies = v.0.replies ++ record { handle = said.handle; verifier = said.verifier } ∷ [] }) v.0, v.1)
    by true = came
    by false = came

-- ---- what is told

pub told_stays : (w next : Played) (line output : List ℕ) → Invariant w → IsTold w → IvyStep w line (Goes next output) → IsTold next
told_stays w next line output keeps told step =
    let done = does_line w next output (command_of line) step in
    let new = headline_holds w line (Goes next output) keeps step done.0 next output done.1 refl in
    record {
      parts = by_effects PartsCameIn (effect_came w keeps told.parts done.0) later_came (lines_have_effects w next done.0 output done.2);
      turns = λ h among. ⊎_elim (told.turns h) (new.turns h) (Contains-append_cases w.1.turns new.more h (subst (λ (l : List HadTurn). Contains l h) new.new among));
    }

pub nothing_told : IsTold (empty_world, empty_ghost_state)
nothing_told = record { parts = λ r s ringed among. absurd (in_nothing s among); turns = λ h among. absurd (in_nothing h among) }
