-- Each step leaves a world in which the invariant holds, and such a session, and a turn in it is on the replay.
use Rattle.std.proofs.Common.{◌≡◌, inl, ℕ, Bool, true, false, List, [], ◌∷◌, ◌++◌, length, length-append, Option, Some, refl, sym, ap, ◌∙◌, subst, arith}
use Rattle.std.proofs.lemmas.List.{append-nil}
use Rattle.dhash_model.specs.Signed.{hss_judged}
use Rattle.log_model.proofs.Lists.{each, in_nothing}
use Rattle.dht_ids.specs.declared.ask.Answer.{Answer}
use Rattle.dht_ids.specs.declared.ask.Ask.{Ask}
use Rattle.dht_ids.specs.declared.peer.Peer.{Peer}
use Rattle.dht_ids.specs.declared.post.Ack.{Ack}
use Rattle.dht_ids.specs.declared.post.Post.{Post}
use Rattle.session_model.specs.Executions.{Fails}
use Rattle.session_model.specs.Executions.Fails.{fails as refresh_fails, goes_on as refresh_goes}
use Rattle.session_model.specs.Replies.{missed_reply, said_of}
use Rattle.session_model.specs.Sessions.{Cache, Hears, Over, Publishing, Refreshing, Said, Session, Stage, TakesAll, TakesSome, acknowledged, after_put}
use Rattle.session_model.specs.Sessions.Hears.{gets_on, got, puts_on, puts}
use Rattle.session_model.specs.Sessions.TakesAll.{none as takes_none, more as takes_more}
use Rattle.session_model.specs.Sessions.TakesSome.{none as some_none, more as some_more}
use Rattle.world_model.specs.Fates.{FateOf}
use Rattle.world_model.specs.World.{World, Participant, participant, with_participant}
use Rattle.world_model.specs.GhostState.{GhostState}
use Rattle.world_model.specs.Steps.{Acts, Configuration, acked_by, ask_told, with_cache}
use Rattle.world_model.specs.Steps.Acts.{asks, asks_in_vain, turns, is_refused, settles}
use Rattle.world_model.specs.Steps.Steps.{acts, lacks_memory}
use Rattle.world_laws.specs.Causes.HasCause.{missed as missed_cause}
use Rattle.world_laws.specs.Invariant.{IsInHand, Invariant}
use Rattle.world_laws.specs.Laws.{StepLeaves, StepsKeep}
use Rattle.world_laws.proofs.AnsweredTurns.{answered_turns_keep}
use Rattle.world_laws.proofs.Bringing.{found_named}
use Rattle.world_laws.proofs.Frames.{found_placed}
use Rattle.world_laws.proofs.GetsBring.{gets_bring_keep}
use Rattle.world_laws.proofs.InHand.{gets_go_on_keep, puts_keep, settling_keeps, vain_asks_keep}
use Rattle.world_laws.proofs.LackingSteps.{lacking_steps_keep, sound_taken}
use Rattle.world_laws.proofs.RefusedTurns.{refused_turns_keep}
use Rattle.world_laws.proofs.Taking.{HasTaken, takes_some_so}
use Rattle.world_laws.proofs.TakingOn.{taking_keeps}

-- ---- no turn

without_turns : (c next : Configuration) (r : ℕ) → Invariant (next.world, next.ghost_state) × IsInHand next r → next.ghost_state.turns ≡ c.ghost_state.turns → StepLeaves c next r
without_turns c next r h same = (h.0, h.1, [], same ∙ sym (append-nil c.ghost_state.turns), λ turn among. absurd (in_nothing turn among))

pub all_some : {r : ℕ} {s t : Session} {cache after : Cache} → TakesAll hss_judged r s cache t after → TakesSome hss_judged r s cache t after
all_some (takes_none none) = some_none
all_some (takes_more first rest) = some_more first (all_some rest)

-- ---- a refresh that fails

failed_so : (c : Configuration) (r : ℕ) (t : Session) → IsInHand c r → Fails c.session t → IsInHand (record c { session = t }) r
failed_so c r _ hand (refresh_fails notes given miss xid asked at refreshes asks_it) = record {
  number = hand.number;
  goes_on = record {
    by = hand.goes_on.by;
    is_by = hand.goes_on.is_by;
    in_view = hand.goes_on.in_view;
    own_key = hand.goes_on.own_key;
    some_entry = hand.goes_on.some_entry;
    entries = hand.goes_on.entries;
    heard = tt;
    pending = hand.goes_on.pending;
    stage = refl;
  };
  said = missed_cause xid asked given miss asks_it refreshes refl;
  sound = λ apart. sound_taken c.world c.ghost_state c.session c.began c.session.parts [] (Over (Some (said_of xid (missed_reply asked miss)))) notes (Some miss) (record { heads = λ e h. h; blocks = λ key bytes h. inl h }) (hand.sound apart);
}
failed_so c r _ hand (refresh_goes not) = hand

-- while it refreshes no post is acknowledged
none_acked : (stage other : Stage) → stage ≡ Refreshing → acked_by stage other ≡ []
none_acked stage other at = subst (λ (x : Stage). acked_by x other ≡ []) (sym at) refl

same_told : (st : GhostState) (name : List ℕ) (s heard t : Session) → s.stage ≡ Refreshing → Fails heard t → ask_told st name s t ≡ ask_told st name s heard
same_told st name s heard _ at (refresh_fails notes given miss xid asked is refreshes asks_it) =
    ap (λ (posts : List Post). record (ask_told st name s heard) { acked = st.acked ++ posts }) (none_acked s.stage (Over (Some (said_of xid (missed_reply asked miss)))) at ∙ sym (none_acked s.stage heard.stage at))
same_told st name s heard _ at (refresh_goes not) = refl

-- ---- asks

not_longer : {X : Type 0} (xs : List X) (x : X) → xs ++ x ∷ [] ≡ xs → ⊥
not_longer xs x e = omega (arith, ap length e, length-append xs (x ∷ []))

publishes : (said : Option Said) (q : Post) (posts : List Post) (acks : List Ack) (held : Bool) → after_put said q posts acks held ≡ Refreshing → ⊥
publishes said q posts acks true e = cc e
publishes said q posts acks false e = cc e

publishing_now : (s : Session) (said : Option Said) (posts : List Post) (acks : List Ack) → s.stage ≡ Publishing said posts acks → s.stage ≡ Refreshing → ⊥
publishing_now s said posts acks at e = cc (sym at ∙ e)

fails_nothing : (s t : Session) → (s.stage ≡ Refreshing → ⊥) → Fails s t → t ≡ s
fails_nothing s _ other (refresh_fails notes given miss xid asked at refreshes asks_it) = absurd (other at)
fails_nothing s _ other (refresh_goes not) = refl

module _ (c : Configuration) (r : ℕ) (p : Participant) (keeps : Invariant (c.world, c.ghost_state)) (hand : IsInHand c r) (ringed : c.world.replicas ≡ Some r) (is_p : participant c.world c.session.by ≡ Some p)
    (node : Peer) (question : Ask) (answer : Answer) (next : World) (fate : FateOf hss_judged c.world node question answer next) where
  abbrev configuration : Session → Session → Cache → Configuration
  configuration told_by t cache = record { world = with_participant next (record p { cache = cache }); ghost_state = ask_told c.ghost_state p.name c.session told_by; session = t; began = c.began }

  abbrev Left : Session → Cache → Type 0
  Left t cache = Invariant ((configuration t t cache).world, (configuration t t cache).ghost_state) × IsInHand (configuration t t cache) r × ((configuration t t cache).ghost_state.turns ≡ c.ghost_state.turns)

  leaves_so : (t : Session) (cache : Cache) → Left t cache → StepLeaves c (configuration t t cache) r
  leaves_so t cache h = without_turns c (configuration t t cache) r (h.0, h.1) h.2

  gone_on : (heard t : Session) (cache : Cache) → c.session.stage ≡ Refreshing → Fails heard t → Left heard cache → Left t cache
  gone_on heard t cache at goes h = subst
      (λ (st : GhostState). Invariant (with_participant next (record p { cache = cache }), st) × IsInHand (record { world = with_participant next (record p { cache = cache }); ghost_state = st; session = t; began = c.began }) r × (st.turns ≡ c.ghost_state.turns))
      (sym (same_told c.ghost_state p.name c.session heard t at goes))
      (h.0, failed_so (configuration heard heard cache) r t h.1 goes, h.2)

  asked_so : (heard t : Session) (cache : Cache) → Hears hss_judged r c.session p.cache node question answer heard cache → Fails heard t → Left t cache
  asked_so _ t _ (gets_on want wants asks_next part) goes =
      gone_on _ t p.cache wants.0 goes (gets_go_on_keep c r p node question answer next _ p.cache keeps hand ringed is_p wants.0 refl fate (gets_on want wants asks_next part))
  asked_so _ t _ (got want brought wants asks_next whole) goes =
      gets_bring_keep c r p node question answer next _ t _ keeps hand ringed is_p wants.0 (not_longer c.session.parts _) fate (got want brought wants asks_next whole) goes
  asked_so _ t _ (puts_on said q posts acks at asks_next part) goes =
      subst (λ (u : Session). Left u p.cache) (sym (fails_nothing _ t (publishing_now c.session said (q ∷ posts) acks at) goes))
      (puts_keep c r p node question answer next _ p.cache keeps hand ringed is_p (publishing_now c.session said (q ∷ posts) acks at) fate (puts_on said q posts acks at asks_next part))
  asked_so _ t _ (puts said q posts acks came at asks_next whole) goes =
      subst (λ (u : Session). Left u p.cache) (sym (fails_nothing _ t (publishes said q posts acks (acknowledged came)) goes))
      (puts_keep c r p node question answer next _ p.cache keeps hand ringed is_p (publishing_now c.session said (q ∷ posts) acks at) fate (puts said q posts acks came at asks_next whole))

-- ---- steps

acts_so : (c next : Configuration) (r : ℕ) (p : Participant) → Invariant (c.world, c.ghost_state) → IsInHand c r → c.world.replicas ≡ Some r → participant c.world c.session.by ≡ Some p → Acts hss_judged r p c next → StepLeaves c next r
acts_so c _ r p keeps hand ringed is_p (asks node question answer next heard t cache fate hears goes) =
    leaves_so c r p keeps hand ringed is_p node question answer next fate t cache (asked_so c r p keeps hand ringed is_p node question answer next fate heard t cache hears goes)
acts_so c _ r p keeps hand ringed is_p (asks_in_vain node question answer next heard t cache fate hears lacking) =
    without_turns c (record c { world = next; session = t }) r (vain_asks_keep c r p node question answer next heard t cache keeps hand ringed is_p fate hears lacking) refl
acts_so c _ r p keeps hand ringed is_p (turns view reply applied after saving t turned in_view takes replies is_turn) = answered_turns_keep c r p view reply applied after saving t turned keeps hand ringed is_p in_view takes replies is_turn
acts_so c _ r p keeps hand ringed is_p (is_refused view end after saving t in_view refusal takes) = refused_turns_keep c r p view end after saving t keeps hand ringed is_p in_view refusal takes
acts_so c _ r p keeps hand ringed is_p (settles after t is) =
    without_turns c (record c { world = with_participant c.world (record p { agent = after }); session = t }) r (settling_keeps c r p after t keeps hand is_p is) refl

pub each_step_keeps : StepsKeep
each_step_keeps c _ r keeps hand ringed (acts p taken cache next is_p takes act) =
    acts_so (with_cache hss_judged r c p taken cache) next r (record p { cache = cache }) then_so.0 then_so.1 ringed found act
  where
    then_so : Invariant (with_participant c.world (record p { cache = cache }), c.ghost_state) × IsInHand (record c { world = with_participant c.world (record p { cache = cache }); session = taken }) r
    then_so = taking_keeps c r p taken cache keeps hand is_p (all_some takes)

    has : HasTaken c.world.met c.session taken cache
    has = takes_some_so c.world.met (all_some takes) hand.goes_on.pending (each _ c.world.participants p keeps.met.cached (found_named c.world.participants c.session.by p is_p).0)

    found : participant (with_participant c.world (record p { cache = cache })) taken.by ≡ Some (record p { cache = cache })
    found = subst (λ (u : Session). participant (with_participant c.world (record p { cache = cache })) u.by ≡ Some (record p { cache = cache })) (sym has.is)
        (found_placed c.world keeps.apart c.session.by p is_p (record p { cache = cache }) refl)
each_step_keeps c _ r keeps hand ringed (lacks_memory p taken t cache is_p takes lacking) =
    without_turns c (with_cache hss_judged r c p t cache) r (lacking_steps_keep c r p taken t cache keeps hand is_p takes lacking) refl
