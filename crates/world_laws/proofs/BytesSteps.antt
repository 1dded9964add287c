-- Where no names of the blocks met collide, steps of a session leave its message and what it will say in bytes.
use Rattle.std.proofs.Common.{◌≡◌, ◌≢◌, ℕ, Bool, true, false, List, ◌∷◌, ◌++◌, Option, Some, None, refl, sym, ◌∙◌, subst}
use Rattle.std.specs.Prelude.{IfSome}
use Rattle.ivy_base.specs.declared.operation.Moment.{Moment}
use Rattle.ivy_base.specs.Naming.{IsCollisionFree}
use Rattle.dhash_model.specs.Signed.{hss_judged}
use Rattle.log_model.specs.Record.{Record}
use Rattle.log_model.specs.View.{View}
use Rattle.nfs_model.specs.declared.replies.Reply.{Reply}
use Rattle.dht_ids.specs.declared.ask.Answer.{Answer}
use Rattle.dht_ids.specs.declared.ask.Ask.{Ask}
use Rattle.dht_ids.specs.declared.peer.Peer.{Peer}
use Rattle.dht_ids.specs.declared.post.Ack.{Ack}
use Rattle.dht_ids.specs.declared.post.Post.{Post}
use Rattle.turn_model.specs.Turn.{Turned}
use Rattle.turn_laws.proofs.Turns.{closed_makes_keys}
use Rattle.agent_model.specs.Turning.{Answered, TurnEnd}
use Rattle.session_model.specs.Executions.{Fails, IsRefusal, LacksMemory, Settles}
use Rattle.session_model.specs.Executions.Begins.{alone as begins_alone, refreshes as begins_refreshing}
use Rattle.session_model.specs.Executions.Fails.{fails, goes_on}
use Rattle.session_model.specs.Executions.LacksMemory.{lacks}
use Rattle.session_model.specs.Executions.Settles.{settles as settles_all}
use Rattle.session_model.specs.Executions.TakesTurn.{answers, begins_again, gives_up}
use Rattle.session_model.specs.Replies.{said_no_memory, said_of}
use Rattle.session_model.specs.Sessions.{Cache, Hears, Publishing, Said, Session, Takes, TakesAll, TakesSome, acknowledged, after_put}
use Rattle.session_model.specs.Sessions.Hears.{gets_on, got, puts_on, puts}
use Rattle.session_model.specs.Sessions.Takes.{posted, cached}
use Rattle.session_model.specs.Sessions.TakesAll.{none as takes_none, more as takes_more}
use Rattle.session_model.specs.Sessions.TakesSome.{none as some_none, more as some_more}
use Rattle.world_model.specs.Agents.{HssAgent, IsHssTurnIn, HssKept, TakesHssTurn, hss_inputs}
use Rattle.world_model.specs.Calls.{Sending, BeginsWith}
use Rattle.world_model.specs.Steps.{Acts, RunsOut, Configuration, Steps, StepsOn}
use Rattle.world_model.specs.Steps.Acts.{asks, asks_in_vain, is_refused, settles, turns}
use Rattle.world_model.specs.Steps.RunsOut.{is_over as runs_over, more as runs_more}
use Rattle.world_model.specs.Steps.Steps.{acts, lacks_memory}
use Rattle.world_model.specs.Steps.StepsOn.{is_over as steps_over, more as steps_more, none as steps_none}
use Rattle.world_model.specs.World.{Participant, World, named_bytes}
use Rattle.world_laws.specs.FullRuns.{GivesBytes, IsOfBytes, IsSaidWell, given_of}
use Rattle.world_laws.specs.FullTurns.{AreBytes}
use Rattle.world_laws.specs.Invariant.{Invariant}
use Rattle.world_laws.proofs.Frames.{same_keys}
use Rattle.world_laws.proofs.GivenBytes.{ReplyGives, turn_gives}
use Rattle.world_laws.proofs.OneSteps.{GoesWell, apart_then, runs_names, steps_names}
use Rattle.world_laws.proofs.SessionLinesSteps.{step_leads}
use Rattle.world_laws.proofs.ShownReplies.{said_of_other, said_other}

-- ---- what isn't seen

takes_bytes : {r : ℕ} {s t : Session} {cache after : Cache} → Takes hss_judged r s cache t after → IsOfBytes s → IsOfBytes t
takes_bytes (posted key bytes wants none is) h = record { message = h.message; said = h.said }
takes_bytes (cached key bytes wants none missing is) h = record { message = h.message; said = h.said }

takes_all_bytes : {r : ℕ} {s t : Session} {cache after : Cache} → TakesAll hss_judged r s cache t after → IsOfBytes s → IsOfBytes t
takes_all_bytes (takes_none none) h = h
takes_all_bytes (takes_more first rest) h = takes_all_bytes rest (takes_bytes first h)

takes_some_bytes : {r : ℕ} {s t : Session} {cache after : Cache} → TakesSome hss_judged r s cache t after → IsOfBytes s → IsOfBytes t
takes_some_bytes some_none h = h
takes_some_bytes (some_more first rest) h = takes_some_bytes rest (takes_bytes first h)

fails_bytes : {s t : Session} → Fails s t → IsOfBytes s → IsOfBytes t
fails_bytes (fails notes given miss xid asked is refreshed asks_it) h = record { message = h.message; said = (tt, tt) }
fails_bytes (goes_on none) h = h

lacks_bytes : {s t : Session} → LacksMemory s t → IsOfBytes s → IsOfBytes t
lacks_bytes (lacks notes shown given end xid asked is refreshed asks_it rest front) h = record { message = h.message; said = (tt, tt) }

-- ---- what is heard

put_well : (said : Option Said) (p : Post) (posts : List Post) (acks : List Ack) (held : Bool) → IsSaidWell (Publishing said (p ∷ posts) acks) → IsSaidWell (after_put said p posts acks held)
put_well said p posts acks true h = h
put_well said p posts acks false h = h

hears_bytes : {r : ℕ} {s heard : Session} {cache after : Cache} {node : Peer} {question : Ask} {answer : Answer} → Hears hss_judged r s cache node question answer heard after → IsOfBytes s → IsOfBytes heard
hears_bytes (gets_on want wants next part) h = record { message = h.message; said = h.said }
hears_bytes (got want brought wants next whole) h = record { message = h.message; said = h.said }
hears_bytes (puts_on said p posts acks is next part) h = record { message = h.message; said = h.said }
hears_bytes (puts said p posts acks came is next whole) h = record { message = h.message; said = put_well said p posts acks (acknowledged came) (subst IsSaidWell is h.said) }

-- ---- turns and settling

only_said : (said : Option Said) → IfSome said (λ m. GivesBytes (given_of m) × ((xid : ℕ) → m ≢ said_no_memory xid)) → IfSome said (λ m. GivesBytes (given_of m))
only_said None h = tt
only_said (Some m) h = h.0

settles_bytes : {a after : HssAgent} {s t : Session} → Settles a s after t → IsOfBytes s → IsOfBytes t
settles_bytes (settles_all said acks is) h = record { message = h.message; said = only_said said (subst IsSaidWell is h.said) }

turn_bytes : {now : Moment} {a after : HssAgent} {view : View} {failing : Bool} {s t : Session} {end : TurnEnd} {saving : Option HssKept} → TakesHssTurn (record { agent = a; view = view; now = now; fails = failing }) s end after saving t
    → ((reply : Reply) (applied : ℕ) → end ≡ Answered reply applied → ReplyGives reply) → IsOfBytes s → IsOfBytes t
turn_bytes (answers notes given xid asked reply applied after saving done asks_it turned) gives h =
    record { message = h.message; said = (gives reply applied refl, λ x. said_other (said_of xid reply) (said_of_other xid reply) x) }
turn_bytes (begins_again notes given xid asked end after saving done asks_it turned refused few) gives h = record { message = h.message; said = h.said }
turn_bytes (gives_up notes given xid asked end after saving done asks_it turned refused many) gives h = record { message = h.message; said = (tt, tt) }

-- what a turn replied gives bytes, where it is that of the definition
turned_gives : (met : List (List ℕ)) (now : Moment) (a : HssAgent) (view : View) (failing : Bool) (s : Session) (knew known : List Record) (turned : Turned) → IsHssTurnIn met (record { agent = a; view = view; now = now; fails = failing }) s knew known turned → ReplyGives turned.reply
turned_gives met now a view failing s knew known turned is = subst (λ (t : Turned). ReplyGives t.reply) (sym is.is_turn.by_set)
    (turn_gives (hss_inputs a view failing) is.taken is.asked now (closed_makes_keys view is.taken is.is_turn.largest.closed))

-- ---- steps

same_reply : (a b : Reply) (m n : ℕ) → Answered a m ≡ Answered b n → a ≡ b
same_reply a b m n e = cc e

acts_bytes : {r : ℕ} {p : Participant} {c next : Configuration} → IsCollisionFree (named_bytes c.world) → Acts hss_judged r p c next → IsOfBytes c.session → IsOfBytes next.session
acts_bytes apart (asks node question answer next heard t cache fate hears goes) h = fails_bytes goes (hears_bytes hears h)
acts_bytes apart (asks_in_vain node question answer next heard t cache fate hears lacking) h = lacks_bytes lacking h
acts_bytes {p = p} {c = c} apart (turns view reply applied after saving t turned in_view takes replies is_turn) h =
    turn_bytes takes (λ given count e. subst ReplyGives (replies ∙ same_reply reply given applied count e) (turned_gives _ _ _ _ _ _ _ _ turned (is_turn apart))) h
acts_bytes apart (is_refused view end after saving t in_view refusal takes) h = turn_bytes takes (λ given count e. absurd (subst IsRefusal e refusal)) h
acts_bytes apart (settles after t is) h = settles_bytes is h

step_bytes : {r : ℕ} {c next : Configuration} → Invariant (c.world, c.ghost_state) → IsCollisionFree (named_bytes c.world) → Steps hss_judged r c.session.by c next → IsOfBytes c.session → IsOfBytes next.session
step_bytes {c = c} keeps apart (acts p taken cache next is takes act) h =
    acts_bytes (subst (λ (ks : List (List ℕ)). IsCollisionFree (c.world.met ++ ks)) (sym (same_keys c.world keeps.apart c.session.by p is (record p { cache = cache }) refl refl)) apart) act (takes_all_bytes takes h)
step_bytes keeps apart (lacks_memory p taken t cache is takes lacking) h = lacks_bytes lacking (takes_some_bytes takes h)

module _ (r : ℕ) where
  well_then : {name : List ℕ} {c next : Configuration} → GoesWell r c → c.session.by ≡ name → Steps hss_judged r name c next → GoesWell r next × (next.session.by ≡ name)
  well_then {name = name} {c = c} {next = next} well named step =
      let led = step_leads r name c next named well.keeps well.hand well.ringed step in
      (record { keeps = led.leaves.0; hand = led.leaves.1; ringed = led.same.replicas ∙ well.ringed }, led.same.call.0 ∙ named)

  pub steps_bytes : {name : List ℕ} {count : ℕ} {c next : Configuration} → StepsOn hss_judged r name count c next → c.session.by ≡ name → GoesWell r c → IsCollisionFree (named_bytes next.world) → IsOfBytes c.session → IsOfBytes next.session
  steps_bytes steps_none named well apart h = h
  steps_bytes (steps_over said over) named well apart h = h
  steps_bytes {name = name} (steps_more {count} {c} {between} {next} step rest) named well apart h =
      let now = apart_then c.world next.world (steps_names r (steps_more step rest) named well) apart in
      let then_so = well_then well named step in
      steps_bytes rest then_so.1 then_so.0 apart (step_bytes well.keeps now (subst (λ (n : List ℕ). Steps hss_judged r n c between) (sym named) step) h)

  pub runs_bytes : {name : List ℕ} {c next : Configuration} → RunsOut hss_judged r name c next → c.session.by ≡ name → GoesWell r c → IsCollisionFree (named_bytes next.world) → IsOfBytes c.session → IsOfBytes next.session
  runs_bytes (runs_over said over) named well apart h = h
  runs_bytes {name = name} (runs_more {c} {between} {next} step rest) named well apart h =
      let now = apart_then c.world next.world (runs_names r (runs_more step rest) named well) apart in
      let then_so = well_then well named step in
      runs_bytes rest then_so.1 then_so.0 apart (step_bytes well.keeps now (subst (λ (n : List ℕ). Steps hss_judged r n c between) (sym named) step) h)

-- ---- what begins

pub begins_bytes : (w : World) (s : Sending) (t : Session) → BeginsWith w s t → AreBytes s.message → IsOfBytes t
begins_bytes w s _ (begins_alone given by) h = record { message = h; said = (tt, tt) }
begins_bytes w s _ (begins_refreshing xid asked asks_it) h = record { message = h; said = tt }
