-- A step is of one call: whose it is, its message and the nodes that it knows stay.
use Rattle.std.proofs.Common.{◌≡◌, ℕ, Bool, List, Option, Some, refl, sym, ap, ◌∙◌, subst}
use Rattle.ivy_base.specs.declared.key.Key.{Key}
use Rattle.dhash_model.specs.Signed.{hss_judged}
use Rattle.dht_ids.specs.declared.ask.Answer.{Answer}
use Rattle.dht_ids.specs.declared.ask.Ask.{Ask}
use Rattle.dht_ids.specs.declared.judge.Judged.{Judged}
use Rattle.dht_ids.specs.declared.peer.Peer.{Peer}
use Rattle.ivy_base.specs.declared.operation.Moment.{Moment}
use Rattle.log_model.specs.View.{View}
use Rattle.agent_model.specs.Turning.{TurnEnd}
use Rattle.session_model.specs.Executions.{Fails, LacksMemory, Settles}
use Rattle.session_model.specs.Executions.Fails.{fails as refresh_fails, goes_on as refresh_goes}
use Rattle.session_model.specs.Executions.LacksMemory.{lacks}
use Rattle.session_model.specs.Executions.Settles.{settles as settles_all}
use Rattle.session_model.specs.Executions.TakesTurn.{answers, begins_again, gives_up}
use Rattle.session_model.specs.Sessions.{Cache, Hears, Session, TakesAll, TakesSome}
use Rattle.session_model.specs.Sessions.Hears.{gets_on, got, puts_on, puts}
use Rattle.session_model.specs.Sessions.Takes.{posted, cached}
use Rattle.session_model.specs.Sessions.TakesAll.{none as takes_none, more as takes_more}
use Rattle.session_model.specs.Sessions.TakesSome.{none as some_none, more as some_more}
use Rattle.world_model.specs.Agents.{HssAgent, HssKept, TakesHssTurn}
use Rattle.world_model.specs.World.{Participant, participant}
use Rattle.world_model.specs.Steps.{Acts, Configuration, Steps}
use Rattle.world_model.specs.Steps.Acts.{asks as acts_asks, asks_in_vain, turns as acts_turns, is_refused, settles as acts_settles}
use Rattle.world_model.specs.Steps.Steps.{acts, lacks_memory}
use Rattle.session_steps.specs.Laws.{ConfigurationsGoOn, StepsAreOfOneCall}

-- what stays of a call
pub record IsOneCall (s t : Session) : Type 0 where
  pub by : t.by ≡ s.by
  pub message : t.message ≡ s.message
  pub entries : t.entries ≡ s.entries

itself : (s : Session) → IsOneCall s s
itself s = record { by = refl; message = refl; entries = refl }

behind : {s mid t : Session} → IsOneCall s mid → IsOneCall mid t → IsOneCall s t
behind a b = record { by = b.by ∙ a.by; message = b.message ∙ a.message; entries = b.entries ∙ a.entries }

module _ {judged : Key → List ℕ → Option Judged} {r : ℕ} where
  all_taken : {s t : Session} {cache after : Cache} → TakesAll judged r s cache t after → IsOneCall s t
  all_taken (takes_none {s = s} none) = itself s
  all_taken (takes_more (posted key bytes wants free is) rest) = let o = all_taken rest in record { by = o.by; message = o.message; entries = o.entries }
  all_taken (takes_more (cached key bytes wants free not is) rest) = let o = all_taken rest in record { by = o.by; message = o.message; entries = o.entries }

  some_taken : {s t : Session} {cache after : Cache} → TakesSome judged r s cache t after → IsOneCall s t
  some_taken (some_none {s = s}) = itself s
  some_taken (some_more (posted key bytes wants free is) rest) = let o = some_taken rest in record { by = o.by; message = o.message; entries = o.entries }
  some_taken (some_more (cached key bytes wants free not is) rest) = let o = some_taken rest in record { by = o.by; message = o.message; entries = o.entries }

  heard_same : {s t : Session} {cache after : Cache} {node : Peer} {question : Ask} {given : Answer} → Hears judged r s cache node question given t after → IsOneCall s t
  heard_same (gets_on want wants next part) = record { by = refl; message = refl; entries = refl }
  heard_same (got want brought wants next whole) = record { by = refl; message = refl; entries = refl }
  heard_same (puts_on said p posts acks at next part) = record { by = refl; message = refl; entries = refl }
  heard_same (puts said p posts acks came at next whole) = record { by = refl; message = refl; entries = refl }

failed_same : {s t : Session} → Fails s t → IsOneCall s t
failed_same (refresh_fails notes given miss xid asked is refreshes asks) = record { by = refl; message = refl; entries = refl }
failed_same {s = s} (refresh_goes not) = itself s

lacking_same : {s t : Session} → LacksMemory s t → IsOneCall s t
lacking_same (lacks notes shown given end xid asked at refreshed asks rest front) = record { by = refl; message = refl; entries = refl }

turned_same : {now : Moment} {a : HssAgent} {view : View} {fails : Bool} {s t : Session} {end : TurnEnd} {after : HssAgent} {saving : Option HssKept} → TakesHssTurn (record { agent = a; view = view; now = now; fails = fails }) s end after saving t → IsOneCall s t
turned_same (answers notes given xid asked reply applied after saving done asks turns) = record { by = refl; message = refl; entries = refl }
turned_same (begins_again notes given xid asked end after saving done asks turns refused few) = record { by = refl; message = refl; entries = refl }
turned_same (gives_up notes given xid asked end after saving done asks turns refused many) = record { by = refl; message = refl; entries = refl }

settled_same : {a after : HssAgent} {s t : Session} → Settles a s after t → IsOneCall s t
settled_same (settles_all said acks at) = record { by = refl; message = refl; entries = refl }

acted_same : {r : ℕ} {p : Participant} {c next : Configuration} → Acts hss_judged r p c next → IsOneCall c.session next.session × (next.began.number ≡ c.began.number)
acted_same (acts_asks node question answer next heard t cache fate hears goes) = (behind (heard_same hears) (failed_same goes), refl)
acted_same (asks_in_vain node question answer next heard t cache fate hears lacking) = (lacking_same lacking, refl)
acted_same (acts_turns view reply applied after saving t turned in_view takes replies is_turn) = (turned_same takes, refl)
acted_same (is_refused view end after saving t in_view refusal takes) = (turned_same takes, refl)
acted_same (acts_settles after t settling) = (settled_same settling, refl)

pub one_call_so : {r : ℕ} {name : List ℕ} {c next : Configuration} → Steps hss_judged r name c next → IsOneCall c.session next.session × (next.began.number ≡ c.began.number)
one_call_so (acts p taken cache next is takes act) = let a = acted_same act in (behind (all_taken takes) a.0, a.1)
one_call_so (lacks_memory p taken t cache is takes lacking) = (behind (some_taken takes) (lacking_same lacking), refl)

pub steps_are_of_one_call : StepsAreOfOneCall
steps_are_of_one_call r name c next steps = let o = one_call_so steps in (o.0.by, o.0.message, o.0.entries, o.1)

pub configurations_go_on : {J : Type 0} → ConfigurationsGoOn J
configurations_go_on judges c next r p q old new is same steps found session =
    let o = one_call_so steps in
    record {
      is_by = subst (λ (name : List ℕ). participant next.world name ≡ Some q) (sym o.0.by) found;
      some_entry = λ none. is.some_entry (sym o.0.entries ∙ none);
      session = session;
      judge = ap judges same.0 ∙ is.judge;
      replicas = same.1 ∙ is.replicas;
    }
