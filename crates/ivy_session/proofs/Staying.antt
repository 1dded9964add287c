-- What stays of a session where available blocks are taken, an answer is heard, its refresh fails, or memory runs out.
use Rattle.std.proofs.Common.{◌≡◌, ◌≢◌, ℕ, List, [], Option, refl}
use Rattle.ivy_base.specs.declared.key.Key.{Key}
use Rattle.dht_ids.specs.declared.ask.Answer.{Answer}
use Rattle.dht_ids.specs.declared.ask.Ask.{Ask}
use Rattle.dht_ids.specs.declared.judge.Judged.{Judged}
use Rattle.dht_ids.specs.declared.peer.Peer.{Peer}
use Rattle.session_model.specs.Executions.{Fails, LacksMemory}
use Rattle.session_model.specs.Executions.Fails.{fails, goes_on}
use Rattle.session_model.specs.Executions.LacksMemory.{lacks}
use Rattle.session_model.specs.Sessions.{Cache, Hears, Refreshing, Session, Takes, TakesAll, TakesSome}
use Rattle.session_model.specs.Sessions.Hears.{gets_on, got, puts_on, puts}
use Rattle.session_model.specs.Sessions.Takes.{posted, cached}
use Rattle.session_model.specs.Sessions.TakesAll.{none as takes_none, more as takes_more}
use Rattle.session_model.specs.Sessions.TakesSome.{none as some_none, more as some_more}
use Rattle.ivy_session.specs.Taking.{IsSameCall}

module _ {judged : Key → List ℕ → Option Judged} {r : ℕ} where
  -- where an ask was heard, nothing is taken
  asking_takes : {s t : Session} {cache after : Cache} → s.current ≢ [] → Takes judged r s cache t after → ⊥
  asking_takes busy (posted key bytes wants free is) = busy free
  asking_takes busy (cached key bytes wants free not is) = busy free

  pub takes_while_asking : (s : Session) (cache : Cache) → s.current ≢ [] → TakesAll judged r s cache s cache
  takes_while_asking s cache busy = takes_none (λ t after takes. asking_takes busy takes)

  -- at another stage than that of a refresh nothing is taken
  later_takes : {s t : Session} {cache after : Cache} → (s.stage ≡ Refreshing → ⊥) → Takes judged r s cache t after → ⊥
  later_takes later (posted key bytes wants free is) = later wants.0
  later_takes later (cached key bytes wants free not is) = later wants.0

  pub takes_later : (s : Session) (cache : Cache) → (s.stage ≡ Refreshing → ⊥) → TakesAll judged r s cache s cache
  takes_later s cache later = takes_none (λ t after takes. later_takes later takes)

  pub took_none : {s t : Session} {cache after : Cache} → (s.stage ≡ Refreshing → ⊥) → TakesAll judged r s cache t after → (t ≡ s) × (after ≡ cache)
  took_none later (takes_none nothing) = (refl, refl)
  took_none later (takes_more first rest) = absurd (later_takes later first)

  -- what is taken leaves the call
  pub taken_same : {s t : Session} {cache after : Cache} → TakesAll judged r s cache t after → IsSameCall s t
  taken_same (takes_none nothing) = refl
  taken_same (takes_more (posted key bytes wants free is) rest) = taken_same rest
  taken_same (takes_more (cached key bytes wants free not is) rest) = taken_same rest

  pub some_same : {s t : Session} {cache after : Cache} → TakesSome judged r s cache t after → IsSameCall s t
  some_same some_none = refl
  some_same (some_more (posted key bytes wants free is) rest) = some_same rest
  some_same (some_more (cached key bytes wants free not is) rest) = some_same rest

  pub all_some : {s t : Session} {cache after : Cache} → TakesAll judged r s cache t after → TakesSome judged r s cache t after
  all_some (takes_none nothing) = some_none
  all_some (takes_more first rest) = some_more first (all_some rest)

  -- ---- the standing stays

  pub heard_standing : {s t : Session} {cache after : Cache} {node : Peer} {question : Ask} {given : Answer} → Hears judged r s cache node question given t after → t.standing ≡ s.standing
  heard_standing (gets_on want wants next part) = refl
  heard_standing (got want brought wants next whole) = refl
  heard_standing (puts_on said p posts acks at next part) = refl
  heard_standing (puts said p posts acks came at next whole) = refl

pub failed_standing : {s t : Session} → Fails s t → t.standing ≡ s.standing
failed_standing (fails notes given miss xid asked is refreshes asks) = refl
failed_standing (goes_on not) = refl

pub lacking_standing : {s t : Session} → LacksMemory s t → t.standing ≡ s.standing
lacking_standing (lacks notes shown given end xid asked at refreshed asks rest front) = refl
