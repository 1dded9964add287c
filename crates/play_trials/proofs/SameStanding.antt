-- The steps of a session within one refresh leave the standing with which it last began.
use Rattle.std.proofs.Common.{◌≡◌, ℕ, List, Option, refl}
use Rattle.ivy_base.specs.declared.key.Key.{Key}
use Rattle.dht_ids.specs.declared.ask.Answer.{Answer}
use Rattle.dht_ids.specs.declared.ask.Ask.{Ask}
use Rattle.dht_ids.specs.declared.judge.Judged.{Judged}
use Rattle.dht_ids.specs.declared.peer.Peer.{Peer}
use Rattle.session_model.specs.Executions.{Fails, LacksMemory}
use Rattle.session_model.specs.Executions.Fails.{fails, goes_on}
use Rattle.session_model.specs.Executions.LacksMemory.{lacks}
use Rattle.session_model.specs.Sessions.{Cache, Hears, Session, TakesAll}
use Rattle.session_model.specs.Sessions.Hears.{gets_on, got, puts_on, puts}
use Rattle.session_model.specs.Sessions.Takes.{posted, cached}
use Rattle.session_model.specs.Sessions.TakesAll.{none, more}

module _ {judged : Key → List ℕ → Option Judged} {r : ℕ} where
  pub taken_same : {s t : Session} {cache after : Cache} → TakesAll judged r s cache t after → t.standing ≡ s.standing
  taken_same (none nothing) = refl
  taken_same (more (posted key bytes wants free is) rest) = taken_same rest
  taken_same (more (cached key bytes wants free not is) rest) = taken_same rest

  pub heard_same : {s t : Session} {cache after : Cache} {node : Peer} {question : Ask} {given : Answer} → Hears judged r s cache node question given t after → t.standing ≡ s.standing
  heard_same (gets_on want wants next part) = refl
  heard_same (got want brought wants next whole) = refl
  heard_same (puts_on said p posts acks at next part) = refl
  heard_same (puts said p posts acks came at next whole) = refl

pub failed_same : {s t : Session} → Fails s t → t.standing ≡ s.standing
failed_same (fails notes given miss xid asked is refreshes asks) = refl
failed_same (goes_on not) = refl

pub lacking_same : {s t : Session} → LacksMemory s t → t.standing ≡ s.standing
lacking_same (lacks notes shown given end xid asked at refreshed asks rest front) = refl
