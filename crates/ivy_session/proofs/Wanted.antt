-- What a session in code wants next: what was available is taken, and then it asks a node, or its agent's turn.
use Rattle.std.proofs.Common.{◌≡◌, ℕ, true, List, Option, Some, sym, ◌∙◌, subst}
use Rattle.ivy_base.specs.declared.key.Key.{Key}
use Rattle.dht_ids.specs.declared.ask.Ask.{Ask}
use Rattle.dht_ids.specs.declared.judge.Judged.{Judged}
use Rattle.dht_ids.specs.declared.peer.Peer.{Peer}
use Rattle.dhash_client.specs.GetHead.{Judges}
use Rattle.session_model.specs.Executions.{HasRefreshed}
use Rattle.session_model.specs.Refreshing.{Note}
use Rattle.session_model.specs.Sessions.{Cache, Session, TakesAll}
use Rattle.log_fetch.specs.declared.refresh.Refresh.{Refresh}
use Rattle.log_fetch.specs.Standings.{refresh_of}
use Rattle.ivy_session.specs.declared.session.Next.TheVariants as next
use Rattle.ivy_session.specs.States.{HasAsked, IsSession, SessionState, is_turning, session_awaited}
use Rattle.ivy_session.specs.Stepping.{AsksOf, IsBatchOf, IsSameSession, NextIs}
use Rattle.ivy_session.specs.Stepping.NextIs.{asks as next_asks, asks_again, turns as next_turns}
use Rattle.ivy_session.proofs.Staying.{takes_while_asking}

pub then_same : {J : Type 0} (a b c : SessionState J) → IsSameSession a b → IsSameSession b c → IsSameSession a c
then_same a b c first second = (second.0 ∙ first.0, second.1 ∙ first.1, second.2 ∙ first.2)

module _ {J : Type 0} (judges : Judges J) (judged : Key → List ℕ → Option Judged) (r : ℕ) (s : Session) (cache : Cache) where
  -- What was available is taken, and then the session asks that.
  pub record AsksThen (mid : SessionState J) (between : Cache) (node : Peer) (question : Ask) : Type 0 where
    pub taken : Session
    pub takes : TakesAll judged r s cache taken between
    pub session : IsSession judges taken mid
    pub awaited : session_awaited mid ≡ Some (node, question)
    pub asks : AsksOf judged r taken node question

  -- What was available is taken, and the refresh is done.
  pub record TurnsThen (mid : SessionState J) (between : Cache) (refresh : Refresh) : Type 0 where
    pub taken : Session
    pub notes : List Note
    pub takes : TakesAll judged r s cache taken between
    pub session : IsSession judges taken mid
    pub turning : is_turning mid.stage ≡ true
    pub done : HasRefreshed taken notes (refresh_of refresh)
    pub batch : IsBatchOf taken.standing refresh.batch

  -- it goes by that judge, and asks from so many owners
  module _ (old : SessionState J) (judge : judges old.judge ≡ judged) (replicas : old.replicas ≡ r) where
    pub as_ring : (P : (Key → List ℕ → Option Judged) → ℕ → Type 0) → P (judges old.judge) old.replicas → P judged r
    as_ring P h = subst (λ (j : Key → List ℕ → Option Judged). P j r) judge (subst (λ (n : ℕ). P (judges old.judge) n) replicas h)

    pub as_ring_then : (mid : SessionState J) → IsSameSession old mid → (P : (Key → List ℕ → Option Judged) → ℕ → Type 0) → P (judges mid.judge) mid.replicas → P judged r
    as_ring_then mid same P h = as_ring P (subst (λ (j : J). P (judges j) old.replicas) same.0 (subst (λ (n : ℕ). P (judges mid.judge) n) same.1 h))

    pub asks_then : (mid : SessionState J) (between : Cache) (node : Peer) (question : Ask) → HasAsked old s → NextIs judges old mid s cache between (next.Ask node question) → AsksThen mid between node question
    asks_then mid between node question asked (next_asks t _ _ takes session awaited asks) = record {
      taken = t;
      takes = as_ring (λ j n. TakesAll j n s cache t between) takes;
      session = session;
      awaited = awaited;
      asks = as_ring (λ j n. AsksOf j n t node question) asks;
    }
    asks_then mid between node question asked (asks_again _ _ waits awaited session asks same) = record {
      taken = s;
      takes = subst (λ (c : Cache). TakesAll judged r s cache s c) (sym same) (takes_while_asking s cache (asked waits));
      session = session;
      awaited = awaited;
      asks = as_ring (λ j n. AsksOf j n s node question) asks;
    }

    pub turns_then : (mid : SessionState J) (between : Cache) (refresh : Refresh) → NextIs judges old mid s cache between (next.Turn refresh) → TurnsThen mid between refresh
    turns_then mid between refresh (next_turns t notes _ takes session turning done batch) = record {
      taken = t;
      notes = notes;
      takes = as_ring (λ j n. TakesAll j n s cache t between) takes;
      session = session;
      turning = turning;
      done = done;
      batch = batch;
    }
