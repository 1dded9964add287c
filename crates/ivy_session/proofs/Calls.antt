-- The refresh of a session: what it wants, and what it hears, as steps of the session of the definitions.
use Rattle.std.proofs.Common.{◌≡◌, ⊎_elim, ℕ, true, false, List, [], Option, Some, None, Result, Ok, Err, refl, sym, ap, ◌∙◌, subst}
use Rattle.ivy_base.specs.declared.key.Key.{Key}
use Rattle.ivy_base.specs.declared.memory.Memory.{Memory}
use Rattle.dht_ids.specs.declared.ask.Answer.{Answer}
use Rattle.dht_ids.specs.declared.ask.Ask.{Ask}
use Rattle.dht_ids.specs.declared.ask.Want.TheVariants as want
use Rattle.dht_ids.specs.declared.judge.Judged.{Judged}
use Rattle.dht_ids.specs.declared.peer.Peer.{Peer}
use Rattle.dhash_model.specs.declared.miss.Miss.{Miss}
use Rattle.dhash_client.specs.GetHead.{Judges}
use Rattle.session_model.specs.Refreshing.{Needs}
use Rattle.session_model.specs.Replies.{missed_reply, said_no_memory, said_of}
use Rattle.session_model.specs.Sessions.{Cache, Hears, Refreshing, Session, TakesAll, TakesSome}
use Rattle.session_model.specs.Executions.{ended}
use Rattle.session_model.specs.Executions.Fails.{fails as has_failed, goes_on as still_goes_on}
use Rattle.log_fetch.specs.declared.refresh.Refresh.{Refresh}
use Rattle.log_fetch.specs.Standings.{asked_of, refresh_of}
use Rattle.view_refresh.specs.declared.refresh.Refreshed.{Refreshed}
use Rattle.view_refresh.specs.States.{Refreshing as RefreshState}
use Rattle.view_refresh.specs.Steps.{Brings, HasNoRoute}
use Rattle.ivy_session.specs.declared.served.Call.{Call}
use Rattle.ivy_session.specs.declared.served.Served.{Served}
use Rattle.ivy_session.specs.declared.session.Next.{Next}
use Rattle.ivy_session.specs.declared.session.Next.TheVariants as next
use Rattle.ivy_session.specs.declared.session.Stage.TheVariants as stage
use Rattle.ivy_session.specs.States.{IsCallOf, IsRefreshingBy, IsSession, SessionState}
use Rattle.ivy_session.specs.Stepping.{AsksOf, HeardIs, IsBatchOf, IsHeard, IsNext, NextIs}
use Rattle.ivy_session.specs.Stepping.NextIs.{asks as next_asks, asks_again, turns, lacks_memory as next_lacks, is_unrouted}
use Rattle.ivy_session.specs.Stepping.HeardIs.{hears as heard_so, lacks_memory as heard_lacks}
use Rattle.ivy_session.specs.Taking.{Advances, Available, HasCome, IsSameCall, RefreshHears}
use Rattle.ivy_session.specs.Ending.{ConcludesAs, EndsAs, TellsMiss, lacking, missing}
use Rattle.ivy_session.proofs.Refreshes.{fails_not, has_come, lacks_so}

-- by the same judge, from as many owners
pub by_same : {J : Type 0} (P : J → ℕ → Type 0) (j k : J) (m n : ℕ) → j ≡ k → m ≡ n → P j m → P k n
by_same P j k m n e f h = subst (λ x. P k x) f (subst (λ x. P x m) e h)

ok_or_err : (x : Refresh) (miss : Miss) → Ok x ≡ Err miss → ⊥
ok_or_err x miss e = cc e

same_ok : (a b : Refresh) → let x : Result Refresh Miss = Ok a in let y : Result Refresh Miss = Ok b in x ≡ y → a ≡ b
same_ok a b e = cc e

-- the call is the same session's
pub call_of_same : (s t : Session) (c : Call) → IsSameCall s t → IsCallOf s c → IsCallOf t c
call_of_same s t c same h = subst (λ (x : Session). IsCallOf x c) (sym same) (record { asks = h.asks; caller = h.caller; args = h.args })

module _ {J : Type 0} (judges : Judges J) (st : SessionState J) (c : Call) where
  abbrev At : RefreshState J → SessionState J
  At r = record st { stage = stage.Refreshing c r }

  -- the session of the same call, with this refresh
  goes_to : (s t : Session) (r q : RefreshState J) → IsSession judges s (At r) → IsSameCall s t → q.judge ≡ r.judge → q.replicas ≡ r.replicas → IsRefreshingBy judges t q → IsSession judges t (At q)
  goes_to s t r q is same judge replicas refreshing = record {
    entries = is.entries ∙ sym (ap (λ (x : Session). x.entries) same);
    starts = is.starts ∙ sym (ap (λ (x : Session). x.starts) same);
    at = record { call = call_of_same s t c same is.at.call; refreshing = refreshing; judge = judge ∙ is.at.judge; replicas = replicas ∙ is.at.replicas; unnoted = is.at.unnoted };
  }

  some_of_all : (judged : Key → List ℕ → Option Judged) (n : ℕ) {s t : Session} {b d : Cache} → TakesAll judged n s b t d → TakesSome judged n s b t d
  some_of_all judged n (TakesAll.none nothing) = TakesSome.none
  some_of_all judged n (TakesAll.more one rest) = TakesSome.more one (some_of_all judged n rest)

  -- ---- what is wanted

  module _ (r : RefreshState J) (before after : Cache) where
    pub asks_next : (q : RefreshState J) (node : Peer) (question : Ask) → Advances judges r q before after (Ok (want.Ask node question)) → IsNext judges (At r) (At q) before after (next.Ask node question)
    asks_next q node question a = ((refl, refl, refl), λ s is. by s is (a.2 s is.at.refreshing))
      where
        by : (s : Session) (is : IsSession judges s (At r)) → (t : Session) × Available judges r s t before after × IsSameCall s t × IsRefreshingBy judges t q × AsksOf (judges r.judge) r.replicas t node question
            → NextIs judges (At r) (At q) s before after (next.Ask node question)
        by s is w =
            let asks = by_same (λ (j : J) (n : ℕ). AsksOf (judges j) n w.0 node question) r.judge st.judge r.replicas st.replicas is.at.judge is.at.replicas w.4 in
            let at = goes_to s w.0 r q is w.2 a.0.0 a.0.1 w.3 in
            ⊎_elim (λ all. next_asks w.0 node question (by_same (λ (j : J) (n : ℕ). TakesAll (judges j) n s before w.0 after) r.judge st.judge r.replicas st.replicas is.at.judge is.at.replicas all) at a.1 asks)
            (λ waits. asks_again node question waits.0 a.1 (subst (λ (x : Session). IsSession judges x (At q)) waits.1 at) (subst (λ (x : Session). AsksOf (judges st.judge) st.replicas x node question) waits.1 asks) waits.2)
            w.1

    -- memory runs out
    pub lacks_next : (new : SessionState J) → new.judge ≡ st.judge → new.replicas ≡ st.replicas → new.entries ≡ st.entries → new.notes ≡ st.notes → (q : RefreshState J) (lacks : Memory) → Advances judges r q before after (Err lacks)
        → IsNext judges (At r) new before after (next.Done (lacking c))
    lacks_next new judge replicas entries notes q lacks a = ((judge, replicas, entries), λ s is. by s is (a s is.at.refreshing))
      where
        by : (s : Session) (is : IsSession judges s (At r)) → (t : Session) × TakesSome (judges r.judge) r.replicas s before t after × IsSameCall s t × HasCome t → NextIs judges (At r) new s before after (next.Done (lacking c))
        by s is w =
            let call = call_of_same s w.0 c w.2 is.at.call in
            next_lacks w.0 (ended w.0 (said_no_memory c.xid) [] None) (said_no_memory c.xid)
            (by_same (λ (j : J) (n : ℕ). TakesSome (judges j) n s before w.0 after) r.judge st.judge r.replicas st.replicas is.at.judge is.at.replicas w.1)
            (lacks_so w.0 c.xid (asked_of c.asked) (ap (λ (x : Session). x.stage) w.2 ∙ is.at.refreshing.stage) w.3 call.asks)
            refl (notes ∙ is.at.unnoted)

    -- the refresh is done, or nobody is known to ask
    module _ (q : RefreshState J) (given : Refreshed) (a : Advances judges r q before after (Ok (want.Done given))) where
      turn_by : (s : Session) (is : IsSession judges s (At r)) (t : Session) → TakesAll (judges r.judge) r.replicas s before t after → IsSameCall s t → t.current ≡ [] → (brings : Brings t.standing t.parts given) (refresh : Refresh) → brings.refresh ≡ refresh
          → NextIs judges (At r) (record st { notes = given.notes; stage = stage.Turning c }) s before after (next.Turn refresh)
      turn_by s is t all same free brings refresh one =
          let b = brings.batch in
          let batch : IsBatchOf t.standing brings.refresh.batch = record { floor = b.floor; under = b.under; members = b.members } in
          let stage_is : t.stage ≡ Refreshing = ap (λ (x : Session). x.stage) same ∙ is.at.refreshing.stage in
          subst (λ (x : Refresh). NextIs judges (At r) (record st { notes = given.notes; stage = stage.Turning c }) s before after (next.Turn x)) one
          (turns t brings.notes brings.refresh (by_same (λ (j : J) (n : ℕ). TakesAll (judges j) n s before t after) r.judge st.judge r.replicas st.replicas is.at.judge is.at.replicas all)
          (record {
            entries = is.entries ∙ sym (ap (λ (x : Session). x.entries) same);
            starts = is.starts ∙ sym (ap (λ (x : Session). x.starts) same);
            at = record {
              call = call_of_same s t c same is.at.call;
              notes = brings.notes;
              given = refresh_of brings.refresh;
              refreshed = (stage_is, brings.refreshes);
              noted = brings.noted;
              unmissed = ap (λ (x : Session). x.missed) same ∙ is.at.refreshing.unmissed;
              free = free;
            };
          }) refl (stage_is, brings.refreshes) batch)

      miss_by : (new : SessionState J) (s : Session) (is : IsSession judges s (At r)) (t : Session) → TakesAll (judges r.judge) r.replicas s before t after → IsSameCall s t → HasNoRoute t.entries t.standing t.parts given → (miss : Miss) (told : Served)
          → TellsMiss st new c miss given.notes told → NextIs judges (At r) new s before after (next.Done told)
      miss_by new s is t all same nobody miss told tells =
          let call = call_of_same s t c same is.at.call in
          let taken = by_same (λ (j : J) (n : ℕ). TakesAll (judges j) n s before t after) r.judge st.judge r.replicas st.replicas is.at.judge is.at.replicas all in
          ⊎_elim (λ missed. is_unrouted t told taken (record { none = nobody.none; xid = c.xid; asked = asked_of c.asked; asks = call.asks; miss = miss; is_told = missed.0 }))
          (λ lacks.
          let stage_is : t.stage ≡ Refreshing = ap (λ (x : Session). x.stage) same ∙ is.at.refreshing.stage in
          let come : HasCome t = (Needs nobody.want, nobody.needed) in
          subst (λ (x : Served). NextIs judges (At r) new s before after (next.Done x)) (sym lacks.0)
          (next_lacks t (ended t (said_no_memory c.xid) [] None) (said_no_memory c.xid) (some_of_all (judges st.judge) st.replicas taken) (lacks_so t c.xid (asked_of c.asked) stage_is come call.asks) refl
          (ap (λ (x : SessionState J). x.notes) lacks.1 ∙ is.at.unnoted)))
          tells

      pub concludes : (new : SessionState J) (wanted : Next) → ConcludesAs st new c given wanted → IsNext judges (At r) new before after wanted
      concludes new (next.Turn refresh) w =
          subst (λ (x : SessionState J). IsNext judges (At r) x before after (next.Turn refresh)) (sym w.1) (
            (refl, refl, refl),
            λ s is.
                let n = a s is.at.refreshing in
                ⊎_elim (λ brings. turn_by s is n.0 n.1 n.2 n.3 brings refresh (same_ok brings.refresh refresh (sym brings.result ∙ w.0))) (λ nobody. absurd (ok_or_err refresh nobody.miss (sym w.0 ∙ nobody.missed))) n.4,
          )
      concludes new (next.Done told) w = (
        kept w.2,
        λ s is.
            let n = a s is.at.refreshing in
            ⊎_elim (λ brings. absurd (ok_or_err brings.refresh w.0 (sym brings.result ∙ w.1))) (λ nobody. miss_by new s is n.0 n.1 n.2 nobody w.0 told w.2) n.4,
      )
        where
          kept : TellsMiss st new c w.0 given.notes told → (new.judge ≡ st.judge) × (new.replicas ≡ st.replicas) × (new.entries ≡ st.entries)
          kept tells = ⊎_elim (λ m. (ap (λ (x : SessionState J). x.judge) m.1, ap (λ (x : SessionState J). x.replicas) m.1, ap (λ (x : SessionState J). x.entries) m.1))
              (λ m. (ap (λ (x : SessionState J). x.judge) m.1, ap (λ (x : SessionState J). x.replicas) m.1, ap (λ (x : SessionState J). x.entries) m.1)) tells
      concludes new (next.Ask node question) w = absurd w
      concludes new (next.Settle acks) w = absurd w

  -- ---- what is heard

  module _ (r q : RefreshState J) (before after : Cache) (given : Result Answer Memory) where
    -- memory runs out
    lacks_heard : (s : Session) (node : Peer) (question : Ask) → IsSession judges s (At r) → after ≡ before → HeardIs judges (At r) (record st { stage = stage.Over (lacking c) }) s before after node question given
    lacks_heard s node question is same =
        heard_lacks (ended s (said_no_memory c.xid) [] None) (lacks_so s c.xid (asked_of c.asked) is.at.refreshing.stage (has_come judges s r is.at.refreshing) is.at.call.asks) same
        (record { entries = is.entries; starts = is.starts; at = record { said = Some (said_no_memory c.xid); is_told = refl; stage = refl; noted = is.at.unnoted } })

    pub hears_nothing : (lacks : Memory) → RefreshHears judges r q before after given (Err lacks) → IsHeard judges (At r) (record st { stage = stage.Over (lacking c) }) before after given
    hears_nothing lacks h = ((refl, refl, refl), λ s node question waits is. lacks_heard s node question is h)

    pub hears_on : RefreshHears judges r q before after given (Ok false) → IsHeard judges (At r) (At q) before after given
    hears_on h = (
      (refl, refl, refl),
      λ s node question waits is.
          let n = h.3 s node question waits is.at.refreshing in
          heard_so h.0 n.0 n.0 h.1 (by_same (λ (j : J) (m : ℕ). Hears (judges j) m s before node question h.0 n.0 after) r.judge st.judge r.replicas st.replicas is.at.judge is.at.replicas n.1)
          (still_goes_on (λ notes refresh miss staged refreshes. fails_not judges n.0 q n.3.0 notes refresh miss refreshes)) (goes_to s n.0 r q is n.2 h.2.0 h.2.1 n.3.0) n.3.1,
    )

    -- the state with what is told
    abbrev Over : SessionState J → Served → SessionState J
    Over x told = record x { stage = stage.Over told }

    pub hears_end : (new : SessionState J) (told : Served) → RefreshHears judges r q before after given (Ok true) → EndsAs judges st new c q told → IsHeard judges (At r) (Over new told) before after given
    hears_end new told h ends = ⊎_elim
        (λ lacks. subst (λ (x : Served). IsHeard judges (At r) (Over new x) before after given) (sym lacks.0) (subst (λ (x : SessionState J). IsHeard judges (At r) (Over x (lacking c)) before after given) (sym lacks.1) (
          (refl, refl, refl),
          λ s node question waits is. lacks_heard s node question is (h.3 s node question waits is.at.refreshing).3.1,
        )))
        (λ missed. subst (λ (x : Served). IsHeard judges (At r) (Over new x) before after given) (sym missed.3) (subst (λ (x : SessionState J). IsHeard judges (At r) (Over x (missing c missed.0)) before after given) (sym missed.4) (
          (refl, refl, refl),
          λ s node question waits is.
              let n = h.3 s node question waits is.at.refreshing in
              let t = n.0 in
              let call = call_of_same s t c n.2 is.at.call in
              let why = missed.2 t n.3.0 in
              let stage_is : t.stage ≡ Refreshing = ap (λ (x : Session). x.stage) n.2 ∙ is.at.refreshing.stage in
              heard_so h.0 t (ended t (said_of c.xid (missed_reply (asked_of c.asked) missed.0)) why.notes (Some missed.0)) h.1
              (by_same (λ (j : J) (m : ℕ). Hears (judges j) m s before node question h.0 t after) r.judge st.judge r.replicas st.replicas is.at.judge is.at.replicas n.1)
              (has_failed why.notes why.given missed.0 c.xid (asked_of c.asked) stage_is why.refreshes call.asks)
              (record {
                entries = is.entries ∙ sym (ap (λ (x : Session). x.entries) n.2);
                starts = is.starts ∙ sym (ap (λ (x : Session). x.starts) n.2);
                at = record { said = Some (said_of c.xid (missed_reply (asked_of c.asked) missed.0)); is_told = refl; stage = refl; noted = why.noted_are };
              })
              (λ waits. absurd (waits refl)),
        )))
        ends
