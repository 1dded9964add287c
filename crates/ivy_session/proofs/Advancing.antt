-- What a session's refresh wants after what is available.
use Rattle.std.proofs.Common.{◌≡◌, ◌≢◌, ◌⊎◌, ⊎_elim, inl, inr, ℕ, Bool, Option, Some, None, List, Result, Ok, Err, IfOk, refl, sym, ◌∙◌, subst}
use Rattle.ivy_base.specs.declared.memory.Memory.{Memory}
use Rattle.dht_ids.specs.declared.ask.Ask.{Ask}
use Rattle.dht_ids.specs.declared.ask.Ask.TheVariants as ask
use Rattle.dht_ids.specs.declared.ask.Want.{Want as Wanted}
use Rattle.dht_ids.specs.declared.ask.Want.TheVariants as want
use Rattle.dht_ids.specs.declared.peer.Peer.{Peer}
use Rattle.dhash_client.specs.GetHead.{Judges}
use Rattle.session_model.specs.Asking.{AsksNext}
use Rattle.session_model.specs.Sessions.{Cache, IsGet, Session, TakesAll, TakesSome, wanted_key}
use Rattle.session_model.specs.Sessions.TakesSome.{none as some_none}
use Rattle.view_refresh.specs.declared.refresh.Refreshed.{Refreshed}
use Rattle.view_refresh.specs.States.{Refreshing as RefreshState, refresh_awaited}
use Rattle.view_refresh.specs.Steps.{AsksFor, Brings, Ends, HasNoRoute, RefreshIsWanted}
use Rattle.ivy_session.specs.States.{IsRefreshingBy}
use Rattle.ivy_session.specs.Stepping.AsksOf.{gets}
use Rattle.ivy_session.specs.Taking.{Advances, Available, IsSameCall, TakesHand}
use Rattle.ivy_session.proofs.Refreshes.{has_come, wants_so}

some_or_none : {T : Type 0} (x : T) → Some x ≡ None → ⊥
some_or_none x e = cc e

module _ {J : Type 0} (judges : Judges J) (old mid new : RefreshState J) (before after : Cache) (hand : TakesHand judges old mid before after (Ok tt)) where
  -- how a session is once what is available was taken
  record Behind (s : Session) : Type 0 where
    pub now : Session
    pub available : Available judges old s now before after
    pub same : IsSameCall s now
    pub refreshing : IsRefreshingBy judges now mid

  behind_by : (s : Session) → IsRefreshingBy judges s old → (o : Option (Peer × Ask)) → refresh_awaited old ≡ o → Behind s
  behind_by s is None e = let w = hand.2 s e is in record { now = w.0; available = inl w.1; same = w.2; refreshing = w.3 }
  behind_by s is (Some x) e =
      let some : refresh_awaited old ≢ None = λ none. some_or_none x (sym e ∙ none) in
      let stays = hand.1 some in
      record { now = s; available = inr (some, refl, stays.1); same = refl; refreshing = subst (IsRefreshingBy judges s) (sym stays.0) is }

  behind : (s : Session) → IsRefreshingBy judges s old → Behind s
  behind s is = behind_by s is (refresh_awaited old) refl

  -- ---- a node is asked

  pub advances_to_ask : (node : Peer) (question : Ask) → RefreshIsWanted judges mid new (want.Ask node question) → Advances judges old new before after (Ok (want.Ask node question))
  advances_to_ask node question w = (
    (w.0.0 ∙ hand.0.0, w.0.1 ∙ hand.0.1, w.0.2 ∙ hand.0.2, w.0.3 ∙ hand.0.3),
    w.1,
    λ s is.
        let b = behind s is in
        let t = b.now in
        let l = w.3 t.standing t.parts t.current b.refreshing.after in (
          t,
          b.available,
          b.same,
          record { stage = b.refreshing.stage; entries = w.0.2 ∙ b.refreshing.entries; unmissed = b.refreshing.unmissed; after = l.0; unfailed = w.2 },
          gets l.1.want (wants_so t l.1.want (judges old.judge) old.replicas b.refreshing.stage l.1.needed) (next_as t b.refreshing.entries l.1),
        ),
  )
    where
      next_as : (t : Session) → mid.entries ≡ t.entries → (a : AsksFor (judges mid.judge) mid.replicas mid.entries t.standing t.parts t.current node question)
          → AsksNext (wanted_key a.want) (ask.Get (wanted_key a.want)) (IsGet (judges old.judge) old.replicas t.entries a.want) t.current node question
      next_as t entries a =
          subst (λ (es : List Peer). AsksNext (wanted_key a.want) (ask.Get (wanted_key a.want)) (IsGet (judges old.judge) old.replicas es a.want) t.current node question) entries
          (subst (λ (n : ℕ). AsksNext (wanted_key a.want) (ask.Get (wanted_key a.want)) (IsGet (judges old.judge) n mid.entries a.want) t.current node question) hand.0.1
          (subst (λ (j : J). AsksNext (wanted_key a.want) (ask.Get (wanted_key a.want)) (IsGet (judges j) mid.replicas mid.entries a.want) t.current node question) hand.0.0 a.next))

  -- ---- nothing more is wanted

  pub advances_to_end : (given : Refreshed) → RefreshIsWanted judges mid new (want.Done given) → Advances judges old new before after (Ok (want.Done given))
  advances_to_end given w s is =
      let b = behind s is in
      let t = b.now in
      let e = w t.standing t.parts t.current b.refreshing.after in
      let how : Brings t.standing t.parts given ⊎ HasNoRoute mid.entries t.standing t.parts given = subst (λ (f : Bool). Ends f mid.entries t.standing t.parts given) b.refreshing.unfailed e.2 in (
        t,
        ⊎_elim (λ all. all) (λ waits. absurd (waits.0 (subst (λ (r : RefreshState J). refresh_awaited r ≡ None) (hand.1 waits.0).0 e.0))) b.available,
        b.same,
        e.1,
        subst (λ (es : List Peer). Brings t.standing t.parts given ⊎ HasNoRoute es t.standing t.parts given) b.refreshing.entries how,
      )

  -- ---- memory runs out

  some_of_all : {s t : Session} {c d : Cache} → TakesAll (judges old.judge) old.replicas s c t d → TakesSome (judges old.judge) old.replicas s c t d
  some_of_all (TakesAll.none nothing) = some_none
  some_of_all (TakesAll.more one rest) = TakesSome.more one (some_of_all rest)

  pub advance_lacks : (lacks : Memory) → Advances judges old new before after (Err lacks)
  advance_lacks lacks s is =
      let b = behind s is in (
        b.now,
        ⊎_elim (λ all. some_of_all all)
            (λ waits. subst (λ (c : Cache). TakesSome (judges old.judge) old.replicas s before b.now c) (sym waits.2) (subst (λ (t : Session). TakesSome (judges old.judge) old.replicas s before t before) (sym waits.1) some_none)) b.available,
        b.same,
        has_come judges b.now mid b.refreshing,
      )

  pub advances : (wanted : Result (Wanted Refreshed) Memory) → IfOk wanted (RefreshIsWanted judges mid new) → Advances judges old new before after wanted
  advances (Ok (want.Ask node question)) w = advances_to_ask node question w
  advances (Ok (want.Done given)) w = advances_to_end given w
  advances (Err lacks) w = advance_lacks lacks
