-- Blocks available are taken, one after the other, until none is that is wanted.
use Rattle.std.proofs.Common.{◌≡◌, ◌≢◌, ℕ, List, [], Option, Some, None, Ok, Err, refl, sym, ap, ◌∙◌, subst}
use Rattle.ivy_base.specs.declared.key.Key.{Key}
use Rattle.ivy_base.specs.declared.memory.Memory.{Memory}
use Rattle.dht_ids.specs.declared.ask.Ask.{Ask}
use Rattle.dht_ids.specs.declared.judge.Judged.{Judged}
use Rattle.dht_ids.specs.declared.peer.Peer.{Peer}
use Rattle.dht_ids.specs.declared.post.Post.{Post}
use Rattle.dhash_client.specs.GetHead.{Judges}
use Rattle.dhash_model.specs.Cache.{block_of, moved_to_front}
use Rattle.session_model.specs.Brought.{BlockOf, Content}
use Rattle.session_model.specs.Sessions.{Cache, Session, Takes, TakesAll, TakesSome, Wants, pending_block, with_part}
use Rattle.session_model.specs.Sessions.Takes.{posted, cached}
use Rattle.session_model.specs.Sessions.TakesAll.{none as all_none, more as all_more}
use Rattle.session_model.specs.Sessions.TakesSome.{none as some_none, more as some_more}
use Rattle.log_fetch.specs.declared.fetch.State.{State as FetchState}
use Rattle.log_fetch.specs.declared.fetch.State.TheVariants as fetch
use Rattle.log_fetch.specs.Fetching.{awaited_in as fetch_awaits, free_block}
use Rattle.view_refresh.specs.declared.refresh.State.{State}
use Rattle.view_refresh.specs.declared.refresh.State.TheVariants as state
use Rattle.view_refresh.specs.States.{Refreshing as RefreshState, IsSameRefresh, awaited_in, refresh_awaited, refresh_wanted, wanted_in}
use Rattle.view_refresh.specs.Steps.{RefreshWasGiven}
use Rattle.ivy_session.specs.States.{IsRefreshingBy}
use Rattle.ivy_session.specs.Taking.{HasCome, HasTaken, IsAway, IsSameCall, TakesHand}
use Rattle.ivy_session.proofs.Refreshes.{has_come, wants_block, wants_so}

some_or_none : {T : Type 0} (x : T) → Some x ≡ None → ⊥
some_or_none x e = cc e

-- where a block is wanted no node is to be heard
fetch_unasked : {J : Type 0} (st : FetchState J) (key : Key) → free_block st ≡ Some key → fetch_awaits st ≡ None
fetch_unasked (fetch.Free g) key e = refl
fetch_unasked (fetch.Asking g x) key e = absurd (some_or_none key (sym e))
fetch_unasked (fetch.Ended fetched) key e = absurd (some_or_none key (sym e))
fetch_unasked fetch.Over key e = absurd (some_or_none key (sym e))

unasked_at : {J : Type 0} (st : State J) (key : Key) → wanted_in st ≡ Some key → awaited_in st ≡ None
unasked_at (state.Loading l) key e = refl
unasked_at (state.Asking l x) key e = absurd (some_or_none key (sym e))
unasked_at (state.Fetching basis f) key e = fetch_unasked f.state key e
unasked_at state.Over key e = absurd (some_or_none key (sym e))

unasked : {J : Type 0} (r : RefreshState J) (key : Key) → refresh_wanted r ≡ Some key → refresh_awaited r ≡ None
unasked r key e = unasked_at r.state key e

-- ---- one block

module _ {J : Type 0} (judges : Judges J) (old new : RefreshState J) (key : Key) (bytes : List ℕ) where
  -- how the session is, after the block
  given_to : (s : Session) → refresh_wanted old ≡ Some key → RefreshWasGiven judges old new bytes → IsRefreshingBy judges s old
      → (s.current ≡ []) × Wants (judges old.judge) old.replicas s (Content key) × IsRefreshingBy judges (with_part s (BlockOf key (Ok bytes)) []) new
  given_to s want given h =
      let g = given.3 s.standing s.parts s.current key want h.after in (
        g.0,
        wants_so s (Content key) (judges old.judge) old.replicas h.stage g.1,
        record { stage = h.stage; entries = given.0.2 ∙ h.entries; unmissed = h.unmissed; after = g.2; unfailed = given.2 },
      )

  pub takes_posted : (cache : Cache) → refresh_wanted old ≡ Some key → pending_block key old.pending ≡ Some bytes → RefreshWasGiven judges old new bytes → HasTaken judges old new cache cache
  takes_posted cache want found given = (
    given.0,
    unasked old key want,
    given.1,
    λ s h. let g = given_to s want given h in (
      with_part s (BlockOf key (Ok bytes)) [],
      posted key bytes g.1 g.0 (subst (λ (p : List Post). pending_block key p ≡ Some bytes) h.after.pending found),
      refl,
      g.2,
    ),
  )

  pub takes_cached : (cache : Cache) → refresh_wanted old ≡ Some key → pending_block key old.pending ≡ None → block_of key cache ≡ Some bytes → RefreshWasGiven judges old new bytes → HasTaken judges old new cache (moved_to_front key cache)
  takes_cached cache want none found given = (
    given.0,
    unasked old key want,
    given.1,
    λ s h. let g = given_to s want given h in (
      with_part s (BlockOf key (Ok bytes)) [],
      cached key bytes g.1 g.0 (subst (λ (p : List Post). pending_block key p ≡ None) h.after.pending none) found,
      refl,
      g.2,
    ),
  )

-- ---- none is available

away_at : (wanted : Option Key) (posts : List Post) (cache : Cache) (key : Key) → IsAway wanted posts cache → wanted ≡ Some key → (pending_block key posts ≡ None) × (block_of key cache ≡ None)
away_at None posts cache key away e = absurd (some_or_none key (sym e))
away_at (Some other) posts cache key away e = subst (λ (k : Key). (pending_block k posts ≡ None) × (block_of k cache ≡ None)) (cc e) away

module _ {J : Type 0} (judges : Judges J) (r : RefreshState J) (judged : Key → List ℕ → Option Judged) (replicas : ℕ) where
  none_available : (s : Session) (cache : Cache) → IsRefreshingBy judges s r → refresh_awaited r ≡ None → IsAway (refresh_wanted r) r.pending cache → {t : Session} {after : Cache} → Takes judged replicas s cache t after → ⊥
  none_available s cache h free away (posted key bytes wants none found) =
      let gone = away_at (refresh_wanted r) r.pending cache key away (wants_block judges s r key judged replicas h free wants) in
      some_or_none bytes (sym found ∙ ap (pending_block key) (sym h.after.pending) ∙ gone.0)
  none_available s cache h free away (cached key bytes wants none unpended found) =
      let gone = away_at (refresh_wanted r) r.pending cache key away (wants_block judges s r key judged replicas h free wants) in
      some_or_none bytes (sym found ∙ gone.1)

-- ---- one after the other

module _ (judged : Key → List ℕ → Option Judged) (replicas : ℕ) where
  some_and_one : {s t u : Session} {before between after : Cache} → TakesSome judged replicas s before t between → Takes judged replicas t between u after → TakesSome judged replicas s before u after
  some_and_one some_none one = some_more one some_none
  some_and_one (some_more first rest) one = some_more first (some_and_one rest one)

  all_of_some : {s t : Session} {before after : Cache} → TakesSome judged replicas s before t after → ((u : Session) (more : Cache) → Takes judged replicas t after u more → ⊥) → TakesAll judged replicas s before t after
  all_of_some some_none nothing = all_none nothing
  all_of_some (some_more first rest) nothing = all_more first (all_of_some rest nothing)

same_call : (s t u : Session) → IsSameCall s t → IsSameCall t u → IsSameCall s u
same_call s t u a b = b ∙ ap (λ (x : Session). record x { parts = u.parts; current = u.current }) a

-- what was taken since the beginning
pub record HasTakenSome {J : Type 0} (judges : Judges J) (old new : RefreshState J) (before after : Cache) : Type 0 where
  pub same : IsSameRefresh old new
  pub asking : refresh_awaited old ≢ None → (new ≡ old) × (after ≡ before)
  pub free : refresh_awaited old ≡ None → refresh_awaited new ≡ None
  pub takes : (s : Session) → refresh_awaited old ≡ None → IsRefreshingBy judges s old
      → (t : Session) × TakesSome (judges old.judge) old.replicas s before t after × IsSameCall s t × IsRefreshingBy judges t new

module _ {J : Type 0} (judges : Judges J) where
  pub none_yet : (old : RefreshState J) (before : Cache) → HasTakenSome judges old old before before
  none_yet old before = record { same = (refl, refl, refl, refl); asking = λ some. (refl, refl); free = λ none. none; takes = λ s free h. (s, some_none, refl, h) }

  pub one_taken : (old mid new : RefreshState J) (before between after : Cache) → HasTakenSome judges old mid before between → HasTaken judges mid new between after → HasTakenSome judges old new before after
  one_taken old mid new before between after h one = record {
    same = (one.0.0 ∙ h.same.0, one.0.1 ∙ h.same.1, one.0.2 ∙ h.same.2, one.0.3 ∙ h.same.3);
    asking = λ some. absurd (some (subst (λ (r : RefreshState J). refresh_awaited r ≡ None) (h.asking some).0 one.1));
    free = λ none. one.2;
    takes = λ s free is.
        let w = h.takes s free is in
        let n = one.3 w.0 w.3 in (
          n.0,
          some_and_one (judges old.judge) old.replicas w.1
              (subst (λ (m : ℕ). Takes (judges old.judge) m w.0 between n.0 after) h.same.1 (subst (λ (j : J). Takes (judges j) mid.replicas w.0 between n.0 after) h.same.0 n.1)),
          same_call s w.0 n.0 w.2 n.2,
          n.3,
        );
  }

  pub all_taken : (old new : RefreshState J) (before after : Cache) → HasTakenSome judges old new before after → IsAway (refresh_wanted new) new.pending after → TakesHand judges old new before after (Ok tt)
  all_taken old new before after h away = (
    h.same,
    h.asking,
    λ s free is.
        let w = h.takes s free is in (
          w.0,
          all_of_some (judges old.judge) old.replicas w.1 (λ u more takes. none_available judges new (judges old.judge) old.replicas w.0 after w.3 (h.free free) away takes),
          w.2,
          w.3,
        ),
  )

  -- running out of memory ends it
  pub some_taken : (old mid new : RefreshState J) (before between after : Cache) (lacks : Memory) → HasTakenSome judges old mid before between → after ≡ between → TakesHand judges old new before after (Err lacks)
  some_taken old mid new before between after lacks h same s is = by (refresh_awaited old) refl
    where
      by : (o : Option (Peer × Ask)) → refresh_awaited old ≡ o → (t : Session) × TakesSome (judges old.judge) old.replicas s before t after × IsSameCall s t × HasCome t
      by None e =
          let w = h.takes s e is in (
            w.0,
            subst (λ (c : Cache). TakesSome (judges old.judge) old.replicas s before w.0 c) (sym same) w.1,
            w.2,
            has_come judges w.0 mid w.3,
          )
      by (Some asked) e =
          let stays = h.asking (λ none. some_or_none asked (sym e ∙ none)) in (
            s,
            subst (λ (c : Cache). TakesSome (judges old.judge) old.replicas s before s c) (sym (same ∙ stays.1)) some_none,
            refl,
            has_come judges s old is,
          )
