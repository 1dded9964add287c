-- A session on its way stays on its way by whatever is wanted, heard and told.
use Rattle.std.proofs.Common.{◌≡◌, ⊎_elim, ℕ, Bool, true, false, List, [], ◌∷◌, Option, Some, None, Result, Ok, Err, refl, sym, ap, ◌∙◌, subst, Contains}
use Rattle.std.specs.Prelude.{◌≢◌, IfErr, IfOk, IfSome, IsSomeAnd}
use Rattle.std.specs.List.{AllByRecursion}
use Rattle.ivy_base.specs.declared.key.PubKey.{PubKey}
use Rattle.ivy_base.specs.declared.memory.Memory.{Memory}
use Rattle.ivy_base.specs.declared.operation.Moment.{Moment}
use Rattle.log_model.proofs.Lists.{here, there}
use Rattle.log_model.specs.Record.{Record}
use Rattle.log_model.specs.Spelling.{IsMoment}
use Rattle.log_model.specs.Vector.{Stamp}
use Rattle.log_model.specs.View.{View}
use Rattle.log_records.specs.Batches.{Batch, owners_in}
use Rattle.dht_ids.specs.declared.ask.Answer.{Answer}
use Rattle.dht_ids.specs.declared.ask.Ask.{Ask}
use Rattle.dht_ids.specs.declared.peer.Peer.{Peer}
use Rattle.dht_ids.specs.declared.post.Post.{Post}
use Rattle.dhash_client.specs.GetHead.{Judges}
use Rattle.log_model.specs.Signing.{Signing}
use Rattle.log_model.specs.Fetched.{owner_of}
use Rattle.agent_model.specs.Agent.{Agent}
use Rattle.agent_model.specs.Standing.{Standing as ModelStanding, standing_in}
use Rattle.session_model.specs.Executions.{Begins, anew, answered_by_turn, ended, publishing_session}
use Rattle.session_model.specs.Executions.Begins.{alone, refreshes}
use Rattle.session_model.specs.Replies.{said_no_memory, said_of}
use Rattle.session_model.specs.Sessions.{Cache, Over, Refreshing, Said, Session}
use Rattle.log_fetch.specs.declared.asked.Asked.{Asked}
use Rattle.log_fetch.specs.declared.refresh.Refresh.{Refresh}
use Rattle.log_fetch.specs.declared.standing.Standing.{Standing}
use Rattle.log_fetch.specs.declared.turned.Turned.{Turned}
use Rattle.log_fetch.specs.declared.turned.TurnFault.{TurnFault}
use Rattle.log_fetch.specs.declared.turned.TurnFault.TheVariants as fault
use Rattle.log_fetch.specs.Edges.{edge_in}
use Rattle.log_fetch.specs.Standings.{asked_of, refresh_of, standing_of}
use Rattle.ivy_agent.specs.Calls.{Stands}
use Rattle.ivy_agent.specs.Answering.{IsCall}
use Rattle.ivy_agent.specs.Holders.{Holder}
use Rattle.ivy_agent.specs.Turns.{IsFetchedIn, TakesTurn}
use Rattle.ivy_session.specs.declared.session.Next.{Next}
use Rattle.ivy_session.specs.declared.session.Stage.{Stage}
use Rattle.ivy_session.specs.declared.session.Stage.TheVariants as stage
use Rattle.ivy_session.specs.States.{BeginsAs, IsAt, IsSession, SessionState, asked_at, is_told, is_turning, session_awaited}
use Rattle.ivy_session.specs.Stepping.{HeardIs, IsAgainFor, IsBatchOf, IsHeard, IsNext, IsRefused, IsTurned, NextIs, TurnedIs}
use Rattle.ivy_session.specs.Stepping.HeardIs.{hears, lacks_memory as hearing_lacks, is_cut as hearing_is_cut}
use Rattle.ivy_session.specs.Stepping.IsRefused.{begins_again, lacks_memory as refused_lacks, gives_up}
use Rattle.ivy_session.specs.Stepping.NextIs.{asks, asks_again, turns, settles, is_over, lacks_memory, is_cut, is_unrouted}
use Rattle.play_trials.specs.InProgress.{GoesOn, IsInProgress, MayWant}
use Rattle.ivy_agent.proofs.Bounds.{bounds_in}
use Rattle.play_trials.proofs.SameStanding.{failed_same, heard_same, lacking_same, taken_same}

true_or_false : true ≡ false → ⊥
true_or_false e = cc e

over_or_not : (said : Option Said) → Over said ≡ Refreshing → ⊥
over_or_not said e = cc e

same_asked : (a b : Asked) → Some a ≡ Some b → a ≡ b
same_asked a b e = cc e

none_asked : (a : Asked) → None ≡ Some a → ⊥
none_asked a e = cc e

-- what a refresh brought may be given to a turn
all_members : (members : List PubKey) (chains : List (Stamp × List Record)) → ((owner : PubKey) → Contains (owners_in chains) owner → Contains members owner) → AllByRecursion (λ c. Contains members (owner_of c.1)) chains
all_members members [] named = tt
all_members members (c ∷ cs) named = (named (owner_of c.1) (here (owner_of c.1) (owners_in cs)), all_members members cs (λ owner among. named owner (there (owner_of c.1) (owners_in cs) owner among)))

fetched_in : (s : ModelStanding) (b : Batch) → IsBatchOf s b → IsFetchedIn s.view b
fetched_in s b h = record { under = (edge_in s.edges, h.under); members = all_members s.view.members b.chains h.members }

some_view : (view : Option View) (v : View) (b : Batch) → view ≡ Some v → IsFetchedIn v b → IsSomeAnd view (λ w. IsFetchedIn w b)
some_view view v b is fetched = subst (λ (o : Option View). IsSomeAnd o (λ w. IsFetchedIn w b)) (sym is) fetched

-- what a session is given is in the agent's view
shows_view : {S : Type 0} (signs : Signing S) (a : Agent S) (s : Standing) (v : Option View) → IsSomeAnd v (λ w. Unit {0}) → IfSome v (λ w. standing_of s ≡ standing_in signs a w) → v ≡ Some s.view
shows_view signs a s None some is = absurd some
shows_view signs a s (Some w) some is = ap (λ (x : ModelStanding). Some x.view) (sym is)

module _ {K S : Type 0} {signs : Signing S} {comes leaves : Holder K S → Type 0} (viewed : Option View) (s : Standing) (result : Result Standing Memory) where
  pub standing_viewed : result ≡ Ok s → IsSomeAnd viewed (λ v. Unit {0}) → Stands signs comes leaves viewed result → viewed ≡ Some s.view
  standing_viewed is some stands =
      shows_view signs stands.found.agent s viewed some (subst (λ (r : Result Standing Memory). IfOk r (λ t. IfSome viewed (λ view. standing_of t ≡ standing_in signs stands.found.agent view))) is stands.stands)

-- some standing in that view
abbrev standing_in_view : View → ModelStanding
standing_in_view v = record { view = v; own = record { 0 = [] }; floor = []; held = []; edges = []; to_load = None; pending = [] }

module _ {J : Type 0} (judges : Judges J) (pending : List Post) (st : SessionState J) where
  pub published_in_progress : (view : Option View) → IsSomeAnd view (λ v. Unit {0})
      → ((by : List ℕ) (of : ModelStanding) → IsSession judges (publishing_session by st.entries of pending) st) → is_turning st.stage ≡ false → GoesOn judges view st
  published_in_progress None some session no_turn = absurd some
  published_in_progress (Some v) some session no_turn = record {
    in_progress = record { session = publishing_session [] st.entries (standing_in_view v) pending; is = session [] (standing_in_view v); viewed = refl };
    no_turn = no_turn;
  }

module _ {J : Type 0} (judges : Judges J) (view : Option View) where
  -- of another session of the same standing
  abbrev stays : (s t : Session) (st : SessionState J) → view ≡ Some s.standing.view → t.standing ≡ s.standing → IsSession judges t st → IsInProgress judges view st
  stays s t st viewed same is = record { session = t; is = is; viewed = viewed ∙ ap (λ (x : ModelStanding). Some x.view) (sym same) }

  -- ---- beginning

  begins_so : (message : List ℕ) (entries : List Peer) (standing : ModelStanding) (s : Session) → Begins [] message entries standing s → s.standing ≡ standing
  begins_so message entries standing _ (alone given by_message) = refl
  begins_so message entries standing _ (refreshes xid asked is_asked) = refl

  pub begun_in_progress : (message : List ℕ) (standing : ModelStanding) (st : SessionState J) → view ≡ Some standing.view → BeginsAs judges message standing st → is_turning st.stage ≡ false → GoesOn judges view st
  begun_in_progress message standing st viewed begins no_turn =
      let b = begins [] in
      record {
        in_progress = record { session = b.0; is = b.2; viewed = viewed ∙ ap (λ (x : ModelStanding). Some x.view) (sym (begins_so message st.entries standing b.0 b.1)) };
        no_turn = no_turn;
      }

  -- ---- what is wanted

  module _ (s : Session) (st : SessionState J) where
    told_or_not : (at : Stage J) → IsAt judges s st at → is_told at ≡ false
    told_or_not (stage.Refreshing c f) h = refl
    told_or_not (stage.Turning c) h = refl
    told_or_not (stage.Publishing told p) h = refl
    told_or_not (stage.Over told) h = refl
    told_or_not stage.Told h = absurd h

    call_of : (at : Stage J) (asked : Asked) (now : Moment) → is_turning at ≡ true → asked_at at ≡ Some asked → IsMoment now → IsAt judges s st at → IsCall (asked_of asked) now
    call_of (stage.Refreshing c f) asked now turning is moment h = absurd (true_or_false (sym turning))
    call_of (stage.Turning c) asked now turning is moment h =
        subst (λ (a : Asked). IsCall (asked_of a) now) (same_asked c.asked asked is) (record { caller = h.call.caller; args = h.call.args; moment = moment })
    call_of (stage.Publishing told p) asked now turning is moment h = absurd (none_asked asked is)
    call_of (stage.Over told) asked now turning is moment h = absurd (none_asked asked is)
    call_of stage.Told asked now turning is moment h = absurd h

    no_turn_over : (said : Option Said) (at : Stage J) → s.stage ≡ Over said → IsAt judges s st at → is_turning at ≡ false
    no_turn_over said (stage.Refreshing c f) over h = refl
    no_turn_over said (stage.Turning c) over h = absurd (over_or_not said (sym over ∙ h.refreshed.0))
    no_turn_over said (stage.Publishing told p) over h = refl
    no_turn_over said (stage.Over told) over h = refl
    no_turn_over said stage.Told over h = refl

  pub not_told : (st : SessionState J) → IsInProgress judges view st → is_told st.stage ≡ false
  not_told st u = told_or_not u.session st st.stage u.is.at

  module _ (old new : SessionState J) (u : IsInProgress judges view old) where
    wants_so : (before after : Cache) (wanted : Next) → NextIs judges old new u.session before after wanted → MayWant judges view new wanted
    wants_so before after _ (asks t node question takes is waits next) =
        record { in_progress = stays u.session t new u.viewed (taken_same takes) is; waits = λ nobody. cc (sym waits ∙ nobody) }
    wants_so before after _ (asks_again node question waited waits is next same) =
        record { in_progress = stays u.session u.session new u.viewed refl is; waits = λ nobody. cc (sym waits ∙ nobody) }
    wants_so before after _ (turns t notes refresh takes is turning refreshed batch) =
        let there = stays u.session t new u.viewed (taken_same takes) is in
        record {
          in_progress = there;
          waits = turning;
          batch = some_view view t.standing.view refresh.batch there.viewed (fetched_in t.standing refresh.batch batch);
          bounds = bounds_in t notes refresh refreshed;
          is_call = λ asked now is_asked moment. call_of t new new.stage asked now turning is_asked moment is.at;
        }
    wants_so before after _ (settles said acks at free same is) =
        record {
          in_progress = record { session = record u.session { stage = Over said }; is = is; viewed = u.viewed };
          no_turn = no_turn_over (record u.session { stage = Over said }) new said new.stage refl is.at;
        }
    wants_so before after _ (is_over said at same noted) = tt
    wants_so before after _ (lacks_memory t x said takes lacking over noted) = tt
    wants_so before after _ (is_cut said posts acks at cut noted same) = tt
    wants_so before after _ (is_unrouted t told takes unrouted) = tt

    pub next_may_want : (before after : Cache) (wanted : Next) → IsNext judges old new before after wanted → MayWant judges view new wanted
    next_may_want before after wanted is = wants_so before after wanted (is.1 u.session u.is)

    -- ---- what is heard

    hears_so : (before after : Cache) (node : Peer) (question : Ask) (given : Result Answer Memory) → HeardIs judges old new u.session before after node question given → IsInProgress judges view new
    hears_so before after node question given (hears answer heard t is hearing failing session asked) = stays u.session t new u.viewed (failed_same failing ∙ heard_same hearing) session
    hears_so before after node question given (hearing_lacks t lacking same session) = stays u.session t new u.viewed (lacking_same lacking) session
    hears_so before after node question given (hearing_is_cut said posts acks at cut same session) =
        record { session = record u.session { stage = Over said; current = [] }; is = session; viewed = u.viewed }

    pub heard_in_progress : (before after : Cache) (given : Result Answer Memory) → session_awaited old ≢ None → IsHeard judges old new before after given → IsInProgress judges view new
    heard_in_progress before after given waits is = by (session_awaited old) refl
      where
        by : (o : Option (Peer × Ask)) → session_awaited old ≡ o → IsInProgress judges view new
        by None nobody = absurd (waits nobody)
        by (Some asked) at = hears_so before after asked.0 asked.1 given (is.1 u.session asked.0 asked.1 at u.is)

    -- ---- what a turn came to

    module _ {K S : Type 0} (signs : Signing S) (IsWhole : S → Type 0) (saves : K → List ℕ → Bool → K → Type 0) (refresh : Refresh) (asked : Asked) (now : Moment) (before after : Holder K S) where
      abbrev Takes : View → Result Turned TurnFault → Type 0
      Takes v result = TakesTurn signs IsWhole saves v (refresh_of refresh) (asked_of asked) now before result after

      refused_so : (v : View) (standing : Standing) → view ≡ Some v → standing.view ≡ v → IsRefused judges old new u.session (standing_of standing) → IsInProgress judges view new
      refused_so v standing viewed same (begins_again few session) = record { session = anew u.session (standing_of standing); is = session; viewed = viewed ∙ ap (λ (x : View). Some x) (sym same) }
      refused_so v standing viewed same (refused_lacks t few lacking session) =
          record { session = t; is = session; viewed = viewed ∙ ap (λ (x : View). Some x) (sym same) ∙ ap (λ (x : ModelStanding). Some x.view) (sym (lacking_same lacking)) }
      refused_so v standing viewed same (gives_up xid notes given asked_then many refreshed is_asked session) = record { session = ended u.session (said_no_memory xid) notes None; is = session; viewed = u.viewed }

      turned_so : (v : View) (result : Result Turned TurnFault) → view ≡ Some v → Takes v result → TurnedIs judges old new u.session result → IsInProgress judges view new
      turned_so v (Ok turned) viewed takes is =
          let a = is takes.reply takes.gives.bytes in
          ⊎_elim (λ session. record { session = answered_by_turn u.session (said_of a.xid takes.reply) a.notes turned.posts; is = session; viewed = u.viewed })
          (λ cut. record { session = record (answered_by_turn u.session (said_of a.xid takes.reply) a.notes turned.posts) { stage = Over (Some (said_of a.xid takes.reply)) }; is = cut.1; viewed = u.viewed })
          a.publishes
      turned_so v (Err fault.Memory) viewed takes is = stays u.session is.0 new u.viewed (lacking_same is.1) is.2
      turned_so v (Err (fault.Behind standing)) viewed takes is = refused_so v standing viewed (ap (λ (x : ModelStanding). x.view) takes.anew) is
      turned_so v (Err (fault.BelowTide standing)) viewed takes is = refused_so v standing viewed (ap (λ (x : ModelStanding). x.view) takes.anew) is

      anew_so : (v : View) (result : Result Turned TurnFault) → Takes v result → IfErr result IsAgainFor
      anew_so v (Ok turned) takes = tt
      anew_so v (Err fault.Memory) takes = tt
      anew_so v (Err (fault.Behind standing)) takes = ap (λ (x : ModelStanding). x.to_load) takes.anew
      anew_so v (Err (fault.BelowTide standing)) takes = ap (λ (x : ModelStanding). x.to_load) takes.anew

      pub turn_is_again : (result : Result Turned TurnFault) → IfSome view (λ v. Takes v result) → IfErr result IsAgainFor
      turn_is_again result takes = anew_so u.session.standing.view result (subst (λ (o : Option View). IfSome o (λ v. Takes v result)) u.viewed takes)

      pub turned_in_progress : (result : Result Turned TurnFault) → IfSome view (λ v. Takes v result) → IsTurned judges old new result → IsInProgress judges view new
      turned_in_progress result takes is =
          turned_so u.session.standing.view result u.viewed (subst (λ (o : Option View). IfSome o (λ v. Takes v result)) u.viewed takes) (is.1 u.session u.is)
