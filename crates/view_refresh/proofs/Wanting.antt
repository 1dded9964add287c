-- What a refresh wants next.
use Rattle.std.proofs.Common.{◌≡◌, ◌⊎◌, ⊎_elim, inl, inr, ℕ, ◌≤◌, Bool, true, false, List, [], ◌∷◌, ◌++◌, map, Option, Some, None, Result, Ok, Err, refl, sym, ap, ◌∙◌, subst, arith}
use Rattle.std.specs.Option.{option_map}
use Rattle.log_model.specs.Vector.{Vector}
use Rattle.dht_ids.specs.declared.ask.Ask.{Ask}
use Rattle.dht_ids.specs.declared.ask.Heard.{Heard}
use Rattle.dht_ids.specs.declared.ask.Want.{Want as Next}
use Rattle.dht_ids.specs.declared.ask.Want.TheVariants as next
use Rattle.dht_ids.specs.declared.peer.Peer.{Peer}
use Rattle.dhash_model.specs.declared.miss.Miss.{Miss}
use Rattle.dhash_client.specs.GetHead.{Judges}
use Rattle.turn_model.specs.Basis.{Basis}
use Rattle.fs_tree.specs.Bases.{basis_of}
use Rattle.fs_tree.specs.declared.basis.Basis.{Basis as Kept}
use Rattle.log_records.specs.Batches.{Batch}
use Rattle.agent_model.specs.Standing.{Chain, Standing, chain_of}
use Rattle.session_model.specs.Brought.{Brought, Part, WantedOfRing, Content, brought_in}
use Rattle.session_model.specs.Refreshing.{Done, FailsBy, Needs, RefreshEnd, Refreshes, counting, start_of}
use Rattle.session_model.specs.Sessions.{Gets}
use Rattle.snapshot_loading.specs.Loading.{load_left}
use Rattle.log_fetch.specs.declared.fetch.Fetched.{Fetched}
use Rattle.log_fetch.specs.declared.get.Came.{Came}
use Rattle.log_fetch.specs.declared.get.Progress.TheVariants as progress
use Rattle.log_fetch.specs.declared.get.Waiting.{Waiting}
use Rattle.log_fetch.specs.Fetching.{AreAll, EndsAs, Fetching, FetchIsWanted, fetch_awaited, fetch_left, is_failed, most_left}
use Rattle.log_fetch.specs.Gets.{GetIsAfter, gets_left}
use Rattle.view_refresh.specs.declared.refresh.Loading.{Loading}
use Rattle.view_refresh.specs.declared.refresh.Refreshed.{Refreshed}
use Rattle.view_refresh.specs.declared.refresh.State.{State}
use Rattle.view_refresh.specs.declared.refresh.State.TheVariants as state
use Rattle.view_refresh.specs.States.{IsForLoad, IsSound, IsInProgress, Refreshing, left_in}
use Rattle.view_refresh.specs.Behind.{IsFetchingOver, RefreshIsAfter}
use Rattle.view_refresh.specs.Steps.{AsksFor, Brings, Ends, Fails, HasNoRoute}
use Rattle.view_refresh.specs.Parts.{BeginsGet, GivesMiss, WantsNext, in_state, refreshed_over, result_over}
use Rattle.view_refresh.proofs.Asking.{fetch_asks_next, load_asks_next, next_as}
use Rattle.view_refresh.proofs.Bringing.{not_done}
use Rattle.view_refresh.proofs.Falling.{begins, some_to_load}
use Rattle.view_refresh.proofs.Fetches.{ComesTo, awaits_on, end_in, failed_is_free, fails_by, in_not_fails, one_end, stands, there_is_aim, waits_or_done}
use Rattle.view_refresh.proofs.Nobody.{get_asks_somebody, gets_nobody}
use Rattle.view_refresh.proofs.Standing.{fetch_stands, given_over, load_stands, refreshes_so}

true_or_false : true ≡ false → ⊥
true_or_false e = cc e

no_more : (n : ℕ) → n ≤ n
no_more n = omega arith

at_least : (n : ℕ) → 0 ≤ n
at_least n = omega arith

needs_or_fails : (want : WantedOfRing) (miss : Miss) → Needs want ≡ FailsBy miss → ⊥
needs_or_fails want miss e = cc e

done_or_fails : (miss : Miss) → Done ≡ FailsBy miss → ⊥
done_or_fails miss e = cc e

module _ {J : Type 0} (judges : Judges J) (r : Refreshing J) where
  -- what is asked so
  pub wants_as : (old : State J) (given so : State J × Next Refreshed) → given ≡ so → WantsNext judges r old so → WantsNext judges r old given
  wants_as old given so is wants = subst (WantsNext judges r old) (sym is) wants

  -- ---- a block of the snapshot

  module _ (l : Loading) (s : Standing) (parts : List Part) where
    -- the ask of its get
    load_asks : (x : Waiting J) (current : List Heard) → IsForLoad r.replicas r.entries l x → RefreshIsAfter judges s parts current (in_state r (state.Asking l x)) → AsksFor (judges r.judge) r.replicas r.entries s parts current x.node x.question
    load_asks x current sound h = record {
      want = Content sound.wants.key;
      needed = load_stands s parts l h.at.0 sound.wants sound.wants.key sound.wants.wanted;
      next = load_asks_next judges (judges r.judge) r.replicas r.entries sound.wants.key x.get current x.node x.question sound.is_get h.at.1 sound.kept;
    }

    load_first : (x : Waiting J) (current : List Heard) → IsForLoad r.replicas r.entries l x → GetIsAfter judges r.entries [] x.get → RefreshIsAfter judges s parts current (in_state r (state.Loading l))
        → RefreshIsAfter judges s parts current (in_state r (state.Asking l x))
    load_first x current sound begun h = record {
      pending = h.pending;
      at = (h.at.0, subst (λ (asks : List Heard). GetIsAfter judges r.entries asks x.get) (sym h.at.1) begun);
      sound = sound;
    }

  -- again, where it wasn't heard
  pub wants_again : (l : Loading) (x : Waiting J) → IsForLoad r.replicas r.entries l x → WantsNext judges r (state.Asking l x) (state.Asking l x, next.Ask x.node x.question)
  wants_again l x sound = (
    ((refl, refl, refl, refl), sound.kept, refl, λ s parts current h. (h, load_asks l s parts x current sound h)),
    (sound, λ loads. refl),
    no_more (left_in (state.Asking l x)),
  )

  -- the first of one that begins
  module _ (l : Loading) (wants : IsInProgress l) where
    pub wants_first : (x : Waiting J) → BeginsGet judges r.replicas r.entries wants.key (progress.Waits x) → WantsNext judges r (state.Loading l) (state.Asking l x, next.Ask x.node x.question)
    wants_first x begun =
        let sound : IsForLoad r.replicas r.entries l x = record { wants = wants; is_get = begun.0; kept = begun.2 } in (
          (
            (refl, refl, refl, refl),
            begun.2,
            refl,
            λ s parts current h. let after = load_first l s parts x current sound begun.1 h in (after, load_asks l s parts x current sound after),
          ),
          (sound, λ loads. refl),
          begins most_left (gets_left x.get) (load_left l.load) (some_to_load l.load wants.key wants.wanted) begun.3,
        )

    -- or nobody is known
    pub wants_nothing : (came : Came) → BeginsGet judges r.replicas r.entries wants.key (progress.Comes came) → (given : Refreshed) → GivesMiss given → WantsNext judges r (state.Loading l) (state.Over, next.Done given)
    wants_nothing came begun given miss = (
      λ s parts current h. (
        refl,
        h.at.1,
        inr (record { none = begun.1; want = Content wants.key; needed = load_stands s parts l h.at.0 wants wants.key wants.wanted; miss = miss.0; missed = miss.1 }),
      ),
      (tt, λ loads. absurd (true_or_false (sym loads))),
      at_least (left_in {J = J} (state.Loading l)),
    )

  -- ---- the logs

  module _ (basis : Option Kept) (old new : Fetching J) (sound : IsSound r.judge r.replicas r.entries (state.Fetching basis old)) where
    -- it is of the same refresh
    pub still_sound : (new.judge ≡ old.judge) × (new.replicas ≡ old.replicas) × (new.entries ≡ old.entries) → IsSound r.judge r.replicas r.entries (state.Fetching basis new)
    still_sound same = (same.0 ∙ sound.0, same.1 ∙ sound.1, same.2 ∙ sound.2)

    module _ (node : Peer) (question : Ask) (wanted : FetchIsWanted judges old new (next.Ask node question)) where
      asks_so : (s : Standing) (parts : List Part) (current : List Heard) → RefreshIsAfter judges s parts current (in_state r (state.Fetching basis old))
          → RefreshIsAfter judges s parts current (in_state r (state.Fetching basis new)) × AsksFor (judges r.judge) r.replicas r.entries s parts current node question
      asks_so s parts current h =
          let at : IsFetchingOver judges s parts current basis old = h.at in
          let start = start_of s (counting s.floor at.whole) in
          let leads = wanted.2 s start at.fetched current at.fetch in
          let still = still_sound wanted.0 in (
            record {
              pending = h.pending;
              at = record { loaded = at.loaded; fetched = at.fetched; parts_are = at.parts_are; whole = at.whole; loads = at.loads; counts = at.counts; fetch = leads.0 };
              sound = still;
            },
            record {
              want = leads.1;
              needed = fetch_stands judges s parts current basis old at (Needs leads.1) leads.3;
              next = next_as judges leads.1 current node question still.0 still.1 still.2 (fetch_asks_next judges s start new current node question leads.1 leads.0 wanted.1 leads.2);
            },
          )

      pub wants_ask : fetch_left new ≤ fetch_left old → WantsNext judges r (state.Fetching basis old) (state.Fetching basis new, next.Ask node question)
      wants_ask less = (
        ((refl, refl, refl, refl), wanted.1, awaits_on new.state (node, question) wanted.1, asks_so),
        (still_sound wanted.0, λ loads. loads),
        less,
      )

    -- ---- its end

    module _ (fetched : Fetched) (wanted : FetchIsWanted judges old new (next.Done fetched)) (given : Refreshed) (is_given : given ≡ refreshed_over basis fetched) where
      result_is : (result : Result Batch Miss) → fetched.result ≡ result → given.result ≡ result_over basis result
      result_is result e = ap (λ (g : Refreshed). g.result) is_given ∙ ap (result_over basis) e

      notes_are : given.notes ≡ fetched.notes
      notes_are = ap (λ (g : Refreshed). g.notes) is_given

      module _ (s : Standing) (parts : List Part) (current : List Heard) (h : RefreshIsAfter judges s parts current (in_state r (state.Fetching basis old))) where
        abbrev over : IsFetchingOver judges s parts current basis old
        over = h.at

        abbrev start : Vector
        start = start_of s (counting s.floor over.whole)

        abbrev So : List Brought → RefreshEnd → Type 0
        So brought end = EndsAs s start brought fetched end

        brings_so : So (brought_in over.fetched) Done → Brings s parts given
        brings_so e =
            let batch = e.3.0 in
            let chains : e.1 ≡ map chain_of batch.chains = sym e.3.4 in
            let refreshes = refreshes_so judges s parts current basis old over e.2 in
            record {
              notes = e.0;
              refresh = record { batch = batch; basis = basis };
              refreshes =
                  subst (λ (v : Vector). Refreshes s (brought_in parts) e.0 (record { started = v; chains = map chain_of batch.chains; basis = option_map basis_of basis }) Done) (sym e.3.2)
                  (subst (λ (o : Option Basis). Refreshes s (brought_in parts) e.0 (record { started = start; chains = map chain_of batch.chains; basis = o }) Done) (sym over.counts)
                  (subst (λ (cs : List Chain). Refreshes s (brought_in parts) e.0 (record { started = start; chains = cs; basis = counting s.floor over.whole }) Done) chains refreshes));
              result = result_is (Ok batch) e.3.1;
              noted = notes_are ∙ e.3.7;
              batch = record { floor = e.3.3; under = e.3.5; members = e.3.6 };
            }

        abbrev needed_by : WantedOfRing → Type 0
        needed_by want = ComesTo s start (brought_in over.fetched) (Needs want)

        -- ---- it hasn't failed

        module _ (un : is_failed old ≡ false) where
          end_here : ComesTo s start (brought_in over.fetched) (end_in old.state)
          end_here = stands judges s start old over.fetch un

          of_parts : (end : RefreshEnd) → So (brought_in over.fetched) end → Brings s parts given × (end_in old.state ≡ Done)
          of_parts (Needs want) e = absurd e.3
          of_parts (FailsBy miss) e = absurd (in_not_fails old.state miss (one_end s start (brought_in over.fetched) (end_in old.state) (FailsBy miss) end_here (e.0, e.1, e.2)))
          of_parts Done e = (brings_so e, one_end s start (brought_in over.fetched) (end_in old.state) Done end_here (e.0, e.1, e.2))

          -- with a part that nobody brings
          with_nobody : (want : WantedOfRing) (part : Part) → needed_by want → Gets (judges old.judge) old.replicas [] want [] part.brought → old.entries ≡ [] → (end : RefreshEnd) → So (brought_in (over.fetched ++ part ∷ [])) end → HasNoRoute r.entries s parts given
          with_nobody want part needed got none (Needs more) e = absurd e.3
          with_nobody want part needed got none (FailsBy miss) e = record {
            none = sym sound.2 ∙ none;
            want = want;
            needed = fetch_stands judges s parts current basis old over (Needs want) needed;
            miss = miss;
            missed = result_is (Err miss) e.3.0;
          }
          with_nobody want part needed got none Done e = absurd (not_done over.fetched part (gets_nobody (judges old.judge) old.replicas got).1 e.2)

          abbrev Ended : Type 0
          Ended = (Brings s parts given × (end_in old.state ≡ Done)) ⊎ (HasNoRoute r.entries s parts given × (old.entries ≡ []))

          ended : (all : List Part) (end : RefreshEnd) → AreAll (judges old.judge) old.replicas old.entries s start over.fetched all → So (brought_in all) end → Ended
          ended all end are e =
              ⊎_elim (λ same. inl (of_parts end (subst (λ (l : List Part). So (brought_in l) end) same e)))
              (λ n.
              let part : Part = record { brought = n.3; asks = [] } in
              let got = subst (λ (es : List Peer). Gets (judges old.judge) old.replicas es n.1 [] n.3) n.0 n.4 in
              inr (with_nobody n.1 part n.2 got n.0 end (subst (λ (l : List Part). So (brought_in l) end) n.5 e), n.0))
              are

          nothing_waits : Ended → (x : Peer × Ask) → fetch_awaited old ≡ Some x → ⊥
          nothing_waits e x waits =
              ⊎_elim (λ brings. waits_or_done old.judge old.replicas old.state x over.fetch.sound waits brings.1)
              (λ nobody.
              let aims = there_is_aim old.state x waits in
              get_asks_somebody (judges old.judge) old.replicas aims.0 old.entries current x.0 x.1 (fetch_asks_next judges s start old current x.0 x.1 aims.0 over.fetch waits aims.1) nobody.1)
              e

          free_at : (o : Option (Peer × Ask)) → fetch_awaited old ≡ o → Ended → o ≡ None
          free_at None waits e = refl
          free_at (Some x) waits e = absurd (nothing_waits e x waits)

          how : Ended → Ends false r.entries s parts given
          how e = ⊎_elim (λ brings. inl brings.0) (λ nobody. inr nobody.0) e

        -- ---- it has failed

        module _ (failed : is_failed old ≡ true) where
          fails_here : (miss : Miss) × ComesTo s start (brought_in over.fetched) (FailsBy miss)
          fails_here = fails_by judges s start old over.fetch failed

          fails_so : (end : RefreshEnd) → So (brought_in over.fetched) end → Fails s parts given
          fails_so (Needs want) e = absurd e.3
          fails_so (FailsBy miss) e = record {
            miss = miss;
            notes = e.0;
            refresh = given_over s over.whole e.1;
            refreshes = refreshes_so judges s parts current basis old over e.2;
            result = result_is (Err miss) e.3.0;
            noted = notes_are ∙ e.3.1;
          }
          fails_so Done e = absurd (done_or_fails fails_here.0 (one_end s start (brought_in over.fetched) Done (FailsBy fails_here.0) (e.0, e.1, e.2) fails_here.1))

          all_fail : (all : List Part) (end : RefreshEnd) → AreAll (judges old.judge) old.replicas old.entries s start over.fetched all → So (brought_in all) end → Fails s parts given
          all_fail all end are e =
              ⊎_elim (λ same. fails_so end (subst (λ (l : List Part). So (brought_in l) end) same e))
              (λ n. absurd (needs_or_fails n.1 fails_here.0 (one_end s start (brought_in over.fetched) (Needs n.1) (FailsBy fails_here.0) n.2 fails_here.1))) are

        by : (failed : Bool) → is_failed old ≡ failed → (fetch_awaited old ≡ None) × (current ≡ []) × Ends failed r.entries s parts given
        by false un =
            let e = wanted s start over.fetched current over.fetch in
            let ends = ended un e.1 e.4 e.2 e.5 in
            (free_at un (fetch_awaited old) refl ends, e.0, how un ends)
        by true failed =
            let e = wanted s start over.fetched current over.fetch in
            (failed_is_free old.state failed, e.0, all_fail failed e.1 e.4 e.2 e.5)

      pub wants_end : WantsNext judges r (state.Fetching basis old) (state.Over, next.Done given)
      wants_end = (
        λ s parts current h. by s parts current h (is_failed old) refl,
        (tt, λ loads. absurd (true_or_false (sym loads))),
        at_least (fetch_left old),
      )
