-- A refresh hears an answer.
use Rattle.std.proofs.Common.{◌≡◌, ◌⊎◌, ⊎_elim, inl, inr, ℕ, ◌-◌, ◌*◌, ◌<◌, List, [], ◌∷◌, ◌++◌, Option, Some, None, Result, Ok, Err, IfOk, refl, sym, ap, ◌∙◌, subst}
use Rattle.ivy_base.specs.declared.key.Key.{Key}
use Rattle.ivy_base.specs.Naming.{name}
use Rattle.dht_ids.specs.Asked.{told}
use Rattle.dht_ids.specs.declared.ask.Answer.{Answer}
use Rattle.dht_ids.specs.declared.ask.Ask.{Ask}
use Rattle.dht_ids.specs.declared.ask.Heard.{Heard}
use Rattle.dht_ids.specs.declared.judge.Judged.{Judged}
use Rattle.dht_ids.specs.declared.peer.Peer.{Peer}
use Rattle.dhash_model.specs.declared.miss.Miss.{Miss}
use Rattle.dhash_client.specs.GetHead.{Judges}
use Rattle.fs_tree.specs.declared.basis.Basis.{Basis as Kept}
use Rattle.agent_model.specs.Standing.{Standing}
use Rattle.session_model.specs.Brought.{BlockOf, Content, Part, WantedOfRing}
use Rattle.session_model.specs.Refreshing.{Needs, counting, start_of}
use Rattle.session_model.specs.Sessions.{Gets}
use Rattle.snapshot_loading.specs.Loading.{load_left, wanted_of}
use Rattle.log_fetch.specs.declared.get.Came.TheVariants as came
use Rattle.log_fetch.specs.declared.get.Get.{Get}
use Rattle.log_fetch.specs.declared.get.Get.TheVariants as get
use Rattle.log_fetch.specs.declared.get.Progress.TheVariants as progress
use Rattle.log_fetch.specs.declared.get.Waiting.{Waiting}
use Rattle.log_fetch.specs.Fetching.{Fetching, FetchHasHeard, GetGoesOn, GetIsOver, fetch_awaited, fetch_left, most_asks, most_left}
use Rattle.log_fetch.specs.Gets.{GetHasHeard, GetIsAfter, HasCame, HearsTo, IsKept, gets_left, get_awaited}
use Rattle.session_laws.proofs.AskedGets.{get_next_is_not_whole}
use Rattle.view_refresh.specs.declared.refresh.Loading.{Loading}
use Rattle.view_refresh.specs.declared.refresh.State.{State}
use Rattle.view_refresh.specs.declared.refresh.State.TheVariants as state
use Rattle.view_refresh.specs.States.{IsForLoad, IsGetOf, IsSound, Refreshing, left_in}
use Rattle.view_refresh.specs.Behind.{IsFetchingOver, RefreshIsAfter}
use Rattle.view_refresh.specs.Steps.{AsksFor, GoesOn, IsOver}
use Rattle.view_refresh.specs.Parts.{FetchHearsNext, HearsNext, LoadTakesNext, in_state}
use Rattle.view_refresh.proofs.Asking.{fetch_asks_next, load_asks_next, next_as}
use Rattle.view_refresh.proofs.Bringing.{right_name}
use Rattle.view_refresh.proofs.Falling.{goes_on, is_over}
use Rattle.view_refresh.proofs.Fetches.{there_is, waiting_goes_on}
use Rattle.view_refresh.proofs.Standing.{fetch_stands, load_stands, one_more}

some_or_none : {T : Type 0} (x : T) → Some x ≡ None → ⊥
some_or_none x e = cc e

same_some : {T : Type 0} (x y : T) → Some x ≡ Some y → x ≡ y
same_some x y e = cc e

-- ---- a get of a block

module _ {J : Type 0} (judges : Judges J) (replicas : ℕ) (entries : List Peer) (key : Key) where
  -- it goes on as one
  pub still_of : (x y : Get J) (node : Peer) (question : Ask) (answer : Answer) → IsGetOf replicas entries key x → get_awaited x ≡ Some (node, question) → GetHasHeard judges x y answer → IsGetOf replicas entries key y
  still_of (get.Heads owner s) y node question answer of waits heard = absurd of
  still_of (get.Block s) (get.Heads owner t) node question answer of waits heard = absurd heard.0
  still_of (get.Block s) (get.Block t) node question answer of waits heard =
      (heard.0.0 ∙ of.0, heard.0.1 ∙ of.1, of.2 ++ told node question answer, heard.1 entries of.2 node question waits of.3)

  -- it brings that block
  pub block_came : (judged : Key → List ℕ → Option Judged) (x : Get J) (given : Result (List ℕ) Miss) (asks : List Heard) → IsGetOf replicas entries key x → HasCame judges entries asks x (came.Block given) → Gets judged replicas entries (Content key) asks (BlockOf key given)
  block_came judged (get.Heads owner s) given asks of h = absurd of
  block_came judged (get.Block s) given asks of h =
      subst (λ (k : Key). Gets judged replicas entries (Content k) asks (BlockOf k given)) of.0 (subst (λ (n : ℕ). Gets judged n entries (Content s.execution.look.key) asks (BlockOf s.execution.look.key given)) of.1 (h judged))

  -- and no heads
  pub no_heads_come : (x : Get J) (answer : Answer) (given : Result (List Judged) Miss) → IsGetOf replicas entries key x → HearsTo judges x answer (progress.Comes (came.Heads given)) → ⊥
  no_heads_come (get.Heads owner s) answer given of hears = of
  no_heads_come (get.Block s) answer given of hears = hears.0

  -- with its name
  module _ (x : Waiting J) (answer : Answer) (of : IsGetOf replicas entries key x.get) (kept : IsKept x) where
    trail_of : (g : Get J) → IsGetOf replicas entries key g → (trail : List Heard) × GetIsAfter judges entries trail g
    trail_of (get.Heads owner s) is = absurd is
    trail_of (get.Block s) is = (is.2, is.3)

    named_by : (bytes : List ℕ) → HearsTo judges x.get answer (progress.Comes (came.Block (Ok bytes))) → name bytes ≡ key
    named_by bytes hears =
        let t = trail_of x.get of in
        let asks = t.0 ++ told x.node x.question answer in
        right_name (λ k b. None) replicas entries key bytes (block_came (λ k b. None) x.get (Ok bytes) asks of (hears.2 entries t.0 x.node x.question kept t.1)) refl

    pub is_named : (l : Loading) → wanted_of l.load ≡ Some key → (given : Result (List ℕ) Miss) → HearsTo judges x.get answer (progress.Comes (came.Block given)) → IfOk given (λ bytes. wanted_of l.load ≡ Some (name bytes))
    is_named l want (Ok bytes) hears = want ∙ ap (λ (k : Key). Some k) (sym (named_by bytes hears))
    is_named l want (Err miss) hears = tt

module _ {J : Type 0} (judges : Judges J) (r : Refreshing J) where
  -- ---- a block of the snapshot

  module _ (l : Loading) (x : Waiting J) (sound : IsForLoad r.replicas r.entries l x) (answer : Answer) where
    abbrev key : Key
    key = sound.wants.key

    asks_for : (s : Standing) (parts : List Part) (current : List Heard) (node : Peer) (question : Ask) → get_awaited x.get ≡ Some (node, question) → RefreshIsAfter judges s parts current (in_state r (state.Asking l x))
        → AsksFor (judges r.judge) r.replicas r.entries s parts current node question
    asks_for s parts current node question waits h = record {
      want = Content key;
      needed = load_stands s parts l h.at.0 sound.wants key sound.wants.wanted;
      next = load_asks_next judges (judges r.judge) r.replicas r.entries key x.get current node question sound.is_get h.at.1 waits;
    }

    -- its get goes on
    module _ (y : Waiting J) (hears : HearsTo judges x.get answer (progress.Waits y)) where
      still_sound : IsForLoad r.replicas r.entries l y
      still_sound = record { wants = sound.wants; is_get = still_of judges r.replicas r.entries key x.get y.get x.node x.question answer sound.is_get sound.kept hears.0; kept = hears.1 }

      goes_on_so : (s : Standing) (parts : List Part) (current : List Heard) (node : Peer) (question : Ask) → get_awaited x.get ≡ Some (node, question) → RefreshIsAfter judges s parts current (in_state r (state.Asking l x))
          → GoesOn judges s parts (current ++ told node question answer) (Content key) (in_state r (state.Asking l y)) None
      unfolding still_sound
      goes_on_so s parts current node question waits h =
          let asks = current ++ told node question answer in
          let after = hears.0.1 r.entries current node question waits h.at.1 in
          let next = load_asks_next judges (judges r.judge) r.replicas r.entries key y.get asks y.node y.question still_sound.is_get after hears.1 in
          record {
            waits = λ none. some_or_none (y.node, y.question) (sym hears.1 ∙ none);
            unfailed = refl;
            after = record { pending = h.pending; at = (h.at.0, after); sound = still_sound };
            not_whole = λ whole. get_next_is_not_whole (judges r.judge) r.replicas r.entries (Content key) asks y.node y.question next whole;
            none = refl;
          }

      pub hears_waits : HearsNext judges r (state.Asking l x) answer (state.Asking l y, None)
      unfolding asks_for
      hears_waits = (
        (
          (refl, refl, refl, refl),
          λ s parts current node question waits h. (asks_for s parts current node question waits h, inl (goes_on_so s parts current node question waits h)),
        ),
        (still_sound, λ loads. refl),
        goes_on most_left (gets_left y.get) (gets_left x.get) (most_asks * (load_left l.load - 1)) hears.2,
      )

    -- its get is over
    module _ (given : Result (List ℕ) Miss) (hears : HearsTo judges x.get answer (progress.Comes (came.Block given))) (new : State J) (back : Option (Key × List ℕ)) (takes : LoadTakesNext judges r l given (new, back)) where
      is_over_so : (s : Standing) (parts : List Part) (current : List Heard) (node : Peer) (question : Ask) → get_awaited x.get ≡ Some (node, question) → RefreshIsAfter judges s parts current (in_state r (state.Asking l x))
          → IsOver judges s parts (current ++ told node question answer) (Content key) (in_state r new) back
      is_over_so s parts current node question waits h =
          let asks = current ++ told node question answer in
          let free = takes.0 in
          record {
            brought = BlockOf key given;
            gets = block_came judges r.replicas r.entries key (judges r.judge) x.get given asks sound.is_get (hears.2 r.entries current node question waits h.at.1);
            waits = free.free;
            after =
                record {
                  pending = h.pending;
                  at = free.at s (parts ++ record { brought = BlockOf key given; asks = asks } ∷ []) (parts, asks, key, sound.wants.wanted, h.at.0, refl);
                  sound = free.sound;
                };
            block = takes.1 key sound.wants.wanted;
          }

      pub hears_comes : HearsNext judges r (state.Asking l x) answer (new, back)
      unfolding asks_for
      hears_comes = (
        (
          (refl, refl, refl, refl),
          λ s parts current node question waits h. (asks_for s parts current node question waits h, inr (is_over_so s parts current node question waits h)),
        ),
        (takes.0.sound, λ loads. refl),
        is_over most_left (gets_left x.get) (left_in new) (most_asks * (load_left l.load - 1)) takes.0.left hears.1,
      )

  -- ---- the logs

  module _ (basis : Option Kept) (old new : Fetching J) (answer : Answer) (back : Option (Key × List ℕ)) (heard : FetchHasHeard judges old new answer back) (sound : IsSound r.judge r.replicas r.entries (state.Fetching basis old)) where
    still : IsSound r.judge r.replicas r.entries (state.Fetching basis new)
    still = (heard.0.0 ∙ sound.0, heard.0.1 ∙ sound.1, heard.0.2 ∙ sound.2)

    module _ (s : Standing) (parts : List Part) (current : List Heard) (node : Peer) (question : Ask) (over : IsFetchingOver judges s parts current basis old) where
      abbrev asks : List Heard
      asks = current ++ told node question answer

      goes_so : r.pending ≡ s.pending → (want : WantedOfRing) → GetGoesOn judges s (start_of s (counting s.floor over.whole)) over.fetched asks want new back → GoesOn judges s parts asks want (in_state r (state.Fetching basis new)) back
      goes_so pending want on =
          let start = start_of s (counting s.floor over.whole) in
          let x = there_is (fetch_awaited new) on.1 in
          let next = next_as judges want asks x.0.0 x.0.1 still.0 still.1 still.2 (fetch_asks_next judges s start new asks x.0.0 x.0.1 want on.2 x.1 on.0) in
          record {
            waits = on.1;
            unfailed = waiting_goes_on new.state on.1;
            after =
                record {
                  pending = pending;
                  at = record { loaded = over.loaded; fetched = over.fetched; parts_are = over.parts_are; whole = over.whole; loads = over.loads; counts = over.counts; fetch = on.2 };
                  sound = still;
                };
            not_whole = λ whole. get_next_is_not_whole (judges r.judge) r.replicas r.entries want asks x.0.0 x.0.1 next whole;
            none = on.3;
          }

      over_so : r.pending ≡ s.pending → (want : WantedOfRing) → GetIsOver judges s (start_of s (counting s.floor over.whole)) over.fetched asks want old new back → IsOver judges s parts asks want (in_state r (state.Fetching basis new)) back
      over_so pending want o =
          let p : Part = record { brought = o.0; asks = asks } in
          record {
            brought = o.0;
            gets =
                subst (λ (es : List Peer). Gets (judges r.judge) r.replicas es want asks o.0) sound.2
                (subst (λ (n : ℕ). Gets (judges r.judge) n old.entries want asks o.0) sound.1 (subst (λ (j : J). Gets (judges j) old.replicas old.entries want asks o.0) sound.0 o.1));
            waits = o.2;
            after =
                record {
                  pending = pending;
                  at =
                      record {
                        loaded = over.loaded;
                        fetched = over.fetched ++ p ∷ [];
                        parts_are = one_more parts over.loaded over.fetched p over.parts_are;
                        whole = over.whole;
                        loads = over.loads;
                        counts = over.counts;
                        fetch = o.3;
                      };
                  sound = still;
                };
            block = o.4;
          }

    hears_so : (s : Standing) (parts : List Part) (current : List Heard) (node : Peer) (question : Ask) → fetch_awaited old ≡ Some (node, question) → RefreshIsAfter judges s parts current (in_state r (state.Fetching basis old))
        → (asked : AsksFor (judges r.judge) r.replicas r.entries s parts current node question)
        × (GoesOn judges s parts (current ++ told node question answer) asked.want (in_state r (state.Fetching basis new)) back ⊎ IsOver judges s parts (current ++ told node question answer) asked.want (in_state r (state.Fetching basis new)) back)
    hears_so s parts current node question waits h =
        let over : IsFetchingOver judges s parts current basis old = h.at in
        let start = start_of s (counting s.floor over.whole) in
        let w = heard.1 s start over.fetched current node question waits over.fetch in (
          record {
            want = w.0;
            needed = fetch_stands judges s parts current basis old over (Needs w.0) w.2;
            next = next_as judges w.0 current node question sound.0 sound.1 sound.2 (fetch_asks_next judges s start old current node question w.0 over.fetch waits w.1);
          },
          ⊎_elim (λ on. inl (goes_so s parts current node question over h.pending w.0 on)) (λ o. inr (over_so s parts current node question over h.pending w.0 o)) w.3,
        )

    pub fetch_hears : fetch_left new < fetch_left old → HearsNext judges r (state.Fetching basis old) answer (state.Fetching basis new, back)
    fetch_hears less = (((refl, refl, refl, refl), hears_so), (still, λ loads. loads), less)

pub fetch_hears_next : {J : Type 0} (judges : Judges J) (basis : Option Kept) (old new : Fetching J) (answer : Answer) (back : Option (Key × List ℕ)) → FetchHasHeard judges old new answer back → fetch_left new < fetch_left old
    → FetchHearsNext judges basis old answer (state.Fetching basis new, back)
fetch_hears_next judges basis old new answer back heard less = λ r sound. fetch_hears judges r basis old new answer back heard sound less
