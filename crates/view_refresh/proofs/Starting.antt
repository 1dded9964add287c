-- How a refresh comes to a state: with the snapshot, and over what it came to with the logs.
use Rattle.std.proofs.Common.{◌≡◌, ℕ, ◌+◌, ◌-◌, ◌*◌, ◌≤◌, false, true, List, [], ◌∷◌, ◌++◌, Option, Some, None, Result, Ok, Err, IfOk, refl, sym, ap, ◌∙◌, subst, arith}
use Rattle.std.specs.Option.{option_map}
use Rattle.std.proofs.lemmas.List.{append-nil}
use Rattle.ivy_base.specs.declared.key.Key.{Key}
use Rattle.ivy_base.specs.declared.memory.Memory.{Memory}
use Rattle.log_model.specs.Vector.{Vector}
use Rattle.dht_ids.specs.declared.peer.Peer.{Peer}
use Rattle.dhash_model.specs.declared.miss.Miss.{Miss}
use Rattle.dhash_client.specs.GetHead.{Judges}
use Rattle.turn_model.specs.Basis.{Basis}
use Rattle.fs_tree.specs.Bases.{basis_of}
use Rattle.fs_tree.specs.declared.basis.Basis.{Basis as Kept}
use Rattle.snapshot_model.specs.Reading.{Root}
use Rattle.agent_model.specs.Standing as agent
use Rattle.session_model.specs.Brought.{Brought, BlockOf, Part, brought_in}
use Rattle.session_model.specs.Refreshing.{Loaded, LoadsFor, counting, start_of}
use Rattle.session_model.specs.Refreshing.Loads.{wants}
use Rattle.session_model.specs.Refreshing.LoadsFor.{none as nothing_to_load, some as snapshot_to_load}
use Rattle.snapshot_loading.specs.Loading.{ComesTo as LoadComesTo, HasBeenGiven, begun, brought_to, load_left, most_of, wanted_of}
use Rattle.snapshot_loading.specs.Loading as load
use Rattle.log_fetch.specs.declared.fetch.State.{State as FetchState}
use Rattle.log_fetch.specs.declared.fetch.State.TheVariants as fetch
use Rattle.log_fetch.specs.declared.standing.Standing.{Standing}
use Rattle.log_fetch.specs.Fetching.{Fetching, FetchIsAfter, IsAsking, is_failed, most_asks, most_left}
use Rattle.log_fetch.specs.Fetching as fetches
use Rattle.log_fetch.specs.Fetching.AreParts.{no_parts}
use Rattle.log_fetch.specs.Gathering.{Gathers}
use Rattle.log_fetch.specs.Standings.{standing_of}
use Rattle.view_refresh.specs.declared.refresh.Loading.{Loading}
use Rattle.view_refresh.specs.declared.refresh.State.{State}
use Rattle.view_refresh.specs.declared.refresh.State.TheVariants as state
use Rattle.view_refresh.specs.States.{IsInProgress, left_in, loads_in}
use Rattle.view_refresh.specs.Behind.{IsFetchingOver, IsLoadingFor}
use Rattle.view_refresh.specs.Parts.{AreFirst, AreLoaded, AreOfLoad, AreOfOneMore, IsFree, IsStandingOf, IsStarted, held_over}
use Rattle.view_refresh.proofs.Bringing.{brought_more, never_missed}
use Rattle.view_refresh.proofs.Falling.{fewer, fits, less_or_same, more}
use Rattle.view_refresh.proofs.Standing.{loads_so}

true_or_false : true ≡ false → ⊥
true_or_false e = cc e

same_some : {T : Type 0} (x y : T) → Some x ≡ Some y → x ≡ y
same_some x y e = cc e

no_more : (n : ℕ) → n ≤ n
no_more n = omega arith

-- ---- a fetch that was brought nothing

-- what it sees of a standing is what it goes by
abbrev seen_of : agent.Standing → agent.Standing
seen_of s = record s { held = []; to_load = None; pending = [] }

module _ {J : Type 0} (judges : Judges J) (entries : List Peer) (s t : agent.Standing) (start then_start : Vector) (same : seen_of t ≡ seen_of s) (starts : start ≡ then_start) where
  asks_the_same : (st : FetchState J) → IsAsking judges entries t start [] [] st → IsAsking judges entries s then_start [] [] st
  asks_the_same (fetch.Free g) h = (h.0 ∙ same, subst (λ (v : Vector). Gathers v [] g) starts h.1, h.2)
  asks_the_same (fetch.Asking g x) h = (h.0 ∙ same, subst (λ (v : Vector). Gathers v [] g) starts h.1, h.2)
  asks_the_same (fetch.Ended fetched) h = absurd (never_missed h.1 h.2.2 refl)
  asks_the_same fetch.Over h = absurd h

  no_miss : (st : FetchState J) → IsAsking judges entries t start [] [] st → fetches.failed_in st ≡ false
  no_miss (fetch.Free g) h = refl
  no_miss (fetch.Asking g x) h = refl
  no_miss (fetch.Ended fetched) h = absurd (never_missed h.1 h.2.2 refl)
  no_miss fetch.Over h = refl

-- it is one for whatever standing is the same to it
pub starts_for : {J : Type 0} (judges : Judges J) (s t : agent.Standing) (start then_start : Vector) (f : Fetching J) → seen_of t ≡ seen_of s → start ≡ then_start → FetchIsAfter judges t start [] [] f → FetchIsAfter judges s then_start [] [] f
starts_for judges s t start then_start f same starts h = record {
  whole = no_parts;
  asking = asks_the_same judges f.entries s t start then_start same starts f.state h.asking;
  sound = h.sound;
  begun = h.begun;
}

pub starts_unfailed : {J : Type 0} (judges : Judges J) (s : agent.Standing) (start : Vector) (f : Fetching J) → FetchIsAfter judges s start [] [] f → is_failed f ≡ false
starts_unfailed judges s start f h = no_miss judges f.entries s s start start refl refl f.state h.asking

module _ {J : Type 0} (judges : Judges J) (judge : J) (replicas : ℕ) (entries : List Peer) where
  pub free_in_more : (most even_more : ℕ) (AreBehind AreSo : agent.Standing → List Part → Type 0) (st : State J) → most ≤ even_more → ((s : agent.Standing) (parts : List Part) → AreSo s parts → AreBehind s parts)
      → IsFree judges judge replicas entries most AreBehind st → IsFree judges judge replicas entries even_more AreSo st
  free_in_more most even_more AreBehind AreSo st less so h = record {
    sound = h.sound;
    free = h.free;
    unfailed = h.unfailed;
    left = fits (left_in st) most even_more h.left less;
    at = λ s parts are. h.at s parts (so s parts are);
  }

  -- ---- with the logs

  module _ (k over : Standing) (whole : Option Basis) (basis : Option Kept) (counts : option_map basis_of basis ≡ counting k.floor whole) (holds : over ≡ record k { held = held_over k.held basis }) where
    held_so : (s : agent.Standing) → IsStandingOf k s → (b : Option Kept) → held_over k.held b ≡ start_of s (option_map basis_of b)
    held_so s is None = ap (λ (x : agent.Standing). x.held) is
    held_so s is (Some b) = refl

    module _ (s : agent.Standing) (is : IsStandingOf k s) where
      counts_so : option_map basis_of basis ≡ counting s.floor whole
      counts_so = counts ∙ ap (λ (x : agent.Standing). counting x.floor whole) is

      start_so : over.held ≡ start_of s (counting s.floor whole)
      start_so = ap (λ (x : Standing). x.held) holds ∙ held_so s is basis ∙ ap (start_of s) counts_so

      seen_so : seen_of (standing_of over) ≡ seen_of s
      seen_so = ap (λ (x : Standing). seen_of (standing_of x)) holds ∙ ap seen_of is

    fetches_over : (f : Fetching J) → FetchIsAfter judges (standing_of over) over.held [] [] f → (s : agent.Standing) (parts : List Part) → AreLoaded k whole s parts → IsFetchingOver judges s parts [] basis f
    fetches_over f h s parts are = record {
      loaded = parts;
      fetched = [];
      parts_are = sym (append-nil parts);
      whole = whole;
      loads = are.1;
      counts = counts_so s are.0;
      fetch = starts_for judges s (standing_of over) over.held (start_of s (counting s.floor whole)) f (seen_so s are.0) (start_so s are.0) h;
    }

    pub started_is_free : (st : State J) → IsStarted judges judge replicas entries over basis st → IsFree judges judge replicas entries most_left (AreLoaded k whole) st
    started_is_free st h =
        subst (λ (x : State J). IsFree judges judge replicas entries most_left (AreLoaded k whole) x) (sym h.state_is) (record {
          sound = (h.judge_is, h.replicas_are, h.entries_are);
          free = h.free;
          unfailed = starts_unfailed judges (standing_of over) over.held h.fetch h.started;
          left = less_or_same _ _ h.left;
          at = fetches_over h.fetch h.started;
        })

    pub started_loads_nothing : (st : State J) → IsStarted judges judge replicas entries over basis st → loads_in st ≡ false
    started_loads_nothing st h = ap loads_in h.state_is

  -- ---- with the snapshot

  -- which wants a block
  pub load_is_free : (l : Loading) → IsInProgress l → IsFree judges judge replicas entries (left_in {J = J} (state.Loading l)) (AreOfLoad l) (state.Loading l)
  load_is_free l w = record { sound = w; free = refl; unfailed = refl; left = no_more (left_in {J = J} (state.Loading l)); at = λ s parts are. (are, refl) }

  -- which wants no more
  pub loaded_is_free : (l : Loading) (whole : Option Basis) → LoadComesTo l.load (Loaded whole) → (st : State J) → IsFree judges judge replicas entries most_left (AreLoaded l.standing whole) st
      → IsFree judges judge replicas entries (left_in {J = J} (state.Loading l)) (AreOfLoad l) st
  loaded_is_free l whole comes st =
      free_in_more most_left (left_in {J = J} (state.Loading l)) (AreLoaded l.standing whole) (AreOfLoad l) st (more most_left (most_asks * load_left l.load))
      (λ s parts are. (are.standing, loads_so s parts l are (Loaded whole) comes))

  pub loaded_from : (l : Loading) (k : Standing) (came_to : load.Loading) (whole : Option Basis) → k ≡ l.standing → came_to ≡ l.load → LoadComesTo came_to (Loaded whole) → (given : Result (State J) Memory)
      → IfOk given (IsFree judges judge replicas entries most_left (AreLoaded k whole)) → IfOk given (IsFree judges judge replicas entries (left_in {J = J} (state.Loading l)) (AreOfLoad l))
  loaded_from l k came_to whole is same comes (Ok st) free =
      loaded_is_free l whole (subst (λ (x : load.Loading). LoadComesTo x (Loaded whole)) same comes) st (subst (λ (x : Standing). IsFree judges judge replicas entries most_left (AreLoaded x whole) st) is free)
  loaded_from l k came_to whole is same comes (Err lacks) free = tt

  -- which was given what came of the block that it wanted
  module _ (l : Loading) (came : Result (List ℕ) Miss) (new : load.Loading) (given : HasBeenGiven l.load new came) where
    loads_more : (s : agent.Standing) (all : List Part) → AreOfOneMore l came s all → IsLoadingFor s all (record { standing = l.standing; load = new })
    loads_more s all are =
        let parts = are.0 in
        let key = are.2 in
        let is = are.4 in
        let p : Part = record { brought = BlockOf key came; asks = are.1 } in
        let same : key ≡ given.key = same_some key given.key (sym are.3 ∙ given.wanted) in
        record {
          root = is.root ∙ ap (λ (k : Key). Some k) (sym given.root);
          standing = is.standing;
          brought =
              ap brought_in are.5 ∙ brought_more parts p ∙ ap (λ (b : List Brought). b ++ BlockOf key came ∷ []) is.brought ∙ ap (λ (k : Key). brought_to l.load ++ BlockOf k came ∷ []) same
              ∙ sym given.brought;
        }

    pub given_is_free : (st : State J) → IsFree judges judge replicas entries (left_in {J = J} (state.Loading (record { standing = l.standing; load = new }))) (AreOfLoad (record { standing = l.standing; load = new })) st
        → IsFree judges judge replicas entries (most_left + most_asks * (load_left l.load - 1)) (AreOfOneMore l came) st
    given_is_free st =
        free_in_more (left_in {J = J} (state.Loading (record { standing = l.standing; load = new }))) (most_left + most_asks * (load_left l.load - 1)) (AreOfLoad (record { standing = l.standing; load = new })) (AreOfOneMore l came) st
        (fewer most_left (load_left new) (load_left l.load) given.left) loads_more

  -- ---- first

  pub first_with : (k : Standing) (root : Key) → IsFree judges judge replicas entries (most_left + most_asks * most_of Root) (AreFirst k (Some root)) (state.Loading (record { standing = k; load = begun root }))
  first_with k root = record {
    sound = record { key = root; wanted = refl; comes = snapshot_to_load wants };
    free = refl;
    unfailed = refl;
    left = no_more (most_left + most_asks * most_of Root);
    at = λ s parts are. (record { root = are.1; standing = are.0; brought = ap brought_in are.2 }, refl);
  }

  pub first_without : (k : Standing) (st : State J) → IsFree judges judge replicas entries most_left (AreLoaded k None) st → IsFree judges judge replicas entries (most_left + most_asks * most_of Root) (AreFirst k None) st
  first_without k st =
      free_in_more most_left (most_left + most_asks * most_of Root) (AreLoaded k None) (AreFirst k None) st (more most_left (most_asks * most_of Root))
      (λ s parts are. (
        are.0,
        subst (λ (o : Option Key). LoadsFor o (brought_in parts) (Loaded None)) (sym are.1) (subst (λ (b : List Brought). LoadsFor None b (Loaded None)) (sym (ap brought_in are.2)) nothing_to_load),
      ))

  abbrev IsFirst : Standing → Option Key → State J → Type 0
  IsFirst k root st = IsFree judges judge replicas entries (most_left + most_asks * most_of Root) (AreFirst k root) st

  pub first_loads : (k : Standing) (o : Option Key) (root : Key) → o ≡ Some root → (given : Result (State J) Memory) → IfOk given (λ st. st ≡ state.Loading (record { standing = k; load = begun root })) → IfOk given (IsFirst k o)
  first_loads k o root is (Ok st) e = subst (λ (x : Option Key). IsFirst k x st) (sym is) (subst (λ (x : State J). IsFirst k (Some root) x) (sym e) (first_with k root))
  first_loads k o root is (Err lacks) e = tt

  pub first_fetches : (k : Standing) (o : Option Key) → o ≡ None → (given : Result (State J) Memory) → IfOk given (IsFree judges judge replicas entries most_left (AreLoaded k None)) → IfOk given (IsFirst k o)
  first_fetches k o is (Ok st) free = subst (λ (x : Option Key). IsFirst k x st) (sym is) (first_without k st free)
  first_fetches k o is (Err lacks) free = tt
