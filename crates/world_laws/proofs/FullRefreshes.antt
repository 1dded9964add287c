-- A refresh wants something finitely often, whatever comes of it: its snapshot is loaded, and then the members' logs are fetched.
use Rattle.std.proofs.Common.{◌≡◌, ℕ, List, [], ◌∷◌, ◌++◌, Option, Some, None, Result, refl, sym, ◌∙◌, subst, append_assoc}
use Rattle.std.proofs.lemmas.List.{append-nil}
use Rattle.ivy_base.specs.declared.key.Key.{Key}
use Rattle.agent_model.specs.Standing.{Refresh, Standing}
use Rattle.dhash_model.specs.declared.miss.Miss.{Miss}
use Rattle.snapshot_model.specs.Reading.{Root}
use Rattle.turn_model.specs.Basis.{Basis}
use Rattle.session_model.specs.Brought.{BlockOf, Brought, Content, Heads, HeadsOf, WantedOfRing}
use Rattle.session_model.specs.Refreshing.{LoadEnd, LoadWants, Loaded, LoadsFor, Needs, Note, RefreshEnd, Refreshes, counting, start_of}
use Rattle.session_model.specs.Refreshing.LoadsFor.{none as nothing_to_load, some as snapshot_to_load}
use Rattle.session_model.specs.Refreshing.Refreshes.{fetching, loading}
use Rattle.session_laws.specs.Going.{IsOfWant}
use Rattle.session_laws.proofs.Going.{all_begin}
use Rattle.world_laws.specs.Laws.{EndsAtLast, RefreshesEnd}
use Rattle.world_laws.specs.Laws.EndsAtLast.{refresh_comes_to}
use Rattle.world_laws.proofs.FullFetches.{FetchEnds, fetch_ends}
use Rattle.world_laws.proofs.FullFetches.FetchEnds.{fetch_comes_to}
use Rattle.world_laws.proofs.FullLoads.{LoadEnds, load_ends}
use Rattle.world_laws.proofs.FullLoads.LoadEnds.{load_comes_to}

module _ (s : Standing) where
  -- after what was loaded
  fetched : (basis : Option Basis) (loaded : List Brought) → LoadsFor s.to_load loaded (Loaded basis) → {brought : List Brought} → FetchEnds s (start_of s (counting s.floor basis)) s.view.members brought → EndsAtLast s (loaded ++ brought)
  fetched basis loaded loads {brought} (fetch_comes_to notes chains end fetches next) =
      refresh_comes_to notes (record { started = start_of s (counting s.floor basis); chains = chains; basis = counting s.floor basis }) end (fetching basis loads fetches)
      (λ want came is of. subst (EndsAtLast s) (sym (append_assoc loaded brought (came ∷ []))) (fetched basis loaded loads (next want came is of)))

  fetched_all : (basis : Option Basis) (loaded : List Brought) → LoadsFor s.to_load loaded (Loaded basis) → EndsAtLast s loaded
  fetched_all basis loaded loads =
      let start = start_of s (counting s.floor basis) in
      subst (EndsAtLast s) (append-nil loaded) (fetched basis loaded loads (fetch_ends s start s.view.members (all_begin s start s.view.members).fetches))

  same_needed : (a b : WantedOfRing) → Needs a ≡ Needs b → a ≡ b
  same_needed a b e = cc e

  same_content : (a b : Key) → Content a ≡ Content b → a ≡ b
  same_content a b e = cc e

  -- what comes of a block that is wanted is that block, or why it didn't come
  by_block : (brought : List Brought) (key : Key) → ((came : Result (List ℕ) Miss) → EndsAtLast s (brought ++ BlockOf key came ∷ [])) → (want : WantedOfRing) (came : Brought) → Needs (Content key) ≡ Needs want → IsOfWant want came
      → EndsAtLast s (brought ++ came ∷ [])
  by_block brought key next (Content wanted) (BlockOf name came) e same =
      subst (λ (k : Key). EndsAtLast s (brought ++ BlockOf k came ∷ [])) (same_content key wanted (same_needed (Content key) (Content wanted) e) ∙ sym same) (next came)
  by_block brought key next (Content wanted) (HeadsOf log came) e same = absurd same
  by_block brought key next (Heads owner) came e same = absurd (cc e)

  -- while a snapshot is loaded
  loaded_first : (root : Key) → s.to_load ≡ Some root → {brought : List Brought} → LoadEnds ((Root, root) ∷ []) [] brought → EndsAtLast s brought
  loaded_first root is {brought} (load_comes_to (Loaded basis) loads next) = fetched_all basis brought (subst (λ (o : Option Key). LoadsFor o brought (Loaded basis)) (sym is) (snapshot_to_load loads))
  loaded_first root is {brought} (load_comes_to (LoadWants key) loads next) =
      refresh_comes_to [] (record { started = s.held; chains = []; basis = None }) (Needs (Content key)) (loading (subst (λ (o : Option Key). LoadsFor o brought (LoadWants key)) (sym is) (snapshot_to_load loads)))
      (by_block brought key (λ came. loaded_first root is (next key came refl)))

  -- where a block of it is wanted there is one
  still_loading : {to_load : Option Key} {brought : List Brought} {end : LoadEnd} {key : Key} → s.to_load ≡ to_load → LoadsFor to_load brought end → end ≡ LoadWants key → EndsAtLast s brought
  still_loading is nothing_to_load e = absurd (cc e)
  still_loading is (snapshot_to_load {root = root} loads) e = loaded_first root is (load_ends loads)

  ends : {brought : List Brought} {notes : List Note} {given : Refresh} {end : RefreshEnd} → Refreshes s brought notes given end → EndsAtLast s brought
  ends (loading loads) = still_loading refl loads refl
  ends (fetching {loaded = loaded} basis loads fetches) = fetched basis loaded loads (fetch_ends s (start_of s (counting s.floor basis)) s.view.members fetches)

pub refreshes_end : RefreshesEnd
refreshes_end s brought notes given end refreshed = ends s refreshed
