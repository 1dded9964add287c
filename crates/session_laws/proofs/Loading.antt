-- What is loaded by the name of a snapshot's root is what was made.
use Rattle.std.proofs.Common.{◌≡◌, ⊎_elim, ℕ, List, [], ◌∷◌, ◌++◌, map, Bool, true, false, cond, Option, None, Some, Ok, refl, sym, ap, ◌∙◌, subst, append_assoc, Contains}
use Rattle.std.specs.Prelude.{IfSome}
use Rattle.std.specs.List.{AllByRecursion}
use Rattle.std.proofs.lemmas.List.{append-nil}
use Rattle.std.proofs.lemmas.List.Elements.{Contains-append_left, Contains-append_cases}
use Rattle.ivy_base.specs.declared.key.Key.{Key}
use Rattle.ivy_base.specs.Naming.{IsCollisionFree, name}
use Rattle.ivy_base.proofs.NameLemmas.{length-name, bytes-name}
use Rattle.log_model.specs.View.{View, view_block, view_name}
use Rattle.log_model.specs.Record.{Record}
use Rattle.log_model.specs.Vector.{Vector}
use Rattle.log_model.specs.Replay.{effect, in_order}
use Rattle.log_model.proofs.Lists.{here, there, each}
use Rattle.turn_model.specs.Basis.{Basis, StandsFor}
use Rattle.snapshot_model.specs.Spelling.{snapshot_of}
use Rattle.snapshot_model.specs.Reading.{SnapshotPart, IsWholeTree, IsBasisSpelled, AreOf}
use Rattle.snapshot_model.proofs.Loaded.{loaded_is_made as one_is_made}
use Rattle.agent_model.specs.Standing.{dominates}
use Rattle.agent_model.specs.Candidates.{StandsWithin}
use Rattle.session_model.specs.Brought.{Brought, BlockOf}
use Rattle.session_model.specs.Refreshing.{Loads, LoadsFor, Loaded, counting}
use Rattle.session_model.specs.Refreshing.Loads.{loaded, goes_on}
use Rattle.session_model.specs.Refreshing.Refreshes.{loading, fetching}
use Rattle.session_model.specs.Refreshing.LoadsFor.{some as snapshot_to_load}
use Rattle.session_laws.specs.Bringing.{AreMet}
use Rattle.session_laws.specs.Loading.{IsSnapshotOf, LoadedIsMade, BasisIsKnown}
use Rattle.session_laws.proofs.WholeTrees.{made_whole}
use Rattle.session_laws.proofs.MadeBlocks.{read_met}

-- ---- what was read

module _ (met : List (List ℕ)) (b : Basis) where
  -- further blocks were met, and with those before them are the basis's
  read_more : {todo : List (SnapshotPart × Key)} {read : List (List ℕ)} {brought : List Brought} → Loads todo read brought (Loaded (Some b)) → AreMet met brought
      → (more : List (List ℕ)) × AreOf (read ++ more) b × AllByRecursion (Contains met) more
  read_more (loaded {read = read} c are_of) are = ([], subst (λ (blocks : List (List ℕ)). AreOf blocks b) (sym (append-nil read)) are_of, tt)
  read_more (goes_on {key = key} {read = read} {more = later} bytes named names rest) are =
      let w = read_more rest (λ k block c. are k block (there (BlockOf key (Ok bytes)) later (BlockOf k (Ok block)) c)) in
      (bytes ∷ w.0, subst (λ (blocks : List (List ℕ)). AreOf blocks b) (append_assoc read (bytes ∷ []) w.0) w.1, ((are key bytes (here (BlockOf key (Ok bytes)) later)).0, w.2))

  -- the first of them has the root's name
  read_all : {root : Key} {brought : List Brought} → LoadsFor (Some root) brought (Loaded (Some b)) → AreMet met brought
      → (first : List ℕ) × (more : List (List ℕ)) × AreOf (first ∷ more) b × AllByRecursion (Contains met) (first ∷ more) × (name first ≡ root)
  read_all (snapshot_to_load (goes_on {key = key} {more = later} bytes named names rest)) are =
      let found = are key bytes (here (BlockOf key (Ok bytes)) later) in
      let w = read_more rest (λ k block c. are k block (there (BlockOf key (Ok bytes)) later (BlockOf k (Ok block)) c)) in
      (bytes, w.0, w.1, (found.0, w.2), found.1)

-- ---- what was made

-- a basis that stands for a closed set has a snapshot's tree
made_of : (view : View) (made : Basis) (below : List Record) → StandsFor view made below → IsBasisSpelled made → AreOf (snapshot_of view made).reading made
made_of view made below stands spelled = record {
  whole = subst IsWholeTree (sym stands.tree) (made_whole (map effect (in_order below)));
  bounds = spelled;
  view = view_name view;
  is_key = record { size = length-name (view_block view); each = bytes-name (view_block view) };
  spelled = refl;
}

-- ---- the laws

pub loaded_is_made : LoadedIsMade
loaded_is_made met view knew root snapshot brought b apart are loads =
    let w = read_all met b loads are in
    let reading = (snapshot_of view snapshot.made).reading in
    let among : (x : List ℕ) → Contains ((w.0 ∷ w.1) ++ reading) x → Contains met x = λ x c. ⊎_elim
    (λ ours. each (Contains met) (w.0 ∷ w.1) x w.3 ours)
    (λ theirs. each (Contains met) reading x (read_met met view snapshot.made snapshot.blocks) theirs)
    (Contains-append_cases (w.0 ∷ w.1) reading x c) in
    one_is_made (w.0 ∷ w.1) reading b snapshot.made w.2 (made_of view snapshot.made snapshot.below snapshot.stands snapshot.spelled)
    (λ x y in_x in_y e. apart x y (among x in_x) (among y in_y) e) (ap (λ (k : Key). k ∷ []) (w.4 ∙ snapshot.named))

module _ (met : List (List ℕ)) (apart : IsCollisionFree met) (view : View) (knew : List Record) where
  loaded_within : {root : Option Key} {brought : List Brought} {basis : Option Basis} → LoadsFor root brought (Loaded basis) → AreMet met brought → IfSome root (IsSnapshotOf met view knew) → IfSome basis (StandsWithin view knew)
  loaded_within {basis = None} loads are snapshot = tt
  loaded_within {basis = Some b} loads are snapshot = of_some loads are snapshot
    where
      of_some : {r : Option Key} {parts : List Brought} → LoadsFor r parts (Loaded (Some b)) → AreMet met parts → IfSome r (IsSnapshotOf met view knew) → StandsWithin view knew b
      of_some (snapshot_to_load {root = name_of} {brought = parts} steps) all made =
          let same : b ≡ made.made = loaded_is_made met view knew name_of made parts b apart all (snapshot_to_load steps) in
          subst (StandsWithin view knew) (sym same) (made.below, made.stands, made.within)

  counted : (floor : Vector) (basis : Option Basis) → IfSome basis (StandsWithin view knew) → IfSome (counting floor basis) (StandsWithin view knew)
  counted floor None h = tt
  counted floor (Some b) h = by (dominates floor b.front)
    where
      by : (test : Bool) → IfSome (cond test (Some b) None) (StandsWithin view knew)
      by true = h
      by false = tt

pub basis_is_known : BasisIsKnown
basis_is_known met s knew _ _ _ _ apart are snapshot (loading loads) = tt
basis_is_known met s knew _ notes _ end apart are snapshot (fetching {loaded = blocks} {brought = brought} basis loads fetches) =
    counted met apart s.view knew s.floor basis
    (loaded_within met apart s.view knew loads (λ key bytes c. are key bytes (Contains-append_left blocks brought (BlockOf key (Ok bytes)) c)) snapshot)
