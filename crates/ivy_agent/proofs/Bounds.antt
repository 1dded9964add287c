-- What a refresh brings is within the bounds of an agent's turn: the basis of a snapshot that was loaded is spelled, so its tree has them.
use Rattle.std.proofs.Common.{◌≡◌, Bool, true, false, cond, ℕ, List, [], ◌∷◌, Option, Some, None, refl, sym, subst}
use Rattle.std.specs.Prelude.{IfSome, is_some, option_map}
use Rattle.std.specs.List.{AllByRecursion}
use Rattle.std.specs.FinMap.Entries.{find as value_at}
use Rattle.ivy_base.specs.declared.key.Key.{Key}
use Rattle.ivy_base.specs.declared.operation.Kind.{Kind}
use Rattle.ivy_base.specs.Naming.{IsFileName, key_cmp}
use Rattle.tree_model.specs.Tree.{Inode, Place, inode_at, same_key}
use Rattle.tree_model.proofs.Keys.{same_key_is}
use Rattle.log_model.specs.Spelling.{IsKey}
use Rattle.log_model.specs.Vector.{Vector}
use Rattle.turn_model.specs.Basis.{Basis}
use Rattle.snapshot_model.specs.Reading.{IsBasisSpelled, IsBodyOf, SnapshotPart}
use Rattle.snapshot_model.specs.Reading as snapshot
use Rattle.agent_model.specs.Standing.{Refresh as ModelRefresh, Standing, dominates}
use Rattle.session_model.specs.Brought.{Brought}
use Rattle.session_model.specs.Executions.{HasRefreshed}
use Rattle.session_model.specs.Refreshing.{LoadEnd, LoadWants, Loaded, Loads, LoadsFor, Note, RefreshEnd, Refreshes, counting}
use Rattle.session_model.specs.Refreshing.Loads.{loaded, no_whole, wants, misses, garbled, goes_on}
use Rattle.session_model.specs.Refreshing.LoadsFor.{none as nothing_to_load, some as snapshot_to_load}
use Rattle.session_model.specs.Refreshing.Refreshes.{loading, fetching}
use Rattle.session_model.specs.Sessions.{Session}
use Rattle.fs_tree.specs.declared.basis.Basis.{Basis as Kept}
use Rattle.fs_tree.specs.Bases.{basis_of}
use Rattle.log_fetch.specs.declared.refresh.Refresh.{Refresh}
use Rattle.log_fetch.specs.Standings.{refresh_of}
use Rattle.ivy_agent.specs.Bounds.{HasBounds}

-- ---- a basis that was loaded is spelled

abbrev IsLoadedSo : LoadEnd → Type 0
IsLoadedSo (LoadWants key) = Unit {0}
IsLoadedSo (Loaded basis) = IfSome basis IsBasisSpelled

loads_so : {todo : List (SnapshotPart × Key)} {read : List (List ℕ)} {brought : List Brought} {end : LoadEnd} → Loads todo read brought end → IsLoadedSo end
loads_so (loaded b are) = are.bounds
loads_so (no_whole not) = tt
loads_so wants = tt
loads_so (misses miss) = tt
loads_so (garbled bytes none) = tt
loads_so (goes_on bytes named names rest) = loads_so rest

root_so : {root : Option Key} {brought : List Brought} {end : LoadEnd} → LoadsFor root brought end → IsLoadedSo end
root_so nothing_to_load = tt
root_so (snapshot_to_load loads) = loads_so loads

-- also where it doesn't count
counted_so : (floor : Vector) (o : Option Basis) → IfSome o IsBasisSpelled → IfSome (counting floor o) IsBasisSpelled
counted_so floor None spelled = tt
counted_so floor (Some b) spelled = by (dominates floor b.front)
  where
    by : (t : Bool) → IfSome (cond t (Some b) None) IsBasisSpelled
    by true = spelled
    by false = tt

refreshes_so : {s : Standing} {brought : List Brought} {notes : List Note} {given : ModelRefresh} {end : RefreshEnd} → Refreshes s brought notes given end → IfSome given.basis IsBasisSpelled
refreshes_so (loading loads) = tt
refreshes_so {s = s} (fetching basis loads fetches) = counted_so s.floor basis (root_so loads)

-- ---- so its tree has bounds

same_inode : (i j : Inode) → Some i ≡ Some j → i ≡ j
same_inode i j e = cc e

some_inode : (o : Option Inode) → is_some o ≡ true → (i : Inode) × (o ≡ Some i)
some_inode None some = absurd (cc some)
some_inode (Some i) some = (i, refl)

-- an inode that is found is one of the list, by that number
found_so : (P : Key → Inode → Type 0) (inodes : List (Key × Inode)) (number : Key) (i : Inode) → AllByRecursion (λ e. P e.0 e.1) inodes → value_at key_cmp number inodes ≡ Some i → P number i
found_so P [] number i all found = absurd (cc found)
found_so P (e ∷ es) number i all found = by (same_key number e.0) refl found (found_so P es number i all.1)
  where
    by : (b : Bool) → same_key number e.0 ≡ b → cond b (Some e.1) (value_at key_cmp number es) ≡ Some i → (value_at key_cmp number es ≡ Some i → P number i) → P number i
    by true same here after = subst (λ (k : Key). P k i) (sym (same_key_is number e.0 same)) (subst (P e.0) (same_inode e.1 i here) all.0)
    by false same here after = after here

names_so : (names : List (Place × Key)) → AllByRecursion (λ e. IsKey e.0.0 × IsFileName e.0.1 × IsKey e.1) names → AllByRecursion (λ e. IsKey e.0.0 × IsKey e.1) names
names_so [] all = tt
names_so (e ∷ names) all = ((all.0.0, all.0.2), names_so names all.1)

module _ (b : Basis) (spelled : IsBasisSpelled b) where
  inode_so : (number : Key) (i : Inode) → inode_at b.tree number ≡ Some i → IsKey number × snapshot.HasBounds i
  inode_so number i found = found_so (λ k j. IsKey k × snapshot.HasBounds j) b.tree.inodes number i spelled.inodes found

  number_so : (number : Key) → (i : Inode) × (inode_at b.tree number ≡ Some i) → IsKey number
  number_so number there = (inode_so number there.0 there.1).0

  tree_so : HasBounds b.tree
  tree_so = record {
    numbers = λ number some. number_so number (some_inode (inode_at b.tree number) some);
    names = names_so b.tree.names spelled.names;
    links = λ number i found is_link. (subst (λ (kind : Kind). IsBodyOf kind i.body) is_link (inode_so number i found).1.body).1;
  }

kept_so : (o : Option Kept) → IfSome (option_map basis_of o) IsBasisSpelled → IfSome o (λ basis. HasBounds basis.tree)
kept_so None spelled = tt
kept_so (Some b) spelled = tree_so (basis_of b) spelled

-- what was brought may be given to a turn
pub bounds_in : (s : Session) (notes : List Note) (refresh : Refresh) → HasRefreshed s notes (refresh_of refresh) → IfSome refresh.basis (λ basis. HasBounds basis.tree)
bounds_in s notes refresh done = kept_so refresh.basis (refreshes_so done.1)
