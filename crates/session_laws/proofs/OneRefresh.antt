-- What was brought tells how a refresh stands.
use Rattle.std.proofs.Common.{◌≡◌, ℕ, List, [], ◌∷◌, ◌++◌, Option, Some, None, Ok, Err, refl, sym, ap, ◌∙◌, subst}
use Rattle.std.proofs.lemmas.List.{append-nil}
use Rattle.ivy_base.specs.declared.key.Key.{Key}
use Rattle.ivy_base.specs.declared.key.PubKey.{PubKey}
use Rattle.log_model.specs.Vector.{Vector}
use Rattle.turn_model.specs.Basis.{Basis}
use Rattle.snapshot_model.specs.Reading.{NamesParts, SnapshotPart}
use Rattle.snapshot_model.proofs.OneNames.{names_are_unique}
use Rattle.snapshot_loading.proofs.OneBasis.{snapshot_is_unique}
use Rattle.agent_model.specs.Standing.{Chain, Refresh, Standing}
use Rattle.session_model.specs.Brought.{Brought, BlockOf, Content}
use Rattle.session_model.specs.Refreshing.{FetchesAll, Loaded, LoadEnd, LoadWants, Loads, LoadsFor, Needs, Note, RefreshEnd, Refreshes, chains_of, counting, end_of_log, start_of}
use Rattle.session_model.specs.Refreshing.FetchesAll.{all, stays, goes_on as all_go_on}
use Rattle.session_model.specs.Refreshing.Loads.{loaded, no_whole, wants, misses, garbled, goes_on}
use Rattle.session_model.specs.Refreshing.LoadsFor.{none as nothing_to_load, some as snapshot_to_load}
use Rattle.session_model.specs.Refreshing.Refreshes.{loading, fetching}
use Rattle.session_model.specs.Walks.{Gives, GivesNone, Lacks, LogEnd, Stops}
use Rattle.session_laws.specs.Once.{FetchIsDeterministic, RefreshIsDeterministic}
use Rattle.session_laws.proofs.OneExecution.{TriesHere, came_or_not, fetch_one, nothing_more, same_block, same_first, same_rest}

-- ---- all members

none_behind : (e : LogEnd) → TriesHere e []
none_behind (Lacks want) = refl
none_behind (Stops miss) = tt
none_behind (Gives records) = tt
none_behind GivesNone = tt

goes_behind : (e : LogEnd) (m : List Brought) → end_of_log e ≡ None → TriesHere e m
goes_behind (Lacks want) m none = cc none
goes_behind (Stops miss) m none = tt
goes_behind (Gives records) m none = tt
goes_behind GivesNone m none = tt

same_end : (a b : RefreshEnd) → Some a ≡ Some b → a ≡ b
same_end a b e = cc e

ends_or_goes : (a : RefreshEnd) → Some a ≡ None → ⊥
ends_or_goes a e = cc e

module _ (s : Standing) (start : Vector) where
  all_one : {owners : List PubKey} {b c : List Brought} {ns os : List Note} {cs ds : List Chain} {e f : RefreshEnd} → FetchesAll (record { standing = s; start = start }) owners b ns cs e → FetchesAll (record { standing = s; start = start }) owners c os ds f
      → b ≡ c → (ns ≡ os) × (cs ≡ ds) × (e ≡ f)
  all_one all all same = (refl, refl, refl)
  all_one (stays {owner = owner} {brought = b} {log = log} {end = e} fetch is) (stays {brought = c} {log = stand} {end = f} its also) same =
      let w = fetch_one s start owner [] [] fetch its (none_behind log) (none_behind stand) (append-nil b ∙ same ∙ sym (append-nil c)) in
      (w.0, refl, same_end e f (sym is ∙ ap end_of_log w.1 ∙ also))
  all_one (stays {owner = owner} {brought = b} {log = log} {end = e} fetch is) (all_go_on {brought = c} {more = later} {log = stand} its goes rest) same =
      let w = fetch_one s start owner [] later fetch its (none_behind log) (goes_behind stand later goes) (append-nil b ∙ same) in
      absurd (ends_or_goes e (sym is ∙ ap end_of_log w.1 ∙ goes))
  all_one (all_go_on {owner = owner} {brought = b} {more = later} {log = log} fetch goes rest) (stays {brought = c} {log = stand} {end = f} its also) same =
      let w = fetch_one s start owner later [] fetch its (goes_behind log later goes) (none_behind stand) (same ∙ sym (append-nil c)) in
      absurd (ends_or_goes f (sym also ∙ ap end_of_log (sym w.1) ∙ goes))
  all_one (all_go_on {owner = owner} {brought = b} {more = later} {notes = ns} {others = more_ns} {chains = cs} {log = log} fetch goes rest) (all_go_on {brought = c} {more = after} {notes = os} {others = more_os} {chains = ds} {log = stand} its also others) same =
      let w = fetch_one s start owner later after fetch its (goes_behind log later goes) (goes_behind stand after also) same in
      let more = all_one rest others w.2 in (
        ap (λ (x : List Note). x ++ more_ns) w.0 ∙ ap (λ (x : List Note). os ++ x) more.0,
        ap (λ (x : LogEnd). chains_of owner x ++ cs) w.1 ∙ ap (λ (x : List Chain). chains_of owner stand ++ x) more.1,
        more.2,
      )

pub fetch_is_deterministic : FetchIsDeterministic
fetch_is_deterministic s start owners brought notes others chains also end stand fetches again = all_one s start fetches again refl

-- ---- the snapshot

abbrev LoadsHere : LoadEnd → List Brought → Type 0
LoadsHere (LoadWants key) more = more ≡ []
LoadsHere (Loaded basis) more = Unit {0}

load_one : {todo : List (SnapshotPart × Key)} {read : List (List ℕ)} {b c : List Brought} {e f : LoadEnd} (m l : List Brought) → Loads todo read b e → Loads todo read c f → LoadsHere e m → LoadsHere f l → b ++ m ≡ c ++ l
    → (e ≡ f) × (m ≡ l)
load_one m l (loaded {read = read} b are) (loaded c also) h g same = (ap (λ (x : Basis). Loaded (Some x)) (snapshot_is_unique read c b also are), same)
load_one m l (loaded b are) (no_whole not) h g same = absurd (not b are)
load_one m l (no_whole not) (loaded b are) h g same = absurd (not b are)
load_one m l (no_whole not) (no_whole nor) h g same = (refl, same)
load_one m l wants wants h g same = (refl, h ∙ sym g)
load_one m l (wants {key = key}) (misses miss) h g same = absurd (nothing_more m (BlockOf key (Err miss)) l h same)
load_one m l (wants {key = key}) (garbled bytes none) h g same = absurd (nothing_more m (BlockOf key (Ok bytes)) l h same)
load_one m l (wants {key = key}) (goes_on {more = later} bytes named names rest) h g same = absurd (nothing_more m (BlockOf key (Ok bytes)) (later ++ l) h same)
load_one m l (misses {key = key} miss) wants h g same = absurd (nothing_more l (BlockOf key (Err miss)) m g (sym same))
load_one m l (misses miss) (misses lost) h g same = (refl, same_rest _ _ m l same)
load_one m l (misses {key = key} miss) (garbled bytes none) h g same = absurd (came_or_not key miss bytes (same_first _ _ m l same))
load_one m l (misses {key = key} miss) (goes_on {more = later} bytes named names rest) h g same = absurd (came_or_not key miss bytes (same_first _ _ m (later ++ l) same))
load_one m l (garbled {key = key} bytes none) wants h g same = absurd (nothing_more l (BlockOf key (Ok bytes)) m g (sym same))
load_one m l (garbled {key = key} bytes none) (misses miss) h g same = absurd (came_or_not key miss bytes (sym (same_first _ _ m l same)))
load_one m l (garbled bytes none) (garbled other nor) h g same = (refl, same_rest _ _ m l same)
load_one m l (garbled {part = part} {key = key} bytes none) (goes_on {more = later} other named names rest) h g same =
    absurd (none named (subst (λ (x : List ℕ). NamesParts part x named) (sym (same_block key bytes other (same_first _ _ m (later ++ l) same))) names))
load_one m l (goes_on {key = key} {more = later} bytes named names rest) wants h g same = absurd (nothing_more l (BlockOf key (Ok bytes)) (later ++ m) g (sym same))
load_one m l (goes_on {key = key} {more = later} bytes named names rest) (misses miss) h g same = absurd (came_or_not key miss bytes (sym (same_first _ _ (later ++ m) l same)))
load_one m l (goes_on {part = part} {key = key} {more = later} bytes named names rest) (garbled other none) h g same =
    absurd (none named (subst (λ (x : List ℕ). NamesParts part x named) (same_block key bytes other (same_first _ _ (later ++ m) l same)) names))
load_one m l (goes_on {part = part} {key = key} {todo = todo} {read = read} {more = later} bytes named names rest) (goes_on {more = after} {end = f} other others also its) h g same =
    let one : bytes ≡ other = same_block key bytes other (same_first _ _ (later ++ m) (after ++ l) same) in
    let list : named ≡ others = names_are_unique part bytes named others names (subst (λ (x : List ℕ). NamesParts part x others) (sym one) also) in
    load_one m l rest (subst (λ (x : List (SnapshotPart × Key)). Loads (x ++ todo) (read ++ bytes ∷ []) after f) (sym list) (subst (λ (x : List ℕ). Loads (others ++ todo) (read ++ x ∷ []) after f) (sym one) its))
    h g (same_rest _ _ (later ++ m) (after ++ l) same)

root_one : {root : Option Key} {b c : List Brought} {e f : LoadEnd} (m l : List Brought) → LoadsFor root b e → LoadsFor root c f → LoadsHere e m → LoadsHere f l → b ++ m ≡ c ++ l → (e ≡ f) × (m ≡ l)
root_one m l nothing_to_load nothing_to_load h g same = (refl, same)
root_one m l (snapshot_to_load loads) (snapshot_to_load also) h g same = load_one m l loads also h g same

loads_alone : (e : LoadEnd) → LoadsHere e []
loads_alone (LoadWants key) = refl
loads_alone (Loaded basis) = tt

-- what was brought tells what loading came to
pub load_is_deterministic : (root : Option Key) (brought : List Brought) (e f : LoadEnd) → LoadsFor root brought e → LoadsFor root brought f → e ≡ f
load_is_deterministic root brought e f loads again = (root_one [] [] loads again (loads_alone e) (loads_alone f) refl).0

-- ---- the refresh

same_key : (a b : Key) → LoadWants a ≡ LoadWants b → a ≡ b
same_key a b e = cc e

same_basis : (a b : Option Basis) → Loaded a ≡ Loaded b → a ≡ b
same_basis a b e = cc e

wants_or_not : (a : Key) (b : Option Basis) → LoadWants a ≡ Loaded b → ⊥
wants_or_not a b e = cc e

module _ (s : Standing) where
  execution_one : {b c : List Brought} {ns os : List Note} {given also : Refresh} {e f : RefreshEnd} → Refreshes s b ns given e → Refreshes s c os also f → b ≡ c → (ns ≡ os) × (given ≡ also) × (e ≡ f)
  execution_one (loading {brought = b} {key = key} loads) (loading {brought = c} {key = other} its) same =
      let w = root_one [] [] loads its refl refl (append-nil b ∙ same ∙ sym (append-nil c)) in
      (refl, refl, ap (λ (k : Key). Needs (Content k)) (same_key key other w.0))
  execution_one (loading {brought = b} {key = key} loads) (fetching {loaded = c} {brought = d} basis its fetches) same =
      let w = root_one [] d loads its refl tt (append-nil b ∙ same) in absurd (wants_or_not key basis w.0)
  execution_one (fetching {loaded = b} {brought = d} basis loads fetches) (loading {brought = c} {key = key} its) same =
      let w = root_one d [] loads its tt refl (same ∙ sym (append-nil c)) in absurd (wants_or_not key basis (sym w.0))
  execution_one (fetching {loaded = b} {brought = d} {chains = cs} basis loads fetches) (fetching {loaded = c} {brought = x} {notes = os} {chains = ds} {end = f} other its others) same =
      let w = root_one d x loads its tt tt same in
      let one : basis ≡ other = same_basis basis other w.0 in
      let rest = all_one s (start_of s (counting s.floor basis)) fetches (subst (λ (o : Option Basis). FetchesAll (record { standing = s; start = start_of s (counting s.floor o) }) s.view.members x os ds f) (sym one) others) w.1 in
      (rest.0, given_one (counting s.floor basis) (counting s.floor other) cs ds (ap (counting s.floor) one) rest.1, rest.2)
    where
      given_one : (o p : Option Basis) (chains others : List Chain) → o ≡ p → chains ≡ others
          → (let g : Refresh = record { started = start_of s o; chains = chains; basis = o } in g) ≡ (let g : Refresh = record { started = start_of s p; chains = others; basis = p } in g)
      given_one o p chains others e g = λ i. record { started = start_of s (e i); chains = g i; basis = e i }

pub refresh_is_deterministic : RefreshIsDeterministic
refresh_is_deterministic s brought notes others given also end stand refreshed again = execution_one s refreshed again refl
