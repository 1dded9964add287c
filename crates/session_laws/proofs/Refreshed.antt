-- A whole refresh: what was brought of a snapshot has no heads, so it brings what its fetch brings.
use Rattle.std.proofs.Common.{◌≡◌, ℕ, List, [], ◌∷◌, ◌++◌, map, filter, Ok, Err, refl, sym, subst}
use Rattle.std.specs.Prelude.{Option}
use Rattle.std.proofs.lemmas.List.Elements.{Contains-append_right}
use Rattle.ivy_base.specs.declared.key.Key.{Key}
use Rattle.tree_model.specs.Tree.{same_key}
use Rattle.log_model.specs.Vector.{Stamp}
use Rattle.log_model.proofs.Lists.{here, there}
use Rattle.agent_model.specs.Standing.{Refresh}
use Rattle.agent_model.specs.Candidates.{Brings}
use Rattle.snapshot_model.specs.Reading.{SnapshotPart}
use Rattle.session_model.specs.Brought.{Brought, HeadsOf, BlockOf, all_heads, heads_at}
use Rattle.session_model.specs.Refreshing.{Loads, LoadsFor, LoadEnd, counting, start_of}
use Rattle.session_model.specs.Refreshing.Loads.{loaded, no_whole, wants, misses, garbled, goes_on}
use Rattle.session_model.specs.Refreshing.LoadsFor.{none as nothing_to_load, some as snapshot_to_load}
use Rattle.session_model.specs.Refreshing.Refreshes.{fetching}
use Rattle.session_laws.specs.Bringing.{RefreshedIsBrought, FloorIsReached, DoneIsNotBehind}
use Rattle.session_laws.proofs.OwnParts.{HasNoHeads, none_yet, block_first}
use Rattle.session_laws.proofs.NotBehind.{fetch_not_behind}
use Rattle.session_laws.proofs.AllLogs.{fetched_is_brought, floor_is_brought}

loads_no_heads : {todo : List (SnapshotPart × Key)} {read : List (List ℕ)} {brought : List Brought} {end : LoadEnd} → Loads todo read brought end → HasNoHeads brought
loads_no_heads (loaded b are) = none_yet
loads_no_heads (no_whole none) = none_yet
loads_no_heads wants = none_yet
loads_no_heads (misses {key = key} miss) = block_first key (Err miss) [] none_yet
loads_no_heads (garbled {key = key} bytes none) = block_first key (Ok bytes) [] none_yet
loads_no_heads (goes_on {key = key} {more = more} bytes named names rest) = block_first key (Ok bytes) more (loads_no_heads rest)

no_heads : {root : Option Key} {brought : List Brought} {end : LoadEnd} → LoadsFor root brought end → HasNoHeads brought
no_heads nothing_to_load = none_yet
no_heads (snapshot_to_load loads) = loads_no_heads loads

-- blocks in front change no heads
behind_blocks : (blocks brought : List Brought) → HasNoHeads blocks → all_heads (blocks ++ brought) ≡ all_heads brought
behind_blocks [] brought none = refl
behind_blocks (HeadsOf o came ∷ blocks) brought none = absurd (none o came (here (HeadsOf o came) blocks))
behind_blocks (BlockOf key came ∷ blocks) brought none = behind_blocks blocks brought (λ o heads c. none o heads (there (BlockOf key came) blocks (HeadsOf o heads) c))

same_heads : (blocks brought : List Brought) → HasNoHeads blocks → heads_at (blocks ++ brought) ≡ heads_at brought
same_heads blocks brought none = λ i log. map (λ e. e.1) (filter (λ e. same_key e.0 log) (behind_blocks blocks brought none i))

pub refreshed_is_brought : RefreshedIsBrought
refreshed_is_brought met s knew _ notes _ apart well known stand from are (fetching {loaded = blocks} {brought = brought} {chains = chains} basis loads fetches) =
    let given : Refresh = record { started = start_of s (counting s.floor basis); chains = chains; basis = counting s.floor basis } in
    subst (λ (heads : Key → List Stamp). Brings (record { heads = heads; met = met; standing = s; knew = knew }) s.view given) (sym (same_heads blocks brought (no_heads loads)))
    (fetched_is_brought met s (start_of s (counting s.floor basis)) knew brought notes chains (counting s.floor basis) apart well known stand from
    (λ key bytes c. are key bytes (Contains-append_right blocks brought (BlockOf key (Ok bytes)) c)) fetches)

pub floor_is_reached : FloorIsReached
floor_is_reached met s knew _ notes _ apart well known stand from are (fetching {loaded = blocks} {brought = brought} {chains = chains} basis loads fetches) owner t member is far =
    floor_is_brought met s (start_of s (counting s.floor basis)) knew brought notes chains apart well known stand from (λ key bytes c. are key bytes (Contains-append_right blocks brought (BlockOf key (Ok bytes)) c)) fetches owner t member is far

pub done_is_not_behind : DoneIsNotBehind
done_is_not_behind met s h knew _ notes _ apart well known stand from are (fetching {loaded = blocks} {brought = brought} {chains = chains} basis loads fetches) same sorted =
    fetch_not_behind met s (start_of s (counting s.floor basis)) knew brought notes chains (counting s.floor basis) h apart well known stand from
    (λ key bytes c. are key bytes (Contains-append_right blocks brought (BlockOf key (Ok bytes)) c)) fetches same sorted
