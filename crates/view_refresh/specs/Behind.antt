-- After which parts of a trail a refresh in code may be so.
use Rattle.std.specs.Prelude.{◌≡◌, List, [], ◌++◌, Option, Some, None, option_map}
use Rattle.dht_ids.specs.declared.ask.Heard.{Heard}
use Rattle.dht_ids.specs.declared.peer.Peer.{Peer}
use Rattle.dhash_client.specs.GetHead.{Judges}
use Rattle.turn_model.specs.Basis.{Basis}
use Rattle.fs_tree.specs.declared.basis.Basis.{Basis as Kept}
use Rattle.fs_tree.specs.Bases.{basis_of}
use Rattle.agent_model.specs.Standing.{Standing}
use Rattle.session_model.specs.Brought.{Part, brought_in}
use Rattle.session_model.specs.Refreshing.{Loaded, LoadsFor, counting, start_of}
use Rattle.snapshot_loading.specs.Loading.{brought_to}
use Rattle.log_fetch.specs.Fetching.{Fetching, FetchIsAfter}
use Rattle.log_fetch.specs.Gets.{GetIsAfter}
use Rattle.log_fetch.specs.Standings.{standing_of}
use Rattle.view_refresh.specs.declared.refresh.Loading.{Loading}
use Rattle.view_refresh.specs.declared.refresh.State.{State}
use Rattle.view_refresh.specs.declared.refresh.State.TheVariants as state
use Rattle.view_refresh.specs.States.{Refreshing, IsSound}

-- The snapshot of that standing is loaded, which was brought all these parts so far.
pub record IsLoadingFor (s : Standing) (parts : List Part) (l : Loading) : Type 0 where
  pub root : s.to_load ≡ Some l.load.root
  pub standing : standing_of l.standing ≡ record s { to_load = None; pending = [] }
  pub brought : brought_in parts ≡ brought_to l.load

-- The logs are fetched after what was loaded, over the basis that counts.
pub record IsFetchingOver {J : Type 0} (judges : Judges J) (s : Standing) (parts : List Part) (current : List Heard) (basis : Option Kept)
    (f : Fetching J) : Type 0 where
  pub loaded : List Part
  pub fetched : List Part
  pub parts_are : parts ≡ loaded ++ fetched
  pub whole : Option Basis
  pub loads : LoadsFor s.to_load (brought_in loaded) (Loaded whole)
  pub counts : option_map basis_of basis ≡ counting s.floor whole
  pub fetch : FetchIsAfter judges s (start_of s (counting s.floor whole)) fetched current f

abbrev pub IsAt : {J : Type 0} → Judges J → List Peer → Standing → List Part → List Heard → State J → Type 0
IsAt judges entries s parts current (state.Loading l) = IsLoadingFor s parts l × (current ≡ [])
IsAt judges entries s parts current (state.Asking l x) = IsLoadingFor s parts l × GetIsAfter judges entries current x.get
IsAt judges entries s parts current (state.Fetching basis f) = IsFetchingOver judges s parts current basis f
IsAt judges entries s parts current state.Over = ⊥

-- It may be so, of a refresh for that standing, after these parts and the asks of the get on its way.
pub record RefreshIsAfter {J : Type 0} (judges : Judges J) (s : Standing) (parts : List Part) (current : List Heard)
    (r : Refreshing J) : Type 0 where
  pub pending : r.pending ≡ s.pending
  pub at : IsAt judges r.entries s parts current r.state
  pub sound : IsSound r.judge r.replicas r.entries r.state
