-- What holds of every refresh.
use Rattle.std.proofs.Common.{◌≡◌, Bool, true, false, List, Option, Some, None, refl}
use Rattle.ivy_base.specs.declared.key.Key.{Key}
use Rattle.ivy_base.specs.declared.key.PubKey.{PubKey}
use Rattle.dht_ids.specs.declared.ask.Heard.{Heard}
use Rattle.dhash_client.specs.GetHead.{Judges}
use Rattle.fs_tree.specs.declared.basis.Basis.{Basis as Kept}
use Rattle.agent_model.specs.Standing.{Standing}
use Rattle.session_model.specs.Brought.{Content, Part}
use Rattle.session_model.specs.Refreshing.{FailsBy, Needs, RefreshEnd, counting, start_of}
use Rattle.log_fetch.specs.declared.fetch.State.{State as FetchState}
use Rattle.log_fetch.specs.declared.fetch.State.TheVariants as fetch
use Rattle.log_fetch.specs.Fetching.{Fetching, is_failed, is_miss}
use Rattle.log_fetch.specs.Gathering.{block_wanted, heads_wanted}
use Rattle.view_refresh.specs.declared.refresh.State.{State}
use Rattle.view_refresh.specs.declared.refresh.State.TheVariants as state
use Rattle.view_refresh.specs.States.{Refreshing, IsSound, failed_in}
use Rattle.view_refresh.specs.Behind.{IsAt, IsFetchingOver}
use Rattle.view_refresh.specs.Steps.{RefreshStands, Stands}
use Rattle.view_refresh.proofs.Fetches.{end_in, fails_by, stands}
use Rattle.view_refresh.proofs.Reaching.{end_for}
use Rattle.view_refresh.proofs.Standing.{fetch_stands, load_stands}

-- ---- it stands somehow, and has failed exactly where it missed something

no_miss_for : (heads : Option PubKey) (block : Option Key) → is_miss (end_for heads block) ≡ false
no_miss_for (Some owner) block = refl
no_miss_for None (Some key) = refl
no_miss_for None None = refl

no_miss_in : {J : Type 0} (st : FetchState J) → is_miss (end_in st) ≡ false
no_miss_in (fetch.Free g) = no_miss_for (heads_wanted g.stage) (block_wanted g.stage)
no_miss_in (fetch.Asking g x) = no_miss_for (heads_wanted g.stage) (block_wanted g.stage)
no_miss_in (fetch.Ended fetched) = refl
no_miss_in fetch.Over = refl

module _ {J : Type 0} (judges : Judges J) (r : Refreshing J) (s : Standing) (parts : List Part) (current : List Heard) where
  fetch_stands_so : (basis : Option Kept) (f : Fetching J) → IsFetchingOver judges s parts current basis f → (failed : Bool) → is_failed f ≡ failed → (end : RefreshEnd) × Stands s parts end × (is_miss end ≡ failed)
  fetch_stands_so basis f over false un =
      (end_in f.state, fetch_stands judges s parts current basis f over (end_in f.state) (stands judges s (start_of s (counting s.floor over.whole)) f over.fetch un), no_miss_in f.state)
  fetch_stands_so basis f over true failed =
      let w = fails_by judges s (start_of s (counting s.floor over.whole)) f over.fetch failed in (FailsBy w.0, fetch_stands judges s parts current basis f over (FailsBy w.0) w.1, refl)

  stands_in : (st : State J) → IsAt judges r.entries s parts current st → IsSound r.judge r.replicas r.entries st → (end : RefreshEnd) × Stands s parts end × (is_miss end ≡ failed_in st)
  stands_in (state.Loading l) at wants = (Needs (Content wants.key), load_stands s parts l at.0 wants wants.key wants.wanted, refl)
  stands_in (state.Asking l x) at sound = (Needs (Content sound.wants.key), load_stands s parts l at.0 sound.wants sound.wants.key sound.wants.wanted, refl)
  stands_in (state.Fetching basis f) at sound = fetch_stands_so basis f at (is_failed f) refl
  stands_in state.Over at sound = absurd at

pub refresh_stands : {J : Type 0} (judges : Judges J) → RefreshStands judges
refresh_stands judges r s parts current h = stands_in judges r s parts current r.state h.at h.sound
