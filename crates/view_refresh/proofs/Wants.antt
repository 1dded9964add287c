-- The block that is wanted by what was brought is the one that a refresh is to get next.
use Rattle.std.proofs.Common.{◌≡◌, false, List, Some, None, sym, ap, ◌∙◌}
use Rattle.ivy_base.specs.declared.key.Key.{Key}
use Rattle.dht_ids.specs.declared.ask.Heard.{Heard}
use Rattle.dhash_client.specs.GetHead.{Judges}
use Rattle.agent_model.specs.Standing.{Standing}
use Rattle.session_model.specs.Brought.{Content, Part, brought_in}
use Rattle.session_model.specs.Refreshing.{Needs, RefreshEnd, counting, start_of}
use Rattle.session_laws.proofs.OneRefresh.{refresh_is_deterministic}
use Rattle.view_refresh.specs.declared.refresh.State.{State}
use Rattle.view_refresh.specs.declared.refresh.State.TheVariants as state
use Rattle.view_refresh.specs.States.{Refreshing, IsSound, awaited_in, failed_in, wanted_in}
use Rattle.view_refresh.specs.Behind.{IsAt}
use Rattle.view_refresh.specs.Steps.{RefreshWants, Stands}
use Rattle.view_refresh.proofs.Fetches.{end_in, free_wants, stands}
use Rattle.view_refresh.proofs.Standing.{fetch_stands, load_stands}

-- ---- it wants the block that is wanted

same_content : (key other : Key) → Needs (Content key) ≡ Needs (Content other) → key ≡ other
same_content key other e = cc e

some_or_none : {T : Type 0} (x : T) → Some x ≡ None → ⊥
some_or_none x e = cc e

module _ {J : Type 0} (judges : Judges J) (r : Refreshing J) (s : Standing) (parts : List Part) (current : List Heard) (key : Key) (needs : Stands s parts (Needs (Content key))) where
  one_stand : (end : RefreshEnd) → Stands s parts end → end ≡ Needs (Content key)
  one_stand end h = (refresh_is_deterministic s (brought_in parts) h.notes needs.notes h.given needs.given end (Needs (Content key)) h.refreshes needs.refreshes).2

  wants_in : (st : State J) → IsAt judges r.entries s parts current st → IsSound r.judge r.replicas r.entries st → awaited_in st ≡ None → failed_in st ≡ false → wanted_in st ≡ Some key
  wants_in (state.Loading l) at wants free un =
      wants.wanted ∙ ap (λ (k : Key). Some k) (same_content wants.key key (one_stand (Needs (Content wants.key)) (load_stands s parts l at.0 wants wants.key wants.wanted)))
  wants_in (state.Asking l x) at sound free un = absurd (some_or_none (x.node, x.question) (sym sound.kept ∙ free))
  wants_in (state.Fetching basis f) at sound free un =
      free_wants f.judge f.replicas f.state key at.fetch.sound un free
      (one_stand (end_in f.state) (fetch_stands judges s parts current basis f at (end_in f.state) (stands judges s (start_of s (counting s.floor at.whole)) f at.fetch un)))
  wants_in state.Over at sound free un = absurd at

pub refresh_wants : {J : Type 0} (judges : Judges J) → RefreshWants judges
refresh_wants judges r s parts current key h free un needs = wants_in judges r s parts current key needs r.state h.at h.sound free un
