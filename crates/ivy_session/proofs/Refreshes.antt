-- How a session's refresh stands, in the words of sessions.
use Rattle.std.proofs.Common.{◌≡◌, ℕ, true, false, List, [], Option, Some, None, refl, sym, ap, ◌∙◌}
use Rattle.ivy_base.specs.declared.key.Key.{Key}
use Rattle.dht_ids.specs.declared.judge.Judged.{Judged}
use Rattle.dhash_model.specs.declared.miss.Miss.{Miss}
use Rattle.dhash_client.specs.GetHead.{Judges}
use Rattle.turn_model.specs.Turn.{Asked}
use Rattle.agent_model.specs.Standing.{Refresh, Standing}
use Rattle.session_model.specs.Brought.{Content, WantedOfRing, brought_in}
use Rattle.session_model.specs.Refreshing.{Done, FailsBy, Needs, Note, RefreshEnd, Refreshes}
use Rattle.session_model.specs.Sessions.{Refreshing, Session, Wants}
use Rattle.session_model.specs.Replies.{Asks, said_no_memory}
use Rattle.session_model.specs.Executions.{LacksMemory, ended}
use Rattle.session_laws.proofs.Going.{refresh_begins}
use Rattle.log_fetch.specs.Fetching.{is_miss}
use Rattle.view_refresh.specs.States.{Refreshing as RefreshState, refresh_awaited, refresh_wanted}
use Rattle.view_refresh.specs.Steps.{Stands}
use Rattle.ivy_session.specs.States.{IsRefreshingBy}
use Rattle.ivy_session.specs.Taking.{HasCome, IsFailing}
use Rattle.session_laws.proofs.OneRefresh.{refresh_is_deterministic}
use Rattle.view_refresh.proofs.Laws.{refresh_stands}
use Rattle.view_refresh.proofs.Wants.{refresh_wants}

false_or_true : false ≡ true → ⊥
false_or_true e = cc e

-- what it needs, the session wants
pub wants_so : (s : Session) (want : WantedOfRing) (judged : Key → List ℕ → Option Judged) (replicas : ℕ) → s.stage ≡ Refreshing → Stands s.standing s.parts (Needs want) → Wants judged replicas s want
wants_so s want judged replicas stage needs = (stage, needs.notes, needs.given, needs.refreshes)

-- before anything was brought it has come to something
pub begun_comes : (s : Standing) → (end : RefreshEnd) × Stands s [] end
begun_comes s = let c = refresh_begins s in (c.end, record { notes = c.notes; given = c.given; refreshes = c.refreshes })

module _ {J : Type 0} (judges : Judges J) (s : Session) (r : RefreshState J) where
  pub has_come : IsRefreshingBy judges s r → HasCome s
  has_come h = let w = refresh_stands judges r s.standing s.parts s.current h.after in (w.0, w.1)

  -- it goes on as long as it hasn't failed
  pub fails_not : IsRefreshingBy judges s r → (notes : List Note) (given : Refresh) (miss : Miss) → Refreshes s.standing (brought_in s.parts) notes given (FailsBy miss) → ⊥
  fails_not h notes given miss fails =
      let w = refresh_stands judges r s.standing s.parts s.current h.after in
      let one = refresh_is_deterministic s.standing (brought_in s.parts) w.1.notes notes w.1.given given w.0 (FailsBy miss) w.1.refreshes fails in
      false_or_true (sym h.unfailed ∙ sym w.2 ∙ ap is_miss one.2)

  misses : (end : RefreshEnd) → Stands s.standing s.parts end → is_miss end ≡ true → (miss : Miss) × Stands s.standing s.parts (FailsBy miss)
  misses (Needs want) stands e = absurd (false_or_true e)
  misses (FailsBy miss) stands e = (miss, stands)
  misses Done stands e = absurd (false_or_true e)

  -- where it has failed it missed something
  pub failed_by : IsFailing judges s r → (miss : Miss) × Stands s.standing s.parts (FailsBy miss)
  failed_by h = let w = refresh_stands judges r s.standing s.parts s.current h.after in misses w.0 w.1 (w.2 ∙ h.failed)

  -- where no node is to be heard, it is to get the block that the session wants
  pub wants_block : (key : Key) (judged : Key → List ℕ → Option Judged) (replicas : ℕ) → IsRefreshingBy judges s r → refresh_awaited r ≡ None → Wants judged replicas s (Content key) → refresh_wanted r ≡ Some key
  wants_block key judged replicas h free wants = refresh_wants judges r s.standing s.parts s.current key h.after free h.unfailed (record { notes = wants.1; given = wants.2; refreshes = wants.3 })

-- memory may run out
pub lacks_so : (s : Session) (xid : ℕ) (asked : Asked) → s.stage ≡ Refreshing → HasCome s → Asks s.standing.view s.message xid asked → LacksMemory s (ended s (said_no_memory xid) [] None)
lacks_so s xid asked stage come asks = LacksMemory.lacks come.1.notes [] come.1.given come.0 xid asked stage come.1.refreshes asks come.1.notes refl
