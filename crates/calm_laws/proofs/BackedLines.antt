-- Each line of a calm script leaves it so.
use Rattle.std.proofs.Common.{◌≡◌, ⊎_elim, ℕ, List, Some, refl, sym, ◌∙◌, subst}
use Rattle.ivy_base.specs.Naming.{IsCollisionFree}
use Rattle.dhash_model.specs.Signed.{hss_judged}
use Rattle.script_driver.specs.Run.{Ends, Goes, Outcome}
use Rattle.script_model.specs.Lines.{command_of}
use Rattle.script_model.specs.declared.command.Command.{Command}
use Rattle.script_model.specs.declared.command.Command.TheVariants as command
use Rattle.world_model.specs.Calls.{sending_of}
use Rattle.world_model.specs.Logs.{Played, keys_of, use_line}
use Rattle.world_model.specs.Step.{Does, IvyStep}
use Rattle.world_model.specs.World.{named_bytes, participant, session_named, view_named}
use Rattle.calm_laws.specs.Calm.{Calmly, IsCalm, IsQuiet, Since}
use Rattle.calm_laws.specs.Calm.Calmly.{more as calmly_more, none as calmly_none}
use Rattle.world_laws.specs.Invariant.{Invariant}
use Rattle.world_laws.specs.Laws.{IsStill, LinesKeep}
use Rattle.world_laws.proofs.AllLines.{does_line}
use Rattle.calm_laws.proofs.CalmRuns.{some_command}
use Rattle.world_laws.proofs.LineFits.{Fits, command_fits}
use Rattle.world_laws.proofs.Lines.{ToSuch}
use Rattle.world_laws.proofs.Still.{still_lines}
use Rattle.calm_laws.proofs.CallLines.{as_so, finish_so, open_so, step_so}
use Rattle.calm_laws.proofs.KeysStay.{command_stays, names_stay}
use Rattle.calm_laws.proofs.LogLines.{log_so}
use Rattle.calm_laws.proofs.RestartLines.{restart_so}
use Rattle.calm_laws.proofs.RingLines.{calm_kind, ring_so}
use Rattle.calm_laws.proofs.SnapLines.{snap_so}
use Rattle.calm_laws.proofs.BackedSteps.{met_apart}
use Rattle.calm_laws.proofs.UseLines.{IsThenBacked, use_so}
use Rattle.calm_laws.proofs.ViewLines.{view_so}
use Rattle.calm_laws.proofs.BackedWorlds.{IsBackedWorld}

-- ---- lines that show something, or set the moment

still_so : (w next : Played) (c : Command) (output : List ℕ) → IsStill c → Does hss_judged w c (Goes next output) → IsBackedWorld w.0 w.1 → IsBackedWorld next.0 next.1
still_so w next c output still does h =
    let same = still_lines w next c output still does in
    subst (λ st. IsBackedWorld next.0 st) (sym same.0) (subst (λ v. IsBackedWorld v w.1) (sym same.1) (record { nodes = h.nodes; agents = h.agents; sessions = h.sessions; put_met = h.put_met; received = h.received }))

-- ---- all of them

module _ (w next : Played) (output : List ℕ) (keeps : Invariant w) (kept : Invariant next) (apart : IsCollisionFree (named_bytes next.0)) (h : IsBackedWorld w.0 w.1) where
  such : (o : Outcome Played) → ToSuch IsThenBacked o → o ≡ Goes next output → IsBackedWorld next.0 next.1
  such o s e = (subst (ToSuch IsThenBacked) e s) kept apart

  pub command_so : (c : Command) → IsQuiet c → Fits c → Does hss_judged w c (Goes next output) → IsBackedWorld next.0 next.1
  command_so (command.Log log id seed sets) quiet fits does = log_so w keeps log id seed sets fits next output does (met_apart 0 next.0 apart) h
  command_so (command.View view members former) quiet fits does = view_so w view (keys_of w.0 members) (keys_of w.0 former) next output does h
  command_so (command.Use log view) quiet fits does = such (use_line w log view) (use_so w keeps log (participant w.0 log) (view_named w.0 view) refl h) (sym does)
  command_so (command.At sec nsec) quiet fits does = still_so w next (command.At sec nsec) output tt does h
  command_so (command.As log pieces) quiet fits does = as_so w keeps h log pieces (sending_of w.0 log pieces) refl next output does apart
  command_so (command.Open session log pieces) quiet fits does = open_so w keeps h session (sending_of w.0 log pieces) next output does
  command_so (command.Step session count) quiet fits does = step_so w keeps h session count (session_named w.0 session) refl next output does apart
  command_so (command.Finish session) quiet fits does = finish_so w keeps h session (session_named w.0 session) refl next output does apart
  command_so (command.Snap log) quiet fits does = such (Goes next output) (snap_so w keeps log (participant w.0 log) refl (Goes next output) does h) refl
  command_so (command.Restart log) quiet fits does = such (Goes next output) (restart_so w keeps log (participant w.0 log) refl (Goes next output) does h) refl
  command_so (command.Show shown) quiet fits does = still_so w next (command.Show shown) output tt does h
  command_so command.Nothing quiet fits does = still_so w next command.Nothing output tt does h
  command_so command.End quiet fits does = absurd (goes_or_ends does)
    where
      goes_or_ends : Goes next output ≡ Ends → ⊥
      goes_or_ends e = cc e
  command_so _ quiet fits does = absurd quiet

-- ---- runs

-- a line of a calm script
pub calm_line : {r : ℕ} {since after : Since} (w next : Played) (output : List ℕ) (c : Command) → Invariant w → Invariant next → IsCollisionFree (named_bytes next.0) → IsCalm w.0 r since c after → Fits c → Does hss_judged w c (Goes next output) → IsBackedWorld w.0 w.1 → IsBackedWorld next.0 next.1
calm_line w next output c keeps kept apart calm fits does h = ⊎_elim (λ quiet. command_so w next output keeps kept apart h c quiet fits does) (λ ring. ring_so w next output c keeps ring does h) (calm_kind calm)

-- what such a line's command does
pub calm_does : (v mid : Played) (line output : List ℕ) (c : Command) → command_of line ≡ Some c → IvyStep v line (Goes mid output) → Fits c × Does hss_judged v c (Goes mid output)
calm_does v mid line output c is step =
    let done = does_line v mid output (command_of line) step in
    let same = some_command done.0 c (sym done.1 ∙ is) in
    (subst Fits same (command_fits line done.0 done.1), subst (λ d. Does hss_judged v d (Goes mid output)) same done.2)

module _ (lines_keep : LinesKeep) where
  -- names that don't collide in the end didn't before
  pub apart_first : {r : ℕ} {v w : Played} {since after : Since} {lines : List (List ℕ)} → Calmly r v since lines w after → Invariant v → IsCollisionFree (named_bytes w.0) → IsCollisionFree (named_bytes v.0)
  apart_first calmly_none keeps apart = apart
  apart_first (calmly_more {w = v} {mid = mid} {line = line} c output is calm step rest) keeps apart =
      names_stay v mid line output keeps step (command_stays v mid output keeps c (calm_does v mid line output c is step).1) (apart_first rest (lines_keep v mid line output keeps step) apart)

  pub runs_backed : {r : ℕ} {v w : Played} {since after : Since} {lines : List (List ℕ)} → Calmly r v since lines w after → Invariant v → IsCollisionFree (named_bytes w.0) → IsBackedWorld v.0 v.1 → IsBackedWorld w.0 w.1
  runs_backed calmly_none keeps apart h = h
  runs_backed (calmly_more {w = v} {mid = mid} {line = line} c output is calm step rest) keeps apart h =
      let done = calm_does v mid line output c is step in
      let kept = lines_keep v mid line output keeps step in
      runs_backed rest kept apart (calm_line v mid output c keeps kept (apart_first rest kept apart) calm done.0 done.1 h)
