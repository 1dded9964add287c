-- The step is total: each line has an outcome in each world in which the invariant holds, whichever ghost state fits it.
use Rattle.std.proofs.Common.{◌≡◌, ◌≢◌, ℕ, ◌+◌, Bool, true, false, List, [], ◌∷◌, length, Option, Some, None, refl, sym, ◌∙◌, subst}
use Rattle.std.specs.Prelude.{IfSome, MatchBool, nat_lt, sum_by}
use Rattle.dhash_model.specs.Signed.{hss_judged}
use Rattle.script_driver.specs.Run.{Outcome, Goes, Ends, Refuses, Exceeds, Ran, Runs, behind, ended_run, limited, refused, shown}
use Rattle.script_driver.specs.Seen.{HasGhostState, SeenStep, seen}
use Rattle.script_model.specs.declared.command.Command.{Command}
use Rattle.script_model.specs.declared.command.Command.TheVariants as command
use Rattle.script_model.specs.Lines.{command_of}
use Rattle.world_model.specs.Calls.{sending_of}
use Rattle.world_model.specs.Faults.{damage_line, lose_line, node_named}
use Rattle.world_model.specs.Logs.{Played, at_line, keep_line, keys_of}
use Rattle.world_model.specs.Ring.{JoinLine, RingLine, stop_line}
use Rattle.world_model.specs.Rounds.{RoundLine}
use Rattle.world_model.specs.Shows.{Shows, show_line}
use Rattle.world_model.specs.Step.{Does, IvyStep, MayDo, MayDoFirst, WithinLimit, is_end, most_bytes}
use Rattle.world_model.specs.GhostState.{GhostState}
use Rattle.world_model.specs.World.{World, participant, session_named, view_named}
use Rattle.world_laws.specs.Invariant.{Invariant}
use Rattle.world_laws.specs.Laws.{EachLineIsTotal, EachScriptHasARun, LinesKeep}
use Rattle.world_laws.proofs.ExistingCalls.{IsSeen, as_line, finish_line, open_line, step_line}
use Rattle.world_laws.proofs.RecordsTold.{records_told}
use Rattle.world_laws.proofs.ExistingLines.{by_function, log_line, restart_line, untold, use_line_seen, view_line}
use Rattle.world_laws.proofs.ExistingRepairs.{round_line}
use Rattle.world_laws.proofs.ExistingRing.{join_line, ring_line}
use Rattle.world_laws.proofs.ExistingSnaps.{snap_line}
use Rattle.world_laws.proofs.LineFits.{Fits, command_fits}

pub command_does : (w : World) (st : GhostState) → Invariant (w, st) → (c : Command) → Fits c → IsSeen w (λ su out. Does hss_judged (w, su) c out)
command_does w st keeps (command.Ring nodes replicas) fits = untold w (RingLine w nodes replicas) (ring_line w nodes replicas)
command_does w st keeps (command.Log log id seed sets) fits = log_line w st keeps log id seed sets
command_does w st keeps (command.View view [] former) fits = absurd (fits refl)
command_does w st keeps (command.View view (m ∷ ms) former) fits = view_line w st keeps view m ms (keys_of w (m ∷ ms)) (keys_of w former) refl
command_does w st keeps (command.Use log view) fits = use_line_seen w st (participant w log) (view_named w view)
command_does w st keeps (command.At sec nsec) fits = by_function w (at_line w sec nsec)
command_does w st keeps (command.As log pieces) fits = as_line w st keeps log pieces (sending_of w log pieces) refl
command_does w st keeps (command.Open session log pieces) fits = open_line w st keeps session (sending_of w log pieces)
command_does w st keeps (command.Step session count) fits = step_line w st keeps session count (session_named w session) refl
command_does w st keeps (command.Finish session) fits = finish_line w st keeps session (session_named w session) refl
command_does w st keeps (command.Join number) fits = untold w (JoinLine hss_judged w number w.replicas) (join_line w st keeps number w.replicas refl)
command_does w st keeps (command.Stop node) fits = by_function w (stop_line w (node_named w node))
command_does w st keeps command.Round fits = untold w (RoundLine hss_judged w w.replicas) (round_line w st keeps w.replicas refl)
command_does w st keeps (command.Lose count) fits = by_function w (lose_line w count)
command_does w st keeps (command.Damage node key offset byte) fits = by_function w (damage_line w node key offset byte)
command_does w st keeps (command.Snap log) fits = snap_line w st keeps log (participant w log) refl
command_does w st keeps (command.Restart log) fits = restart_line w st keeps log (participant w log) refl
command_does w st keeps (command.Keep log count new) fits = by_function w (keep_line w log count new)
command_does w st keeps (command.Show shown) fits = untold w (Shows w shown) (show_line records_told.0 w shown, (records_told.0, records_told.1, refl))
command_does w st keeps command.Nothing fits = (Goes w [], λ su is. (Goes (w, su) [], refl, refl))
command_does w st keeps command.End fits = (Ends, λ su is. (Ends, refl, refl))

-- ---- lines

may_do : (w : World) (st : GhostState) → Invariant (w, st) → (o : Option Command) → ((c : Command) → o ≡ Some c → Fits c) → IsSeen w (λ su out. MayDo (w, su) o out)
may_do w st keeps None fits = (Refuses, λ su is. (Refuses, refl, refl))
may_do w st keeps (Some c) fits = command_does w st keeps c (fits c refl)

of_both : (w : World) (full : Bool) (May : GhostState → Outcome Played → Type 0) → IsSeen w May → IsSeen w (λ su out. MatchBool full (out ≡ Exceeds) (May su out))
of_both w true May some = (Exceeds, λ su is. (Exceeds, refl, refl))
of_both w false May some = some

within : (w : World) (st : GhostState) → Invariant (w, st) → (o : Option Command) → ((c : Command) → o ≡ Some c → Fits c) → IsSeen w (λ su out. WithinLimit (w, su) o out)
within w st keeps o fits = of_both w (nat_lt most_bytes (sum_by (λ b. length b) w.met)) (λ su out. MayDo (w, su) o out) (may_do w st keeps o fits)

or_end : (w : World) (ends : Bool) (May : GhostState → Outcome Played → Type 0) → IsSeen w May → IsSeen w (λ su out. MatchBool ends (out ≡ Ends) (May su out))
or_end w true May some = (Ends, λ su is. (Ends, refl, refl))
or_end w false May some = some

may_first : (w : World) (st : GhostState) → Invariant (w, st) → (o : Option Command) → ((c : Command) → o ≡ Some c → Fits c) → IsSeen w (λ su out. MayDoFirst (w, su) o out)
may_first w st keeps o fits = or_end w (is_end o) (λ su out. WithinLimit (w, su) o out) (within w st keeps o fits)

pub each_line_is_total : EachLineIsTotal
each_line_is_total w line ghost_state = may_first w ghost_state.0 ghost_state.1 (command_of line) (λ c is. command_fits line c is)

-- ---- scripts

abbrev Run : World → ℕ → List (List ℕ) → Type 0
Run w number lines = (ran : Ran) × Runs (SeenStep Invariant IvyStep) w number lines ran

-- where a line goes on, some ghost state fits the world that it leads to
goes_to : (w : World) (st : GhostState) (line : List ℕ) (next : World) (output : List ℕ) → LinesKeep → Invariant (w, st) → (o : Outcome Played) → IvyStep (w, st) line o → Goes next output ≡ seen o → HasGhostState Invariant next
goes_to w st line next output lines keeps (Goes then_is text) step e = (then_is.1, subst (λ (v : World). Invariant (v, then_is.1)) (sym (world_is next then_is.0 output text e)) (lines (w, st) then_is line text keeps step))
  where
    world_is : (v u : World) (a b : List ℕ) → Goes v a ≡ Goes u b → v ≡ u
    world_is v u a b h = cc h
goes_to w st line next output lines keeps Ends step e = cc e
goes_to w st line next output lines keeps Refuses step e = cc e
goes_to w st line next output lines keeps Exceeds step e = cc e

pub each_script_has_a_run : LinesKeep → EachScriptHasARun
unfolding Runs
each_script_has_a_run keep w number [] ghost_state = (refused number, refl)
each_script_has_a_run keep w number (line ∷ lines) ghost_state =
    let does = each_line_is_total w (shown line) ghost_state in
    let o = does.1 ghost_state.0 ghost_state.1 in
    after does.0 does.1 (λ next output is. each_script_has_a_run keep next (number + 1) lines (goes_to w ghost_state.0 (shown line) next output keep ghost_state.1 o.0 o.1 (sym is ∙ o.2)))
  where
    after : (outcome : Outcome World) → SeenStep Invariant IvyStep w (shown line) outcome → ((next : World) (output : List ℕ) → outcome ≡ Goes next output → Run next (number + 1) lines) → Run w number (line ∷ lines)
    after (Goes next output) step later = (let rest = later next output refl in (behind output rest.0, (Goes next output, step, (rest.0, rest.1, refl))))
    after Ends step later = (ended_run, (Ends, step, refl))
    after Refuses step later = (refused number, (Refuses, step, refl))
    after Exceeds step later = (limited number, (Exceeds, step, refl))
