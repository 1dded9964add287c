-- What a line that goes on does; and a command by which no session goes on and no snapshot is made leaves a world in which the invariant
-- holds.
use Rattle.std.proofs.Common.{◌≡◌, ◌⊎◌, inl, inr, ⊎_elim, ℕ, Bool, true, false, List, [], ◌∷◌, Option, Some, None, refl, nat_lt}
use Rattle.std.specs.Prelude.{MatchBool, length, sum_by}
use Rattle.dhash_model.specs.Signed.{hss_judged}
use Rattle.script_driver.specs.Run.{Goes, Ends, Refuses, Exceeds}
use Rattle.script_model.specs.declared.command.Command.{Command}
use Rattle.script_model.specs.declared.command.Command.TheVariants as command
use Rattle.world_model.specs.Logs.{Played}
use Rattle.world_model.specs.Step.{Does, MayDoFirst, WithinLimit, is_end, most_bytes}
use Rattle.world_laws.specs.Invariant.{Invariant}
use Rattle.world_laws.proofs.Lines.{damage_lines_keep, keeper_lines_keep, still_lines_keep, stop_lines_keep}
use Rattle.world_laws.proofs.RingLines.{join_lines_keep, ring_lines_keep, round_lines_keep}
use Rattle.world_laws.proofs.ViewLines.{view_lines_keep}
use Rattle.world_laws.proofs.RestartLines.{restart_lines_keep}
use Rattle.world_laws.proofs.UseLines.{use_lines_keep}
use Rattle.world_laws.proofs.LineFits.{Fits}
use Rattle.world_laws.proofs.Opening.{open_line_keeps}
use Rattle.world_laws.proofs.LogLines.{decide_signer, log_lines_keep}

-- ---- what a line that goes on does

abbrev pub Done : Played → Option Command → Played → List ℕ → Type 0
Done w o next output = (c : Command) × (o ≡ Some c) × Does hss_judged w c (Goes next output)

goes_or_refuses : (next : Played) (output : List ℕ) → Goes next output ≡ Refuses → ⊥
goes_or_refuses next output e = cc e

goes_or_exceeds : (next : Played) (output : List ℕ) → Goes next output ≡ Exceeds → ⊥
goes_or_exceeds next output e = cc e

goes_or_ends : (next : Played) (output : List ℕ) → Goes next output ≡ Ends → ⊥
goes_or_ends next output e = cc e

within : (full : Bool) (next : Played) (output : List ℕ) (may : Type 0) → MatchBool full (Goes next output ≡ Exceeds) may → may
within true next output may h = absurd (goes_or_exceeds next output h)
within false next output may h = h

does_any : (w next : Played) (output : List ℕ) (o : Option Command) → WithinLimit w o (Goes next output) → Done w o next output
does_any w next output None h = absurd (goes_or_refuses next output (within (nat_lt most_bytes (sum_by (λ b. length b) w.0.met)) next output (Goes next output ≡ Refuses) h))
does_any w next output (Some c) h = (c, refl, within (nat_lt most_bytes (sum_by (λ b. length b) w.0.met)) next output (Does hss_judged w c (Goes next output)) h)

-- it isn't the end
pub goes_within : (w next : Played) (output : List ℕ) (o : Option Command) → MayDoFirst w o (Goes next output) → WithinLimit w o (Goes next output)
goes_within w next output o h = by (is_end o) h
  where
    by : (b : Bool) → MatchBool b (Goes next output ≡ Ends) (WithinLimit w o (Goes next output)) → WithinLimit w o (Goes next output)
    by true h = absurd (goes_or_ends next output h)
    by false h = h

pub does_line : (w next : Played) (output : List ℕ) (o : Option Command) → MayDoFirst w o (Goes next output) → Done w o next output
does_line w next output o h = does_any w next output o (goes_within w next output o h)

-- ---- each command

-- the commands of which it is shown elsewhere that they leave such a world: those by which sessions go on, and the one that makes a snapshot
abbrev pub IsLeft : Command → Type 0
IsLeft (command.As log pieces) = Unit {0}
IsLeft (command.Step session count) = Unit {0}
IsLeft (command.Finish session) = Unit {0}
IsLeft (command.Snap log) = Unit {0}
IsLeft _ = ⊥

some_first : (m : List ℕ) (ms : List (List ℕ)) → m ∷ ms ≡ [] → ⊥
some_first m ms e = cc e

pub command_keeps : (w next : Played) (output : List ℕ) (c : Command) → (IsLeft c ⊎ (Fits c → ⊥) → Invariant next) → Invariant w → Does hss_judged w c (Goes next output) → Invariant next
command_keeps w next output (command.Ring nodes replicas) left keeps does = ring_lines_keep nodes replicas w next output keeps does
command_keeps w next output (command.Log log id seed sets) left keeps does = ⊎_elim (λ whole. log_lines_keep log id seed sets whole w next output keeps does) (λ none. left (inr none)) (decide_signer id seed sets)
command_keeps w next output (command.View view [] former) left keeps does = left (inr (λ some. some refl))
command_keeps w next output (command.View view (m ∷ ms) former) left keeps does = view_lines_keep view (m ∷ ms) former (some_first m ms) w next output keeps does
command_keeps w next output (command.Use log view) left keeps does = use_lines_keep log view w next output keeps does
command_keeps w next output (command.At sec nsec) left keeps does = still_lines_keep (command.At sec nsec) tt w next output keeps does
command_keeps w next output (command.As log pieces) left keeps does = left (inl tt)
command_keeps w next output (command.Open session log pieces) left keeps does = open_line_keeps session log pieces w next output keeps does
command_keeps w next output (command.Step session count) left keeps does = left (inl tt)
command_keeps w next output (command.Finish session) left keeps does = left (inl tt)
command_keeps w next output (command.Join number) left keeps does = join_lines_keep number w next output keeps does
command_keeps w next output (command.Stop node) left keeps does = stop_lines_keep node w next output keeps does
command_keeps w next output command.Round left keeps does = round_lines_keep w next output keeps does
command_keeps w next output (command.Lose count) left keeps does = still_lines_keep (command.Lose count) tt w next output keeps does
command_keeps w next output (command.Damage node key offset byte) left keeps does = damage_lines_keep node key offset byte w next output keeps does
command_keeps w next output (command.Snap log) left keeps does = left (inl tt)
command_keeps w next output (command.Restart log) left keeps does = restart_lines_keep log w next output keeps does
command_keeps w next output (command.Keep log count new) left keeps does = keeper_lines_keep log count new w next output keeps does
command_keeps w next output (command.Show shown) left keeps does = still_lines_keep (command.Show shown) tt w next output keeps does
command_keeps w next output command.Nothing left keeps does = still_lines_keep command.Nothing tt w next output keeps does
command_keeps w next output command.End left keeps does = absurd (goes_or_ends next output does)
