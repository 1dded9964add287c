-- The step of a script: what a line may do in a world with its ghost state. Each kind of line has its module; a kind that comes later is
-- one more case.
use Rattle.std.specs.Prelude.{◌≡◌, ℕ, nat_lt, Bool, true, false, List, [], Option, Some, None, MatchBool, length, sum_by}
use Rattle.ivy_base.specs.declared.key.Key.{Key}
use Rattle.dht_ids.specs.declared.judge.Judged.{Judged}
use Rattle.dhash_model.specs.Signed.{hss_judged}
use Rattle.script_driver.specs.Run.{Outcome, Goes, Ends, Refuses, Exceeds}
use Rattle.script_model.specs.declared.command.Command.{Command}
use Rattle.script_model.specs.declared.command.Command.TheVariants as command
use Rattle.script_model.specs.Lines.{command_of}
use Rattle.world_model.specs.World.{World, participant, session_named}
use Rattle.world_model.specs.Ring.{RingLine, JoinLine, stop_line}
use Rattle.world_model.specs.Rounds.{RoundLine}
use Rattle.world_model.specs.Logs.{Played, LogLine, ViewLine, RestartLine, SnapLine, at_line, beside, keep_line, keys_of, use_line}
use Rattle.world_model.specs.Calls.{AsLine, OpenLine, StepLine, FinishLine, sending_of}
use Rattle.world_model.specs.Faults.{damage_line, lose_line, node_named}
use Rattle.world_model.specs.Shows.{Shows}

-- what a command does that the ghost state doesn't tell of
abbrev pub Untold : Played → (Outcome World → Type 0) → Outcome Played → Type 0
Untold w Does outcome = (o : Outcome World) × Does o × (outcome ≡ beside w.1 o)

-- what a command may do
abbrev pub Does : (Key → List ℕ → Option Judged) → Played → Command → Outcome Played → Type 0
Does judged w (command.Ring nodes replicas) outcome = Untold w (RingLine w.0 nodes replicas) outcome
Does judged w (command.Log log id seed sets) outcome = LogLine judged w log id seed sets outcome
Does judged w (command.View view members former) outcome = ViewLine judged w view (keys_of w.0 members) (keys_of w.0 former) outcome
Does judged w (command.Use log view) outcome = outcome ≡ use_line w log view
Does judged w (command.At sec nsec) outcome = outcome ≡ beside w.1 (at_line w.0 sec nsec)
Does judged w (command.As log pieces) outcome = AsLine judged w (sending_of w.0 log pieces) outcome
Does judged w (command.Open session log pieces) outcome = OpenLine judged w session (sending_of w.0 log pieces) outcome
Does judged w (command.Step session count) outcome = StepLine judged w session count (session_named w.0 session) outcome
Does judged w (command.Finish session) outcome = FinishLine judged w session (session_named w.0 session) outcome
Does judged w (command.Join node) outcome = Untold w (JoinLine judged w.0 node w.0.replicas) outcome
Does judged w (command.Stop node) outcome = outcome ≡ beside w.1 (stop_line w.0 (node_named w.0 node))
Does judged w command.Round outcome = Untold w (RoundLine judged w.0 w.0.replicas) outcome
Does judged w (command.Lose count) outcome = outcome ≡ beside w.1 (lose_line w.0 count)
Does judged w (command.Damage node key offset byte) outcome = outcome ≡ beside w.1 (damage_line w.0 node key offset byte)
Does judged w (command.Snap log) outcome = SnapLine judged w (participant w.0 log) outcome
Does judged w (command.Restart log) outcome = RestartLine w (participant w.0 log) outcome
Does judged w (command.Keep log count new) outcome = outcome ≡ beside w.1 (keep_line w.0 log count new)
Does judged w (command.Show shown) outcome = Untold w (Shows w.0 shown) outcome
Does judged w command.Nothing outcome = outcome ≡ Goes w []
Does judged w command.End outcome = outcome ≡ Ends

abbrev pub MayDo : Played → Option Command → Outcome Played → Type 0
MayDo w None outcome = outcome ≡ Refuses
MayDo w (Some command) outcome = Does hss_judged w command outcome

-- the most bytes of all blocks that were met
abbrev pub most_bytes : ℕ
most_bytes = 16777216

-- what a line that isn't the end may do: it meets the limit where too much was met, whatever the line is
abbrev pub WithinLimit : Played → Option Command → Outcome Played → Type 0
WithinLimit w command outcome = MatchBool (nat_lt most_bytes (sum_by (λ b. length b) w.0.met)) (outcome ≡ Exceeds) (MayDo w command outcome)

abbrev pub is_end : Option Command → Bool
is_end (Some command.End) = true
is_end _ = false

-- the end ends the run, whatever was met
abbrev pub MayDoFirst : Played → Option Command → Outcome Played → Type 0
MayDoFirst w command outcome = MatchBool (is_end command) (outcome ≡ Ends) (WithinLimit w command outcome)

-- what a line may do: what its command does, and a line that is no command is refused
abbrev pub IvyStep : Played → List ℕ → Outcome Played → Type 0
IvyStep w line outcome = MayDoFirst w (command_of line) outcome
