-- Which lines go on, end the run, are refused or meet a limit: it is determined by the world and the line alone.
use Rattle.std.specs.Prelude.{◌≡◌, ℕ, nat_lt, nat_le, Bool, true, List, ◌++◌, map, length, sum_by, Option, Some, None, is_some}
use Rattle.std.specs.Prelude.{if◌then◌else◌}
use Rattle.ivy_base.specs.declared.key.PubKey.{PubKey}
use Rattle.log_model.specs.View.{have_own_head_keys}
use Rattle.session_model.specs.Sessions.{Session}
use Rattle.script_driver.specs.Run.{Outcome, Goes, Ends, Refuses, Exceeds}
use Rattle.script_model.specs.declared.command.Command.{Command}
use Rattle.script_model.specs.declared.command.Command.TheVariants as command
use Rattle.script_model.specs.declared.command.Shown.{Shown}
use Rattle.script_model.specs.Lines.{command_of}
use Rattle.world_model.specs.Ring.{is_known_id, is_refused_ring, peer_numbered, stop_line}
use Rattle.world_model.specs.World.{World, Participant, participant, peer_of, session_named, view_named}
use Rattle.world_model.specs.Logs.{Played, at_line, is_too_large, keep_line, keys_of, use_line}
use Rattle.world_model.specs.Calls.{Sending, is_step_count, sending_of}
use Rattle.world_model.specs.Faults.{damage_line, lose_line, node_named}
use Rattle.world_model.specs.Shows.{show_line}
use Rattle.world_model.specs.Step.{IvyStep, is_end, most_bytes}

pub data Kind : Type 0 where
  Going : Kind
  Ending : Kind
  Refused : Kind
  Limited : Kind

-- the kind of an outcome
abbrev pub kind : {W : Type 0} → Outcome W → Kind
kind (Goes next output) = Going
kind Ends = Ending
kind Refuses = Refused
kind Exceeds = Limited

-- ---- lines

abbrev pub ring_kind : World → ℕ → ℕ → Kind
ring_kind w count r = if is_refused_ring w count r then Refused else if nat_le count 256 then Going else Limited

abbrev pub log_kind : World → List ℕ → Kind
log_kind w name = if is_some w.replicas then (if is_some (participant w name) then Refused else Going) else Refused

abbrev pub view_kind : World → List ℕ → Option (List PubKey) → Option (List PubKey) → Kind
view_kind w name (Some members) (Some former) =
    if is_some (view_named w name) then Refused
    else if have_own_head_keys (members ++ former) then (if is_too_large members former then Limited else Going)
    else Refused
view_kind w name _ _ = Refused

abbrev pub sending_kind : Kind → Option Sending → Kind
sending_kind k None = Refused
sending_kind k (Some s) = k

abbrev pub open_kind : World → List ℕ → Kind
open_kind w name = if is_some (session_named w name) then Refused else Going

abbrev pub session_kind : Bool → Option Session → Kind
session_kind counts None = Refused
session_kind counts (Some s) = if counts then Going else Refused

abbrev pub join_kind : World → ℕ → Option ℕ → Kind
join_kind w node None = Refused
join_kind w node (Some r) = if is_known_id (map peer_of w.nodes) (peer_numbered node) then Refused else if nat_le 256
    (length w.nodes) then Limited else Going

abbrev pub round_kind : Option ℕ → Kind
round_kind None = Refused
round_kind (Some r) = Going

-- a participant that entered a view
abbrev pub in_view_kind : Option Participant → Kind
in_view_kind None = Refused
in_view_kind (Some p) = if is_some p.agent.view then Going else Refused

-- a line that shows something: the kind is the same whatever tells which blocks are records
abbrev pub shown_kind : World → Shown → Kind
shown_kind w s = kind (show_line (λ owner seq block. None) w s)

-- ---- the whole

abbrev pub command_kind : Played → Command → Kind
command_kind w (command.Ring nodes replicas) = ring_kind w.0 nodes replicas
command_kind w (command.Log log id seed sets) = log_kind w.0 log
command_kind w (command.View view members former) = view_kind w.0 view (keys_of w.0 members) (keys_of w.0 former)
command_kind w (command.Use log view) = kind (use_line w log view)
command_kind w (command.At sec nsec) = kind (at_line w.0 sec nsec)
command_kind w (command.As log pieces) = sending_kind Going (sending_of w.0 log pieces)
command_kind w (command.Open session log pieces) = sending_kind (open_kind w.0 session) (sending_of w.0 log pieces)
command_kind w (command.Step session count) = session_kind (is_step_count count) (session_named w.0 session)
command_kind w (command.Finish session) = session_kind true (session_named w.0 session)
command_kind w (command.Join node) = join_kind w.0 node w.0.replicas
command_kind w (command.Stop node) = kind (stop_line w.0 (node_named w.0 node))
command_kind w command.Round = round_kind w.0.replicas
command_kind w (command.Lose count) = kind (lose_line w.0 count)
command_kind w (command.Damage node key offset byte) = kind (damage_line w.0 node key offset byte)
command_kind w (command.Snap log) = in_view_kind (participant w.0 log)
command_kind w (command.Restart log) = in_view_kind (participant w.0 log)
command_kind w (command.Keep log count new) = kind (keep_line w.0 log count new)
command_kind w (command.Show shown) = shown_kind w.0 shown
command_kind w command.Nothing = Going
command_kind w command.End = Ending

abbrev pub within_limit_kind : Played → Option Command → Kind
within_limit_kind w None = if nat_lt most_bytes (sum_by (λ b. length b) w.0.met) then Limited else Refused
within_limit_kind w (Some c) = if nat_lt most_bytes (sum_by (λ b. length b) w.0.met) then Limited else command_kind w c

abbrev pub first_kind : Played → Option Command → Kind
first_kind w c = if is_end c then Ending else within_limit_kind w c

-- Each outcome of a line is of the line's kind: no two cases of a command overlap, and a line that is refused, meets a limit or ends the
-- run does nothing else.
abbrev pub LineHasOneKind : Type 0
LineHasOneKind = (w : Played) (line : List ℕ) (outcome : Outcome Played) → IvyStep w line outcome
    → kind outcome ≡ first_kind w (command_of line)
