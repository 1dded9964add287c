-- What sessions and agents hand to each other, as it is kept and as the definitions have it.
use Rattle.std.specs.Prelude.{List, [], ◌∷◌, ◌++◌, map, Option, Some, None, if◌then◌else◌, option_map}
use Rattle.rpc_wire.specs.Callers.{identity_of}
use Rattle.turn_model.specs.Turn as turn
use Rattle.fs_tree.specs.Bases.{basis_of}
use Rattle.dhash_model.specs.declared.miss.Miss.TheVariants as miss
use Rattle.dhash_model.specs.declared.miss.Miss.{Miss}
use Rattle.agent_model.specs.Standing as agent
use Rattle.agent_model.specs.Standing.{chain_of}
use Rattle.session_model.specs.Refreshing as session
use Rattle.log_fetch.specs.declared.asked.Asked.{Asked}
use Rattle.log_fetch.specs.declared.standing.Standing.{Standing}
use Rattle.log_fetch.specs.declared.refresh.Refresh.{Refresh}
use Rattle.log_fetch.specs.declared.note.Note.{Note}
use Rattle.log_fetch.specs.declared.note.Note.TheVariants as note

abbrev pub asked_of : Asked → turn.Asked
asked_of a = record { caller = identity_of a.caller; args = a.args }

abbrev pub standing_of : Standing → agent.Standing
standing_of s = record {
  view = s.view;
  own = s.own;
  floor = s.floor;
  held = s.held;
  edges = s.edges;
  to_load = s.basis;
  pending = s.pending;
}

abbrev pub refresh_of : Refresh → agent.Refresh
refresh_of r = record { started = r.batch.held; chains = map chain_of r.batch.chains; basis = option_map basis_of r.basis }

-- ---- notes

-- of a log
abbrev pub note_of : session.Note → Note
note_of n = if n.is_fork then note.Fork n.log else note.Bad n.log

-- of the get that failed
abbrev pub note_of_miss : Miss → Note
note_of_miss (miss.NoRoute key) = note.NoRoute key
note_of_miss (miss.Missing key asked) = note.Missing key
note_of_miss (miss.Damaged key node) = note.Damaged key

-- what is noted of the logs, in their order, and last why the refresh failed, where it did
abbrev pub notes_of : List session.Note → Option Miss → List Note
notes_of notes None = map note_of notes
notes_of notes (Some miss) = map note_of notes ++ note_of_miss miss ∷ []
