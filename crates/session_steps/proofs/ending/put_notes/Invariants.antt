use Rattle.std.proofs.Common.{◌≡◌, ◌++◌, filter, take}
use Rattle.std.specs.List.{flat_map}
use Rattle.session_steps.specs.Ending.{is_shown, note_line}
use Rattle.session_steps.proofs.ending.put_notes.Given as goal

abbrev pub invariant-notes : goal.invariant-notes
invariant-notes l = l.text.items ≡ l.initial.text.items ++ flat_map note_line (filter (is_shown l.misses) (take l.note-index l.notes))
