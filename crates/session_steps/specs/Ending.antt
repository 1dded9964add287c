-- What is shown of a call that is over, and what it leaves to later lines.
use Rattle.std.specs.Prelude.{◌≡◌, ℕ, Bool, true, false, not, List, [], ◌∷◌, ◌++◌, codes, Option, Some, None, is_some, if◌then◌else◌}
use Rattle.ivy_base.specs.declared.key.Key.{Key}
use Rattle.log_fetch.specs.declared.note.Note.{Note}
use Rattle.log_fetch.specs.declared.note.Note.TheVariants as note
use Rattle.ivy_session.specs.declared.served.Served.{Served}
use Rattle.ivy_session.specs.declared.served.Served.TheVariants as served
use Rattle.script_model.specs.Messages.{Given}
use Rattle.session_model.specs.Sessions.{Over, Said, Session}
use Rattle.world_model.specs.Calls.{key_line, reply_line, shown_end}
use Rattle.session_steps.specs.Representing.{CallState, RepresentsSession}

-- ---- what is shown

-- whichever session of a call it is, that is shown of its end
abbrev pub IsRepresentedOf : CallState → List ℕ → Type 0
IsRepresentedOf call text = (s : Session) (said : Said) → RepresentsSession s call → s.stage ≡ Over (Some said) → text ≡ shown_end s said

-- the line of how it ended
abbrev pub served_line : Served → List ℕ
served_line (served.Reply message) = reply_line message
served_line served.NotACall = codes "none" ++ 10 ∷ []
served_line served.Published = []

-- the note is why the refresh failed
abbrev pub is_miss : Note → Bool
is_miss (note.Bad key) = false
is_miss (note.Fork key) = false
is_miss (note.NoRoute key) = true
is_miss (note.Missing key) = true
is_miss (note.Damaged key) = true

-- it is of those that are shown then: why the refresh failed, or the others
abbrev pub is_shown : Bool → Note → Bool
is_shown true n = is_miss n
is_shown false n = not (is_miss n)

abbrev pub note_word : Note → List ℕ
note_word (note.Bad key) = codes "bad"
note_word (note.Fork key) = codes "fork"
note_word (note.NoRoute key) = codes "noroute"
note_word (note.Missing key) = codes "missing"
note_word (note.Damaged key) = codes "damaged"

abbrev pub note_key : Note → Key
note_key (note.Bad key) = key
note_key (note.Fork key) = key
note_key (note.NoRoute key) = key
note_key (note.Missing key) = key
note_key (note.Damaged key) = key

abbrev pub note_line : Note → List ℕ
note_line n = key_line (note_word n) (note_key n)

-- ---- what it leaves

-- what a reply leaves, where there is one
abbrev pub left_by : Said → Option Given
left_by said = if is_some said.message then Some (record { handle = said.handle; verifier = said.verifier }) else None

abbrev pub LeavesGiven : CallState → Option Given → Type 0
LeavesGiven call given = (s : Session) (said : Said) → RepresentsSession s call → s.stage ≡ Over (Some said) → given ≡ left_by said
