-- Calls and participants, as contracts of the parts see them: passed on to the layers above.
pub use Rattle.session_steps.specs.Representing.{CallState, Served, RepresentsBy, RepresentsSession}
pub use Rattle.session_steps.specs.Ending.{IsRepresentedOf, LeavesGiven}
pub use Rattle.script_participants.specs.ParticipantState.{ParticipantState, state_of}
