-- A participant that enters a view.
use Rattle.std.specs.Prelude.{[], Option}
use Rattle.log_model.specs.View.{View}
use Rattle.agent_model.specs.Views.Entering.{Entered, NotMember, NotNamed, KeeperFailed}
use Rattle.world_model.specs.Agents.{HssEntering, HssKept, hss_entering}
use Rattle.world_model.specs.Keepers.{asked_to_save, fails_next}
use Rattle.script_participants.specs.declared.end.EnterEnd.{EnterEnd}
use Rattle.script_participants.specs.declared.end.EnterEnd.TheVariants as end
use Rattle.script_participants.specs.ParticipantState.{ParticipantState}

-- how it ends, and the participant then, by what its agent comes to: its keeper was asked to save, where it was, and in a view its cache is
-- empty
abbrev pub having_entered : ParticipantState → HssEntering → Option HssKept → EnterEnd × ParticipantState
having_entered p (Entered after) saving = (end.Entered, record p { agent = after; keeper = asked_to_save p.keeper saving; cache = [] })
having_entered p NotMember saving = (end.Refused, p)
having_entered p (NotNamed log) saving = (end.Refused, p)
having_entered p (KeeperFailed after) saving = (end.Failed, record p { agent = after; keeper = asked_to_save p.keeper saving })

-- a save fails exactly where its keeper plans it
abbrev pub entering_view : ParticipantState → View → EnterEnd × ParticipantState
entering_view p view = (let came = hss_entering p.agent view (fails_next p.keeper) in having_entered p came.0 came.1)
