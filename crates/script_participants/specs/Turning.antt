-- A participant that takes a turn.
use Rattle.std.specs.Prelude.{◌≡◌, ℕ, Option, IfSome, Result, Ok, Err}
use Rattle.ivy_base.specs.declared.operation.Moment.{Moment}
use Rattle.log_model.specs.View.{View}
use Rattle.nfs_model.specs.declared.replies.Reply.{Reply}
use Rattle.turn_model.specs.Turn.{Asked}
use Rattle.agent_model.specs.Standing.{Refresh, begun_again_in}
use Rattle.agent_model.specs.Turning.{TurnEnd, Behind, BelowTide, Answered, Turns}
use Rattle.log_fetch.specs.Standings.{standing_of}
use Rattle.log_fetch.specs.declared.standing.Standing.{Standing}
use Rattle.log_fetch.specs.declared.turned.Turned.{Turned}
use Rattle.log_fetch.specs.declared.turned.TurnFault.{TurnFault}
use Rattle.log_fetch.specs.declared.turned.TurnFault.TheVariants as fault
use Rattle.ivy_agent.specs.Turns.{Gives}
use Rattle.world_model.specs.Agents.{IsHssKept, HssKept, hss_signing}
use Rattle.world_model.specs.Keepers.{asked_to_save, fails_next}
use Rattle.script_participants.specs.ParticipantState.{ParticipantState}

-- how many records its last turn applied: a refusal isn't counted
abbrev pub work_after : TurnEnd → ℕ → ℕ
work_after (Answered reply applied) before = applied
work_after Behind before = before
work_after BelowTide before = before

module _ (view : View) (brought : Refresh) (asked : Asked) (now : Moment) (before : ParticipantState) where
  -- How the turn ends, and the participant then. A save fails exactly where its keeper plans it; the keeper was asked to save, where it
  -- was, what may be saved.
  pub record HasTurn (end : TurnEnd) (after : ParticipantState) : Type 0 where
    pub saving : Option HssKept
    pub turns : Turns hss_signing brought
        (record { agent = before.agent; view = view; now = now; fails = fails_next before.keeper }) asked end
        after.agent saving
    pub kept : IfSome saving IsHssKept
    pub then_is : after ≡ record before {
      agent = after.agent;
      keeper = asked_to_save before.keeper saving;
      work = work_after end before.work;
    }

  -- it replies
  pub record IsAnswered (t : Turned) (after : ParticipantState) : Type 0 where
    pub reply : Reply
    pub has_turn : HasTurn (Answered reply t.applied) after
    pub gives : Gives reply after.agent t

  -- it is refused, and a session begins again with that standing
  pub record IsRefused (end : TurnEnd) (standing : Standing) (after : ParticipantState) : Type 0 where
    pub has_turn : HasTurn end after
    pub anew : standing_of standing ≡ begun_again_in hss_signing after.agent view

  -- Where memory runs out nothing changes.
  abbrev pub TakesTurn : Result Turned TurnFault → ParticipantState → Type 0
  TakesTurn (Ok t) after = IsAnswered t after
  TakesTurn (Err (fault.Behind standing)) after = IsRefused Behind standing after
  TakesTurn (Err (fault.BelowTide standing)) after = IsRefused BelowTide standing after
  TakesTurn (Err fault.Memory) after = after ≡ before
