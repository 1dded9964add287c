-- What the reply that a line shows tells by its status.
use Rattle.std.specs.Prelude.{◌≡◌, ℕ, false, true, List, ◌++◌, Contains, Some}
use Rattle.dhash_model.specs.declared.miss.Miss.{Miss}
use Rattle.ivy_base.specs.declared.operation.Op.{Op}
use Rattle.wire_model.specs.Rpc.{Success, reply}
use Rattle.wire_model.specs.Xdr.{word}
use Rattle.nfs_model.specs.Changing.{Operations}
use Rattle.nfs_model.specs.Results.{status_number}
use Rattle.nfs_model.specs.declared.replies.NfsStatus.{NfsStatus}
use Rattle.nfs_model.specs.declared.replies.NfsStatus.TheVariants as status
use Rattle.nfs_model.specs.declared.replies.Reply.TheVariants as answer
use Rattle.nfs_model.specs.declared.replies.Tail.{Tail}
use Rattle.session_model.specs.Replies.{missed_status}
use Rattle.script_driver.specs.Run.{Goes, Outcome}
use Rattle.script_model.specs.Lines.{command_of}
use Rattle.script_model.specs.declared.command.Command.{Command}
use Rattle.script_model.specs.declared.command.Command.TheVariants as command
use Rattle.script_model.specs.declared.command.Piece.{Piece}
use Rattle.world_model.specs.Agents.{hss_inputs}
use Rattle.world_model.specs.Calls.{reply_line}
use Rattle.world_model.specs.Keepers.{fails_next}
use Rattle.world_model.specs.Logs.{Played}
use Rattle.world_model.specs.Steps.{Configuration}
use Rattle.world_model.specs.GhostState.{HadTurn}
use Rattle.calm_laws.specs.Calm.{IsCalmAt, Stopped}
use Rattle.world_laws.specs.Causes.{IsOf}
use Rattle.world_laws.specs.Headline.{IsCaused, IsOnReplay}
use Rattle.stage_laws.specs.Statuses.{IsSpent, is_of_tree, plan_of_turn}

-- The text begins with the reply of a call that was served, and its results begin with that status (RFC 5531, section 9; RFC 1813,
-- section 2.6).
pub record ShowsStatus (output : List ℕ) (s : NfsStatus) : Type 0 where
  pub xid : ℕ
  pub results : List ℕ
  pub rest : List ℕ
  pub is : output ≡ reply_line (reply xid (Success (word (status_number s) ++ results))) ++ rest

-- Why a turn refuses what its tree allows: ROFS because its key has no signature or its log no number left, or SERVERFAULT because a save
-- failed, now or before.
pub data RefusesItself (h : HadTurn) (on : IsOnReplay h) : NfsStatus → Type 0 where
  by_key : (ops : List Op) → plan_of_turn (hss_inputs h.by.agent h.view (fails_next h.by.keeper)) on.taken on.asked h.now ≡ Operations ops
      → IsSpent (hss_inputs h.by.agent h.view (fails_next h.by.keeper)) on.taken ops → RefusesItself h on status.RoFs
  by_keeper : (hss_inputs h.by.agent h.view (fails_next h.by.keeper)).has_failed ≡ true → RefusesItself h on status.ServerFault

-- Why a session's reply has JUKEBOX, IO, ROFS or SERVERFAULT. Its refresh needed a thing that couldn't be had: JUKEBOX where no owner gave
-- it, IO where one gave wrong bytes and none right ones. Or its turn refused, and where that is on the replay, it did so itself.
pub data StatusHasCause (next : Played) (end : Configuration) (s : NfsStatus) : Type 0 where
  missed : (miss : Miss) → end.session.missed ≡ Some miss → s ≡ missed_status miss → StatusHasCause next end s
  refused : (h : HadTurn) (tail : Tail) → Contains next.1.turns h → IsOf h end.began.number end.session
      → h.turned.reply ≡ answer.Refused s tail
      → ((on : IsOnReplay h) → RefusesItself h on s) → StatusHasCause next end s

-- Such a status in what a line shows has its cause in the session at the end of the line's steps.
abbrev pub StatusesAreCaused : Played → Command → Played → List ℕ → Type 0
StatusesAreCaused w c next output = (caused : IsCaused w c next output) (s : NfsStatus) → is_of_tree s ≡ false → ShowsStatus output s
    → StatusHasCause next caused.end s

-- So it is of each line that goes on. If the world was reached calmly, no whole call is answered JUKEBOX or IO.
pub record StatusesAreTold (w : Played) (line : List ℕ) (outcome : Outcome Played) : Type 0 where
  pub causes : (c : Command) (next : Played) (output : List ℕ) → command_of line ≡ Some c → outcome ≡ Goes next output
      → StatusesAreCaused w c next output
  pub calm : (r count : ℕ) (lines : List (List ℕ)) (name : List ℕ) (pieces : List Piece) (next : Played) (output : List ℕ)
      → IsCalmAt r w (Stopped count) lines → command_of line ≡ Some (command.As name pieces) → outcome ≡ Goes next output
      → (ShowsStatus output status.Jukebox → ⊥) × (ShowsStatus output status.Io → ⊥)
