-- What a calm script may rely on at each of its lines. Every block whose put was acknowledged is stored and can be read (CFS, SOSP 2001,
-- section 5.1), and no whole call fails because a block is missing. In tidy ones its turn takes all that the members have written.
use Rattle.std.specs.Prelude.{◌≡◌, ℕ, List, [], Contains, Some}
use Rattle.dht_ids.specs.declared.post.Post.{Post}
use Rattle.script_driver.specs.Run.{Goes, Outcome}
use Rattle.script_model.specs.declared.command.Command.TheVariants as command
use Rattle.script_model.specs.declared.command.Piece.{Piece}
use Rattle.script_model.specs.Lines.{command_of}
use Rattle.world_model.specs.Logs.{Played}
use Rattle.world_model.specs.Step.{IvyStep}
use Rattle.calm_laws.specs.Calm.{IsCalmAt, Since, Stopped}
use Rattle.calm_laws.specs.Readable.{IsReadable, MovesBlocks, PutInRoundsIsReadable}
use Rattle.calm_laws.specs.Completeness.{HaveEntered, HaveOwnKeys, IsLineServed, TakesAllWritten}
use Rattle.calm_laws.specs.Takes.{CalmTidily}

-- What was acknowledged before the line is stored and can be read. If the line is a whole call and goes on, it misses nothing.
pub record IsServedCalmly (r : ℕ) (w : Played) (line : List ℕ) (outcome : Outcome Played) : Type 0 where
  pub readable : (p : Post) → Contains w.1.acked p → IsReadable r w.0 p
  pub served : (name : List ℕ) (pieces : List Piece) (next : Played) (output : List ℕ) → command_of line ≡ Some (command.As name pieces)
      → outcome ≡ Goes next output → IsLineServed w (command.As name pieces) next output

-- If the world was reached calmly, the line is served so, except right after a join. A round moves each block to its owners, and
-- each post of which a put of the round was acknowledged is stored after it and can be read.
-- Say further that it was reached tidily, no session is open, each log has a key of its own and all members of the caller's view have
-- entered it. Then the turn of a whole call takes all.
pub record IsServedWhereCalm (w : Played) (line : List ℕ) (outcome : Outcome Played) : Type 0 where
  pub served : (r count : ℕ) (lines : List (List ℕ)) → IsCalmAt r w (Stopped count) lines → IsServedCalmly r w line outcome
  pub rounds : (r : ℕ) (since : Since) (lines : List (List ℕ)) (next : Played) (output : List ℕ) → IsCalmAt r w since lines
      → command_of line ≡ Some command.Round → outcome ≡ Goes next output → MovesBlocks r w.0 next.0
  pub in_rounds : (r : ℕ) (since : Since) (lines : List (List ℕ)) (next : Played) (output : List ℕ) → IsCalmAt r w since lines
      → command_of line ≡ Some command.Round → outcome ≡ Goes next output → PutInRoundsIsReadable r w.0 next.0
  pub takes_all : (r count : ℕ) (lines : List (List ℕ)) (name : List ℕ) (pieces : List Piece) (next : Played) (output : List ℕ)
      → (calm : IsCalmAt r w (Stopped count) lines) → CalmTidily r (calm.made, calm.before.1) (Stopped 0) lines w (Stopped count)
      → HaveOwnKeys w.0 → HaveEntered w.0 name → w.0.sessions ≡ [] → command_of line ≡ Some (command.As name pieces)
      → outcome ≡ Goes next output → TakesAllWritten w next

-- So it is of each line that, if it goes on, does what it may.
abbrev pub LinesAreServedWhereCalm : Type 0
LinesAreServedWhereCalm = (w : Played) (line : List ℕ) (outcome : Outcome Played)
    → ((next : Played) (output : List ℕ) → outcome ≡ Goes next output → IvyStep w line (Goes next output))
    → IsServedWhereCalm w line outcome
