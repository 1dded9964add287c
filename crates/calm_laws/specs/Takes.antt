-- What a turn needs to take all that was written: of each log a put of its newest head was acknowledged, and the heads that are received
-- were made by their logs' agents. And that it takes all, in one run that is calm and tidy.
use Rattle.std.specs.Prelude.{◌≡◌, ◌≤◌, ℕ, List, [], ◌∷◌, length, sum_by, true, Contains, Some}
use Rattle.ivy_base.specs.Naming.{head_key_of}
use Rattle.log_model.specs.Vector.{Entry}
use Rattle.dht_ids.specs.declared.judge.Judged.{Judged}
use Rattle.dht_ids.specs.declared.post.Post.{Post}
use Rattle.dhash_model.specs.Signed.{hss_judged}
use Rattle.agent_model.specs.Agent.{is_head}
use Rattle.script_driver.specs.Run.{Goes}
use Rattle.script_model.specs.declared.command.Command.{Command}
use Rattle.script_model.specs.declared.command.Command.TheVariants as command
use Rattle.script_model.specs.declared.command.Piece.{Piece}
use Rattle.script_model.specs.Lines.{command_of}
use Rattle.session_model.specs.Brought.{stamp_of}
use Rattle.world_model.specs.Agents.{own_hss_key, own_reach}
use Rattle.world_model.specs.Logs.{Played}
use Rattle.world_model.specs.Step.{IvyStep, most_bytes}
use Rattle.world_model.specs.GhostState.{knowing_of}
use Rattle.world_model.specs.World.{Participant}
use Rattle.calm_laws.specs.Calm.{IsCalm, IsCalmAt, Since, Stopped}
use Rattle.calm_laws.specs.Completeness.{HaveEntered, HaveOwnKeys, IsTidyAt, TakesAllWritten}

-- the head left that agent
abbrev pub IsLeftBy : Participant → Entry → Type 0
IsLeftBy q e = (bytes : List ℕ) × (j : Judged) × Contains q.left bytes × (hss_judged e.0 bytes ≡ Some j) × (e.1 ≡ stamp_of j)

-- In calm scripts each head of a participant's log that somebody received left the log's agent: whatever else was met, a head is given as
-- such only where it was put as such.
abbrev pub ReceivedHeadsLeft : Type 0
ReceivedHeadsLeft = (r : ℕ) (w : Played) (count : ℕ) (lines : List (List ℕ)) (name : List ℕ) (e : Entry) (q : Participant)
    → IsCalmAt r w (Stopped count) lines
    → Contains (knowing_of w.1 name).received e → Contains w.0.participants q → e.0 ≡ head_key_of (own_hss_key q.agent)
    → (p : Participant) × Contains w.0.participants p × (own_hss_key p.agent ≡ own_hss_key q.agent) × IsLeftBy p e

-- of each log a put of a head was acknowledged that goes as far as its agent's floor
abbrev pub HaveNewest : Played → Type 0
HaveNewest w = (q : Participant) → Contains w.0.participants q
    → (p : Post) × (j : Judged) × Contains w.1.acked p × (is_head p.kind ≡ true) × (p.key ≡ head_key_of (own_hss_key q.agent))
    × (hss_judged p.key p.bytes ≡ Some j) × (own_reach q.agent ≤ j.seq)

-- one run that is both calm and tidy at each line
pub data CalmTidily (r : ℕ) : Played → Since → List (List ℕ) → Played → Since → Type 0 where
  none : {w : Played} {since : Since} → CalmTidily r w since [] w since
  more : {w mid next : Played} {since between after : Since} {line : List ℕ} {lines : List (List ℕ)} (c : Command) (output : List ℕ)
      → command_of line ≡ Some c → IsCalm w.0 r since c between → IsTidyAt w.0 c → IvyStep w line (Goes mid output)
      → CalmTidily r mid between lines next after → CalmTidily r w since (line ∷ lines) next after

-- so it is after such a run while no session is open
abbrev pub NewestArePut : Type 0
NewestArePut = (r : ℕ) (w : Played) (count : ℕ) (lines : List (List ℕ)) → (calm : IsCalmAt r w (Stopped count) lines)
    → CalmTidily r (calm.made, calm.before.1) (Stopped 0) lines w (Stopped count) → w.0.sessions ≡ []
    → sum_by (λ b. length b) w.0.met ≤ most_bytes → HaveNewest w

-- and the turn of a whole call takes all then
abbrev pub CallsTakeAll : Type 0
CallsTakeAll = (r : ℕ) (w next : Played) (count : ℕ) (lines : List (List ℕ)) (line name output : List ℕ) (pieces : List Piece)
    → (calm : IsCalmAt r w (Stopped count) lines)
    → CalmTidily r (calm.made, calm.before.1) (Stopped 0) lines w (Stopped count) → HaveOwnKeys w.0 → HaveEntered w.0 name
    → w.0.sessions ≡ [] → command_of line ≡ Some (command.As name pieces) → IvyStep w line (Goes next output)
    → TakesAllWritten w next
