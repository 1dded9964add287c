-- Calm scripts, whose ring changes little. What they may rely on is in `Readable` and `CalmLines`: the ring and what was put stay (CFS,
-- SOSP 2001, section 5.1).
use Rattle.std.specs.Prelude.{◌≡◌, if◌then◌else◌, ℕ, ◌+◌, ◌<◌, ◌≤◌, List, [], ◌∷◌, length, Contains, Option}
use Rattle.std.specs.Prelude.{Some}
use Rattle.std.specs.Option.{option_map_or}
use Rattle.ivy_base.specs.declared.key.Key.{Key}
use Rattle.ivy_base.specs.declared.operation.Moment.{Moment}
use Rattle.ivy_base.specs.Naming.{IsCollisionFree}
use Rattle.ring_model.specs.Circle.{number}
use Rattle.dht_ids.specs.declared.peer.Peer.{Peer}
use Rattle.dht_ids.specs.declared.post.Post.{Post}
use Rattle.dhash_model.specs.Signed.{hss_judged}
use Rattle.script_driver.specs.Run.{Goes}
use Rattle.script_model.specs.declared.command.Command.{Command}
use Rattle.script_model.specs.declared.command.Command.TheVariants as command
use Rattle.script_model.specs.declared.command.NodeWord.{NodeWord}
use Rattle.script_model.specs.Lines.{command_of}
use Rattle.log_model.specs.Spelling.{IsMoment}
use Rattle.agent_model.specs.Agent.{is_head}
use Rattle.world_model.specs.Agents.{own_hss_key}
use Rattle.world_model.specs.World.{World, Participant, empty_world, named_bytes}
use Rattle.world_model.specs.GhostState.{empty_ghost_state}
use Rattle.world_model.specs.Logs.{Played}
use Rattle.world_model.specs.Ring.{RingLine, live_in_order}
use Rattle.world_model.specs.Step.{IvyStep}
use Rattle.world_model.specs.Holding.{rank_in as rank_by}

-- ---- calm scripts

-- how the ring was since it was made or the last round: so many nodes stopped, or one has just joined
pub data Since : Type 0 where
  Stopped : (count : ℕ) → Since
  Joined : Since

-- a command that changes no node but by asks of sessions
abbrev pub IsQuiet : Command → Type 0
IsQuiet (command.Ring nodes replicas) = ⊥
IsQuiet (command.Join number) = ⊥
IsQuiet (command.Stop node) = ⊥
IsQuiet command.Round = ⊥
IsQuiet (command.Lose count) = ⊥
IsQuiet (command.Damage node key offset byte) = ⊥
IsQuiet (command.Keep log count new) = ⊥
IsQuiet _ = Unit {0}

-- What a command makes of it. No ask is lost, no block is damaged, and no save fails. A join comes where no node stopped, and
-- fewer than r stop. Between a join and its round there is no other line, not even an empty one.
pub data IsCalm (w : World) (r : ℕ) : Since → Command → Since → Type 0 where
  rounds : (since : Since) → w.sessions ≡ [] → IsCalm w r since command.Round (Stopped 0)
  joins : (number : ℕ) → w.sessions ≡ [] → IsCalm w r (Stopped 0) (command.Join number) Joined
  stops : (count : ℕ) (node : NodeWord) → w.sessions ≡ [] → count + 1 < r → 2 ≤ length (live_in_order w)
      → IsCalm w r (Stopped count) (command.Stop node) (Stopped (count + 1))
  other : (count : ℕ) (c : Command) → IsQuiet c → IsCalm w r (Stopped count) c (Stopped count)

-- a calm part of a script, from a world to a world
pub data Calmly (r : ℕ) : Played → Since → List (List ℕ) → Played → Since → Type 0 where
  none : {w : Played} {since : Since} → Calmly r w since [] w since
  more : {w mid next : Played} {since between after : Since} {line : List ℕ} {lines : List (List ℕ)} (c : Command) (output : List ℕ)
      → command_of line ≡ Some c → IsCalm w.0 r since c between
      → IvyStep w line (Goes mid output) → Calmly r mid between lines next after → Calmly r w since (line ∷ lines) next after

-- ---- worlds that are reached calmly

-- the rank of what a node holds under a key: 0 for content, a head's number for a head
abbrev pub held_rank : World → Key → Peer → Option ℕ
held_rank w key p = rank_by hss_judged w key p

-- The world was reached calmly from the line that made its ring, before which nothing was but a moment. No two different blocks that were
-- met have one name, and no block that was met is a public key.
pub record IsCalmAt (r : ℕ) (w : Played) (since : Since) (lines : List (List ℕ)) : Type 0 where
  pub before : Played
  pub count : ℕ
  pub made : World
  pub fresh : (now : Moment) × IsMoment now × (before ≡ (record empty_world { now = now }, empty_ghost_state))
  pub rings : RingLine before.0 count r (Goes made [])
  pub calmly : Calmly r (made, before.1) (Stopped 0) lines w since
  pub apart : IsCollisionFree (named_bytes w.0)
  pub no_key : (p : Participant) → Contains w.0.participants p → Contains w.0.met (own_hss_key p.agent).0 → ⊥

-- the rank of a post
abbrev pub post_rank : Post → ℕ
post_rank p = if is_head p.kind then option_map_or (λ j. j.seq) (hss_judged p.key p.bytes) 0 else 0
