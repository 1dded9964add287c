-- What may change of a world in which the invariant holds, so that it still does: the lines and the asks that touch no more.
use Rattle.std.specs.Prelude.{◌≡◌, ◌≢◌, ℕ, ◌≤◌, Bool, List, [], length, map, Contains, Option, Some, None}
use Rattle.std.specs.List.{AllByRecursion}
use Rattle.ivy_base.specs.declared.key.Key.{Key}
use Rattle.ivy_base.specs.declared.operation.Moment.{Moment}
use Rattle.dhash_model.specs.Signed.{hss_judged}
use Rattle.log_model.specs.Spelling.{IsMoment}
use Rattle.log_model.specs.View.{IsView}
use Rattle.log_model.specs.ViewKeys.{HasKeys}
use Rattle.dht_ids.specs.declared.peer.Peer.{Peer}
use Rattle.dht_ids.specs.declared.post.Post.{Post}
use Rattle.hash_signature_model.specs.declared.set.Set.{Set}
use Rattle.hash_signature_model.specs.Saved.{IsSigner}
use Rattle.node_store.specs.Stores.{IsStore}
use Rattle.block_cache.specs.Blocks.{IsCache}
use Rattle.session_model.specs.Sessions.{Cache}
use Rattle.script_driver.specs.Run.{Goes}
use Rattle.script_model.specs.declared.command.Command.{Command}
use Rattle.script_model.specs.declared.command.Command.TheVariants as command
use Rattle.script_model.specs.declared.command.KeyWord.{KeyWord}
use Rattle.script_model.specs.declared.command.NodeWord.{NodeWord}
use Rattle.script_model.specs.Messages.{Given}
use Rattle.world_model.specs.Keepers.{Keeper}
use Rattle.world_model.specs.Nodes.{Node}
use Rattle.world_model.specs.World.{World, NamedView, Participant, peer_of}
use Rattle.world_model.specs.GhostState.{GhostState}
use Rattle.world_model.specs.Logs.{Played, fresh_signer}
use Rattle.world_model.specs.Step.{Does}
use Rattle.world_laws.specs.Invariant.{AreParticipants, Invariant, PeersAreMade}
use Rattle.world_laws.specs.Laws.{IsStill}

-- ---- participants

-- what may change of a participant whose agent signs, knows and holds what it did
pub record Change : Type 0 where
  pub pending : List Post
  pub has_failed : Bool
  pub keeper : Keeper
  pub cache : Cache
  pub made : List (ℕ × Key)
  pub printed : Option Key
  pub work : ℕ

abbrev pub changed : Participant → Change → Participant
changed p d = record p {
  agent = record p.agent { pending = d.pending; has_failed = d.has_failed };
  keeper = d.keeper;
  cache = d.cache;
  made = d.made;
  printed = d.printed;
  work = d.work;
}

-- nothing of it
abbrev pub unchanged : Participant → Change
unchanged p = record {
  pending = p.agent.pending;
  has_failed = p.agent.has_failed;
  keeper = p.keeper;
  cache = p.cache;
  made = p.made;
  printed = p.printed;
  work = p.work;
}

-- its keeper holds the same bytes, nothing more is to be published, and its cache has blocks that were met
pub record IsChangeWithinFrame (met : List (List ℕ)) (p : Participant) (d : Change) : Type 0 where
  pub kept : d.keeper.kept ≡ p.keeper.kept
  pub pending : (post : Post) → Contains d.pending post → Contains p.agent.pending post
  pub fewer : length d.pending ≤ length p.agent.pending
  pub cached : IsCache d.cache × AllByRecursion (λ e. Contains met e.1) d.cache

-- ---- worlds

-- what stands in place of the world's nodes, participants, views, replies, moment, losses and blocks, and of the ghost state's
-- acknowledgements
pub record Changes : Type 0 where
  pub nodes : List Node
  pub change : Participant → Change
  pub views : List NamedView
  pub replies : List Given
  pub now : Moment
  pub asked : ℕ
  pub lost : List ℕ
  pub met : List (List ℕ)
  pub acked : List Post

abbrev pub changed_by : Changes → Played → Played
changed_by c w = (
  record w.0 {
    nodes = c.nodes;
    participants = map (λ p. changed p (c.change p)) w.0.participants;
    views = c.views;
    replies = c.replies;
    now = c.now;
    asked = c.asked;
    lost = c.lost;
    met = c.met;
  },
  record w.1 { acked = c.acked },
)

-- before there is a ring there is no node; then there is one, and r of them own a key
abbrev pub AreOfRing : Option ℕ → List Node → Type 0
AreOfRing None nodes = nodes ≡ []
AreOfRing (Some r) nodes = (nodes ≢ []) × AllByRecursion (λ n. n.ring.replicas ≡ r) nodes

-- Who was made is a node still, and nodes know of these alone; what nodes hold was met, and no block that was met is forgotten.
pub record IsWithinFrame (w : World) (c : Changes) : Type 0 where
  pub peers : (p : Peer) → Contains (map peer_of w.nodes) p → Contains (map peer_of c.nodes) p
  pub made : PeersAreMade (record w { nodes = c.nodes })
  pub ring : AreOfRing w.replicas c.nodes
  pub held : AllByRecursion (λ n. IsStore n.blocks × AllByRecursion (λ e. Contains c.met e.1.bytes) n.blocks) c.nodes
  pub views : AllByRecursion (λ v. IsView v.view × HasKeys v.view × AreParticipants w v.view) c.views
  pub moment : IsMoment c.now
  pub grows : (b : List ℕ) → Contains w.met b → Contains c.met b
  pub each : (p : Participant) → Contains w.participants p → IsChangeWithinFrame c.met p (c.change p)

-- ---- laws

-- Such changes leave a world in which the invariant holds.
abbrev pub FrameRule : Type 0
FrameRule = (w : Played) (c : Changes) → Invariant w → IsWithinFrame w.0 c → Invariant (changed_by c w)

-- So do more blocks that are met: whatever holds over what was met holds over more.
abbrev pub MoreBlocksKeep : Type 0
MoreBlocksKeep = (w : World) (st : GhostState) (met : List (List ℕ)) → Invariant (w, st)
    → ((b : List ℕ) → Contains w.met b → Contains met b)
    → Invariant (record w { met = met }, st)

-- ---- lines without sessions

-- what the command does leaves such a world
abbrev pub LineKeeps : Command → Type 0
LineKeeps c = (w next : Played) (output : List ℕ) → Invariant w → Does hss_judged w c (Goes next output) → Invariant next

abbrev pub StillLinesKeep : Type 0
StillLinesKeep = (c : Command) → IsStill c → LineKeeps c

-- a node that stops, a block that is corrupted, a save that is to fail
abbrev pub StopLinesKeep : Type 0
StopLinesKeep = (node : NodeWord) → LineKeeps (command.Stop node)

abbrev pub DamageLinesKeep : Type 0
DamageLinesKeep = (node : NodeWord) (key : KeyWord) (offset byte : ℕ) → LineKeeps (command.Damage node key offset byte)

abbrev pub KeeperLinesKeep : Type 0
KeeperLinesKeep = (log : List ℕ) (count : ℕ) (new : Bool) → LineKeeps (command.Keep log count new)

-- the ring is made, a node joins, and all nodes have a round of maintenance, whatever is lost
abbrev pub RingLinesKeep : Type 0
RingLinesKeep = (nodes replicas : ℕ) → LineKeeps (command.Ring nodes replicas)

abbrev pub JoinLinesKeep : Type 0
JoinLinesKeep = (number : ℕ) → LineKeeps (command.Join number)

abbrev pub RoundLinesKeep : Type 0
RoundLinesKeep = LineKeeps command.Round

-- a view of some members is made, and its block put
abbrev pub ViewLinesKeep : Type 0
ViewLinesKeep = (view : List ℕ) (members former : List (List ℕ)) → members ≢ [] → LineKeeps (command.View view members former)

-- ---- lines of participants

-- a log begins, whose key can be saved
abbrev pub LogLinesKeep : Type 0
LogLinesKeep = (log id seed : List ℕ) (sets : List Set) → IsSigner (fresh_signer id seed sets) → LineKeeps (command.Log log id seed sets)

-- a participant enters a view, or is refused, or its save fails
abbrev pub UseLinesKeep : Type 0
UseLinesKeep = (log view : List ℕ) → LineKeeps (command.Use log view)

-- an agent starts again from what its keeper's bytes say
abbrev pub RestartLinesKeep : Type 0
RestartLinesKeep = (log : List ℕ) → LineKeeps (command.Restart log)
