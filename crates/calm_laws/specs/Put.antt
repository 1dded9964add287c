-- Of which records puts were acknowledged: of each that a head names which a node holds (records go before the head: Ivy, OSDI 2002,
-- section 3.3), and of each that an agent knows, but for its own that are still to be published. Stated and proved of calm scripts with any
-- lines.
use Rattle.std.specs.Prelude.{◌≡◌, ◌⊎◌, ℕ, List, Contains, Some}
use Rattle.std.specs.List.{AllByRecursion}
use Rattle.std.specs.FinMap.Entries.{find as value_at}
use Rattle.ivy_base.specs.declared.key.Key.{Key}
use Rattle.ivy_base.specs.declared.key.PubKey.{PubKey}
use Rattle.ivy_base.specs.Naming.{head_key_of, key_cmp}
use Rattle.log_model.specs.Chain.{LinkedFrom}
use Rattle.log_model.specs.Record.{Record}
use Rattle.log_model.specs.Spelling.{no_name, record_block}
use Rattle.log_model.specs.Vector.{Stamp}
use Rattle.turn_model.specs.Known.{EndsAt}
use Rattle.dht_ids.specs.declared.judge.Judged.{Judged}
use Rattle.dht_ids.specs.declared.post.Post.{Post}
use Rattle.dhash_model.specs.Signed.{hss_judged}
use Rattle.dhash_model.specs.Stores.{Block}
use Rattle.dhash_model.specs.declared.kind.BlockKind.TheVariants.{Head}
use Rattle.agent_model.specs.Agent.{record_post}
use Rattle.session_model.specs.Brought.{stamp_of}
use Rattle.world_model.specs.Agents.{own_hss_key}
use Rattle.world_model.specs.Nodes.{Node}
use Rattle.world_model.specs.World.{Participant}
use Rattle.world_model.specs.GhostState.{known_of}
use Rattle.world_model.specs.Logs.{Played}
use Rattle.calm_laws.specs.Calm.{IsCalmAt, Stopped}

-- a put of the record's block was acknowledged
abbrev pub WasPut : List Post → Record → Type 0
WasPut acked one = (p : Post) × Contains acked p × (p.key ≡ one.name) × (p.bytes ≡ record_block one)

-- it was, or the block is still among those posts
abbrev pub IsPutOr : List Post → List Post → Record → Type 0
IsPutOr acked posts one = WasPut acked one ⊎ Contains posts (record_post one)

-- the owner's records from its log's first up to the one that the head names, each linked to the one before it, are all so
pub record AllUpTo (IsSo : Record → Type 0) (owner : PubKey) (head : Stamp) : Type 0 where
  pub log : List Record
  pub linked : LinkedFrom owner 1 no_name log
  pub ends : EndsAt (Some head) log
  pub each : AllByRecursion IsSo log

-- under that key stands the head of a log, and up to the record that it names all are so
abbrev pub IsHeadOver : (Record → Type 0) → Key → Judged → Type 0
IsHeadOver IsSo key head = (owner : PubKey) × (key ≡ head_key_of owner) × AllUpTo IsSo owner (stamp_of head)

-- Of each record up to the one that a head names which a node holds a put was acknowledged.
abbrev pub HeadsNameWhatWasPut : Type 0
HeadsNameWhatWasPut = (r : ℕ) (w : Played) (count : ℕ) (lines : List (List ℕ)) (n : Node) (key : Key) (block : Block) (head : Judged)
    → IsCalmAt r w (Stopped count) lines
    → Contains w.0.nodes n → value_at key_cmp key n.blocks ≡ Some block → block.kind ≡ Head → hss_judged key block.bytes ≡ Some head
    → IsHeadOver (WasPut w.1.acked) key head

-- Of each record that a participant's agent knows a put was acknowledged, or it is its own and still to be published.
abbrev pub KnownIsPutOrPending : Type 0
KnownIsPutOrPending = (r : ℕ) (w : Played) (count : ℕ) (lines : List (List ℕ)) (p : Participant) (one : Record)
    → IsCalmAt r w (Stopped count) lines → Contains w.0.participants p
    → Contains (known_of w.1 p.name) one
    → WasPut w.1.acked one ⊎ ((one.owner ≡ own_hss_key p.agent) × Contains p.agent.pending (record_post one))
