-- Lines of faults, and how nodes and keys are named.
use Rattle.std.specs.Prelude.{ℕ, ◌+◌, ◌-◌, ◌==◌, nat_lt, nat_le, ◌&&◌, List, [], ◌∷◌, find, drop, Option, Some, None, option_map}
use Rattle.std.specs.Prelude.{if◌then◌else◌}
use Rattle.ivy_base.specs.declared.key.Key.{Key}
use Rattle.ivy_base.specs.Naming.{head_key_of}
use Rattle.ring_model.specs.Circle.{number}
use Rattle.ring_model.specs.Members.{first, owners}
use Rattle.log_model.specs.View.{view_name}
use Rattle.dht_ids.specs.Peers.{place}
use Rattle.dht_ids.specs.declared.peer.Peer.{Peer}
use Rattle.dhash_model.specs.Stores.{Blocks, bytes_at, with_byte}
use Rattle.script_driver.specs.Run.{Outcome, Goes, Refuses}
use Rattle.script_model.specs.declared.command.KeyWord.{KeyWord}
use Rattle.script_model.specs.declared.command.KeyWord.TheVariants as key
use Rattle.script_model.specs.declared.command.NodeWord.{NodeWord}
use Rattle.script_model.specs.declared.command.NodeWord.TheVariants as node
use Rattle.script_model.specs.Words.{◌>>=◌}
use Rattle.world_model.specs.Agents.{own_hss_key}
use Rattle.world_model.specs.Nodes.{Node}
use Rattle.world_model.specs.World.{World, participant, view_named, with_node, node_at, peer_of, meets}
use Rattle.world_model.specs.Ring.{live_in_order}
use Rattle.world_model.specs.Logs.{goes_if}

-- ---- keys and nodes

abbrev pub key_named : World → KeyWord → Option Key
key_named w (key.Itself k) = Some k
key_named w (key.HeadOf log) = option_map (λ p. head_key_of (own_hss_key p.agent)) (participant w log)
key_named w (key.RecordOf log seq) = participant w log >>= λ p. option_map (λ m. m.1) (find (λ m. m.0 == seq) p.made)
key_named w (key.ViewOf view) = option_map view_name (view_named w view)
key_named w (key.SnapshotOf log) = participant w log >>= λ p. p.printed

-- the key's owner of that number, from 1
abbrev pub owner_of_key : World → ℕ → ℕ → Key → Option Peer
owner_of_key w r count k = if nat_lt 0 count then first (drop (count - 1) (owners place r (live_in_order w) (number k))) else None

abbrev pub node_named : World → NodeWord → Option Node
node_named w (node.Numbered n) = find (λ m. (peer_of m).number == n) w.nodes
node_named w (node.OwnerOf count word) = do
  r ← w.replicas
  k ← key_named w word
  p ← owner_of_key w r count k
  node_at w p.id

-- ---- lose

abbrev pub lose_line : World → ℕ → Outcome World
lose_line w count = goes_if (nat_lt 0 count && nat_le count 1000000) (record w { lost = (w.asked + count) ∷ w.lost })

-- ---- damage

abbrev pub meets_some : List (List ℕ) → Option (List ℕ) → List (List ℕ)
meets_some met None = met
meets_some met (Some bytes) = meets met bytes

-- the block with that byte changed is held, and met
abbrev pub damaged_to : World → Node → Key → Option Blocks → Outcome World
damaged_to w n k None = Refuses
damaged_to w n k (Some blocks) = Goes
    (record (with_node w (record n { blocks = blocks })) { met = meets_some w.met (bytes_at k blocks) }) []

abbrev pub damage_by : World → Option Node → Option Key → ℕ → ℕ → Outcome World
damage_by w (Some n) (Some k) offset byte = damaged_to w n k (with_byte k offset byte n.blocks)
damage_by w _ _ offset byte = Refuses

abbrev pub damage_line : World → NodeWord → KeyWord → ℕ → ℕ → Outcome World
damage_line w at named offset byte = damage_by w (node_named w at) (key_named w named) offset byte
