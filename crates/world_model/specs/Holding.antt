-- What the nodes of a world hold.
use Rattle.std.specs.Prelude.{ℕ, List, Option, option_map, option_and_then}
use Rattle.std.specs.Option.{option_map_or}
use Rattle.std.specs.FinMap.Entries.{find as value_at}
use Rattle.ivy_base.specs.declared.key.Key.{Key}
use Rattle.ivy_base.specs.Naming.{key_cmp}
use Rattle.dht_ids.specs.declared.judge.Judged.{Judged}
use Rattle.dht_ids.specs.declared.peer.Peer.{Peer}
use Rattle.dhash_model.specs.Stores.{Block, number_of}
use Rattle.world_model.specs.World.{World}
use Rattle.world_model.specs.RingOf.{node_of}

-- the block that the peer's node holds under the key
abbrev pub held_in : World → Key → Peer → Option Block
held_in w key p = option_and_then (λ n. value_at key_cmp key n.blocks) (node_of w p)

-- the rank of a block under a key: its number where it is a head, and 0 for content
abbrev pub block_rank : (Key → List ℕ → Option Judged) → Key → Block → ℕ
block_rank judged key block = option_map_or (λ seq. seq) (number_of (judged key) block) 0

-- the rank of what it holds under the key
abbrev pub rank_in : (Key → List ℕ → Option Judged) → World → Key → Peer → Option ℕ
rank_in judged w key p = option_map (block_rank judged key) (held_in w key p)
