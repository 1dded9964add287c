-- What the nodes of a world hold, and when each put of the fourth part of a round is taken.
use Rattle.std.specs.Prelude.{◌≡◌, ◌↔◌, ℕ, Bool, true, List, Option, Some, ⊤}
use Rattle.std.specs.List.{AllByRecursion}
use Rattle.std.specs.List.Sorted.{IsStrictlySortedBy}
use Rattle.std.specs.Map.{keys_of}
use Rattle.ivy_base.specs.declared.key.Key.{Key}
use Rattle.ivy_base.specs.Naming.{key_cmp}
use Rattle.ring_model.specs.Members.{IsAmong}
use Rattle.dht_ids.specs.declared.judge.Judged.{Judged}
use Rattle.dht_ids.specs.declared.peer.Peer.{Peer}
use Rattle.dhash_model.specs.Puts.{holds}
use Rattle.dhash_model.specs.Stores.{Block, Blocks}
use Rattle.world_model.specs.World.{World}
use Rattle.world_model.specs.Rounds.{EachDoes, PutsAll, PutsAround, Repairs}
use Rattle.world_model.specs.Rounds.EachDoes.{done, next}
use Rattle.world_model.specs.Rounds.PutsAround.{no_route, puts}
use Rattle.world_model.specs.Rounds.PutsAll.{done as all_put, keeps, drops}
use Rattle.world_model.specs.Holding.{held_in}

-- each node holds its blocks by ascending keys, and under one key all nodes hold content or all hold heads
pub record AreStores (w : World) : Type 0 where
  pub sorted : AllByRecursion (λ n. IsStrictlySortedBy key_cmp (keys_of n.blocks)) w.nodes
  pub kinds : (key : Key) (p q : Peer) (b c : Block) → held_in w key p ≡ Some b → held_in w key q ≡ Some c → b.kind ≡ c.kind

-- the test says which are the owners
abbrev pub Tells : (Peer → Bool) → List Peer → Type 0
Tells owns owners = (m : Peer) → owns m ≡ true ↔ IsAmong m owners

module _ {judged : Key → List ℕ → Option Judged} {r : ℕ} where
  -- there are owners, and each that was asked holds the block then, or a newer head
  abbrev pub IsTaken : {p : Peer} {key : Key} {block : Block} {w after : World} {dropped : Bool}
      → PutsAround judged p r key block w dropped after → Type 0
  IsTaken (no_route found after looks nobody) = ⊥
  IsTaken (puts q qs asks mid after acknowledged dropped looks put own fates goes) = AllByRecursion (λ s. holds s.1 ≡ true) asks

  abbrev pub AllTaken : {p : Peer} {blocks : Blocks} {w after : World} {dropped : List Key} → PutsAll judged p r blocks w dropped after
      → Type 0
  AllTaken all_put = ⊤
  AllTaken (keeps one rest) = IsTaken one × AllTaken rest
  AllTaken (drops one rest) = IsTaken one × AllTaken rest

  -- each put of the fourth part is so
  abbrev pub EachTaken : {w after : World} {ps : List Peer} → EachDoes (Repairs judged r) w ps after → Type 0
  EachTaken done = ⊤
  EachTaken (next first rest) = AllTaken first.puts × EachTaken rest
