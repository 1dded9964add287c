-- No store is full while the blocks that were met are within their limit: it holds each at most twice, as content and as a head.
use Rattle.std.proofs.Common.{◌≡◌, ℕ, ◌≤◌, Bool, true, false, cond, List, length, Some, None, refl, ap, arith, nat_lt, Contains}
use Rattle.std.specs.Prelude.{sum_by}
use Rattle.std.specs.List.{AllByRecursion}
use Rattle.std.specs.Ordering.{eq_by_cmp}
use Rattle.std.specs.FinMap.Entries.{find as value_at, put}
use Rattle.std.proofs.lemmas.Bool.{ltb-true}
use Rattle.ivy_base.specs.declared.key.Key.{Key}
use Rattle.ivy_base.specs.Naming.{key_cmp}
use Rattle.dht_ids.specs.declared.ask.StoreFault.TheVariants.{Full}
use Rattle.log_model.proofs.Lists.{each}
use Rattle.dhash_model.specs.Stores.{Block, Blocks, bytes_held, store_capacity, full}
use Rattle.node_store.specs.Stores.{IsStore}
use Rattle.node_store.proofs.Sums.{held_after_put}
use Rattle.world_model.specs.Nodes.{Node}
use Rattle.world_model.specs.World.{World, node_at, peer_of}
use Rattle.world_model.specs.Logs.{Played}
use Rattle.world_model.specs.Step.{most_bytes}
use Rattle.world_laws.specs.Invariant.{Invariant}
use Rattle.world_laws.proofs.StoredBlocks.{to_sorted}
use Rattle.calm_laws.proofs.BlockKinds.{IsFit, of_fit}
use Rattle.calm_laws.proofs.Holding.{AreOrderly}
use Rattle.calm_laws.proofs.Rooms.{held_within, one_within, total}
use Rattle.calm_laws.specs.Completeness.{StoresHaveRoom}
use Rattle.calm_laws.proofs.HeldHeads.{found_in}
use Rattle.calm_laws.proofs.RoundPuts.{found_so}
use Rattle.calm_laws.proofs.Standing.{calm_world}

pub has_room : (met : List (List ℕ)) (es : Blocks) → IsStore es → AllByRecursion (λ e. Contains met e.1.bytes) es → ((k : Key) (c : Block) → value_at key_cmp k es ≡ Some c → IsFit c.kind k c.bytes)
    → (key : Key) (block : Block) → Contains met block.bytes → total met ≤ most_bytes → full key block es ≡ None
has_room met es store held kinds key block c fits = by (nat_lt store_capacity (bytes_held (put key_cmp key block es))) refl
  where
    by : (b : Bool) → nat_lt store_capacity (bytes_held (put key_cmp key block es)) ≡ b → full key block es ≡ None
    by true e =
        let over = ltb-true store_capacity (bytes_held (put key_cmp key block es)) e in
        let now = held_after_put key es block store.ascending in
        let before = held_within met es (to_sorted es store.ascending) (λ k d f. (kinds k d f, found_so (λ kind key bytes. Contains met bytes) k es d held f)) in
        let its_size = one_within met block.bytes c in
        absurd (omega (arith, over, now, before, its_size, fits))
    by false e = ap (λ b. cond b (Some Full) None) e

-- the blocks of a node of such a world fit their keys
pub kinds_of : (w : World) → AreOrderly w w → (id : Key) (n : Node) → node_at w id ≡ Some n → (k : Key) (c : Block) → value_at key_cmp k n.blocks ≡ Some c → IsFit c.kind k c.bytes
kinds_of w orderly id n at k c f = of_fit w k c.kind c.bytes ((orderly id n at).kinds k c f)

pub room_at : (w : Played) → Invariant w → AreOrderly w.0 w.0 → (id : Key) (n : Node) (key : Key) (block : Block) → sum_by (λ b. length b) w.0.met ≤ most_bytes → node_at w.0 id ≡ Some n → Contains w.0.met block.bytes → full key block n.blocks ≡ None
room_at w keeps orderly id n key block fits at met =
    let its = each _ w.0.nodes n keeps.met.held (found_in (λ (m : Node). eq_by_cmp key_cmp (peer_of m).id id) w.0.nodes n at) in
    has_room w.0.met n.blocks its.0 its.1 (kinds_of w.0 orderly id n at) key block met fits

pub stores_have_room : StoresHaveRoom
stores_have_room r w count lines id n key block calm = let world = calm_world r w count lines calm in room_at w world.keeps world.state.good.orderly id n key block
