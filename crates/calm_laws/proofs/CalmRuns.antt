-- The ring of the line that makes it: its nodes live and hold nothing.
use Rattle.std.proofs.Common.{◌≡◌, ℕ, true, List, [], Some, refl, subst}
use Rattle.std.specs.List.{AllByRecursion}
use Rattle.dht_ids.specs.declared.peer.Peer.{Peer}
use Rattle.script_driver.specs.Run.{Outcome, Goes}
use Rattle.script_model.specs.declared.command.Command.{Command}
use Rattle.world_model.specs.Nodes.{Node}
use Rattle.world_model.specs.World.{World}
use Rattle.world_model.specs.Ring.{AreSettled, RingLine}
use Rattle.world_model.specs.Ring.AreSettled.{none as nobody, more as one_more}
use Rattle.world_model.specs.Ring.RingLine.{refused as ring_refused, exceeds as ring_exceeds, makes as ring_makes}

all_live : {live : List Peer} {r : ℕ} {peers : List Peer} {nodes : List Node} → AreSettled live r peers nodes → AllByRecursion (λ n. n.is_live ≡ true) nodes
all_live nobody = tt
all_live (one_more state is rest) = (refl, all_live rest)

all_empty : {live : List Peer} {r : ℕ} {peers : List Peer} {nodes : List Node} → AreSettled live r peers nodes → AllByRecursion (λ n. n.blocks ≡ []) nodes
all_empty nobody = tt
all_empty (one_more state is rest) = (refl, all_empty rest)

goes_to : {one other : World} → Goes one [] ≡ Goes other [] → one ≡ other
goes_to e = cc

-- the ring of a line, and the world that it leaves
pub record IsFirst (r : ℕ) (w made : World) : Type 0 where
  pub live : AllByRecursion (λ n. n.is_live ≡ true) made.nodes
  pub empty : AllByRecursion (λ n. n.blocks ≡ []) made.nodes
  pub rest : made ≡ record w { replicas = Some r; nodes = made.nodes }

pub first_of : (w made : World) (count r : ℕ) → RingLine w count r (Goes made []) → IsFirst r w made
first_of w made count r line = by (Goes made []) line refl
  where
    by : (o : Outcome World) → RingLine w count r o → o ≡ Goes made [] → IsFirst r w made
    by _ (ring_refused h) e = absurd cc
    by _ (ring_exceeds h g) e = absurd cc
    by _ (ring_makes nodes h g settled) e = subst (IsFirst r w) (goes_to e) (record { live = all_live settled; empty = all_empty settled; rest = refl })

pub some_command : (c d : Command) → Some c ≡ Some d → c ≡ d
some_command c d e = cc e
