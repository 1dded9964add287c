-- Nodes join a live ring, and stop.
use Rattle.std.specs.Prelude.{◌≡◌, ℕ, ◌==◌, ◌<◌, ◌≤◌, Bool, true, false, not, [], ◌∷◌}
use Rattle.std.specs.Prelude.{◌++◌, filter, length, Result, Ok, Err}
use Rattle.std.specs.List.{list_any}
use Rattle.world_model.specs.Ring.{is_known_id, peer_numbered}
use Rattle.world_model.specs.World.{with_numbered}
use Rattle.ring_run.specs.Live.{LiveState}
use Rattle.ring_run.specs.declared.fault.JoinFault.{JoinFault}
use Rattle.ring_run.specs.declared.fault.JoinFault.TheVariants as fault

-- ---- join

-- a node more was made, and lives
abbrev pub with_node_more : LiveState → ℕ → LiveState
with_node_more r number = record r { made = with_numbered r.made (peer_numbered number); live = r.live ++ peer_numbered number ∷ [] }

-- What comes of a node that is to join. Known: one of its identifier was made before; Limit: 256 were made. Whatever fails changes nothing.
pub data Joins (r : LiveState) (number : ℕ) : Result Unit JoinFault → LiveState → Type 0 where
  joined : is_known_id r.made (peer_numbered number) ≡ false → length r.made < 256 → Joins r number (Ok tt) (with_node_more r number)
  known : is_known_id r.made (peer_numbered number) ≡ true → Joins r number (Err fault.Known) r
  limit : is_known_id r.made (peer_numbered number) ≡ false → 256 ≤ length r.made → Joins r number (Err fault.Limit) r
  memory : is_known_id r.made (peer_numbered number) ≡ false → length r.made < 256 → Joins r number (Err fault.Memory) r

-- ---- stop

-- a node of that number lives
abbrev pub has_number : LiveState → ℕ → Bool
has_number r number = list_any (λ p. p.number == number) r.live

-- the node of that number lives no longer
abbrev pub without_number : LiveState → ℕ → LiveState
without_number r number = record r { live = filter (λ p. not (p.number == number)) r.live }
