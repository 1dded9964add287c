-- Laws of calm scripts with any lines, in which nodes stop, join and rounds are made. The ring stays, what was acknowledged can be read, so
-- many copies there are, and a round leaves blocks there. CFS (SOSP 2001, section 5.1): a block's copies stand at the r nodes that follow
-- its key, and move to them.
use Rattle.std.specs.Prelude.{ℕ, ◌≤◌, List, length, sum_by, Contains}
use Rattle.ring_model.specs.Blocks.{IsAtLeast}
use Rattle.ring_model.specs.Circle.{number}
use Rattle.ring_model.specs.Members.{IsAmong, owners}
use Rattle.dht_ids.specs.Peers.{place}
use Rattle.dht_ids.specs.declared.peer.Peer.{Peer}
use Rattle.dht_ids.specs.declared.post.Post.{Post}
use Rattle.dhash_model.specs.Signed.{hss_judged}
use Rattle.world_model.specs.Logs.{Played}
use Rattle.world_model.specs.Ring.{live_in_order}
use Rattle.world_model.specs.Rounds.{IsRoundOf}
use Rattle.world_model.specs.Step.{most_bytes}
use Rattle.world_model.specs.World.{World}
use Rattle.calm_laws.specs.Calm.{IsCalmAt, Since, Stopped, post_rank, held_rank}
use Rattle.calm_laws.specs.Readable.{IsReadable, KeepsItsRing, MovesBlocks}

-- The ring is settled after each round, and covered at each later line but between a join and its round.
abbrev pub RingStays : Type 0
RingStays = (w : Played) → KeepsItsRing w

-- Each post of which a put was acknowledged is stored and can be read.
abbrev pub AcknowledgedIsReadable : Type 0
AcknowledgedIsReadable = (r : ℕ) (w : Played) (count : ℕ) (lines : List (List ℕ)) (p : Post) → IsCalmAt r w (Stopped count) lines
    → Contains w.1.acked p → IsReadable r w.0 p

-- What was met is within the limit of a script. So it is before each line that goes on; how much one line meets, as by a snapshot, is
-- bounded by no definition, and stores may be full.
abbrev pub IsWithinLimit : World → Type 0
IsWithinLimit w = sum_by (λ b. length b) w.met ≤ most_bytes

-- Right after a round, be it that of a join, each block that a live node held stands at its owners, and nowhere else.
abbrev pub RoundMovesBlocks : Type 0
RoundMovesBlocks = (r : ℕ) (w : Played) (next : World) (since : Since) (lines : List (List ℕ)) → IsCalmAt r w since lines
    → IsWithinLimit w.0 → IsRoundOf hss_judged r w.0 next → MovesBlocks r w.0 next

-- While no node has stopped since the ring was made or the last round, each owner of its key holds each post of which a put was
-- acknowledged, or a newer head.
abbrev pub AckedHasCopies : Type 0
AckedHasCopies = (r : ℕ) (w : Played) (lines : List (List ℕ)) (p : Post) (m : Peer) → IsCalmAt r w (Stopped 0) lines → IsWithinLimit w.0
    → Contains w.1.acked p → IsAmong m (owners place r (live_in_order w.0) (number p.key))
    → IsAtLeast (post_rank p) (held_rank w.0 p.key m)
