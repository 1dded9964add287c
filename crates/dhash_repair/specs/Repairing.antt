-- A repair on its way.
use Rattle.std.specs.Prelude.{◌≡◌, ℕ, ◌+◌, ◌*◌, ◌^◌, ◌<◌, ◌≤◌, Bool, false, List, [], ◌∷◌, ◌++◌, length, Option, Some, None, if◌then◌else◌}
use Rattle.dht_ids.specs.declared.ask.Answer.{Answer}
use Rattle.dht_ids.specs.declared.ask.Ask.{Ask}
use Rattle.dht_ids.specs.declared.ask.Want.{Want}
use Rattle.dht_ids.specs.declared.ask.Want.TheVariants as want
use Rattle.dht_ids.specs.declared.peer.Peer.{Peer}
use Rattle.dht_ids.specs.declared.post.Ack.{Ack}
use Rattle.dht_ids.specs.declared.post.Post.{Post}
use Rattle.dhash_client.specs.Puts.{put_awaited}
use Rattle.dhash_repair.specs.Putting.{Putting, PuttingIsAfter, is_own, left_of, post_of}
use Rattle.dhash_repair.specs.Repairs.{Asked, IsRepair}

-- whose blocks are put, with how many answers each put is content, the put on its way, the blocks after it, and what is said of those so
-- far that may go
pub record RepairState : Type 0 where
  pub node : Peer
  pub replicas : ℕ
  pub put : Option Putting
  pub left : List Post
  pub dropped : List Ack

-- it begins with these blocks
abbrev pub repair_begun : Peer → List Post → ℕ → RepairState
repair_begun node held r = record { node = node; replicas = r; put = None; left = held; dropped = [] }

-- ---- how far it has come

-- the blocks that are still to be put: first that of the put on its way
abbrev pub posts_in : Option Putting → List Post → List Post
posts_in None left = left
posts_in (Some p) left = post_of p ∷ left

-- these asks of the put on its way were made
abbrev pub PutIsBehind : Peer → ℕ → List Asked → Option Putting → Type 0
PutIsBehind node r trail None = trail ≡ []
PutIsBehind node r trail (Some p) = (p.node ≡ node) × PuttingIsAfter r trail p

-- a repair of these blocks may be in this state after these asks: the first blocks were repaired, and the rest are to be
pub record RepairIsAfter (posts : List Post) (trail : List Asked) (s : RepairState) : Type 0 where
  pub before : List Post
  pub made : List Asked
  pub on_way : List Asked
  pub posts_are : posts ≡ before ++ posts_in s.put s.left
  pub trail_is : trail ≡ made ++ on_way
  pub repaired : IsRepair s.node s.replicas before made s.dropped
  pub behind : PutIsBehind s.node s.replicas on_way s.put

abbrev pub awaited_in : Option Putting → Option (Peer × Ask)
awaited_in None = None
awaited_in (Some p) = put_awaited p.put

-- the node to be heard, and what it is asked
abbrev pub repair_awaited : RepairState → Option (Peer × Ask)
repair_awaited s = awaited_in s.put

-- ---- what is wanted and heard

-- whose blocks are put, and how many answers are enough, are the same
abbrev pub IsSameRepair : RepairState → RepairState → Type 0
IsSameRepair old new = (new.node ≡ old.node) × (new.replicas ≡ old.replicas)

-- it goes on, and no ask was made
abbrev pub RepairGoesOn : RepairState → RepairState → Type 0
RepairGoesOn old new = IsSameRepair old new
    × ((posts : List Post) (trail : List Asked) → RepairIsAfter posts trail old → RepairIsAfter posts trail new)

-- What is wanted: to ask a node, which is then to be heard, and isn't the node itself where a block is put; or nothing more, since these
-- asks are a whole repair, and these blocks may go.
abbrev pub RepairIsWanted : RepairState → RepairState → Want (List Ack) → Type 0
RepairIsWanted old new (want.Ask node question) =
    RepairGoesOn old new × (repair_awaited new ≡ Some (node, question))
    × ((posts : List Post) (trail : List Asked) → RepairIsAfter posts trail old → is_own old.node node question ≡ false)
RepairIsWanted old new (want.Done acks) =
    (posts : List Post) (trail : List Asked) → RepairIsAfter posts trail old → IsRepair old.node old.replicas posts trail acks

-- the node that was to be heard was heard: its ask and answer are the next
abbrev pub RepairHasHeard : RepairState → RepairState → Answer → Type 0
RepairHasHeard old new given =
    IsSameRepair old new
    × ((posts : List Post) (trail : List Asked) (node : Peer) (question : Ask) → repair_awaited old ≡ Some (node, question)
    → is_own old.node node question ≡ false → RepairIsAfter posts trail old
    → RepairIsAfter posts (trail ++ (node, (question, given)) ∷ []) new)

-- ---- how many asks are left

abbrev pub left_in : Option Putting → ℕ
left_in None = 0
left_in (Some p) = left_of p + 1

-- more than the asks of a put that begins
abbrev pub most_asks : ℕ
most_asks = 2 ^ 64 + 514

-- those of the put on its way, and of a put of each block after it
abbrev pub repair_left : RepairState → ℕ
repair_left s = left_in s.put + most_asks * length s.left

-- ---- steps

-- a put is over, and its block may go or not
abbrev pub concluded : Ack → Bool → List Ack → List Ack
concluded ack goes dropped = if goes then dropped ++ ack ∷ [] else dropped

-- one step: it goes on, and less is left, or something is wanted
abbrev pub RepairSteps : RepairState → RepairState → Option (Want (List Ack)) → Type 0
RepairSteps old new None = RepairGoesOn old new × (repair_left new < repair_left old)
RepairSteps old new (Some wanted) = RepairIsWanted old new wanted × (repair_left new ≤ repair_left old)
