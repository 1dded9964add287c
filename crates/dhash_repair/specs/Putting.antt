-- The put of one block by a node that holds it, on its way.
use Rattle.std.specs.Prelude.{◌≡◌, ◌⊎◌, ℕ, ◌<◌, ◌≤◌, Bool, true, false, ◌&&◌, not, List, [], ◌∷◌, ◌++◌, filter, Option, Some, None, Result}
use Rattle.std.specs.Prelude.{Ok, Err}
use Rattle.std.specs.List.{AllByRecursion, flat_map, list_any}
use Rattle.dht_ids.specs.Asked.{told}
use Rattle.dht_ids.specs.declared.ask.Answer.{Answer}
use Rattle.dht_ids.specs.declared.ask.Answer.TheVariants as answer
use Rattle.dht_ids.specs.declared.ask.Ask.{Ask}
use Rattle.dht_ids.specs.declared.ask.Ask.TheVariants as ask
use Rattle.dht_ids.specs.declared.ask.Heard.{Heard}
use Rattle.dht_ids.specs.declared.ask.Want.{Want}
use Rattle.dht_ids.specs.declared.ask.Want.TheVariants as want
use Rattle.dht_ids.specs.declared.peer.Peer.{Peer}
use Rattle.dht_ids.specs.declared.post.Ack.{Ack}
use Rattle.dht_ids.specs.declared.post.Post.{Post}
use Rattle.dht_ids.specs.declared.post.PostKind.{PostKind}
use Rattle.dhash_model.specs.declared.miss.Miss.{Miss}
use Rattle.dhash_client.specs.Execution.{asks_left}
use Rattle.dhash_client.specs.Puts.{PutState, PutHasHeard, PutIsAfter, IsSamePut, put_begun, put_awaited, put_kind}
use Rattle.dhash_repair.specs.Repairs.{Asked, IsPutFrom, ack_of, is_node, put_question}

-- a put on its way: the node that makes it, what its block is and what is said of the block, the put so far, and whether the node counted
-- among the owners
pub record Putting : Type 0 where
  pub node : Peer
  pub kind : PostKind
  pub ack : Ack
  pub put : PutState
  pub counts : Bool

abbrev pub post_of : Putting → Post
post_of s = record { key = s.put.execution.look.key; bytes = s.put.bytes; kind = s.kind }

-- one that begins
abbrev pub putting : Peer → Post → ℕ → Putting
putting node p r = record {
  node = node;
  kind = p.kind;
  ack = ack_of p;
  put = put_begun (put_kind p.kind) p.bytes p.key r (node ∷ []);
  counts = false;
}

-- ---- asks of the node itself

abbrev pub is_put : Ask → Bool
is_put (ask.Route key) = false
is_put ask.Near = false
is_put (ask.Notify peer) = false
is_put (ask.Get key) = false
is_put (ask.PutBlock key bytes) = true
is_put (ask.PutHead key bytes) = true

-- the node would put its block at itself, which it doesn't ask
abbrev pub is_own : Peer → Peer → Ask → Bool
is_own node peer question = is_put question && is_node node peer

abbrev pub is_own_of : Peer → Asked → Bool
is_own_of node a = is_own node a.0 a.1.0

-- those that are made
abbrev pub made_of : Peer → List Asked → List Asked
made_of node asks = filter (λ a. not (is_own_of node a)) asks

abbrev pub told_of : List Asked → List Heard
told_of asks = flat_map (λ a. told a.0 a.1.0 a.1.1) asks

-- ---- how far it has come

-- it puts its block, and may be in this state after these asks that were made: so the put may, after these and the node's own
pub record PuttingIsAfter (r : ℕ) (trail : List Asked) (s : Putting) : Type 0 where
  pub what : s.put.what ≡ put_kind s.kind
  pub named : s.ack ≡ ack_of (post_of s)
  pub replicas : s.put.execution.replicas ≡ r
  pub asks : List Asked
  pub made : trail ≡ made_of s.node asks
  pub own : AllByRecursion (λ a. is_own_of s.node a ≡ true → a.1.1 ≡ answer.Stored) asks
  pub ours : AllByRecursion (λ a. (a.1.0 ≡ ask.Route s.put.execution.look.key) ⊎ (a.1.0 ≡ put_question (post_of s))) asks
  pub counts : s.counts ≡ list_any (is_own_of s.node) asks
  pub after : PutIsAfter (s.node ∷ []) (told_of asks) s.put

-- who puts which block, and how many answers are enough, are the same
abbrev pub IsSamePutting : Putting → Putting → Type 0
IsSamePutting old new = (new.node ≡ old.node) × (new.kind ≡ old.kind) × (new.ack ≡ old.ack) × IsSamePut old.put new.put

-- it goes on, and no ask was made
abbrev pub PuttingGoesOn : Putting → Putting → Type 0
PuttingGoesOn old new = IsSamePutting old new × ((r : ℕ) (trail : List Asked) → PuttingIsAfter r trail old → PuttingIsAfter r trail new)

-- what it wants: to ask another node, or itself for the route; or nothing more, since these asks are a whole put of its block, which may go
-- or not
abbrev pub PuttingIsWanted : Putting → Putting → Want Bool → Type 0
PuttingIsWanted old new (want.Ask node question) =
    PuttingGoesOn old new × (put_awaited new.put ≡ Some (node, question)) × (is_own old.node node question ≡ false)
PuttingIsWanted old new (want.Done goes) =
    (r : ℕ) (trail : List Asked) → PuttingIsAfter r trail old → IsPutFrom old.node r (post_of old) trail goes

-- the node that was to be heard was heard: its ask and answer are the next
abbrev pub PuttingHasHeard : Putting → Putting → Answer → Type 0
PuttingHasHeard old new given =
    IsSamePutting old new
    × ((r : ℕ) (trail : List Asked) (node : Peer) (question : Ask) → put_awaited old.put ≡ Some (node, question)
    → is_own old.node node question ≡ false → PuttingIsAfter r trail old
    → PuttingIsAfter r (trail ++ (node, (question, given)) ∷ []) new)

-- ---- steps

abbrev pub left_of : Putting → ℕ
left_of s = asks_left s.put.execution

-- the put was acknowledged
abbrev pub acknowledged : Result Bool Miss → Bool
acknowledged (Ok held) = held
acknowledged (Err miss) = false

-- the node counts as having answered that it holds the block
abbrev pub PuttingCounts : Putting → Putting → Type 0
PuttingCounts old new = (new.node ≡ old.node) × (new.kind ≡ old.kind) × (new.ack ≡ old.ack) × (new.counts ≡ true)
    × PutHasHeard old.put new.put answer.Stored × (left_of new < left_of old)

-- that node is asked so, or it is the node itself, which counts
abbrev pub PuttingAsks : Putting → Putting → Peer → Ask → Option (Want Bool) → Type 0
PuttingAsks old new node question None = (is_own old.node node question ≡ true) × PuttingCounts old new
PuttingAsks old new node question (Some wanted) = (wanted ≡ want.Ask node question) × (is_own old.node node question ≡ false) × (new ≡ old)

-- one step: the node counted, and fewer asks are left, or something is wanted
abbrev pub PuttingSteps : Putting → Putting → Option (Want Bool) → Type 0
PuttingSteps old new None = PuttingGoesOn old new × (left_of new < left_of old)
PuttingSteps old new (Some wanted) = PuttingIsWanted old new wanted × (left_of new ≤ left_of old)
