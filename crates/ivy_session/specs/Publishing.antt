-- Posts that are put one after the other.
use Rattle.std.specs.Prelude.{◌≡◌, ◌≢◌, ◌⊎◌, ℕ, ◌+◌, ◌*◌, ◌^◌, ◌≤◌, Bool, true, false, not, List, [], ◌∷◌, ◌++◌, length, filter, Option}
use Rattle.std.specs.Prelude.{Some, None, Result, if◌then◌else◌}
use Rattle.dht_ids.specs.Asked.{told}
use Rattle.dht_ids.specs.declared.ask.Answer.{Answer}
use Rattle.dht_ids.specs.declared.ask.Ask.{Ask}
use Rattle.dht_ids.specs.declared.ask.Heard.{Heard}
use Rattle.dht_ids.specs.declared.ask.Want.{Want}
use Rattle.dht_ids.specs.declared.ask.Want.TheVariants as want
use Rattle.dht_ids.specs.declared.peer.Peer.{Peer}
use Rattle.dht_ids.specs.declared.post.Ack.{Ack}
use Rattle.dht_ids.specs.declared.post.Post.{Post}
use Rattle.dht_ids.specs.declared.post.PostKind.{PostKind}
use Rattle.dhash_model.specs.declared.miss.Miss.{Miss}
use Rattle.dhash_client.specs.Execution.{asks_left}
use Rattle.dhash_client.specs.Puts.{put_awaited}
use Rattle.agent_model.specs.Agent.{is_head}
use Rattle.session_model.specs.Sessions.{Said, Stage, Publishing, IsPutOfPost, in_publishing_order, is_log, after_put, acknowledged}
use Rattle.ivy_session.specs.Putting.{Putting, PuttingIsAfter, IsSamePutting, post_of}

-- posts that are put: with how many answers each put is content, at which nodes it begins its look-up, the put on its way, the posts after
-- it in their order, and the acknowledgements so far
pub record PublishingState : Type 0 where
  pub replicas : ℕ
  pub entries : List Peer
  pub put : Option Putting
  pub left : List Post
  pub acks : List Ack

-- it begins with these posts
abbrev pub publishing_begun : ℕ → List Peer → List Post → PublishingState
publishing_begun r entries posts = record { replicas = r; entries = entries; put = None; left = in_publishing_order posts; acks = [] }

-- ---- in the words of sessions

abbrev pub posts_in : Option Putting → List Post → List Post
posts_in None left = left
posts_in (Some p) left = post_of p ∷ left

-- the posts that are still to be put: first that of the put on its way
abbrev pub posts_of : PublishingState → List Post
posts_of s = posts_in s.put s.left

-- the stage of a session that publishes so
abbrev pub stage_of : Option Said → PublishingState → Stage
stage_of said s = Publishing said (posts_of s) s.acks

abbrev pub PutIsBehind : ℕ → List Peer → List Heard → Option Putting → Type 0
PutIsBehind r entries trail None = trail ≡ []
PutIsBehind r entries trail (Some p) = PuttingIsAfter r entries trail p

-- it may be in this state after this trail of the put on its way
abbrev pub PublishingIsAfter : List Heard → PublishingState → Type 0
PublishingIsAfter trail s = PutIsBehind s.replicas s.entries trail s.put

-- how many answers are enough, and the nodes at which look-ups begin, are the same
abbrev pub IsSameWay : PublishingState → PublishingState → Type 0
IsSameWay old new = (new.replicas ≡ old.replicas) × (new.entries ≡ old.entries)

abbrev pub awaited_in : Option Putting → Option (Peer × Ask)
awaited_in None = None
awaited_in (Some p) = put_awaited p.put

-- the node to be heard, and what it is asked
abbrev pub publishing_awaited : PublishingState → Option (Peer × Ask)
publishing_awaited s = awaited_in s.put

-- ---- what is heard

-- These are the asks of the put on its way, the last of which was heard now: the put goes on, and a node is to be heard again; or it is
-- over, and the session is in the stage after it.
pub data PutHears (said : Option Said) (asks : List Heard) (old new : PublishingState) : Type 0 where
  puts_on : stage_of said new ≡ stage_of said old → PublishingIsAfter asks new → publishing_awaited new ≢ None → PutHears said asks old new
  puts : (p : Post) (posts : List Post) (came : Result Bool Miss) → stage_of said old ≡ Publishing said (p ∷ posts) old.acks
      → IsPutOfPost old.replicas old.entries p asks came
      → stage_of said new ≡ after_put said p posts old.acks (acknowledged came) → PublishingIsAfter [] new → publishing_awaited new ≡ None
      → PutHears said asks old new

-- the node that was to be heard was heard: its ask and answer are the next of the trail of the put on its way
abbrev pub PublishingHasHeard : PublishingState → PublishingState → Answer → Type 0
PublishingHasHeard old new given =
    IsSameWay old new
    × ((said : Option Said) (trail : List Heard) (node : Peer) (question : Ask) → publishing_awaited old ≡ Some (node, question)
    → PublishingIsAfter trail old
    → PutHears said (trail ++ told node question given) old new)

-- ---- what is wanted

-- the stage is the same, and the trail of the put on its way
abbrev pub IsSameStage : PublishingState → PublishingState → Type 0
IsSameStage old new = ((said : Option Said) → stage_of said new ≡ stage_of said old)
    × ((trail : List Heard) → PublishingIsAfter trail old → PublishingIsAfter trail new)

-- Puts that are over with no ask, since no node is known: from a stage to that after them. Each is of the first post that is left.
pub data Passes (r : ℕ) : Stage → Stage → Type 0 where
  none : {stage : Stage} → Passes r stage stage
  over : {said : Option Said} {p : Post} {posts : List Post} {acks : List Ack} {end : Stage} (came : Result Bool Miss)
      → IsPutOfPost r [] p [] came
      → Passes r (after_put said p posts acks (acknowledged came)) end → Passes r (Publishing said (p ∷ posts) acks) end

-- no node is known, and nothing was asked: puts are over with no ask
abbrev pub GoesOn : PublishingState → PublishingState → Type 0
GoesOn old new = (old.entries ≡ []) × ((trail : List Heard) → PublishingIsAfter trail old → trail ≡ []) × PublishingIsAfter [] new
    × ((said : Option Said) → Passes old.replicas (stage_of said old) (stage_of said new))

-- a post is left, which is the first
abbrev pub HasFirst : PublishingState → Type 0
HasFirst s = (p : Post) × (posts : List Post) × ((said : Option Said) → stage_of said s ≡ Publishing said (p ∷ posts) s.acks)

-- What is wanted: to ask a node, which is then to be heard, for the first post that is left; or nothing more, since all posts were put and
-- these were acknowledged. Where a node is known, no put was over meanwhile.
abbrev pub PublishingIsWanted : PublishingState → PublishingState → Want (List Ack) → Type 0
PublishingIsWanted old new (want.Ask node question) =
    IsSameWay old new × (publishing_awaited new ≡ Some (node, question)) × HasFirst new × (IsSameStage old new ⊎ GoesOn old new)
PublishingIsWanted old new (want.Done acks) = (said : Option Said) (trail : List Heard) → PublishingIsAfter trail old
    → (trail ≡ []) × ((stage_of said old ≡ Publishing said [] acks)
    ⊎ ((old.entries ≡ []) × Passes old.replicas (stage_of said old) (Publishing said [] acks)))

-- ---- how many asks are left

-- the most asks of one put
abbrev pub most_asks : ℕ
most_asks = 2 ^ 64 + 512

abbrev pub left_in : Option Putting → ℕ
left_in None = 0
left_in (Some p) = asks_left p.put.execution

-- those of the put on its way, and of a put of each post after it
abbrev pub puts_left : PublishingState → ℕ
puts_left s = left_in s.put + most_asks * length s.left

-- ---- steps

-- the first post that is left, where no put is on its way
abbrev pub next_post : Option Putting → List Post → Option Post
next_post (Some p) left = None
next_post None [] = None
next_post None (p ∷ left) = Some p

-- and the posts after it
abbrev pub left_behind : Option Putting → List Post → List Post
left_behind (Some p) left = left
left_behind None [] = []
left_behind None (p ∷ left) = left

-- what is left after a put of such a post that wasn't acknowledged
abbrev pub held_behind : PostKind → List Post → List Post
held_behind kind left = if is_log kind then filter (λ q. not (is_head q.kind)) left else left

-- a put of such a post is over, and was acknowledged or not
abbrev pub concluded : PostKind → Ack → Bool → PublishingState → PublishingState
concluded kind ack true s = record s { acks = s.acks ++ ack ∷ [] }
concluded kind ack false s = record s { left = held_behind kind s.left }

-- the put goes on, and asks a node
pub record PutAsks (old : Putting) (before now : PublishingState) : Type 0 where
  pub new : Putting
  pub now_is : now ≡ record before { put = Some new }
  pub same : IsSamePutting old new
  pub asks : put_awaited new.put ≢ None
  pub keeps : (r : ℕ) (entries : List Peer) (trail : List Heard) → PuttingIsAfter r entries trail old → PuttingIsAfter r entries trail new
  pub left : asks_left new.put.execution ≤ asks_left old.put.execution

-- the put is over
pub record PutIsOver (old : Putting) (before now : PublishingState) : Type 0 where
  pub came : Result Bool Miss
  pub now_is : now ≡ concluded old.kind old.ack (acknowledged came) before
  pub whole : (r : ℕ) (entries : List Peer) (trail : List Heard) → PuttingIsAfter r entries trail old
      → IsPutOfPost r entries (post_of old) trail came

abbrev pub PutGoesOn : Putting → PublishingState → PublishingState → Type 0
PutGoesOn old before now = PutAsks old before now ⊎ PutIsOver old before now

-- puts began, of the first posts that are left
pub record HasBegun (old now : PublishingState) : Type 0 where
  pub way : IsSameWay old now
  pub stage : IsSameStage old now ⊎ GoesOn old now
  pub left : puts_left now ≤ puts_left old
