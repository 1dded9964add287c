-- The put of one post, on its way.
use Rattle.std.specs.Prelude.{◌≡◌, ℕ, Bool, List, ◌++◌, Some, Result}
use Rattle.dht_ids.specs.Asked.{told}
use Rattle.dht_ids.specs.declared.ask.Answer.{Answer}
use Rattle.dht_ids.specs.declared.ask.Ask.{Ask}
use Rattle.dht_ids.specs.declared.ask.Heard.{Heard}
use Rattle.dht_ids.specs.declared.ask.Want.{Want}
use Rattle.dht_ids.specs.declared.ask.Want.TheVariants as want
use Rattle.dht_ids.specs.declared.peer.Peer.{Peer}
use Rattle.dht_ids.specs.declared.post.Ack.{Ack}
use Rattle.dht_ids.specs.declared.post.Post.{Post}
use Rattle.dht_ids.specs.declared.post.PostKind.{PostKind}
use Rattle.dhash_model.specs.declared.miss.Miss.{Miss}
use Rattle.dhash_client.specs.Puts.{PutState, PutIsAfter, IsSamePut, put_begun, put_awaited, put_kind}
use Rattle.session_model.specs.Sessions.{IsPutOfPost, ack_of}

-- a put on its way: what its post is, the post's acknowledgement, and the put so far
pub record Putting : Type 0 where
  pub kind : PostKind
  pub ack : Ack
  pub put : PutState

abbrev pub post_of : Putting → Post
post_of s = record { key = s.put.execution.look.key; bytes = s.put.bytes; kind = s.kind }

-- one that begins
abbrev pub putting : Post → ℕ → List Peer → Putting
putting p r entries = record { kind = p.kind; ack = ack_of p; put = put_begun (put_kind p.kind) p.bytes p.key r entries }

-- what is put, and the number of answers, are the same
abbrev pub IsSamePutting : Putting → Putting → Type 0
IsSamePutting old new = (new.kind ≡ old.kind) × (new.ack ≡ old.ack) × IsSamePut old.put new.put

-- it puts its post, and may be in this state after this trail
pub record PuttingIsAfter (r : ℕ) (entries : List Peer) (trail : List Heard) (s : Putting) : Type 0 where
  pub what : s.put.what ≡ put_kind s.kind
  pub named : s.ack ≡ ack_of (post_of s)
  pub replicas : s.put.execution.replicas ≡ r
  pub after : PutIsAfter entries trail s.put

-- what it wants: to ask a node, which is then to be heard, or nothing more, since its trail is a whole put of its post
abbrev pub PuttingIsWanted : Putting → Putting → Want (Result Bool Miss) → Type 0
PuttingIsWanted old new (want.Ask node question) =
    IsSamePutting old new × (put_awaited new.put ≡ Some (node, question))
    × ((r : ℕ) (entries : List Peer) (trail : List Heard) → PuttingIsAfter r entries trail old → PuttingIsAfter r entries trail new)
PuttingIsWanted old new (want.Done came) =
    (r : ℕ) (entries : List Peer) (trail : List Heard) → PuttingIsAfter r entries trail old → IsPutOfPost r entries (post_of old) trail came

-- the node that was to be heard was heard: its ask and answer are the next of the trail
abbrev pub PuttingHasHeard : Putting → Putting → Answer → Type 0
PuttingHasHeard old new given =
    IsSamePutting old new
    × ((r : ℕ) (entries : List Peer) (trail : List Heard) (node : Peer) (question : Ask) → put_awaited old.put ≡ Some (node, question)
    → PuttingIsAfter r entries trail old
    → PuttingIsAfter r entries (trail ++ told node question given) new)
