-- The machine of puts: of posts, which are content blocks or heads.
use Rattle.std.specs.Prelude.{◌≡◌, ℕ, ◌+◌, ◌-◌, ◌^◌, ◌≤◌, min, Bool, if◌then◌else◌, List, ◌++◌, Option, Some, Result}
use Rattle.ivy_base.specs.declared.key.Key.{Key}
use Rattle.dht_ids.specs.Asked.{told}
use Rattle.dht_ids.specs.declared.ask.Answer.{Answer}
use Rattle.dht_ids.specs.declared.ask.Ask.{Ask}
use Rattle.dht_ids.specs.declared.ask.Ask.TheVariants as ask
use Rattle.dht_ids.specs.declared.ask.Heard.{Heard}
use Rattle.dht_ids.specs.declared.ask.Want.{Want}
use Rattle.dht_ids.specs.declared.ask.Want.TheVariants as want
use Rattle.dht_ids.specs.declared.peer.Peer.{Peer}
use Rattle.dht_ids.specs.declared.post.PostKind.{PostKind}
use Rattle.dht_ids.specs.declared.post.PostKind.TheVariants as post
use Rattle.ring_model.specs.Gets.{answered_in}
use Rattle.dhash_model.specs.Execution.{Told, IsExecution}
use Rattle.dhash_model.specs.declared.miss.Miss.{Miss}
use Rattle.dhash_model.specs.Puts.{is_of_put, holds, EndsPut}
use Rattle.dhash_client.specs.Execution.{ExecutionState, IsOnExecution, IsSameExecution, begun, awaited}
use Rattle.dhash_client.specs.declared.put.PutKind.{PutKind}
use Rattle.dhash_client.specs.declared.put.PutKind.TheVariants as kind

-- how a post is put: a head as a head, any other block by its name
abbrev pub put_kind : PostKind → PutKind
put_kind post.Block = kind.Block
put_kind post.Log = kind.Block
put_kind post.Head = kind.Head

-- what owners are asked
abbrev pub question_of : PutKind → List ℕ → Key → Ask
question_of kind.Block bytes key = ask.PutBlock key bytes
question_of kind.Head bytes key = ask.PutHead key bytes

-- A put of these bytes under that key, over a whole trail.
abbrev pub IsPutOf : PutKind → List ℕ → Key → ℕ → List Peer → List Heard → Result Bool Miss → Type 0
IsPutOf what bytes key r entries = IsExecution key (question_of what bytes key) entries (EndsPut r)

-- the machine: what is put, and how many owners hold it so far
pub record PutState : Type 0 where
  pub what : PutKind
  pub execution : ExecutionState
  pub bytes : List ℕ
  pub holders : ℕ

abbrev pub put_begun : PutKind → List ℕ → Key → ℕ → List Peer → PutState
put_begun what bytes key r entries = record { what = what; execution = begun key r entries; bytes = bytes; holders = 0 }

-- what is put, under which key, and the number of answers are the same
abbrev pub IsSamePut : PutState → PutState → Type 0
IsSamePut old new = IsSameExecution old.execution new.execution × (new.what ≡ old.what) × (new.bytes ≡ old.bytes)

-- the node to be heard, and what it is asked
abbrev pub put_awaited : PutState → Option (Peer × Ask)
put_awaited s = awaited (question_of s.what s.bytes s.execution.look.key) s.execution

abbrev pub IsEnoughPut : Key → ℕ → Told → Type 0
IsEnoughPut key r t = r ≤ answered_in is_of_put t

-- the count stays at the greatest number of 32 bits
abbrev pub SumsPut : ℕ → Told → Type 0
SumsPut holders asks = holders ≡ min (answered_in holds asks) (2 ^ 32 - 1)

-- the machine may be in this state after this trail
abbrev pub PutIsAfter : List Peer → List Heard → PutState → Type 0
PutIsAfter entries trail s = IsOnExecution (question_of s.what s.bytes) is_of_put IsEnoughPut
    (λ key. SumsPut s.holders) entries trail s.execution

-- what the machine wants: to ask a node, which is then to be heard, or nothing more, since its trail is a whole put
abbrev pub PutIsWanted : PutState → PutState → Want (Result Bool Miss) → Type 0
PutIsWanted old new (want.Ask node question) =
    IsSamePut old new × (put_awaited new ≡ Some (node, question))
    × ((entries : List Peer) (trail : List Heard) → PutIsAfter entries trail old → PutIsAfter entries trail new)
PutIsWanted old new (want.Done result) =
    (entries : List Peer) (trail : List Heard) → PutIsAfter entries trail old
    → IsPutOf old.what old.bytes old.execution.look.key old.execution.replicas entries trail result

-- the node that was to be heard was heard: its ask and answer are the next of the trail
abbrev pub PutHasHeard : PutState → PutState → Answer → Type 0
PutHasHeard old new given = IsSamePut old new
    × ((entries : List Peer) (trail : List Heard) (node : Peer) (question : Ask) → put_awaited old ≡ Some (node, question)
    → PutIsAfter entries trail old → PutIsAfter entries (trail ++ told node question given) new)

-- one owner more holds the block, or not
abbrev pub one_more : Bool → ℕ → ℕ
one_more held holders = if held then min (holders + 1) (2 ^ 32 - 1) else holders
