-- The machine of a get of a log's head.
use Rattle.std.specs.Prelude.{◌≡◌, ℕ, ◌≤◌, List, [], ◌∷◌, ◌++◌, Option, Some, None, Result, Ok, Err}
use Rattle.ivy_base.specs.declared.key.Key.{Key}
use Rattle.dht_ids.specs.Asked.{told}
use Rattle.dht_ids.specs.declared.ask.Answer.{Answer}
use Rattle.dht_ids.specs.declared.ask.Ask.{Ask}
use Rattle.dht_ids.specs.declared.ask.Ask.TheVariants as ask
use Rattle.dht_ids.specs.declared.ask.Heard.{Heard}
use Rattle.dht_ids.specs.declared.ask.Want.{Want}
use Rattle.dht_ids.specs.declared.ask.Want.TheVariants as want
use Rattle.dht_ids.specs.declared.judge.Judged.{Judged}
use Rattle.dht_ids.specs.declared.peer.Peer.{Peer}
use Rattle.ring_model.specs.Gets.{answered_in, first_giver, judged}
use Rattle.dhash_model.specs.Execution.{Told}
use Rattle.dhash_model.specs.GetBlock.{is_of_get, block_in}
use Rattle.dhash_model.specs.declared.miss.Miss.{Miss}
use Rattle.dhash_model.specs.GetHead.{IsGetOfHead}
use Rattle.dhash_client.specs.Execution.{ExecutionState, IsOnExecution, IsSameExecution, begun, awaited, miss_of}
use Rattle.dhash_client.specs.GetBlock.{or_node}

-- what judges of a kind say of bytes under a key
abbrev pub Judges : Type 0 → Type 0
Judges J = J → Key → List ℕ → Option Judged

-- the machine: the judge, what it said of the heads so far, and the first node that gave something else
pub record HeadState (J : Type 0) : Type 0 where
  pub execution : ExecutionState
  pub judge : J
  pub heads : List Judged
  pub wrong : Option Peer

abbrev pub head_begun : {J : Type 0} → J → Key → ℕ → List Peer → HeadState J
head_begun judge key r entries = record { execution = begun key r entries; judge = judge; heads = []; wrong = None }

-- the key, the number of answers and the judge are the same
abbrev pub IsSameHead : {J : Type 0} → HeadState J → HeadState J → Type 0
IsSameHead old new = IsSameExecution old.execution new.execution × (new.judge ≡ old.judge)

-- the node to be heard, and what it is asked
abbrev pub head_awaited : {J : Type 0} → HeadState J → Option (Peer × Ask)
head_awaited s = awaited (ask.Get s.execution.look.key) s.execution

abbrev pub IsEnoughHead : Key → ℕ → Told → Type 0
IsEnoughHead key r t = r ≤ answered_in is_of_get t

abbrev pub SumsHead : (List ℕ → Option Judged) → List Judged → Option Peer → Told → Type 0
SumsHead judge heads wrong asks = (heads ≡ judged block_in judge asks) × (heads ≡ [] → wrong ≡ first_giver block_in asks)

-- the machine may be in this state after this trail
abbrev pub HeadIsAfter : {J : Type 0} → Judges J → List Peer → List Heard → HeadState J → Type 0
HeadIsAfter judges entries trail s =
    IsOnExecution (λ key. ask.Get key) is_of_get IsEnoughHead
    (λ key. SumsHead (judges s.judge key) s.heads s.wrong) entries trail s.execution

-- what the machine wants: to ask a node, which is then to be heard, or nothing more, since its trail is a whole get
abbrev pub HeadIsWanted : {J : Type 0} → Judges J → HeadState J → HeadState J → Want (Result (List Judged) Miss) → Type 0
HeadIsWanted judges old new (want.Ask node question) =
    IsSameHead old new × (head_awaited new ≡ Some (node, question))
    × ((entries : List Peer) (trail : List Heard) → HeadIsAfter judges entries trail old → HeadIsAfter judges entries trail new)
HeadIsWanted judges old new (want.Done result) =
    (entries : List Peer) (trail : List Heard) → HeadIsAfter judges entries trail old
    → IsGetOfHead (judges old.judge old.execution.look.key) old.execution.look.key old.execution.replicas entries trail result

-- the node that was to be heard was heard: its ask and answer are the next of the trail
abbrev pub HeadHasHeard : {J : Type 0} → Judges J → HeadState J → HeadState J → Answer → Type 0
HeadHasHeard judges old new given =
    IsSameHead old new × ((entries : List Peer) (trail : List Heard) (node : Peer) (question : Ask)
    → head_awaited old ≡ Some (node, question) → HeadIsAfter judges entries trail old
    → HeadIsAfter judges entries (trail ++ told node question given) new)

-- the judge takes the bytes for a head, or the node gave something else
abbrev pub TakesJudged : {J : Type 0} → HeadState J → HeadState J → Peer → Option Judged → Type 0
TakesJudged old new node None = (new.heads ≡ old.heads) × (new.wrong ≡ or_node old.wrong node)
TakesJudged old new node (Some head) = new.heads ≡ old.heads ++ head ∷ []

-- what an owner gave is judged, or it gave nothing
abbrev pub HeadTakes : {J : Type 0} → Judges J → Key → HeadState J → HeadState J → Peer → Option (List ℕ) → Type 0
HeadTakes judges key old new node None = (new.heads ≡ old.heads) × (new.wrong ≡ old.wrong)
HeadTakes judges key old new node (Some bytes) = TakesJudged old new node (judges old.judge key bytes)

-- the result after the last ask
abbrev pub heads_result : Key → List Peer → List Judged → Option Peer → Result (List Judged) Miss
heads_result key asked [] wrong = Err (miss_of key asked wrong)
heads_result key asked (head ∷ heads) wrong = Ok (head ∷ heads)
