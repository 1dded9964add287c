-- The machine of a get of a content block.
use Rattle.std.specs.Prelude.{◌≡◌, ℕ, ◌≤◌, List, ◌++◌, Option, Some, None, Result, ◌⊎◌}
use Rattle.ivy_base.specs.declared.key.Key.{Key}
use Rattle.ivy_base.specs.Naming.{name}
use Rattle.dht_ids.specs.Asked.{told}
use Rattle.dht_ids.specs.declared.ask.Answer.{Answer}
use Rattle.dht_ids.specs.declared.ask.Ask.{Ask}
use Rattle.dht_ids.specs.declared.ask.Ask.TheVariants as ask
use Rattle.dht_ids.specs.declared.ask.Heard.{Heard}
use Rattle.dht_ids.specs.declared.ask.Want.{Want}
use Rattle.dht_ids.specs.declared.ask.Want.TheVariants as want
use Rattle.dht_ids.specs.declared.peer.Peer.{Peer}
use Rattle.ring_model.specs.Gets.{answered_in, first_giver, IsGiven, HasBlock}
use Rattle.dhash_model.specs.Execution.{Told}
use Rattle.dhash_model.specs.declared.miss.Miss.{Miss}
use Rattle.dhash_model.specs.GetBlock.{is_of_get, block_in, IsGetOfBlock}
use Rattle.dhash_client.specs.Execution.{ExecutionState, IsOnExecution, IsSameExecution, begun, awaited}

-- the machine: the right block, once it was given, and the first node that gave a wrong one
pub record BlockState : Type 0 where
  pub execution : ExecutionState
  pub found : Option (List ℕ)
  pub wrong : Option Peer

abbrev pub block_begun : Key → ℕ → List Peer → BlockState
block_begun key r entries = record { execution = begun key r entries; found = None; wrong = None }

-- the node to be heard, and what it is asked
abbrev pub block_awaited_at : Option (List ℕ) → ExecutionState → Option (Peer × Ask)
block_awaited_at None c = awaited (ask.Get c.look.key) c
block_awaited_at (Some bytes) c = None

abbrev pub block_awaited : BlockState → Option (Peer × Ask)
block_awaited s = block_awaited_at s.found s.execution

abbrev pub IsEnoughBlock : Key → ℕ → Told → Type 0
IsEnoughBlock key r t = (r ≤ answered_in is_of_get t) ⊎ HasBlock block_in key t

abbrev pub SumsBlock : Key → Option (List ℕ) → Option Peer → Told → Type 0
SumsBlock key None wrong asks = (HasBlock block_in key asks → ⊥) × (wrong ≡ first_giver block_in asks)
SumsBlock key (Some bytes) wrong asks = IsGiven block_in key asks bytes

-- the machine may be in this state after this trail
abbrev pub BlockIsAfter : List Peer → List Heard → BlockState → Type 0
BlockIsAfter entries trail s = IsOnExecution (λ key. ask.Get key) is_of_get IsEnoughBlock
    (λ key. SumsBlock key s.found s.wrong) entries trail s.execution

-- what the machine wants: to ask a node, which is then to be heard, or nothing more, since its trail is a whole get
abbrev pub BlockIsWanted : BlockState → BlockState → Want (Result (List ℕ) Miss) → Type 0
BlockIsWanted old new (want.Ask node question) =
    IsSameExecution old.execution new.execution × (block_awaited new ≡ Some (node, question))
    × ((entries : List Peer) (trail : List Heard) → BlockIsAfter entries trail old → BlockIsAfter entries trail new)
BlockIsWanted old new (want.Done result) =
    (entries : List Peer) (trail : List Heard) → BlockIsAfter entries trail old
    → IsGetOfBlock old.execution.look.key old.execution.replicas entries trail result

-- the node that was to be heard was heard: its ask and answer are the next of the trail
abbrev pub BlockHasHeard : BlockState → BlockState → Answer → Type 0
BlockHasHeard old new given = IsSameExecution old.execution new.execution
    × ((entries : List Peer) (trail : List Heard) (node : Peer) (question : Ask) → block_awaited old ≡ Some (node, question)
    → BlockIsAfter entries trail old → BlockIsAfter entries (trail ++ told node question given) new)

-- the node is the first, where there was none
abbrev pub or_node : Option Peer → Peer → Option Peer
or_node None node = Some node
or_node (Some before) node = Some before

-- what an owner gave is the block, or other bytes, or nothing
abbrev pub BlockTakes : Key → BlockState → BlockState → Peer → Option (List ℕ) → Type 0
BlockTakes key old new node None = (new.found ≡ old.found) × (new.wrong ≡ old.wrong)
BlockTakes key old new node (Some bytes) =
    ((name bytes ≡ key) × (new.found ≡ Some bytes))
    ⊎ ((name bytes ≡ key → ⊥) × (new.found ≡ old.found) × (new.wrong ≡ or_node old.wrong node))
