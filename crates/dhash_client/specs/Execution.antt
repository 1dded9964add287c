-- What the machines of gets and puts share: a look-up, and then asks of the owners that it found, in one trail.
use Rattle.std.specs.Prelude.{◌≡◌, ℕ, ◌+◌, ◌-◌, ◌^◌, ◌<◌, ◌≤◌, nat_lt, Bool, if◌then◌else◌, List, [], ◌∷◌, ◌++◌, length, take, Option, Some}
use Rattle.std.specs.Prelude.{None, IfSome, Ok, Err, ◌⊎◌}
use Rattle.std.specs.Option.{option_map}
use Rattle.ivy_base.specs.declared.key.Key.{Key}
use Rattle.dht_ids.specs.Asked.{told, routes}
use Rattle.dht_ids.specs.declared.ask.Answer.{Answer}
use Rattle.dht_ids.specs.declared.ask.Ask.{Ask}
use Rattle.dht_ids.specs.declared.ask.Ask.TheVariants as ask
use Rattle.dht_ids.specs.declared.ask.Heard.{Heard}
use Rattle.dht_ids.specs.declared.peer.Peer.{Peer}
use Rattle.ring_model.specs.Members.{IsAmong, first}
use Rattle.ring_model.specs.Lookup.{IsLookup}
use Rattle.ring_model.specs.Gets.{AreFirsts, nodes, answered_in, Damaged, Missing}
use Rattle.dhash_client.specs.Machine.{State, Follow, FollowsAfter, HasHeard, fresh}
use Rattle.dhash_client.specs.declared.execution.Step.{Step}
use Rattle.dhash_client.specs.declared.execution.Step.TheVariants as step
use Rattle.dhash_model.specs.declared.miss.Miss.TheVariants as miss
use Rattle.dhash_model.specs.Execution.{outcome, Told, told_all}
use Rattle.dhash_model.specs.declared.miss.Miss.{Miss}

-- the owners, each once: those asked and heard, in order, those still to ask, and how many answered
pub record Asking : Type 0 where
  pub asked : List Peer
  pub rest : List Peer
  pub answered : ℕ

-- a get or a put so far: its look-up, how many answers are enough, and the owners once they are found
pub record ExecutionState : Type 0 where
  pub look : State
  pub replicas : ℕ
  pub asking : Option Asking

-- one that begins
abbrev pub begun : Key → ℕ → List Peer → ExecutionState
begun key r entries = record { look = fresh key entries; replicas = r; asking = None }

-- How many asks a get or a put may still make: while owners are looked for, 2^64 + 512 less the asks of the look-up that
-- were heard (it makes 512, and finds fewer than 2^64 owners), and then the owners that are still to ask.
abbrev pub asks_left_at : State → Option Asking → ℕ
asks_left_at look None = 2 ^ 64 + 512 - length look.asked
asks_left_at look (Some a) = length a.rest

abbrev pub asks_left : ExecutionState → ℕ
asks_left c = asks_left_at c.look c.asking

-- the key and the number of answers are the same
abbrev pub IsSameExecution : ExecutionState → ExecutionState → Type 0
IsSameExecution old new = (new.look.key ≡ old.look.key) × (new.replicas ≡ old.replicas)

-- the owner to be asked, while fewer than r have answered
abbrev pub next_owner : ℕ → Asking → Option Peer
next_owner r a = if nat_lt a.answered r then first a.rest else None

-- the node to be heard, and what it is asked: for the route, or as an owner
abbrev pub awaited_at : Ask → ExecutionState → Option Asking → Option (Peer × Ask)
awaited_at question c None = option_map (λ p. (p, ask.Route c.look.key)) c.look.waiting
awaited_at question c (Some a) = option_map (λ p. (p, question)) (next_owner c.replicas a)

abbrev pub awaited : Ask → ExecutionState → Option (Peer × Ask)
awaited question c = awaited_at question c c.asking

-- the owners that a look-up found, and what was heard of those that were asked
pub record HasAsked (answers : Answer → Bool) (IsEnough : Told → Type 0) (key : Key) (entries : List Peer) (looks asks : Told)
    (a : Asking) : Type 0 where
  pub found : Option (List Peer)
  pub owners : List Peer
  pub looked : IsLookup [] None entries (routes looks) found
  pub some : outcome key found ≡ Ok owners
  pub firsts : AreFirsts [] owners (a.asked ++ a.rest)
  pub asked : a.asked ≡ nodes asks
  pub answered : a.answered ≡ answered_in answers asks
  pub needed : (k : ℕ) → k < length asks → IsEnough (take k asks) → ⊥

-- the node to be heard wasn't asked before, and is one of 512
abbrev pub IsAskedOnce : State → Type 0
IsAskedOnce look = IfSome look.waiting (λ node. (length look.asked < 512) × (IsAmong node look.asked → ⊥))

abbrev pub IsStage : (Answer → Bool) → (Told → Type 0) → Key → List Peer → Told → Told → State → Option Asking → Type 0
IsStage answers IsEnough key entries looks asks look None =
    (asks ≡ []) × FollowsAfter (routes looks) (fresh key entries) look × IsAskedOnce look
IsStage answers IsEnough key entries looks asks look (Some a) = HasAsked answers IsEnough key entries looks asks a

-- what a machine with this key, look-up and owners has come to after a trail; `question` is what it asks owners, and `Sums` says what it
-- keeps of their answers
pub record IsBehind (question : Key → Ask) (answers : Answer → Bool) (IsEnough : Key → ℕ → Told → Type 0) (Sums : Key → Told → Type 0)
    (entries : List Peer) (trail : List Heard) (key : Key) (r : ℕ) (look : State) (asking : Option Asking) : Type 0 where
  pub looks : Told
  pub asks : Told
  pub told : trail ≡ told_all (ask.Route key) looks ++ told_all (question key) asks
  pub stage : IsStage answers (IsEnough key r) key entries looks asks look asking
  pub sums : Sums key asks

abbrev pub IsOnExecution : (Key → Ask) → (Answer → Bool) → (Key → ℕ → Told → Type 0) → (Key → Told → Type 0) → List Peer → List Heard
    → ExecutionState → Type 0
IsOnExecution question answers IsEnough Sums entries trail c =
    IsBehind question answers IsEnough Sums entries trail c.look.key c.replicas c.look c.asking

-- the owners that a look-up found begin to be asked, or go on
abbrev pub IsAskingOf : State → Option Asking → Asking → Type 0
IsAskingOf look None a = (found : Option (List Peer)) × (owners : List Peer) × Follow look [] found × (outcome look.key found ≡ Ok owners)
    × AreFirsts [] owners a.rest × (a.asked ≡ []) × (a.answered ≡ 0)
IsAskingOf look (Some b) a = a ≡ b

-- the look-up is over, and the owners are asked
pub record Reaches (old new : ExecutionState) (a : Asking) : Type 0 where
  pub key : new.look.key ≡ old.look.key
  pub replicas : new.replicas ≡ old.replicas
  pub asking : new.asking ≡ Some a
  pub from : IsAskingOf old.look old.asking a

-- the look-up goes on, and asks a node
pub record Looks (old new : ExecutionState) (node : Peer) : Type 0 where
  pub key : new.look.key ≡ old.look.key
  pub replicas : new.replicas ≡ old.replicas
  pub before : old.asking ≡ None
  pub after : new.asking ≡ None
  pub follows : FollowsAfter [] old.look new.look
  pub waiting : new.look.waiting ≡ Some node
  pub once : IsAskedOnce new.look

-- what a step of an execution does
abbrev pub Goes : ExecutionState → ExecutionState → Step → Type 0
Goes old new (step.Route node) = Looks old new node
Goes old new (step.Owner node) = (a : Asking) × Reaches old new a × (next_owner old.replicas a ≡ Some node)
Goes old new step.NoRoute = (old.asking ≡ None) × (found : Option (List Peer)) × Follow old.look [] found
    × (outcome old.look.key found ≡ Err (miss.NoRoute old.look.key)) × (new.look.key ≡ old.look.key)
Goes old new step.Over = (a : Asking) × Reaches old new a × (next_owner old.replicas a ≡ None)

-- an owner was heard: its turn is over, and it counts among those that answered, or doesn't
pub record HearsOwner (old new : ExecutionState) (node : Peer) (counts : Bool) : Type 0 where
  pub look : new.look ≡ old.look
  pub replicas : new.replicas ≡ old.replicas
  pub before : Asking
  pub after : Asking
  pub was : old.asking ≡ Some before
  pub is : new.asking ≡ Some after
  pub turn : before.rest ≡ node ∷ after.rest
  pub asked : after.asked ≡ before.asked ++ node ∷ []
  pub answered : after.answered ≡ before.answered + (if counts then 1 else 0)

-- what was heard: a route, or an owner's answer, which is given back
abbrev pub Hears : ExecutionState → ExecutionState → Answer → Bool → Option (Peer × Answer) → Type 0
Hears old new given counts None = (old.asking ≡ None) × (new.asking ≡ None) × (new.replicas ≡ old.replicas)
    × HasHeard old.look new.look given
Hears old new given counts (Some (node, answer)) = (answer ≡ given) × HearsOwner old new node counts

-- the owners that were asked
abbrev pub asked_of : Option Asking → List Peer
asked_of None = []
asked_of (Some a) = a.asked

-- why a get has no result, by the first node that gave something wrong
abbrev pub miss_of : Key → List Peer → Option Peer → Miss
miss_of key asked None = miss.Missing key asked
miss_of key asked (Some node) = miss.Damaged key node

-- all owners were asked
abbrev pub IsThrough : Option Asking → Type 0
IsThrough None = ⊥
IsThrough (Some a) = a.rest ≡ []

-- of that many holders, r are enough, or one where all owners were asked
abbrev pub AreHolders : ExecutionState → ℕ → Type 0
AreHolders c holders = (c.replicas ≤ holders) ⊎ ((1 ≤ holders) × IsThrough c.asking)
