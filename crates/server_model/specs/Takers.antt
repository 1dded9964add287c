-- Whoever takes the turns of sessions, and the mesh that they ask.
use Rattle.std.specs.Prelude.{◌≡◌, ◌⊎◌, ℕ, List, [], ◌∷◌, ◌++◌, Option}
use Rattle.ivy_base.specs.declared.key.Key.{Key}
use Rattle.dht_ids.specs.declared.ask.Answer.{Answer}
use Rattle.dht_ids.specs.declared.ask.Ask.{Ask}
use Rattle.dht_ids.specs.declared.judge.Judged.{Judged}
use Rattle.dht_ids.specs.declared.peer.Peer.{Peer}
use Rattle.dht_ids.specs.declared.post.Ack.{Ack}
use Rattle.agent_model.specs.Standing.{Standing}
use Rattle.server_model.specs.Acts.{Act, Asking, Gave, Settling, TakingTurn, TurnAsked}

-- Whoever takes turns, and how each call leaves it: it gives a standing, takes a turn and gives something, drops posts that were
-- acknowledged, or only looked, where nothing came of a call.
pub record Taker (P : Type 0) : Type 1 where
  pub stands : P → Standing → P → Type 0
  pub takes_turn : P → TurnAsked → Gave → P → Type 0
  pub settles : P → List Ack → P → Type 0
  pub looks : P → P → Type 0

-- What the acts of a session make of whoever takes its turns. An ask is none of its business.
pub data Follows {P : Type 0} (taker : Taker P) (p : P) : List Act → P → Type 0 where
  none : Follows taker p [] p
  asks : {acts : List Act} {q : P} (node : Peer) (question : Ask) (answer : Answer) → Follows taker p acts q
      → Follows taker p (acts ++ Asking node question answer ∷ []) q
  turns : {acts : List Act} {q after : P} (turn : TurnAsked) (gave : Gave) → Follows taker p acts q → taker.takes_turn q turn gave after
      → Follows taker p (acts ++ TakingTurn turn gave ∷ []) after
  settles : {acts : List Act} {q after : P} (acks : List Ack) → Follows taker p acts q → taker.settles q acks after
      → Follows taker p (acts ++ Settling acks ∷ []) after

-- it stays, or only looked
abbrev pub MayHaveLooked : {P : Type 0} → Taker P → P → P → Type 0
MayHaveLooked taker p q = (q ≡ p) ⊎ taker.looks p q

-- The mesh, as sessions know it: by which judge heads are told, how many nodes own a key, and the nodes that were made.
pub record Ring : Type 0 where
  pub judged : Key → List ℕ → Option Judged
  pub replicas : ℕ
  pub entries : List Peer
