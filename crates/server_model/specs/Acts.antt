-- What a session does that others see: it asks a node, has a turn of its agent, or has its agent drop posts.
use Rattle.std.specs.Prelude.{List, [], ◌∷◌, flat_map}
use Rattle.ivy_base.specs.declared.operation.Moment.{Moment}
use Rattle.nfs_model.specs.declared.replies.Reply.{Reply}
use Rattle.turn_model.specs.Turn.{Asked}
use Rattle.dht_ids.specs.declared.ask.Answer.{Answer}
use Rattle.dht_ids.specs.declared.ask.Ask.{Ask}
use Rattle.dht_ids.specs.declared.ask.Heard.{Heard}
use Rattle.dht_ids.specs.declared.peer.Peer.{Peer}
use Rattle.dht_ids.specs.declared.post.Ack.{Ack}
use Rattle.dht_ids.specs.declared.post.Post.{Post}
use Rattle.dht_ids.specs.Asked.{told}
use Rattle.agent_model.specs.Standing.{Refresh, Standing}

-- What a turn is on: what the refresh brought, the call, and the moment.
pub record TurnAsked : Type 0 where
  pub brought : Refresh
  pub asked : Asked
  pub now : Moment

-- What a turn gives its session: a reply and what is to be published then, a standing from which it begins again, or nothing when out of
-- memory.
pub data Gave : Type 0 where
  Replied : (reply : Reply) (posts : List Post) → Gave
  Refused : (standing : Standing) → Gave
  Lacked : Gave

-- An ask and its answer; a turn and what it gave; that posts which were acknowledged are dropped.
pub data Act : Type 0 where
  Asking : (node : Peer) (question : Ask) (answer : Answer) → Act
  TakingTurn : (turn : TurnAsked) (gave : Gave) → Act
  Settling : (acks : List Ack) → Act

-- ---- what is seen of the acts

-- an ask, as a mesh's trail tells it
abbrev pub asks_in : Act → List Heard
asks_in (Asking node question answer) = told node question answer
asks_in (TakingTurn turn gave) = []
asks_in (Settling acks) = []

-- the asks of these acts, in their order
abbrev pub trail_of : List Act → List Heard
trail_of acts = flat_map asks_in acts

-- a turn that was answered, with its reply
pub record TurnAnswered : Type 0 where
  pub turn : TurnAsked
  pub reply : Reply

-- the turn, where what it gave is a reply
abbrev pub answered_by : TurnAsked → Gave → List TurnAnswered
answered_by turn (Replied reply posts) = record { turn = turn; reply = reply } ∷ []
answered_by turn (Refused standing) = []
answered_by turn Lacked = []

-- an act's turn, where it was answered
abbrev pub turns_in : Act → List TurnAnswered
turns_in (Asking node question answer) = []
turns_in (TakingTurn turn gave) = answered_by turn gave
turns_in (Settling acks) = []

-- the turns of these acts that were answered, in their order
abbrev pub turns_of : List Act → List TurnAnswered
turns_of acts = flat_map turns_in acts

-- the moment of an act that is a turn
abbrev pub moments_in : Act → List Moment
moments_in (Asking node question answer) = []
moments_in (TakingTurn turn gave) = turn.now ∷ []
moments_in (Settling acks) = []

-- the moments of all turns of these acts, whatever they gave
abbrev pub moments_of : List Act → List Moment
moments_of acts = flat_map moments_in acts
