-- What a node of the ring answers, and which asks and answers are the ring's.
use Rattle.std.specs.Prelude.{Option, Some, None, ⊤}
use Rattle.dht_ids.specs.declared.ask.Answer.{Answer}
use Rattle.dht_ids.specs.declared.ask.Answer.TheVariants as answer
use Rattle.dht_ids.specs.declared.ask.Ask.{Ask}
use Rattle.dht_ids.specs.declared.ask.Ask.TheVariants as ask
use Rattle.dht_ids.specs.Peers.{place}
use Rattle.ring_model.specs.Circle.{number}
use Rattle.ring_model.specs.Route.{nearer_part, owners_part}
use Rattle.dhash_model.specs.State.{State}

-- what a node answers of the ring: to Route and to Near
abbrev pub ring_answer : State → Ask → Option Answer
ring_answer node (ask.Route key) =
    Some (answer.Route (nearer_part place node.me node.links (number key))
    (owners_part place node.replicas node.me node.links.list (number key)))
ring_answer node ask.Near = Some (answer.Near node.links.before node.links.list)
ring_answer node (ask.Notify peer) = None
ring_answer node (ask.Get key) = None
ring_answer node (ask.PutBlock key bytes) = None
ring_answer node (ask.PutHead key bytes) = None

-- an ask of the ring: Route or Near
abbrev pub IsOfRing : Ask → Type 0
IsOfRing (ask.Route key) = ⊤
IsOfRing ask.Near = ⊤
IsOfRing (ask.Notify peer) = ⊥
IsOfRing (ask.Get key) = ⊥
IsOfRing (ask.PutBlock key bytes) = ⊥
IsOfRing (ask.PutHead key bytes) = ⊥

-- an answer to Near, or none
abbrev pub IsOfNear : Answer → Type 0
IsOfNear (answer.Near before list) = ⊤
IsOfNear answer.Silent = ⊤
IsOfNear (answer.Route nearer owners) = ⊥
IsOfNear (answer.Found bytes) = ⊥
IsOfNear answer.Nothing = ⊥
IsOfNear answer.Stored = ⊥
IsOfNear (answer.Refused fault) = ⊥
IsOfNear answer.Noted = ⊥
