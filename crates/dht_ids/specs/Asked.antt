-- What nodes may be asked, what they answer, and what a mesh's trail tells.
use Rattle.std.specs.Prelude.{List, [], ◌∷◌, ◌++◌, map, Option, Some, None, ⊤}
use Rattle.ivy_base.specs.Naming.{name}
use Rattle.dht_ids.specs.declared.ask.Answer.{Answer}
use Rattle.dht_ids.specs.declared.ask.Answer.TheVariants as answer
use Rattle.dht_ids.specs.declared.ask.Ask.{Ask}
use Rattle.dht_ids.specs.declared.ask.Ask.TheVariants as ask
use Rattle.dht_ids.specs.declared.ask.AskKind.TheVariants as kind
use Rattle.dht_ids.specs.declared.ask.Heard.{Heard}
use Rattle.dht_ids.specs.declared.peer.Peer.{Peer}
use Rattle.ring_model.specs.Route.{Route}

-- an ask for data: Route, Get, PutBlock or PutHead
abbrev pub IsForData : Ask → Type 0
IsForData (ask.Route key) = ⊤
IsForData ask.Near = ⊥
IsForData (ask.Notify peer) = ⊥
IsForData (ask.Get key) = ⊤
IsForData (ask.PutBlock key bytes) = ⊤
IsForData (ask.PutHead key bytes) = ⊤

-- the answer is of the ask's form; silence is of each (this project's rule)
abbrev pub IsAnswerTo : Ask → Answer → Type 0
IsAnswerTo question answer.Silent = ⊤
IsAnswerTo (ask.Route key) (answer.Route nearer owners) = ⊤
IsAnswerTo ask.Near (answer.Near before list) = ⊤
IsAnswerTo (ask.Notify peer) answer.Noted = ⊤
IsAnswerTo (ask.Get key) (answer.Found bytes) = ⊤
IsAnswerTo (ask.Get key) answer.Nothing = ⊤
IsAnswerTo (ask.PutBlock key bytes) answer.Stored = ⊤
IsAnswerTo (ask.PutBlock key bytes) (answer.Refused fault) = ⊤
IsAnswerTo (ask.PutHead key bytes) answer.Stored = ⊤
IsAnswerTo (ask.PutHead key bytes) (answer.Refused fault) = ⊤
IsAnswerTo question given = ⊥

-- the route that was answered: any other answer is silence
abbrev pub route_in : Answer → Option (Route Peer)
route_in (answer.Route nearer owners) = Some (record { nearer = nearer; owners = owners })
route_in (answer.Near before list) = None
route_in (answer.Found bytes) = None
route_in answer.Nothing = None
route_in answer.Stored = None
route_in (answer.Refused fault) = None
route_in answer.Noted = None
route_in answer.Silent = None

-- the nodes that were asked for a route, each with what it answered, as a look-up takes them
abbrev pub routes : List (Peer × Answer) → List (Peer × Option (Route Peer))
routes looks = map (λ s. (s.0, route_in s.1)) looks

-- the entries of a trail that tell of an ask and its answer: one for an ask for data
abbrev pub told : Peer → Ask → Answer → List Heard
told node (ask.Route key) given = record { node = node; kind = kind.Route; key = key; put = None; got = given } ∷ []
told node ask.Near given = []
told node (ask.Notify peer) given = []
told node (ask.Get key) given = record { node = node; kind = kind.Get; key = key; put = None; got = given } ∷ []
told node (ask.PutBlock key bytes) given =
    record { node = node; kind = kind.PutBlock; key = key; put = Some (name bytes); got = given } ∷ []
told node (ask.PutHead key bytes) given = record { node = node; kind = kind.PutHead; key = key; put = Some (name bytes); got = given } ∷ []

-- a trail that is told has these at its end
abbrev pub longer : Option (List Heard) → List Heard → Option (List Heard)
longer None more = None
longer (Some trail) more = Some (trail ++ more)
