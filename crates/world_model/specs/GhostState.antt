-- The ghost state of a world: what no code keeps, and only the laws speak of.
use Rattle.std.specs.Prelude.{ℕ, ◌+◌, not, List, [], ◌∷◌, ◌++◌, map, filter, find, Option, if◌then◌else◌}
use Rattle.std.specs.Option.{option_map_or}
use Rattle.std.specs.Str.{bytes_eq}
use Rattle.ivy_base.specs.declared.operation.Moment.{Moment}
use Rattle.log_model.specs.View.{View}
use Rattle.log_model.specs.Vector.{Entry}
use Rattle.log_model.specs.Record.{Record}
use Rattle.turn_model.specs.Turn.{Turned}
use Rattle.dht_ids.specs.declared.post.Post.{Post}
use Rattle.session_model.specs.Sessions.{Session}
use Rattle.world_model.specs.Agents.{HssAgent}
use Rattle.world_model.specs.World.{World, Participant}

-- of a participant, by its name: the records that its agent knows, and the verified heads that it received
pub record Knowing : Type 0 where
  pub name : List ℕ
  pub known : List Record
  pub received : List Entry

-- of a session: how many calls began before it, and what its agent knew when it (last) began
pub record Began : Type 0 where
  pub number : ℕ
  pub knew : List Record

-- A turn that was answered: of which session, whose it was and in which view, what was met before it and when it was, the agent after it,
-- and the reply with what is known then.
pub record HadTurn : Type 0 where
  pub session : Session
  pub began : Began
  pub by : Participant
  pub knowing : Knowing
  pub view : View
  pub met : List (List ℕ)
  pub now : Moment
  pub after : HssAgent
  pub turned : Turned

-- The participants' and the open sessions' parts, how many calls began, the turns that were answered, and the posts of which a put was
-- acknowledged.
pub record GhostState : Type 0 where
  pub participants : List Knowing
  pub sessions : List (List ℕ × Began)
  pub begun : ℕ
  pub turns : List HadTurn
  pub acked : List Post

abbrev pub empty_ghost_state : GhostState
empty_ghost_state = record { participants = []; sessions = []; begun = 0; turns = []; acked = [] }

-- ---- by name

abbrev pub knowing_nothing : List ℕ → Knowing
knowing_nothing name = record { name = name; known = []; received = [] }

abbrev pub knowing_of : GhostState → List ℕ → Knowing
knowing_of st name = option_map_or (λ k. k) (find (λ k. bytes_eq k.name name) st.participants) (knowing_nothing name)

abbrev pub known_of : GhostState → List ℕ → List Record
known_of st name = (knowing_of st name).known

-- the ghost state with this in place of what it has of that participant
abbrev pub with_knowing : GhostState → Knowing → GhostState
with_knowing st k = record st { participants = map (λ l. if bytes_eq l.name k.name then k else l) st.participants }

-- the participant knows these records now
abbrev pub knowing_now : GhostState → List ℕ → List Record → GhostState
knowing_now st name known = with_knowing st (record (knowing_of st name) { known = known })

-- the participant has received these verified heads too
abbrev pub receiving : GhostState → List ℕ → List Entry → GhostState
receiving st name heads = (let k = knowing_of st name in with_knowing st (record k { received = k.received ++ heads }))

abbrev pub began_nothing : Began
began_nothing = record { number = 0; knew = [] }

abbrev pub began_of : GhostState → List ℕ → Began
began_of st name = option_map_or (λ b. b.1) (find (λ b. bytes_eq b.0 name) st.sessions) began_nothing

abbrev pub with_began : GhostState → List ℕ → Began → GhostState
with_began st name b = record st { sessions = map (λ c. if bytes_eq c.0 name then (name, b) else c) st.sessions }

abbrev pub without_began : GhostState → List ℕ → GhostState
without_began st name = record st { sessions = filter (λ c. not (bytes_eq c.0 name)) st.sessions }

-- one call more began, of an agent that knows this
abbrev pub beginning : GhostState → List ℕ → Began
beginning st by = record { number = st.begun; knew = known_of st by }

abbrev pub having_begun : GhostState → GhostState
having_begun st = record st { begun = st.begun + 1 }
