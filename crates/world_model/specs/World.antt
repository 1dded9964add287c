-- What is stored between two lines of a script.
use Rattle.std.specs.Prelude.{ℕ, not, List, [], ◌∷◌, ◌++◌, map, filter, find, fold, nat_lt, Option, None, option_map, if◌then◌else◌}
use Rattle.std.specs.List.{list_any}
use Rattle.std.specs.Option.{option_map_or}
use Rattle.std.specs.Ordering.{eq_by_cmp}
use Rattle.std.specs.Str.{bytes_eq}
use Rattle.ivy_base.specs.declared.key.Key.{Key}
use Rattle.ivy_base.specs.declared.key.PubKey.{PubKey}
use Rattle.ivy_base.specs.declared.operation.Moment.{Moment}
use Rattle.ivy_base.specs.Naming.{key_cmp, owner_cmp}
use Rattle.log_model.specs.View.{View}
use Rattle.dht_ids.specs.declared.peer.Peer.{Peer}
use Rattle.session_model.specs.Sessions.{Cache, Session}
use Rattle.script_model.specs.Messages.{Given}
use Rattle.world_model.specs.Agents.{HssAgent, own_hss_key}
use Rattle.world_model.specs.Keepers.{Keeper}
use Rattle.world_model.specs.Nodes.{Node}

-- Who writes a log: its name in the script, its agent and the keeper of it, its cache, the names of the records that its agent made by
-- their numbers, the last snapshot that a line printed, how many records its last turn applied, and the heads that left it.
pub record Participant : Type 0 where
  pub name : List ℕ
  pub agent : HssAgent
  pub keeper : Keeper
  pub cache : Cache
  pub made : List (ℕ × Key)
  pub printed : Option Key
  pub work : ℕ
  pub left : List (List ℕ)

pub record NamedView : Type 0 where
  pub name : List ℕ
  pub view : View

-- a session by its name in the script, while it is open
pub record NamedSession : Type 0 where
  pub name : List ℕ
  pub session : Session

-- What is stored: r, where a ring was made; the nodes in the order in which they were made; participants, views and sessions in the order
-- of their lines; what each reply gave; the moment; how many asks there were, and which are lost; and the blocks met, each once.
pub record World : Type 0 where
  pub replicas : Option ℕ
  pub nodes : List Node
  pub participants : List Participant
  pub views : List NamedView
  pub sessions : List NamedSession
  pub replies : List Given
  pub now : Moment
  pub asked : ℕ
  pub lost : List ℕ
  pub met : List (List ℕ)

abbrev pub empty_world : World
empty_world = record {
  replicas = None;
  nodes = [];
  participants = [];
  views = [];
  sessions = [];
  replies = [];
  now = record { sec = 0; nsec = 0 };
  asked = 0;
  lost = [];
  met = [];
}

-- ---- by name

abbrev pub participant : World → List ℕ → Option Participant
participant w name = find (λ p. bytes_eq p.name name) w.participants

abbrev pub view_named : World → List ℕ → Option View
view_named w name = option_map (λ v. v.view) (find (λ v. bytes_eq v.name name) w.views)

abbrev pub session_named : World → List ℕ → Option Session
session_named w name = option_map (λ s. s.session) (find (λ s. bytes_eq s.name name) w.sessions)

-- the world with the participant in place of the one of its name
abbrev pub with_participant : World → Participant → World
with_participant w p = record w { participants = map (λ q. if bytes_eq q.name p.name then p else q) w.participants }

abbrev pub with_session : World → List ℕ → Session → World
with_session w name s = record w {
  sessions = map
      (λ t. if bytes_eq t.name name then record { name = name; session = s } else t) w.sessions;
}

abbrev pub without_session : World → List ℕ → World
without_session w name = record w { sessions = filter (λ t. not (bytes_eq t.name name)) w.sessions }

-- the participant's open sessions are gone
abbrev pub without_sessions_of : World → List ℕ → World
without_sessions_of w name = record w { sessions = filter (λ t. not (bytes_eq t.session.by name)) w.sessions }

-- the name of the first log of that key
abbrev pub name_of_owner : World → PubKey → List ℕ
name_of_owner w owner = option_map_or (λ p. p.name) (find (λ p. eq_by_cmp owner_cmp owner (own_hss_key p.agent)) w.participants) []

-- ---- blocks met

abbrev pub meets : List (List ℕ) → List ℕ → List (List ℕ)
meets met block = if list_any (bytes_eq block) met then met else met ++ block ∷ []

-- what the premise that no names collide speaks of: the blocks met, and the public keys
abbrev pub named_bytes : World → List (List ℕ)
named_bytes w = w.met ++ map (λ p. (own_hss_key p.agent).0) w.participants

-- ---- nodes

abbrev pub peer_of : Node → Peer
peer_of n = n.ring.me

-- peers in the order of their numbers
abbrev pub with_numbered : List Peer → Peer → List Peer
with_numbered [] p = p ∷ []
with_numbered (q ∷ qs) p = if nat_lt p.number q.number then p ∷ q ∷ qs else q ∷ with_numbered qs p

-- all nodes that were made, by number: those that a session knows
abbrev pub entries : World → List Peer
entries w = fold with_numbered [] (map peer_of w.nodes)

abbrev pub live_peers : World → List Peer
live_peers w = map peer_of (filter (λ n. n.is_live) w.nodes)

abbrev pub node_at : World → Key → Option Node
node_at w id = find (λ n. eq_by_cmp key_cmp (peer_of n).id id) w.nodes

-- the world with the node in place of the one of its identifier
abbrev pub with_node : World → Node → World
with_node w n = record w { nodes = map (λ m. if eq_by_cmp key_cmp (peer_of m).id (peer_of n).id then n else m) w.nodes }
