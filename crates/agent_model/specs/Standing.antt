-- What a session is given of its agent when it begins, and what a refresh brings back to it.
use Rattle.std.specs.Prelude.{◌+◌, ◌==◌, nat_lt, nat_le, Bool, false, ◌&&◌, List, [], ◌∷◌, flat_map, filter, fold, find, Option, Some, None}
use Rattle.std.specs.Prelude.{is_some, option_map, if◌then◌else◌}
use Rattle.std.specs.List.{list_all}
use Rattle.std.specs.FinMap.Entries.{put}
use Rattle.std.specs.Ordering.{eq_by_cmp}
use Rattle.ivy_base.specs.declared.key.Key.{Key}
use Rattle.ivy_base.specs.declared.key.PubKey.{PubKey}
use Rattle.ivy_base.specs.Naming.{head_key_of, key_cmp, owner_cmp}
use Rattle.tree_model.specs.Tree.{same_key}
use Rattle.log_model.specs.View.{View}
use Rattle.log_model.specs.Vector.{Stamp, Vector, stamp_at, seq_of}
use Rattle.log_model.specs.Record.{Record}
use Rattle.turn_model.specs.Basis.{Basis, Holding}
use Rattle.dht_ids.specs.declared.post.Post.{Post}
use Rattle.log_model.specs.Signing.{Signing}
use Rattle.log_model.specs.Fetched.{Edge, as_edge, owner_of}
use Rattle.agent_model.specs.Agent.{Agent, own, joined}

-- The agent as a session began with it. Fetching stops at what is held; an edge is what is known of a log's newest held record.
pub record Standing : Type 0 where
  pub view : View
  pub own : PubKey
  pub floor : Vector
  pub held : Vector
  pub edges : List (Key × Edge)
  pub to_load : Option Key
  pub pending : List Post

-- of each log what is known of its newest held record, ascending by log
abbrev pub edges_of : Holding → List (Key × Edge)
edges_of h = fold (λ edges r. put key_cmp (head_key_of r.owner) (as_edge r) edges) [] h.held

-- the edge of that log, where it is known
abbrev pub edge_at : Standing → Key → Option Edge
edge_at s log = option_map (λ e. e.1) (find (λ e. same_key e.0 log) s.edges)

-- the standing of an agent in that view
abbrev pub standing_in : {S : Type 0} → Signing S → Agent S → View → Standing
standing_in signs a view = record {
  view = view;
  own = own signs a;
  floor = a.floor;
  held = joined a.holding;
  edges = edges_of a.holding;
  to_load = a.to_load;
  pending = a.pending;
}

-- after a turn that was refused a session begins again without a snapshot
abbrev pub begun_again_in : {S : Type 0} → Signing S → Agent S → View → Standing
begun_again_in signs a view = record (standing_in signs a view) { to_load = None }

-- ---- what a refresh brings

-- the records of one log beyond what the refresh started from
pub record Chain : Type 0 where
  pub owner : PubKey
  pub records : List Record

-- a chain of a batch, by its owner and its records
abbrev pub chain_of : Stamp × List Record → Chain
chain_of c = record { owner = owner_of c.1; records = c.1 }

-- what it started from, a chain at most of each member's log, and the basis that was loaded
pub record Refresh : Type 0 where
  pub started : Vector
  pub chains : List Chain
  pub basis : Option Basis

-- v goes at least as far as each entry of w
abbrev pub dominates : Vector → Vector → Bool
dominates v w = list_all (λ e. nat_le e.1.seq (seq_of v e.0)) w

-- What a turn goes on from: the loaded basis, where the agent still has a snapshot to load and its floor knows all that the basis
-- covers; else what the agent holds.
abbrev pub going_on : {S : Type 0} → Agent S → Option Basis → Holding
going_on a None = a.holding
going_on a (Some b) = if is_some a.to_load && dominates a.floor b.front then record { basis = b; held = [] } else a.holding

-- the records go on from that stamp, or from the log's beginning
abbrev pub go_on_from : Option Stamp → List Record → Bool
go_on_from t [] = false
go_on_from None (r ∷ rs) = r.seq == 1
go_on_from (Some t) (r ∷ rs) = r.seq == t.seq + 1 && same_key r.prev t.name

-- the chain's records beyond that front, where they go on from it
abbrev pub beyond : Vector → Chain → List Record
beyond front c = (let log = head_key_of c.owner in let rest = filter (λ r. nat_lt (seq_of front log) r.seq) c.records in
    if go_on_from (stamp_at front log) rest then rest else [])

-- of the own log only what the floor names counts
abbrev pub new_in : PubKey → Vector → Holding → Chain → List Record
new_in own floor h c = (let rest = beyond (joined h) c in
    if eq_by_cmp owner_cmp own c.owner then filter (λ r. nat_le r.seq (seq_of floor (head_key_of c.owner))) rest else rest)

-- the new records that a refresh brings to what a turn goes on from, by the own key and the floor
abbrev pub new_records : PubKey → Vector → Holding → Refresh → List Record
new_records own floor h brought = flat_map (new_in own floor h) brought.chains
