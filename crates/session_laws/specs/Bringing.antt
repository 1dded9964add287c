-- What a refresh that is done has brought, by the heads that came and the blocks that were met.
use Rattle.std.specs.Prelude.{◌≡◌, ℕ, ◌<◌, List, Contains, Ok, IfSome, IsTrue, Some, Option, false}
use Rattle.std.specs.FinMap.Entries.{is_sorted}
use Rattle.ivy_base.specs.declared.key.Key.{Key}
use Rattle.ivy_base.specs.declared.key.PubKey.{PubKey}
use Rattle.ivy_base.specs.Naming.{IsCollisionFree, head_key_of, key_cmp, name}
use Rattle.log_model.specs.View.{IsView}
use Rattle.log_model.specs.Vector.{Stamp, Vector, stamp_at, seq_of}
use Rattle.log_model.specs.Record.{Record}
use Rattle.log_model.specs.Rank.{own_entry}
use Rattle.log_model.specs.Standing.{Stand}
use Rattle.log_model.specs.Fetched.{as_edge, HasRecord}
use Rattle.turn_model.specs.Basis.{Basis, Holding}
use Rattle.turn_model.specs.Known.{IsKnown}
use Rattle.agent_model.specs.Agent.{joined}
use Rattle.agent_model.specs.Standing.{Standing, Chain, Refresh, edge_at}
use Rattle.agent_model.specs.Candidates.{Brings}
use Rattle.agent_model.specs.Turning.{is_behind}
use Rattle.session_model.specs.Brought.{Brought, BlockOf, heads_at}
use Rattle.session_model.specs.Refreshing.{Note, FetchesAll, Refreshes, Done}

-- each block that was brought was met, and was asked for by its name
abbrev pub AreMet : List (List ℕ) → List Brought → Type 0
AreMet met brought = (key : Key) (bytes : List ℕ) → Contains brought (BlockOf key (Ok bytes)) → Contains met bytes × (name bytes ≡ key)

-- The refresh starts from records that were known: of each member's log from one of them, and what is known of the newest held record is
-- that one's.
abbrev pub StartsFrom : Standing → Vector → List Record → Type 0
StartsFrom s start knew = (owner : PubKey) → Contains s.view.members owner → (t : Stamp) → stamp_at start (head_key_of owner) ≡ Some t
    → (r : Record) × Contains knew r × (r.owner ≡ owner) × ((own_entry r).1 ≡ t)
    × IfSome (edge_at s (head_key_of owner)) (λ e. e ≡ as_edge r)

-- ---- laws

-- Where no names collide, the members' logs that were fetched to the end bring what their heads name.
abbrev pub FetchedIsBrought : Type 0
FetchedIsBrought = (met : List (List ℕ)) (s : Standing) (start : Vector) (knew : List Record) (brought : List Brought) (notes : List Note)
    (chains : List Chain) (basis : Option Basis)
    → IsCollisionFree met → IsView s.view → IsKnown s.view s.floor knew → Stand met knew → StartsFrom s start knew → AreMet met brought
    → FetchesAll (record { standing = s; start = start }) s.view.members brought notes chains Done
    → Brings (record { heads = heads_at brought; met = met; standing = s; knew = knew }) s.view
    (record { started = start; chains = chains; basis = basis })

-- Where the floor goes further than what the refresh started from, the floor's record was brought.
abbrev pub FloorIsBrought : Type 0
FloorIsBrought = (met : List (List ℕ)) (s : Standing) (start : Vector) (knew : List Record) (brought : List Brought) (notes : List Note)
    (chains : List Chain)
    → IsCollisionFree met → IsView s.view → IsKnown s.view s.floor knew → Stand met knew → StartsFrom s start knew → AreMet met brought
    → FetchesAll (record { standing = s; start = start }) s.view.members brought notes chains Done
    → (owner : PubKey) (t : Stamp) → Contains s.view.members owner → stamp_at s.floor (head_key_of owner) ≡ Some t
    → seq_of start (head_key_of owner) < t.seq
    → (c : Chain) × Contains chains c × (c.owner ≡ owner) × HasRecord t c.records

-- ---- of a whole refresh

-- A refresh that is done has brought of each member's log what its heads name.
abbrev pub RefreshedIsBrought : Type 0
RefreshedIsBrought = (met : List (List ℕ)) (s : Standing) (knew : List Record) (brought : List Brought) (notes : List Note)
    (given : Refresh)
    → IsCollisionFree met → IsView s.view → IsKnown s.view s.floor knew → Stand met knew → StartsFrom s given.started knew
    → AreMet met brought
    → Refreshes s brought notes given Done → Brings (record { heads = heads_at brought; met = met; standing = s; knew = knew }) s.view given

-- And the floor's record, where that goes further than what it started from.
abbrev pub FloorIsReached : Type 0
FloorIsReached = (met : List (List ℕ)) (s : Standing) (knew : List Record) (brought : List Brought) (notes : List Note) (given : Refresh)
    → IsCollisionFree met → IsView s.view → IsKnown s.view s.floor knew → Stand met knew → StartsFrom s given.started knew
    → AreMet met brought
    → Refreshes s brought notes given Done
    → (owner : PubKey) (t : Stamp) → Contains s.view.members owner → stamp_at s.floor (head_key_of owner) ≡ Some t
    → seq_of given.started (head_key_of owner) < t.seq
    → (c : Chain) × Contains given.chains c × (c.owner ≡ owner) × HasRecord t c.records

-- An agent that goes on from what the refresh started from, with the same floor, isn't behind.
abbrev pub DoneIsNotBehind : Type 0
DoneIsNotBehind = (met : List (List ℕ)) (s : Standing) (h : Holding) (knew : List Record) (brought : List Brought) (notes : List Note)
    (given : Refresh)
    → IsCollisionFree met → IsView s.view → IsKnown s.view s.floor knew → Stand met knew → StartsFrom s given.started knew
    → AreMet met brought
    → Refreshes s brought notes given Done → joined h ≡ given.started → IsTrue (is_sorted key_cmp given.started)
    → is_behind s.view s.own s.floor h given ≡ false
