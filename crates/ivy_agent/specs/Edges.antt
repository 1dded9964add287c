-- What is known of the newest held records, from the newest record on.
use Rattle.std.specs.Prelude.{◌≡◌, ◌<◌, ◌≤◌, ℕ, List, [], None, Bool, Contains, cond, is_some, fold, length, nat_lt}
use Rattle.std.specs.List.{AllByRecursion}
use Rattle.std.specs.FinMap.Entries.{put, find as value_at}
use Rattle.ivy_base.specs.declared.key.Key.{Key}
use Rattle.ivy_base.specs.Naming.{head_key_of, key_cmp}
use Rattle.log_model.specs.Vector.{Entry, Vector, stamp_at, seq_of}
use Rattle.log_model.specs.Record.{Record}
use Rattle.log_model.specs.Fetched.{Edge, as_edge}

-- of each log the edge of its newest record
abbrev pub newest_edges : List Record → List (Key × Edge)
newest_edges rs = fold (λ edges r. put key_cmp (head_key_of r.owner) (as_edge r) edges) [] rs

-- an edge of a log of which none is known yet
abbrev pub put_under : Key → Edge → List (Key × Edge) → List (Key × Edge)
put_under log edge edges = cond (is_some (value_at key_cmp log edges)) edges (put key_cmp log edge edges)

-- the record knows nothing of its own log
abbrev pub KnowsOthers : Record → Type 0
KnowsOthers r = stamp_at r.vector (head_key_of r.owner) ≡ None

-- the records are of so many logs at most
abbrev pub AreOfAtMost : ℕ → List Record → Type 0
AreOfAtMost most rs = (logs : List Key) × (length logs ≤ most) × AllByRecursion (λ r. Contains logs (head_key_of r.owner)) rs

-- the entry goes further in its log than the basis does
abbrev pub is_beyond : Vector → Entry → Bool
is_beyond base e = nat_lt (seq_of base e.0) e.1.seq

-- of the record's log the front goes further than the basis does
abbrev pub IsBeyond : Vector → Vector → Record → Type 0
IsBeyond base front r = seq_of base (head_key_of r.owner) < seq_of front (head_key_of r.owner)
