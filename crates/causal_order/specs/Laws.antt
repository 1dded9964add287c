-- Laws of closed sets, what a closed part over no front is, and which batches one may be taken of.
use Rattle.std.specs.Prelude.{◌≡◌, ◌↔◌, IsTrue, List, [], ◌++◌, Contains, Option}
use Rattle.std.specs.List.{AllByRecursion}
use Rattle.std.specs.Ordering.{is_lt}
use Rattle.std.specs.declared.cmp.Ordering.TheVariants.{Equal}
use Rattle.log_model.specs.View.{View}
use Rattle.ivy_base.specs.declared.key.Key.{Key}
use Rattle.log_model.specs.Vector.{Entry, Vector, join}
use Rattle.log_model.specs.Record.{Record}
use Rattle.log_model.specs.Rank.{record_cmp, front}
use Rattle.log_model.specs.Closed as log
use Rattle.log_model.specs.Closed.{IsCause}
use Rattle.log_model.specs.Replay.{in_order}
use Rattle.log_model.specs.Fetched.{Edge, owner_of}
use Rattle.log_records.specs.Batches.{Batch, IsBatch, AreUnder}
use Rattle.causal_order.specs.Over.{IsClosed, IsClosedPart}
use Rattle.causal_order.specs.Available.{held_to, BeginsBy, IsFetched}

-- Over the empty front closed sets, and closed parts of available records, are those of `log_model`.
abbrev pub FreshIsPlain : Type 0
FreshIsPlain = (view : View) (s : List Record) → IsClosed view [] s ↔ log.IsClosed view s

abbrev pub FreshPartIsPlain : Type 0
FreshPartIsPlain = (view : View) (all s : List Record) → IsClosedPart view [] (Contains all) s ↔ log.IsClosedPart view (Contains all) s

-- Two records of one closed set have different ranks.
abbrev pub RanksDiffer : Type 0
RanksDiffer = (view : View) (s : List Record) (r q : Record) → log.IsClosed view s → Contains s r → Contains s q → record_cmp r q ≡ Equal
    → r ≡ q

-- Each cause has a smaller rank than its effect.
abbrev pub CausesAreBefore : Type 0
CausesAreBefore = (c : Record) (e : Entry) (r : Record) → IsCause c e r → IsTrue (is_lt (record_cmp c r))

-- The front of the union of two sets is the join of their fronts, where no log has two different records of one number.
abbrev pub FrontsJoin : Type 0
FrontsJoin = (s t : List Record) → ((r q : Record) → Contains (s ++ t) r → Contains (s ++ t) q → r.owner ≡ q.owner → r.seq ≡ q.seq → r ≡ q)
    → front (in_order (s ++ t)) ≡ join (front s) (front t)

-- The chains of a batch that were added under the view, are of its members, and don't begin above what is held are such as a
-- closed part may be taken of.
abbrev pub BatchesAreFetched : Type 0
BatchesAreFetched = (view : View) (edges : Key → Option Edge) (batch : Batch) (front : Vector) (held : List Record) → IsBatch batch
    → AreUnder view edges batch
    → AllByRecursion (λ c. Contains view.members (owner_of c.1)) batch.chains
    → AllByRecursion (λ c. BeginsBy (held_to front held (owner_of c.1)) c.1) batch.chains
    → AllByRecursion (λ c. IsFetched view front held c.1) batch.chains
