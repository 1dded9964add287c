-- What a turn takes is verified: of each member's log the beginning of a chain, at or under a head that was received.
use Rattle.std.specs.Prelude.{◌≡◌, ℕ, List, Contains}
use Rattle.std.specs.List.{AllByRecursion}
use Rattle.ivy_base.specs.declared.key.Key.{Key}
use Rattle.ivy_base.specs.declared.operation.Moment.{Moment}
use Rattle.log_model.specs.Closed.{log_of, IsClosed, IsClosedPart}
use Rattle.log_model.specs.Rank.{front}
use Rattle.log_model.specs.Record.{Record}
use Rattle.log_model.specs.Vector.{Stamp, Entry, Vector}
use Rattle.turn_model.specs.Candidates.{AreCandidates, Evidence}
use Rattle.turn_model.specs.Known.{IsBacked, IsVerified}
use Rattle.turn_model.specs.Turn.{Inputs, Asked, Candidate, IsAvailable, turn_on}

-- all these are among those
abbrev pub AreAmong : {A : Type 0} → List A → List A → Type 0
AreAmong {A = A} xs ys = (x : A) → Contains xs x → Contains ys x

-- the heads that are tried were received
abbrev pub WereReceived : (Key → List Stamp) → List Entry → Type 0
WereReceived heads received = (log : Key) (t : Stamp) → Contains (heads log) t → Contains received (log, t)

-- the front of what is known is its floor
abbrev pub by_front : Evidence → Evidence
by_front e = record e { floor = front e.known }

-- The set that a turn takes is verified by the floor of what was known, the heads and the blocks, where what was known is.
abbrev pub TakenIsVerified : Type 0
TakenIsVerified = (e : Evidence) (candidates : List Candidate) (received : List Entry) (taken : List Record)
    → AreCandidates (by_front e) candidates → WereReceived e.heads received
    → IsClosed e.view e.known → AllByRecursion (IsBacked e.blocks e.own (front e.known) received) e.known
    → IsClosedPart e.view (IsAvailable e.known candidates) taken → IsVerified e.blocks e.view e.own (front e.known) received taken

-- Of the own log it has just what was known.
abbrev pub OwnLogIsKnown : Type 0
OwnLogIsKnown = (e : Evidence) (candidates : List Candidate) (taken : List Record)
    → AreCandidates (by_front e) candidates → IsClosed e.view e.known
    → IsClosedPart e.view (IsAvailable e.known candidates) taken → log_of e.own taken ≡ log_of e.own e.known

-- What is known after the turn, its own new records included, is backed by the floor of that, the same heads and blocks and whatever came
-- to these.
abbrev pub KnownStaysBacked : Type 0
KnownStaysBacked = (a : Inputs) (blocks more : List (List ℕ)) (floor : Vector) (received later : List Entry) (taken : List Record)
    (asked : Asked) (now : Moment)
    → AreAmong blocks more → AreAmong received later
    → AllByRecursion (IsBacked blocks a.own floor received) taken
    → AllByRecursion (IsBacked more a.own (front (turn_on a taken asked now).set) later) (turn_on a taken asked now).set
