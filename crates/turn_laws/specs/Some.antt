-- There are candidates, and of what is available with them there is a largest closed part.
use Rattle.std.specs.Prelude.{◌⊎◌, ℕ, List}
use Rattle.ivy_base.specs.declared.key.PubKey.{PubKey}
use Rattle.log_model.specs.Closed.{IsClosed, IsClosedPart}
use Rattle.log_model.specs.Record.{Record}
use Rattle.log_model.specs.Spelling.{IsRecordOf}
use Rattle.log_model.specs.View.{IsView}
use Rattle.turn_model.specs.Candidates.{AreCandidates, Evidence}
use Rattle.turn_model.specs.Turn.{Candidate, IsAvailable}

-- Any bytes are a record of an owner's, or they are none of its.
abbrev pub EachBlockIsKnown : Type 0
EachBlockIsKnown = (owner : PubKey) (block : List ℕ)
    → ((r : Record) × IsRecordOf owner block r) ⊎ ((r : Record) → IsRecordOf owner block r → ⊥)

-- Whatever heads and blocks there are, each member has a candidate.
abbrev pub ThereAreCandidates : Type 0
ThereAreCandidates = (e : Evidence) → (candidates : List Candidate) × AreCandidates e candidates

-- Of what is known, where that is closed, and of candidates there is a largest closed part.
abbrev pub ThereIsALargestPart : Type 0
ThereIsALargestPart = (e : Evidence) (candidates : List Candidate) → IsView e.view → IsClosed e.view e.known → AreCandidates e candidates
    → (s : List Record) × IsClosedPart e.view (IsAvailable e.known candidates) s
