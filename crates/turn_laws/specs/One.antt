-- What an agent knows, the blocks and the heads determine the candidates.
use Rattle.std.specs.Prelude.{◌≡◌, List}
use Rattle.ivy_base.specs.Naming.{IsCollisionFree}
use Rattle.turn_model.specs.Candidates.{AreCandidates, Evidence}
use Rattle.turn_model.specs.Turn.{Candidate}

-- There is one list of candidates at most, where no two different blocks have one name.
abbrev pub CandidatesAreUnique : Type 0
CandidatesAreUnique = (e : Evidence) (one other : List Candidate) → IsCollisionFree e.blocks → AreCandidates e one → AreCandidates e other
    → one ≡ other
