-- What a fork proof says of a log, and of which bytes it is one.
use Rattle.std.specs.Prelude.{◌≡◌, ◌⊎◌, List, ℕ, ◌++◌, Some, IsTrue, Contains}
use Rattle.ivy_base.specs.Naming.{HasClash, IsCollisionFree}
use Rattle.log_model.specs.Record.{Record}
use Rattle.log_model.specs.Chain.{LinkedFrom}
use Rattle.log_model.specs.Fetched.{EndsAtStamp}
use Rattle.log_model.specs.Spelling.{no_name}
use Rattle.log_model.specs.Standing.{blocks_of}
use Rattle.dhash_model.specs.Signed.{are_bytes}
use Rattle.fork_model.specs.Before.{Before, TellsRecords}
use Rattle.fork_model.specs.Finding.{find_fork}
use Rattle.fork_proof.specs.declared.checking.Forked.{Forked}
use Rattle.fork_proof.specs.declared.fault.ProofFault.{ProofFault}
use Rattle.fork_proof.specs.declared.fault.ProofFault.TheVariants.{Memory}
use Rattle.fork_proof.specs.Forms.{ForkProof, IsProof, IsProofOf, proof_bytes}
use Rattle.fork_proof.specs.Checks.{IsShown, ShowsFork, ShowsNone}
use Rattle.fork_proof.specs.Firsts.{IsFirst}

abbrev pub IsPrefixOf : List Record → List Record → Type 0
IsPrefixOf xs ys = (rest : List Record) × (xs ++ rest ≡ ys)

-- the log from its first record on, whatever the view: one history ends at the record that the lower head names, one at the higher head's
pub record AreHistories (p : ForkProof) (low high : List Record) : Type 0 where
  pub low_linked : LinkedFrom p.owner 1 no_name low
  pub high_linked : LinkedFrom p.owner 1 no_name high
  pub low_ends : EndsAtStamp p.low.newest low
  pub high_ends : EndsAtStamp p.high.newest high

-- Of what is shown: of any two histories of the log up to these heads neither begins the other, or two different blocks share a name.
abbrev pub ForksAreForks : Type 0
ForksAreForks = (p : ForkProof) (low high : List Record) → IsProof p → IsShown p → AreHistories p low high
    → HasClash (blocks_of low ++ (blocks_of high ++ p.blocks)) ⊎ ((IsPrefixOf low high → ⊥) × (IsPrefixOf high low → ⊥))

-- the bytes are one proof
abbrev pub ProofsAreUnambiguous : Type 0
ProofsAreUnambiguous = (bytes : List ℕ) (p q : ForkProof) → IsProofOf bytes p → IsProofOf bytes q → p ≡ q

-- By whatever function the records are told, one thing is found.
abbrev pub FoundIsUnique : Type 0
FoundIsUnique = (before other : Before) (heads blocks : List (List ℕ)) → TellsRecords before → TellsRecords other
    → find_fork before heads blocks ≡ find_fork other heads blocks

-- What is found is a proof that shows a fork.
abbrev pub FoundIsShown : Type 0
FoundIsShown = (before : Before) (heads blocks : List (List ℕ)) (bytes : List ℕ) → TellsRecords before
    → find_fork before heads blocks ≡ Some bytes → (f : Forked) × ShowsFork bytes f

-- So it isn't refused except when out of memory.
abbrev pub FoundIsNotRefused : Type 0
FoundIsNotRefused = (before : Before) (heads blocks : List (List ℕ)) (bytes : List ℕ) (fault : ProofFault) → TellsRecords before
    → find_fork before heads blocks ≡ Some bytes → ShowsNone bytes fault → fault ≡ Memory

-- Of heads that are bytes, where no names collide: it is the proof of the first two heads that are shown as forked, and nothing is found
-- only where no two are.
abbrev pub FoundIsFirst : Type 0
FoundIsFirst = (before : Before) (heads blocks : List (List ℕ)) → TellsRecords before
    → ((head : List ℕ) → Contains heads head → IsTrue (are_bytes head)) → IsCollisionFree blocks
    → IsFirst heads blocks (find_fork before heads blocks)

-- A proof that shows a fork isn't refused except when out of memory.
abbrev pub ShownIsNotRefused : Type 0
ShownIsNotRefused = (p : ForkProof) (fault : ProofFault) → IsProof p → IsShown p → ShowsNone (proof_bytes p) fault → fault ≡ Memory
