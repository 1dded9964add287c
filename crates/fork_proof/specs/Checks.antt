-- When the check of a fork proof gives which answer.
use Rattle.std.specs.Prelude.{◌≡◌, ◌≢◌, ℕ, ◌+◌, List, ◌∷◌, ◌++◌, length}
use Rattle.ivy_base.specs.declared.key.Key.{Key}
use Rattle.ivy_base.specs.Naming.{head_key_of}
use Rattle.log_model.specs.Record.{Record}
use Rattle.fork_proof.specs.declared.checking.Forked.{Forked}
use Rattle.fork_proof.specs.declared.fault.ProofFault.{ProofFault}
use Rattle.fork_proof.specs.declared.fault.ProofFault.TheVariants.{Malformed, HeadWrong, Unlinked, NoFork, Memory}
use Rattle.fork_proof.specs.Forms.{ForkProof, IsProofOf, IsSigned, IsLink, LeadsDown}

-- both heads are signed
pub record AreSigned (p : ForkProof) : Type 0 where
  pub low : IsSigned p.owner p.low
  pub high : IsSigned p.owner p.high

-- the first head that isn't signed is that one: 1 is the lower one, and 2 the higher
pub data FailsAt (p : ForkProof) : ℕ → Type 0 where
  low : (IsSigned p.owner p.low → ⊥) → FailsAt p 1
  high : IsSigned p.owner p.low → (IsSigned p.owner p.high → ⊥) → FailsAt p 2

-- the blocks lead down from the higher head to the record of this name, and the block of that place, from 1 on, isn't that record
pub record BreaksAt (p : ForkProof) (place : ℕ) : Type 0 where
  pub before : List (List ℕ)
  pub block : List ℕ
  pub after : List (List ℕ)
  pub are : p.blocks ≡ before ++ block ∷ after
  pub place_is : place ≡ length before + 1
  pub name : Key
  pub leads : LeadsDown p.owner p.high.newest.seq p.high.newest.name before name
  pub breaks : (seq : ℕ) (r : Record) → seq + length before ≡ p.high.newest.seq → IsLink p.owner seq name block r → ⊥

-- the blocks lead from the higher head down to the number of the lower one, to a record of that name
abbrev pub Leads : ForkProof → Key → Type 0
Leads p last = LeadsDown p.owner p.high.newest.seq p.high.newest.name p.blocks last

-- it is shown that the log has two histories: what the higher head leads to isn't what the lower one names
pub record IsShown (p : ForkProof) : Type 0 where
  pub signed : AreSigned p
  pub last : Key
  pub leads : Leads p last
  pub other : last ≢ p.low.newest.name

-- ---- the answers

-- the log, and the numbers of its heads
abbrev pub forked_of : ForkProof → Forked
forked_of p = record { log = head_key_of p.owner; low = p.low.newest.seq; high = p.high.newest.seq }

-- why a proof shows no fork: the first test that fails. Running out of memory isn't tied to a cause
abbrev pub Fails : ForkProof → ProofFault → Type 0
Fails p Malformed = ⊥
Fails p (HeadWrong place) = FailsAt p place
Fails p (Unlinked place) = AreSigned p × BreaksAt p place
Fails p NoFork = AreSigned p × Leads p p.low.newest.name
Fails p Memory = Unit {0}

-- the bytes are a proof that shows this fork
pub record ShowsFork (bytes : List ℕ) (f : Forked) : Type 0 where
  pub proof : ForkProof
  pub is : IsProofOf bytes proof
  pub shown : IsShown proof
  pub fork : f ≡ forked_of proof

-- the bytes are no proof, or one that shows no fork
abbrev pub ShowsNone : List ℕ → ProofFault → Type 0
ShowsNone bytes Malformed = (p : ForkProof) → IsProofOf bytes p → ⊥
ShowsNone bytes Memory = Unit {0}
ShowsNone bytes fault = (p : ForkProof) × IsProofOf bytes p × Fails p fault
