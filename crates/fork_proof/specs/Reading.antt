-- What is read of a proof's bytes, part by part.
use Rattle.std.specs.Prelude.{◌≡◌, ℕ, ◌+◌, ◌≤◌, List, ◌++◌, length, map}
use Rattle.std.specs.List.{AllByRecursion}
use Rattle.ivy_base.specs.declared.key.PubKey.{PubKey}
use Rattle.wire_model.specs.Xdr.{opaque, IsAny, IsUpTo}
use Rattle.log_model.specs.Heads.{stamp}
use Rattle.log_model.specs.Spelling.{IsHeadOf, head_message}
use Rattle.block_parts.specs.Parts.{constant_bytes}
use Rattle.fork_model.specs.Bytes.{proof_tag, most_blocks}
use Rattle.log_records.specs.declared.head.Head as kept
use Rattle.fork_proof.specs.declared.claim.Claim.{Claim}
use Rattle.fork_proof.specs.declared.form.Proof.{Proof}
use Rattle.fork_proof.specs.declared.fault.ProofFault.{ProofFault}
use Rattle.fork_proof.specs.declared.fault.ProofFault.TheVariants.{Malformed, HeadWrong, Unlinked, Memory}
use Rattle.fork_proof.specs.Forms.{Head, ForkProof, IsProofOf, IsShort}
use Rattle.fork_proof.specs.Checks.{FailsAt, BreaksAt}

-- no head has more bytes
abbrev pub longest_head : ℕ
longest_head = 16092

-- the tag, and the bytes of two heads
abbrev pub Front : Type 0
Front = (Unit {0} × List ℕ) × List ℕ

abbrev pub IsFrontOfProof : Front → Type 0
IsFrontOfProof f = (IsAny f.0.0 × IsUpTo longest_head f.0.1) × IsUpTo longest_head f.1

abbrev pub front_bytes : Front → List ℕ
front_bytes f = constant_bytes proof_tag f.0.0 ++ opaque f.0.1 ++ opaque f.1

-- the blocks after them
abbrev pub AreBlocks : List (List ℕ) → Type 0
AreBlocks blocks = (length blocks ≤ most_blocks) × AllByRecursion IsShort blocks

-- ---- heads

-- a head as it is kept
abbrev pub head_of : kept.Head → Head
head_of h = record { newest = stamp h.seq h.name; signature = h.signature.now }

-- the bytes are heads of one log, whose numbers differ by that count
pub record AreHeads (low high : List ℕ) (count : ℕ) (owner : PubKey) (one other : Head) : Type 0 where
  pub low_is : IsHeadOf owner low one.newest one.signature
  pub high_is : IsHeadOf owner high other.newest other.signature
  pub differ : one.newest.seq + count ≡ other.newest.seq

-- the two heads are kept with what their signatures sign
pub record AreKept (low high : Claim) : Type 0 where
  pub same : high.head.owner ≡ low.head.owner
  pub low_signs : low.signed.now ≡ head_message low.head.owner (stamp low.head.seq low.head.name)
  pub high_signs : high.signed.now ≡ head_message low.head.owner (stamp high.head.seq high.head.name)

-- ---- proofs

-- a proof as it is kept
abbrev pub proof_of : Proof → ForkProof
proof_of p = record {
  owner = p.low.head.owner;
  low = head_of p.low.head;
  high = head_of p.high.head;
  blocks = map (λ b. b.now) p.blocks.items;
}

abbrev pub IsNoProof : List ℕ → ProofFault → Type 0
IsNoProof bytes Malformed = (p : ForkProof) → IsProofOf bytes p → ⊥
IsNoProof bytes Memory = Unit {0}
IsNoProof bytes fault = ⊥

-- ---- what is tested of a proof

abbrev pub FailsSigning : ForkProof → ProofFault → Type 0
FailsSigning p (HeadWrong place) = FailsAt p place
FailsSigning p fault = ⊥

abbrev pub BreaksIn : ForkProof → ProofFault → Type 0
BreaksIn p (Unlinked place) = BreaksAt p place
BreaksIn p Memory = Unit {0}
BreaksIn p fault = ⊥
