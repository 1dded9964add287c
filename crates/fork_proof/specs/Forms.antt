-- The bytes of a fork proof: two signed heads of one log, and the records that lead from the head of the greater number down to the
-- number of the other.
use Rattle.std.specs.Prelude.{◌≡◌, ℕ, suc, ◌+◌, ◌≤◌, List, [], ◌∷◌, length}
use Rattle.std.specs.List.{AllByRecursion}
use Rattle.ivy_base.specs.declared.key.Key.{Key}
use Rattle.ivy_base.specs.declared.key.PubKey.{PubKey}
use Rattle.wire_model.specs.Xdr.{IsWord}
use Rattle.log_model.specs.Vector.{Stamp}
use Rattle.log_model.specs.Record.{Record}
use Rattle.log_model.specs.Spelling.{head_block, head_message, IsHeadOf}
use Rattle.log_records.specs.Records.{IsRead}
use Rattle.hss_keys.specs.Hss.{HssAccepts}
use Rattle.fork_model.specs.Bytes.{fork_bytes, most_blocks}

-- ---- the bytes

-- a head of a log: the newest record that it says, and its signature
pub record Head : Type 0 where
  pub newest : Stamp
  pub signature : List ℕ

-- whose log, the head of the smaller number, the one of the greater, and blocks of records, the newest first
pub record ForkProof : Type 0 where
  pub owner : PubKey
  pub low : Head
  pub high : Head
  pub blocks : List (List ℕ)

abbrev pub bytes_of_head : PubKey → Head → List ℕ
bytes_of_head owner h = head_block owner h.newest h.signature

abbrev pub proof_bytes : ForkProof → List ℕ
proof_bytes p = fork_bytes (bytes_of_head p.owner p.low) (bytes_of_head p.owner p.high) p.blocks

abbrev pub IsHead : PubKey → Head → Type 0
IsHead owner h = IsHeadOf owner (bytes_of_head owner h) h.newest h.signature

-- a word holds the count of a block's bytes
abbrev pub IsShort : List ℕ → Type 0
IsShort block = IsWord (length block)

-- The parts have their bounds, and there are as many blocks as the numbers of the heads differ by.
pub record IsProof (p : ForkProof) : Type 0 where
  pub low : IsHead p.owner p.low
  pub high : IsHead p.owner p.high
  pub count : p.low.newest.seq + length p.blocks ≡ p.high.newest.seq
  pub few : length p.blocks ≤ most_blocks
  pub short : AllByRecursion IsShort p.blocks

-- the bytes are this proof
pub record IsProofOf (bytes : List ℕ) (p : ForkProof) : Type 0 where
  pub fits : IsProof p
  pub spelled : bytes ≡ proof_bytes p

-- ---- what it shows

-- the head's signature is accepted
abbrev pub IsSigned : PubKey → Head → Type 0
IsSigned owner h = HssAccepts owner.0 (head_message owner h.newest) h.signature

-- the block is the owner's record of that number and that name
pub record IsLink (owner : PubKey) (seq : ℕ) (name : Key) (block : List ℕ) (r : Record) : Type 0 where
  pub read : IsRead owner block r
  pub seq_is : r.seq ≡ seq
  pub name_is : r.name ≡ name

-- From the record of a number and a name the blocks lead down, each to the record before it in the log. The name that the last one
-- gives is left, and where there is no block, the name itself.
pub data LeadsDown (owner : PubKey) : ℕ → Key → List (List ℕ) → Key → Type 0 where
  here : {seq : ℕ} {name : Key} → LeadsDown owner seq name [] name
  down : {seq : ℕ} {name last : Key} {block : List ℕ} {blocks : List (List ℕ)} (r : Record) → IsLink owner (suc seq) name block r
      → LeadsDown owner seq r.prev blocks last → LeadsDown owner (suc seq) name (block ∷ blocks) last
