-- What a reader of frames holds, and what its calls mean for the bytes that it was fed.
use Rattle.std.specs.Prelude.{◌≡◌, ℕ, ◌+◌, ◌<◌, ◌≤◌, Bool, true, false, List, [], ◌++◌, length, Result, Ok, Err}
use Rattle.std.specs.List.{flat_map, concat}
use Rattle.rpc_wire.specs.Frames.{header, fragment, IsSplit, IsTooLong, longest_message}
use Rattle.rpc_wire.specs.declared.frames.FrameFault.{FrameFault}
use Rattle.rpc_wire.specs.declared.frames.FrameFault.TheVariants as fault

-- what is held of a message that isn't whole: the bytes of its fragments so far, and in front of a fragment those
-- of its header, in a fragment whether it is the last and how many of its bytes are to come
pub data Part : Type 0 where
  Header : List ℕ → List ℕ → Part
  Inside : List ℕ → Bool → ℕ → Part
  Exceeded : Part

pub record Frames : Type 0 where
  -- the whole messages that were not yet taken, the oldest first
  pub waiting : List (List ℕ)
  pub part : Part

-- the rest of a stream, after its whole messages, ends in front of a fragment or in its header
pub record IsAtHeader (rest body begun : List ℕ) : Type 0 where
  pub earlier : List (List ℕ)
  pub spelled : rest ≡ flat_map (fragment false) earlier ++ begun
  pub bytes : body ≡ concat earlier
  pub short : length body ≤ longest_message
  pub cut : length begun < 4
  -- between two fragments of one message `IsInside` has it
  pub begins : begun ≡ [] → earlier ≡ []

-- it ends in a fragment, or right after one that isn't its message's last
pub record IsInside (rest body : List ℕ) (last : Bool) (left : ℕ) : Type 0 where
  pub earlier : List (List ℕ)
  pub bytes : List ℕ
  pub spelled : rest ≡ flat_map (fragment false) earlier ++ (header last (length bytes + left) ++ bytes)
  pub body_is : body ≡ concat earlier ++ bytes
  pub short : length body + left ≤ longest_message
  pub more : last ≡ true → 0 < left

-- the bytes are these messages and this part of a further one
abbrev pub Stands : List ℕ → List (List ℕ) → Part → Type 0
Stands bytes messages (Header body begun) = (rest : List ℕ) × IsSplit bytes messages rest × IsAtHeader rest body begun
Stands bytes messages (Inside body last left) = (rest : List ℕ) × IsSplit bytes messages rest × IsInside rest body last left
Stands bytes messages Exceeded = IsTooLong bytes messages

-- the reader was fed these bytes, and these messages were taken from it
abbrev pub IsAfter : List ℕ → List (List ℕ) → Frames → Type 0
IsAfter fed taken reader = Stands fed (taken ++ reader.waiting) reader.part

-- whatever was fed and taken before: now the piece was fed as well, and nothing more was taken
abbrev pub Feeds : List ℕ → Frames → Frames → Type 0
Feeds piece old new = (fed : List ℕ) (taken : List (List ℕ)) → IsAfter fed taken old → IsAfter (fed ++ piece) taken new

-- what a call of `feed` answers, where all bytes fed are now these
abbrev pub HasFed : Result (Unit {0}) FrameFault → List ℕ → List (List ℕ) → Frames → Type 0
HasFed (Ok _) fed taken reader = IsAfter fed taken reader × ((rest : List ℕ) × IsSplit fed (taken ++ reader.waiting) rest)
HasFed (Err fault.TooLong) fed taken reader = IsAfter fed taken reader × IsTooLong fed (taken ++ reader.waiting) × (reader.part ≡ Exceeded)
HasFed (Err fault.Memory) fed taken reader = Unit {0}
