-- Laws of frames: a stream can be split in one way only, and however it is cut into pieces, a reader gets its messages.
use Rattle.std.specs.Prelude.{◌≡◌, ◌≢◌, ◌⊎◌, ℕ, ◌<◌, List, [], ◌∷◌, ◌++◌, map, Result, Err}
use Rattle.std.specs.List.{AllByRecursion, flat_map}
use Rattle.rpc_wire.specs.Frames.{Framed, message, marked, Fits, IsSplit, IsTooLong}
use Rattle.rpc_wire.specs.FrameReading.{Frames, IsAfter, HasFed}
use Rattle.rpc_wire.specs.declared.frames.FrameFault.{FrameFault}
use Rattle.rpc_wire.specs.declared.frames.FrameFault.TheVariants as fault

-- messages within the limit, in any fragments, are split into these messages, and nothing is left
abbrev pub WholeAreSplit : Type 0
WholeAreSplit = (framed : List Framed) → AllByRecursion Fits framed → IsSplit (flat_map marked framed) (map message framed) []

-- bytes are split in one way only, have one row of messages in front of one that is too long, and not both
abbrev pub SplitsAreUnique : Type 0
SplitsAreUnique = (bytes : List ℕ) (m n : List (List ℕ)) (r s : List ℕ) → IsSplit bytes m r → IsSplit bytes n s → (m ≡ n) × (r ≡ s)

abbrev pub TooLongAreUnique : Type 0
TooLongAreUnique = (bytes : List ℕ) (m n : List (List ℕ)) → IsTooLong bytes m → IsTooLong bytes n → m ≡ n

abbrev pub NeverBoth : Type 0
NeverBoth = (bytes : List ℕ) (m n : List (List ℕ)) (r : List ℕ) → IsSplit bytes m r → IsTooLong bytes n → ⊥

-- the messages of the bytes: all that are whole, or all in front of one that is too long
abbrev pub AreOf : List ℕ → List (List ℕ) → Type 0
AreOf bytes messages = ((rest : List ℕ) × IsSplit bytes messages rest) ⊎ IsTooLong bytes messages

abbrev pub IsByte : ℕ → Type 0
IsByte b = b < 256

-- all bytes have messages
abbrev pub EachHasMessages : Type 0
EachHasMessages = (bytes : List ℕ) → AllByRecursion IsByte bytes → (messages : List (List ℕ)) × AreOf bytes messages

-- what is left of a split is the beginning of a message: some more bytes make it a whole one
abbrev pub IsBeginning : List ℕ → Type 0
IsBeginning rest = (framed : Framed) × (more : List ℕ) × (rest ++ more ≡ marked framed) × (more ≢ [])

abbrev pub RestsAreBeginnings : Type 0
RestsAreBeginnings = (bytes : List ℕ) (messages : List (List ℕ)) (rest : List ℕ) → AllByRecursion IsByte bytes → IsSplit bytes messages rest
    → IsBeginning rest

-- ---- what is done with a reader, one act after the other

-- a piece is fed, or a message is taken, or neither, where memory was missing or no message waited
pub data Act : Type 0 where
  Feed : List ℕ → Act
  Take : List ℕ → Act
  Nothing : Act

-- what an act does, as the contracts of `feed` and `take` say
abbrev pub Does : Act → Frames → Frames → Type 0
Does (Feed piece) old new = (result : Result (Unit {0}) FrameFault) × (result ≢ Err fault.Memory)
    × ((fed : List ℕ) (taken : List (List ℕ)) → IsAfter fed taken old → HasFed result (fed ++ piece) taken new)
Does (Take message) old new = (old.waiting ≡ message ∷ new.waiting) × (new.part ≡ old.part)
Does Nothing old new = new ≡ old

abbrev pub DoEach : List Act → Frames → Frames → Type 0
DoEach [] old new = new ≡ old
DoEach (act ∷ acts) old new = (middle : Frames) × Does act old middle × DoEach acts middle new

-- all pieces, joined, and all messages taken
abbrev pub fed_in : List Act → List ℕ
fed_in [] = []
fed_in (Feed piece ∷ acts) = piece ++ fed_in acts
fed_in (Take message ∷ acts) = fed_in acts
fed_in (Nothing ∷ acts) = fed_in acts

abbrev pub taken_in : List Act → List (List ℕ)
taken_in [] = []
taken_in (Feed piece ∷ acts) = taken_in acts
taken_in (Take message ∷ acts) = message ∷ taken_in acts
taken_in (Nothing ∷ acts) = taken_in acts

-- whatever is done with a new reader: the messages taken and those that wait are those of all bytes fed
abbrev pub AllAreGotten : Type 0
AllAreGotten = (acts : List Act) (start reader : Frames) → IsAfter [] [] start → DoEach acts start reader
    → IsAfter (fed_in acts) (taken_in acts) reader × AreOf (fed_in acts) (taken_in acts ++ reader.waiting)

-- so two readers of the same bytes get the same messages, however the bytes were cut, and whatever was taken between
abbrev pub CuttingIsFree : Type 0
CuttingIsFree = (acts others : List Act) (start reader second other : Frames) → IsAfter [] [] start → DoEach acts start reader
    → IsAfter [] [] second → DoEach others second other
    → fed_in acts ≡ fed_in others → taken_in acts ++ reader.waiting ≡ taken_in others ++ other.waiting
