-- Record marking: the messages of a stream (RFC 5531, section 11).
use Rattle.std.specs.Prelude.{◌≡◌, ℕ, ◌+◌, ◌^◌, ◌<◌, ◌≤◌, Bool, true, false, List, ◌++◌, length, map}
use Rattle.std.specs.List.{AllByRecursion, flat_map, concat}
use Rattle.wire_model.specs.Xdr.{word}
use Rattle.wire_model.specs.OneReading.{HasNoFront}

-- a fragment's header: the top bit of a word tells the last fragment of a message, the other 31 bits are the length
abbrev pub header : Bool → ℕ → List ℕ
header false n = word n
header true n = word (2 ^ 31 + n)

-- a fragment: its header, and its bytes
abbrev pub fragment : Bool → List ℕ → List ℕ
fragment last bytes = header last (length bytes) ++ bytes

-- a message in fragments: those before the last one, and the last one; each may be empty
pub record Framed : Type 0 where
  pub earlier : List (List ℕ)
  pub last : List ℕ

-- its bytes, and how it is spelled
abbrev pub message : Framed → List ℕ
message f = concat f.earlier ++ f.last

abbrev pub marked : Framed → List ℕ
marked f = flat_map (fragment false) f.earlier ++ fragment true f.last

-- no message has more bytes
abbrev pub longest_message : ℕ
longest_message = 65536

-- within the limit
abbrev pub Fits : Framed → Type 0
Fits f = length (message f) ≤ longest_message

-- the bytes begin with these messages, each within the limit and in any fragments, and the rest follows
pub record Begins (bytes : List ℕ) (messages : List (List ℕ)) (rest : List ℕ) : Type 0 where
  pub framed : List Framed
  pub fit : AllByRecursion Fits framed
  pub are : messages ≡ map message framed
  pub spelled : bytes ≡ flat_map marked framed ++ rest

-- after whole fragments of a message comes a header that makes the message longer than the limit
pub record IsOver (bytes : List ℕ) : Type 0 where
  pub earlier : List (List ℕ)
  pub last : Bool
  pub size : ℕ
  pub more : List ℕ
  pub short : length (concat earlier) ≤ longest_message
  pub word_fits : size < 2 ^ 31
  pub over : longest_message < length (concat earlier) + size
  pub spelled : bytes ≡ flat_map (fragment false) earlier ++ (header last size ++ more)

-- the bytes are these whole messages, and then the rest, which begins no whole message and has no header that makes
-- one too long: it is nothing, or the beginning of a message that isn't whole
pub record IsSplit (bytes : List ℕ) (messages : List (List ℕ)) (rest : List ℕ) : Type 0 where
  pub begins : Begins bytes messages rest
  pub no_message : HasNoFront Fits marked rest
  pub no_over : IsOver rest → ⊥

-- after these whole messages stands one that is too long
pub record IsTooLong (bytes : List ℕ) (messages : List (List ℕ)) : Type 0 where
  pub rest : List ℕ
  pub begins : Begins bytes messages rest
  pub over : IsOver rest
