-- What a reader's code holds, and what its steps keep.
use Rattle.std.specs.Prelude.{◌≡◌, ◌⊎◌, ℕ, zero, suc, ◌+◌, ◌^◌, ◌<◌, ◌≤◌, Bool, true, false, List, [], ◌∷◌, ◌++◌, length}
use Rattle.rpc_wire.specs.Frames.{header, longest_message}
use Rattle.rpc_wire.specs.FrameReading.{Part, Header, Inside, Exceeded, Frames, Feeds}
use Rattle.rpc_wire.specs.declared.stream.Place.{Place}
use Rattle.rpc_wire.specs.declared.stream.Place.TheVariants as place
use Rattle.rpc_wire.specs.declared.stream.Stream.{Stream}

abbrev pub part_of : List ℕ → Place → Part
part_of body place.Between = Header body []
part_of body (place.One a) = Header body (a ∷ [])
part_of body (place.Two a b) = Header body (a ∷ b ∷ [])
part_of body (place.Three a b c) = Header body (a ∷ b ∷ c ∷ [])
part_of body (place.Inside last left) = Inside body last left
part_of body place.TooLong = Exceeded

abbrev pub frames_of : Stream → Frames
frames_of s = record { waiting = s.whole.items; part = part_of s.body.items s.place }

abbrev pub nothing : Frames
nothing = record { waiting = []; part = Header [] [] }

-- in a fragment of which so many bytes are to come, or, where it is the last and none is, after the message
abbrev pub standing : List (List ℕ) → List ℕ → Bool → ℕ → Frames
standing waiting body true zero = record { waiting = waiting ++ body ∷ []; part = Header [] [] }
standing waiting body true (suc left) = record { waiting = waiting; part = Inside body true (suc left) }
standing waiting body false left = record { waiting = waiting; part = Inside body false left }

-- after a header, which may make the message too long
abbrev pub AfterHeader : List (List ℕ) → List ℕ → List ℕ → Frames → Type 0
AfterHeader waiting body bytes new = (last : Bool) × (size : ℕ) × (size < 2 ^ 31) × (bytes ≡ header last size)
    × (((length body + size ≤ longest_message) × (new ≡ standing waiting body last size))
    ⊎ ((longest_message < length body + size) × (new ≡ record { waiting = waiting; part = Exceeded })))

-- some bytes of the piece were fed, and the rest wasn't
pub record FeedsSome (piece rest : List ℕ) (old new : Frames) : Type 0 where
  pub front : List ℕ
  pub whole : piece ≡ front ++ rest
  pub shorter : length rest < length piece
  pub feeds : Feeds front old new

-- the messages and the bytes of the one that isn't whole are these, and more that came later
pub record Grows (messages : List (List ℕ)) (bytes : List ℕ) (now : Stream) : Type 0 where
  pub more : List ℕ
  pub later : List (List ℕ)
  pub all : now.whole.items ++ now.body.items ∷ [] ≡ messages ++ (bytes ++ more) ∷ later

abbrev pub IsGrown : Stream → Stream → Type 0
IsGrown old new = Grows old.whole.items old.body.items new
