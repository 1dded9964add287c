-- What a chain of a batch is, put on top of what is held of its log.
use Rattle.std.specs.Prelude.{◌≡◌, List, [], ◌∷◌, ◌++◌, Option, Some, None}
use Rattle.log_model.specs.View.{View}
use Rattle.log_model.specs.Vector.{Stamp, Vector}
use Rattle.log_model.specs.Record.{Record}
use Rattle.log_model.specs.Rank.{own_entry}
use Rattle.log_model.specs.Chain.{IsChain}
use Rattle.log_model.specs.Fetched.{Edge, owner_of, stamp_in, as_edge, GoesOnFrom, EndsAtStamp}
use Rattle.log_records.specs.Batches.{Extends}

-- where nothing of its log is held, it is a chain from the opening record on
abbrev pub ChainsBegin : Type 0
ChainsBegin = (view : View) (held floor : Vector) (edge : Option Edge) (head : Stamp) (chain : List Record) → stamp_in held chain ≡ None
    → Extends held floor head chain → GoesOnFrom view (stamp_in held chain) edge chain
    → IsChain view (owner_of chain) chain × EndsAtStamp head chain

-- over a held chain that ends at the held record, whose edge is known, the two are one chain
abbrev pub ChainsGoOn : Type 0
ChainsGoOn = (view : View) (held floor : Vector) (head : Stamp) (before : List Record) (p : Record) (chain : List Record)
    → IsChain view (owner_of chain) (before ++ p ∷ []) → stamp_in held chain ≡ Some (own_entry p).1
    → Extends held floor head chain → GoesOnFrom view (stamp_in held chain) (Some (as_edge p)) chain
    → IsChain view (owner_of chain) (before ++ p ∷ chain) × EndsAtStamp head (before ++ p ∷ chain)
