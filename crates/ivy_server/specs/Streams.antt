-- A link on its way: the messages of a stream, and what was written for them.
use Rattle.std.specs.Prelude.{◌≡◌, ◌≢◌, ◌<◌, ◌≤◌, ℕ, Bool, true, false, List, [], ◌++◌, length, take, Option, Some, None, Result, Ok, Err}
use Rattle.std.specs.Prelude.{IsErrOf, OnErr, OnOk}
use Rattle.ivy_io.specs.Causes.{Rose}
use Rattle.ivy_io.specs.Known.{IsAtEnd, onto, then}
use Rattle.ivy_io.specs.declared.fault.SinkFault.{SinkFault}
use Rattle.ivy_io.specs.declared.fault.SinkFault.TheVariants as fault
use Rattle.rpc_wire.specs.Frames.{IsSplit, IsTooLong, fragment}
use Rattle.rpc_wire.specs.FrameReading.{Frames, IsAfter}
use Rattle.session_model.specs.Sessions.{Cache}
use Rattle.server_model.specs.Acts.{Act}
use Rattle.server_model.specs.Links.{HasServed, sent}
use Rattle.server_model.specs.declared.ended.Ended.{Ended}
use Rattle.server_model.specs.declared.ended.Ended.TheVariants as ended
use Rattle.ivy_server.specs.Served.{IsServed, Leave, Surroundings}
use Rattle.ivy_server.specs.Passes.{by_passes}
use Rattle.ivy_server.specs.Sessions.{Setting, ring_in, server_of}
use Rattle.ivy_server.specs.declared.serve.Piece.{Piece}
use Rattle.ivy_server.specs.declared.serve.Piece.TheVariants as piece

-- a source: what is left of it, where that is known, and its count of faults
pub record SourceState : Type 0 where
  pub left : Option (List ℕ)
  pub faults : ℕ

-- all that was taken of the frames was served, and these are the messages of the bytes read, with this rest
pub record IsBetween (read : List ℕ) (taken : List (List ℕ)) (frames : Frames) : Type 0 where
  pub after : IsAfter read taken frames
  pub none : frames.waiting ≡ []
  pub split : (rest : List ℕ) × IsSplit read taken rest

-- A further piece was read: it brings messages, or one that is too long, or the stream ends.
abbrev pub HasReadPiece : SourceState → SourceState → List ℕ → List (List ℕ) → Frames → Piece → Type 0
HasReadPiece old new read taken frames piece.Fed = (bytes : List ℕ) × (old.left ≡ onto bytes new.left)
    × IsAfter (read ++ bytes) taken frames
    × ((rest : List ℕ) × IsSplit (read ++ bytes) (taken ++ frames.waiting) rest)
HasReadPiece old new read taken frames piece.TooLong = (bytes : List ℕ) × (old.left ≡ onto bytes new.left)
    × IsAfter (read ++ bytes) taken frames
    × IsTooLong (read ++ bytes) (taken ++ frames.waiting)
HasReadPiece old new read taken frames piece.End = (new.left ≡ old.left) × IsAtEnd new.left × IsSplit read taken []
HasReadPiece old new read taken frames piece.CutOff = (new.left ≡ old.left) × IsAtEnd new.left
    × ((rest : List ℕ) × (rest ≢ []) × IsSplit read taken rest)
HasReadPiece old new read taken frames piece.Fault = (new.left ≡ old.left) × Rose old.faults new.faults
HasReadPiece old new read taken frames piece.Memory = (bytes : List ℕ) × (old.left ≡ onto bytes new.left) × (bytes ≢ [])

-- how a link ends after a piece, where no message more can be served
abbrev pub piece_end : Piece → Option Ended
piece_end piece.Fed = None
piece_end piece.TooLong = None
piece_end piece.End = Some ended.Done
piece_end piece.CutOff = Some ended.Cut
piece_end piece.Fault = Some ended.ReadFault
piece_end piece.Memory = Some ended.Memory

-- how it ends once all messages in front were served
abbrev pub piece_last : Piece → Option Ended
piece_last piece.Fed = None
piece_last piece.TooLong = Some ended.TooLong
piece_last piece.End = None
piece_last piece.CutOff = None
piece_last piece.Fault = None
piece_last piece.Memory = None

-- how a link ends once a reply was sent, or not, of a session that was cut or not
abbrev pub end_for : Result (Unit {0}) SinkFault → Bool → Option Ended
end_for (Ok done) true = Some ended.Memory
end_for (Ok done) false = None
end_for (Err fault.Failed) is_cut = Some ended.WriteFault
end_for (Err fault.Memory) is_cut = Some ended.Memory

-- a sink: what it holds, where that is known, and its count of faults
pub record SinkState : Type 0 where
  pub held : Option (List ℕ)
  pub faults : ℕ

-- The reply was written as one fragment, or less than that of it.
pub record HasSent (reply : List ℕ) (result : Result (Unit {0}) SinkFault) (old new : SinkState) : Type 0 where
  pub ok : OnOk result (new.held ≡ then old.held (fragment true reply))
  pub front : OnErr result ((count : ℕ) × (count < length (fragment true reply))
      × (new.held ≡ then old.held (take count (fragment true reply))))
  pub failed : IsErrOf result fault.Failed → Rose old.faults new.faults
  pub later : old.faults ≤ new.faults

module _ {P K S C : Type 0} (setting : Setting P K S C) where
  -- These messages of the bytes read were served, and their replies written.
  pub record IsServing (start now : Surroundings P C) (cache : Cache) (read : List ℕ) (taken : List (List ℕ)) : Type 0 where
    pub replies : List (List ℕ)
    pub acts : List Act
    pub served : HasServed (by_passes setting.by) (ring_in setting.place) start.pass taken acts replies
        (record { taker = now.pass; cache = cache })
    pub left : start.left ≡ onto read now.left
    pub held : now.held ≡ then start.held (sent replies)
    pub marks : Leave setting.gives start.marks acts now.marks
    pub reads : start.reads ≤ now.reads
    pub writes : start.writes ≤ now.writes

  -- The messages were served, and their replies written; or the link has ended.
  abbrev pub HasServedOne : Surroundings P C → Surroundings P C → Cache → List ℕ → List (List ℕ) → Option Ended → Type 0
  HasServedOne start now cache read taken None = IsServing start now cache read taken
  HasServedOne start now cache read taken (Some how) = IsServed (server_of setting) start now how

  -- So far the link was served: all messages of the bytes read.
  pub record IsOnAfter (start now : Surroundings P C) (cache : Cache) (frames : Frames) : Type 0 where
    pub read : List ℕ
    pub taken : List (List ℕ)
    pub serving : IsServing start now cache read taken
    pub between : IsBetween read taken frames

  -- The messages of a piece were served; or the link has ended.
  abbrev pub HasServedPiece : Surroundings P C → Surroundings P C → Cache → Frames → Option Ended → Type 0
  HasServedPiece start now cache frames None = IsOnAfter start now cache frames
  HasServedPiece start now cache frames (Some how) = IsServed (server_of setting) start now how
