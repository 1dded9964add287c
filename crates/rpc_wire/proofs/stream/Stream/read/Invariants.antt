use Rattle.std.proofs.Common.{◌≡◌, ℕ, List, ◌++◌, length}
use Rattle.rpc_wire.specs.FrameReading.{Feeds}
use Rattle.rpc_wire.specs.Streams.{frames_of, IsGrown}
use Rattle.rpc_wire.specs.declared.stream.Place.TheVariants as place
use Rattle.rpc_wire.proofs.stream.Stream.read.Given as goal

abbrev pub invariant-steps : goal.invariant-steps
invariant-steps l = record {
  fed : (front : List ℕ) × (l.piece ≡ front ++ l.rest) × Feeds front (frames_of l.initial.self) (frames_of l.self);
  grown : IsGrown l.initial.self l.self;
  same : l.initial.self.place ≡ place.TooLong → l.self ≡ l.initial.self;
}

abbrev pub decreases-steps : goal.decreases-steps
decreases-steps l = length l.rest
