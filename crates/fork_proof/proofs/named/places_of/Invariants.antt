use Rattle.std.proofs.Common.{take}
use Rattle.fork_proof.specs.Places.{ArePlaced}
use Rattle.fork_proof.proofs.named.places_of.Given as goal

abbrev pub invariant-blocks-2 : goal.invariant-blocks-2
invariant-blocks-2 l = ArePlaced (take l.place l.blocks) l.places.entries
