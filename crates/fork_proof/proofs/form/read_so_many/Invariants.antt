use Rattle.std.proofs.Common.{◌≡◌, length, map}
use Rattle.std.specs.List.{flat_map}
use Rattle.wire_model.specs.Xdr.{opaque, AreSoMany}
use Rattle.wire_model.specs.Parts.{Reads}
use Rattle.fork_proof.specs.Forms.{IsShort}
use Rattle.fork_proof.proofs.form.read_so_many.Given as goal

abbrev pub invariant-blocks-2 : goal.invariant-blocks-2
invariant-blocks-2 l = record {
  reads : Reads (AreSoMany IsShort l._place) (flat_map opaque) l.initial.parts (map (λ b. b.now) l.blocks.items) l.parts;
  size : length l.blocks.items ≡ l._place;
}
