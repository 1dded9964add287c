use Rattle.std.proofs.Common.{◌≡◌, ◌++◌, map, take}
use Rattle.std.specs.List.{flat_map}
use Rattle.wire_model.specs.Xdr.{opaque}
use Rattle.fork_proof.proofs.writing.put_parts.Given as goal

abbrev pub invariant-parts : goal.invariant-parts
invariant-parts l = l.out.written ≡ l.initial.out.written ++ flat_map opaque (map (λ b. b.now) (take l.part-index l.parts))
