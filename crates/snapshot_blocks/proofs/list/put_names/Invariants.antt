use Rattle.std.proofs.Common.{◌≡◌, ◌+◌, ◌*◌, ◌++◌, take}
use Rattle.std.specs.List.{flat_map}
use Rattle.block_parts.specs.Parts.{key_bytes}
use Rattle.snapshot_blocks.proofs.list.put_names.Given as goal

abbrev pub invariant-loop-name : goal.invariant-loop-name
invariant-loop-name l = record {
  written : l.out.written ≡ l.initial.out.written ++ flat_map key_bytes (take l.name-index l.names);
  spare : l.out.spare + 20 * l.name-index ≡ l.initial.out.spare;
}
