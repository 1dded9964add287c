use Rattle.std.proofs.Common.{◌≡◌, ◌+◌, ◌*◌, ◌++◌, take}
use Rattle.std.specs.List.{flat_map}
use Rattle.view_blocks.proofs.form.put_keys.Given as goal

abbrev pub invariant-loop-key : goal.invariant-loop-key
invariant-loop-key l = record {
  written : l.out.written ≡ l.initial.out.written ++ flat_map (λ key. key.0) (take l.key-index l.keys);
  spare : l.out.spare + 60 * l.key-index ≡ l.initial.out.spare;
}
