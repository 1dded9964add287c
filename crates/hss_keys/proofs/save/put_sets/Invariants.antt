use Rattle.std.proofs.Common.{◌≡◌, ◌+◌, ◌*◌, ◌++◌, take}
use Rattle.std.specs.List.{flat_map}
use Rattle.hash_signature_model.specs.Saved.{set_bytes}
use Rattle.hss_keys.proofs.save.put_sets.Given as goal

abbrev pub invariant-loop-set : goal.invariant-loop-set
invariant-loop-set l = record {
  written : l.out.written ≡ l.initial.out.written ++ flat_map set_bytes (take l.set-index l.sets);
  spare : l.out.spare + 8 * l.set-index ≡ l.initial.out.spare;
}
